-- A loop over a walk: what has come of it so far.
use Rattle.std.proofs.Common.{◌≡◌, List, [], ◌∷◌, ◌++◌, map, Option, Some, None, Result, Ok, Err, refl, sym, ap, subst, ◌∙◌, append-nil, append_assoc}
use Rattle.std.proofs.lemmas.List.{map-append, map-id}
use Rattle.goblin_base.specs.{declared.error.ErrorOf.ErrorOf, Answers.all_of, Tables.join}
use Rattle.readings.specs.Walks.{GivesNext}
use Rattle.readings.proofs.WalkValues.{all_of-append, all_of-made}

-- The walk that began at `start` has yielded xs so far, and is now at `now`.
pub record AtWalk {S A : Type 0} (left : S → List (Option A)) (IsCause : S → ErrorOf → Type 0)
    (start now : S) (xs : List A) : Type 0 where
  pub yielded : left start ≡ map (λ x. Some x) xs ++ left now
  pub cause : (e : ErrorOf) → IsCause now e → IsCause start e

module _ {S A : Type 0} (left : S → List (Option A)) (IsCause : S → ErrorOf → Type 0)
    (start : S) where
  pub walk-start : AtWalk left IsCause start start []
  walk-start = record { yielded = refl; cause = λ e fault. fault }

  module _ (now : S) (xs : List A) (h : AtWalk left IsCause start now xs) {X : Type 0}
      (view : X → A) (next : S) where
    -- one item more
    pub walk-more : (x : X) → GivesNext view left IsCause now (Some (Ok x)) next
        → AtWalk left IsCause start next (xs ++ view x ∷ [])
    walk-more x given = record {
      yielded =
          h.yielded ∙ ap (λ (items : List (Option A)). map (λ x. Some x) xs ++ items) given.0
          ∙ sym (append_assoc (map (λ x. Some x) xs) (Some (view x) ∷ []) (left next))
          ∙ ap (λ (items : List (Option A)). items ++ left next)
          (sym (map-append (λ (y : A). Some y) xs (view x ∷ [])));
      cause = λ e fault. h.cause e (given.1 e fault);
    }

    -- the walk has ended
    pub walk-all : GivesNext view left IsCause now None next → all_of (left start) ≡ Some xs
    walk-all given =
        let all =
        h.yielded ∙ ap (λ (items : List (Option A)). map (λ x. Some x) xs ++ items) given.0
        ∙ append-nil (map (λ x. Some x) xs) in
        ap all_of all ∙ all_of-made (λ x. x) xs ∙ ap (λ (ys : List A). Some ys) (map-id xs)

    module _ (r : Result X ErrorOf) (given : GivesNext view left IsCause now (Some r) next) where
      steps : (q : Result X ErrorOf) → r ≡ q → GivesNext view left IsCause now (Some q) next
      steps q is = subst (λ (q : Result X ErrorOf). GivesNext view left IsCause now (Some q) next) is given

      -- it ends with a refusal
      pub walk-fault : (e : ErrorOf) → r ≡ Err e → (all_of (left start) ≡ None) × IsCause start e
      walk-fault e is =
          let all =
          h.yielded
          ∙ ap (λ (items : List (Option A)). map (λ x. Some x) xs ++ items) (steps (Err e) is).0 in (
            ap all_of all ∙ all_of-append (map (λ x. Some x) xs) (None ∷ [])
                ∙ ap (λ (made : Option (List A)). join made None) (all_of-made (λ x. x) xs),
            h.cause e (steps (Err e) is).2,
          )
