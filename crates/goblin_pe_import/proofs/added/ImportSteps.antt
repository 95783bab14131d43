-- The loop that looks for the next import.
use Rattle.std.proofs.Common.{◌≡◌, ◌≤◌, ◌+◌, ℕ, Bool, true, List, [], ◌∷◌, Option, Some, None, refl, sym, subst, ◌∙◌, arith, Err, Ok, Result}
use Rattle.std.specs.Option.{option_len}
use Rattle.goblin_base.specs.{declared.error.ErrorOf.ErrorOf, Tables.Format}
use Rattle.goblin_base.specs.Answers.{FirstFault, ◌>>=◌, all_of}
use Rattle.readings.specs.Walks.{GivesNext}
use Rattle.goblin_pe_import.specs.{Steps.GivesWithin, ImportEntries.EntryValue}
use Rattle.goblin_pe_import.specs.Imports.{NumberedImport}
use Rattle.goblin_pe_import.specs.added.ImportWalks.{Walk, IsLaterCause, IsLaterLeftCause, later_left, IsNamed, IsCursorCause, IsWalkCause, bound_next, no_imports, imports_next, kept_import, walk_at, walk_bound, walk_left, ImportCursor}
use Rattle.goblin_pe_import.specs.KeptEntries.{KeptEntry}
use Rattle.goblin_pe_sect.specs.Addresses.{Addressing, map_of, reads_strictly}
use Rattle.goblin_pe_import.specs.KeptEntries.{IsEntriesCause, KeptValue, entries_from, kept_value}

one_before : {A : Type 0} (x : A) (o : Option (List A)) (IsNow IsNext IsLater : ErrorOf → Type 0)
    (e : ErrorOf) → (IsNext e → IsNow e) → FirstFault o IsNext (λ _. IsLater) e
    → FirstFault (o >>= λ others. Some (x ∷ others)) IsNow (λ _. IsLater) e
one_before x None IsNow IsNext IsLater e chain fault = chain fault
one_before x (Some xs) IsNow IsNext IsLater e chain fault = fault

-- The walk that began a call of `next` at `start` is now at `now`.
pub record AtImports (format : Format EntryValue) (start now : Walk) : Type 0 where
  pub same : walk_left format start ≡ walk_left format now
  pub cause : (e : ErrorOf) → IsWalkCause format now e → IsWalkCause format start e
  pub bound : walk_bound now ≤ walk_bound start
  pub named : IsNamed start → IsNamed now
  pub bytes : now.bytes.now ≡ start.bytes.now
  pub finder : now.finder ≡ start.finder

pub imports-start : (format : Format EntryValue) (start : Walk) → AtImports format start start
imports-start format start = record {
  same = refl;
  cause = λ e fault. fault;
  bound = omega arith;
  named = λ named. named;
  bytes = refl;
  finder = refl;
}

-- a walk that has ended
pub ended-left : (format : Format EntryValue) (t : Walk) → t.at ≡ no_imports
    → walk_left format t ≡ []
unfolding entries_from imports_next
ended-left format t ended = rw ended refl

pub ended-cause : (format : Format EntryValue) (t : Walk) → t.at ≡ no_imports → (e : ErrorOf)
    → IsWalkCause format t e → ⊥
unfolding entries_from
ended-cause format t ended e fault =
    (subst (λ (c : ImportCursor). IsCursorCause (map_of t.finder) format t.bytes.now c e) ended fault).1

module _ (format : Format EntryValue) (start s : Walk) (h : AtImports format start s) where
  abbrev strict : Bool
  strict = reads_strictly (map_of s.finder)

  abbrev places : Addressing
  places = (map_of s.finder).addressing

  abbrev left : Option ℕ → List (Option KeptValue)
  left = entries_from strict format places s.bytes.now s.at.table_offset

  abbrev IsCause : Option ℕ → ErrorOf → Type 0
  IsCause = IsEntriesCause strict format places s.bytes.now

  abbrev IsLater : ErrorOf → Type 0
  IsLater = IsLaterCause strict format places s.bytes.now s.at.tested s.at.pending s.at.next_record

  abbrev Steps : Option (Result KeptEntry ErrorOf) → Option ℕ → Type 0
  Steps = GivesNext kept_value left IsCause s.at.place

  -- an entry is kept
  module _ (kept : KeptEntry) (steps : Steps (Some (Ok kept)) (Some (kept.place + format.width)))
      (place : ℕ) (to : place ≡ kept.place + format.width) where
    abbrev item : NumberedImport
    item = kept_import format.width s.at.library s.dll.now s.at.rva s.at.table_offset (kept_value kept)

    pub next-one : (walk_left format start ≡ Some item ∷ walk_left format (walk_at s place))
        × ((e : ErrorOf) → IsWalkCause format (walk_at s place) e → IsWalkCause format start e)
    next-one = (
      h.same ∙ rw (steps.0, to) refl,
      λ e fault.
          h.cause e (
            fault.0,
            rw (steps.0)
                (one_before (kept_value kept) (all_of (left (Some (kept.place + format.width))))
                (IsCause s.at.place) (IsCause (Some (kept.place + format.width))) IsLater e (steps.1 e)
                (subst
                (λ (p : ℕ). FirstFault (all_of (left (Some p))) (IsCause (Some p)) (λ _. IsLater) e)
                to fault.1)),
          ),
    )

  -- an entry is refused
  pub next-fault : (e : ErrorOf) (place : Option ℕ) → Steps (Some (Err e)) place → strict ≡ true
      → (t : Walk) → (t.at ≡ no_imports)
      → (walk_left format start ≡ None ∷ []) × (walk_left format t ≡ [])
      × IsWalkCause format start e
  next-fault e place steps strictly t ended = (
    h.same ∙ rw (steps.0) refl,
    ended-left format t ended,
    h.cause e (strictly, rw (steps.0) (steps.2)),
  )

  -- no entries are left, though some may be passed over that give nothing
  module _ (place : Option ℕ) (passed : GivesWithin kept_value left IsCause s.at.place None place)
      (at_end : place ≡ None) where
    none : left s.at.place ≡ []
    unfolding entries_from
    none = passed.0 ∙ rw at_end refl

    same_later : walk_left format start ≡ later_left format s
    same_later = h.same ∙ rw none refl

    cause_later : (e : ErrorOf) → IsLaterLeftCause format s e → IsWalkCause format start e
    cause_later e fault = h.cause e (fault.0, rw none (fault.1))

    pub next-none : later_left format s ≡ [] → (t : Walk) → (t.at ≡ no_imports)
        → (walk_left format start ≡ []) × (walk_left format t ≡ [])
    next-none gives t ended = (same_later ∙ gives, ended-left format t ended)

    pub next-refused : (e : ErrorOf) → (later_left format s ≡ None ∷ []) × IsLaterLeftCause format s e
        → (t : Walk) → (t.at ≡ no_imports)
        → (walk_left format start ≡ None ∷ []) × (walk_left format t ≡ [])
        × IsWalkCause format start e
    next-refused e gives t ended =
        (same_later ∙ gives.0, ended-left format t ended, cause_later e gives.1)

    pub next-library : (t : Walk)
        → (walk_left format t ≡ later_left format s)
        × ((e : ErrorOf) → IsWalkCause format t e → IsLaterLeftCause format s e)
        → t.bytes.now ≡ s.bytes.now → t.finder ≡ s.finder
        → walk_bound t ≤ option_len s.at.pending + bound_next s.bytes.now s.at.next_record
        → IsNamed t
        → AtImports format start t
    next-library t gives same map bound named = record {
      same = same_later ∙ sym gives.0;
      cause = λ e fault. cause_later e (gives.1 e fault);
      bound = omega (arith, bound, h.bound);
      named = λ _. named;
      bytes = same ∙ h.bytes;
      finder = map ∙ h.finder;
    }
