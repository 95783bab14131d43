-- A read in strict mode, and again in permissive mode: once for each way to put readings together.
use Rattle.std.proofs.Common.{ap, ◌∙◌, ◌≡◌, ℕ, Bool, true, false, cond, List, Option, Some, None, refl}
use Rattle.goblin_base.specs.Reading.{Reading, Repeats, RepeatsAs}
use Rattle.goblin_base.specs.{declared.mapped.MappedEnd.MappedEnd, Parts.in_memory}
use Rattle.goblin_base.specs.Tables.{SlotFormat, kept_slots, slot_table}
use Rattle.goblin_base.proofs.Kept.{Keeps, kept_slots-kept, or_left_out-kept, slot_table-kept}
use Rattle.goblin_base.proofs.Steps.{mapped as mapped_value, same_value, step}
use Rattle.readings.specs.Reads as reads
use Rattle.readings.specs.Reads.{◌beside◌, in_its_place, mapped, or_else, or_left_out, pair_of, table, table_with_slots, up_to, with_slots}

-- ---- where something becomes of a value

pub as-mapped : {A B : Type 0} (f : A → B) (g : A → A) (h : B → B) (r s : Reading A)
    → RepeatsAs g r s → ((x : A) → f (g x) ≡ h (f x)) → RepeatsAs h (mapped f r) (mapped f s)
as-mapped f g h r s again same = record {
  kept = λ bytes y is.
      let m = mapped_value (r.value bytes) f y is in
      rw (again.kept bytes m.value m.is) (ap (λ x. Some x) (same m.value ∙ ap h m.made));
}

became_pair : {A B : Type 0} (f : A → A) (g : B → B) (x again : Option A) (y other : Option B)
    → ((v : A) → x ≡ Some v → again ≡ Some (f v))
    → ((w : B) → y ≡ Some w → other ≡ Some (g w)) → (p : A × B) → pair_of x y ≡ Some p
    → pair_of again other ≡ Some (f p.0, g p.1)
became_pair f g None again y other one two p e = absurd cc
became_pair f g (Some v) again None other one two p e = absurd cc
became_pair {A} {B} f g (Some v) again (Some w) other one two p e =
    rw (one v refl, two w refl)
    (ap (λ (q : A × B). Some (f q.0, g q.1)) (same_value (v, w) p e))

pub as-beside : {A B : Type 0} (f : A → A) (g : B → B) (r s : Reading A) (p q : Reading B)
    → RepeatsAs f r s → RepeatsAs g p q
    → RepeatsAs (λ both. (f both.0, g both.1)) (r beside p) (s beside q)
as-beside f g r s p q h k = record {
  kept = λ bytes.
      became_pair f g (r.value bytes) (s.value bytes) (p.value bytes) (q.value bytes)
      (h.kept bytes) (k.kept bytes);
}

pub as-then : {A B : Type 0} (becomes : B → B) (r s : Reading A) (f g : A → Reading B)
    → Repeats r s → ((x : A) → RepeatsAs becomes (f x) (g x))
    → RepeatsAs becomes (reads.◌>>=◌ r f) (reads.◌>>=◌ s g)
as-then becomes r s f g h k = record {
  kept = λ bytes y is.
      let one = step (r.value bytes) (λ x. (f x).value bytes) y is in
      rw (h.kept bytes one.value one.is) ((k one.value).kept bytes y one.then);
}

-- ---- where nothing becomes of it

-- the same read in both modes
pub repeats-same : {A : Type 0} (r : Reading A) → Repeats r r
repeats-same r = record { kept = λ bytes x is. is }

pub repeats-mapped : {A B : Type 0} (f : A → B) (r s : Reading A) → Repeats r s
    → Repeats (mapped f r) (mapped f s)
repeats-mapped f r s h = as-mapped f (λ x. x) (λ x. x) r s h (λ x. refl)

pub repeats-beside : {A B : Type 0} (r s : Reading A) (p q : Reading B) → Repeats r s
    → Repeats p q → Repeats (r beside p) (s beside q)
repeats-beside r s p q h k = as-beside (λ x. x) (λ x. x) r s p q h k

pub repeats-then : {A B : Type 0} (r s : Reading A) (f g : A → Reading B) → Repeats r s
    → ((x : A) → Repeats (f x) (g x)) → Repeats (reads.◌>>=◌ r f) (reads.◌>>=◌ s g)
repeats-then r s f g h k = as-then (λ x. x) r s f g h k

kept_in_place : {A : Type 0} (d : A) (first second : Option A) → Keeps first second
    → Keeps (in_its_place true d first) (in_its_place false d second)
kept_in_place d None second kept x e = absurd cc
kept_in_place d (Some y) second kept x e = rw (kept y refl) e

pub repeats-or_else : {A : Type 0} (d : A) (r s : Reading A) → Repeats r s
    → Repeats (or_else true d r) (or_else false d s)
repeats-or_else d r s h = record {
  kept = λ bytes. kept_in_place d (r.value bytes) (s.value bytes) (h.kept bytes);
}

pub repeats-or_left_out : {A : Type 0} (r s : Reading A) → Repeats r s
    → Repeats (or_left_out true r) (or_left_out false s)
repeats-or_left_out r s h = record {
  kept = λ bytes. or_left_out-kept (r.value bytes) (s.value bytes) (h.kept bytes);
}

pub repeats-up_to : {A : Type 0} (end : Option MappedEnd) (r s : Reading A) → Repeats r s
    → Repeats (up_to end r) (up_to end s)
repeats-up_to end r s h = record { kept = λ bytes x is. h.kept (in_memory end bytes) x is }

pub repeats-pick : {A : Type 0} (test : Bool) (r s p q : Reading A) → Repeats r s
    → Repeats p q → Repeats (cond test r p) (cond test s q)
repeats-pick true r s p q h k = h
repeats-pick false r s p q h k = k

-- a table whose end strict mode needs
module _ {V A : Type 0} (end : Option MappedEnd) (slots : SlotFormat V) (missing other : ℕ → Reading V)
    (piece again : V → Reading (List A)) (o : ℕ) (h : (v : V) → Repeats (piece v) (again v)) where
  pub repeats-table : Repeats (table end slots true missing piece o) (table end slots false other again o)
  repeats-table = record {
    kept = λ bytes.
        slot_table-kept slots (λ v. (piece v).value bytes) (λ v. (again v).value bytes) (in_memory end bytes) o
        (λ v. (h v).kept bytes);
  }

  kept_with_slots : (bytes : List ℕ) (made remade : Option (List A)) (kept rekept : List ℕ)
      → Keeps made remade → ((xs : List A) → made ≡ Some xs → kept ≡ rekept)
      → Keeps (with_slots kept made) (with_slots rekept remade)
  kept_with_slots bytes None remade kept rekept same slots_same p e = absurd cc
  kept_with_slots bytes (Some xs) remade kept rekept same slots_same p e =
      rw (same xs refl, ← slots_same xs refl) e

  pub repeats-table_with_slots : Repeats (table_with_slots end slots true missing piece o)
      (table_with_slots end slots false other again o)
  repeats-table_with_slots = record {
    kept = λ bytes.
        kept_with_slots bytes (slot_table slots true (λ v. (piece v).value bytes) (in_memory end bytes) o)
        (slot_table slots false (λ v. (again v).value bytes) (in_memory end bytes) o)
        (kept_slots slots (λ v. (piece v).value bytes) (in_memory end bytes) o)
        (kept_slots slots (λ v. (again v).value bytes) (in_memory end bytes) o)
        (slot_table-kept slots (λ v. (piece v).value bytes) (λ v. (again v).value bytes) (in_memory end bytes) o
        (λ v. (h v).kept bytes))
        (λ xs is.
        kept_slots-kept slots (λ v. (piece v).value bytes) (λ v. (again v).value bytes) (in_memory end bytes) o xs
        (λ v. (h v).kept bytes) is);
  }
