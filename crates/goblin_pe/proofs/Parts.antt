-- What becomes of a table that was asked for, as a part of a file.
use Rattle.std.proofs.Common.{◌≡◌, ℕ, List, Bool, true, false, Option, Some, None, option_map, refl, ap, subst, ◌∙◌, inl, inr}
use Rattle.std.specs.Prelude.{◌⊎◌, Result, Ok, Err}
use Rattle.goblin_base.specs.declared.error.ErrorOf.{ErrorOf}
use Rattle.goblin_base.specs.declared.error.ErrorOf.TheVariants.{BadMagic, BufferTooShort, Malformed, Memory, Read}
use Rattle.goblin_base.specs.Answers.{Answers, AnswersOrMemory, IsMemory}
use Rattle.goblin_base.specs.Reading.{Reading, Reads, ReadsOrMemory}
use Rattle.readings.specs.Reads.{given, mapped, pick, turned}
use Rattle.goblin_pe_sect.specs.declared.data_directories.DataDirectory.{DataDirectory}
use Rattle.goblin_pe.specs.Whole.{Part, Absent, Refused, BecomesPart, part_at, part_map, part_of}
use Rattle.goblin_pe.specs.declared.whole.Part.TheVariants as part

abbrev IsNoMemory : {X : Type 0} → Result X ErrorOf → Type 0
IsNoMemory (Ok x) = Unit {0}
IsNoMemory (Err e) = ¬ IsMemory e

-- a call that takes no memory
no_memory : {X Y : Type 0} (view : X → Y) (r : Reading Y) (bytes : List ℕ)
    (asked : Result X ErrorOf) → Reads view asked r bytes → IsNoMemory asked
no_memory view r bytes (Ok x) h = tt
no_memory view r bytes (Err e) h = r.not_memory bytes e h.1

-- what becomes of a refusal: both modes pass on that of memory, and permissive mode no other
becomes_refused : {A : Type 0} (strict : Bool) (e : ErrorOf) (made : Result (Part A) ErrorOf)
    → BecomesPart strict (Err e) made
    → ((made ≡ Err e) × (¬ IsMemory e → strict ≡ true))
    ⊎ ((made ≡ Ok Refused) × (strict ≡ false) × ¬ IsMemory e)
becomes_refused strict (Memory m) made is = inl (is, λ other. absurd (other tt))
becomes_refused true (Malformed c) made is = inl (is, λ other. refl)
becomes_refused false (Malformed c) made is = inr (is, refl, λ m. m)
becomes_refused true (BadMagic n) made is = inl (is, λ other. refl)
becomes_refused false (BadMagic n) made is = inr (is, refl, λ m. m)
becomes_refused true (BufferTooShort n w) made is = inl (is, λ other. refl)
becomes_refused false (BufferTooShort n w) made is = inr (is, refl, λ m. m)
becomes_refused true (Read f) made is = inl (is, λ other. refl)
becomes_refused false (Read f) made is = inr (is, refl, λ m. m)

module _ {X Y : Type 0} (view : X → Y) (value : Option Y) (IsCause : ErrorOf → Type 0)
    (made : Result (Part X) ErrorOf) where
  becomes_answer : (strict : Bool) (asked : Result X ErrorOf) → IsNoMemory asked
      → Answers view asked value IsCause → BecomesPart strict asked made
      → Answers (part_map view) made (part_of strict value) IsCause
  becomes_answer strict (Ok x) other h is = rw (is, h) refl
  becomes_answer strict (Err e) other h is = elim (becomes_refused strict e made is) [
    | inl r ↦ rw (r.0, r.1 other, h.0) (refl, h.1)
    | inr r ↦ rw (r.0, r.1, h.0) refl
  ]

  -- the part of a table that is made from what was read
  pub becomes_answered : (strict : Bool) (asked : Result X ErrorOf)
      → AnswersOrMemory view asked value IsCause → BecomesPart strict asked made
      → AnswersOrMemory (part_map view) made (part_of strict value) IsCause
  becomes_answered strict (Ok x) h is = rw (is, h) refl
  becomes_answered strict (Err e) h is = elim (becomes_refused strict e made is) [
    | inl r ↦ rw (r.0) (λ other. rw (r.1 other, (h other).0) (refl, (h other).1))
    | inr r ↦ rw (r.0, r.1, (h r.2).0) refl
  ]

module _ {X Y : Type 0} (view : X → Y) (r : Reading Y) (bytes : List ℕ) (strict : Bool)
    (asked : Result X ErrorOf) (made : Result (Part X) ErrorOf) where
  -- the part of a table whose reader takes no memory
  pub becomes_read : Reads view asked r bytes → BecomesPart strict asked made
      → Reads (part_map view) made (turned (part_of strict) r) bytes
  becomes_read h is =
      becomes_answer view (r.value bytes) (r.IsCause bytes) made strict asked
      (no_memory view r bytes asked h) h is

  -- the part of a table
  pub becomes_part : ReadsOrMemory view asked r bytes → BecomesPart strict asked made
      → ReadsOrMemory (part_map view) made (turned (part_of strict) r) bytes
  becomes_part h is =
      becomes_answered view (r.value bytes) (r.IsCause bytes) made strict asked h is

pub part_of-mapped : {A B : Type 0} (f : A → B) (strict : Bool) (o : Option A)
    → part_of strict (option_map f o) ≡ option_map (part_map f) (part_of strict o)
part_of-mapped f strict (Some x) = refl
part_of-mapped f true None = refl
part_of-mapped f false None = refl

-- the part of what is made of a table
pub becomes_mapped : {X Y Z : Type 0} (view : X → Z) (f : Y → Z) (r : Reading Y) (bytes : List ℕ)
    (strict : Bool) (asked : Result X ErrorOf) (made : Result (Part X) ErrorOf)
    → ReadsOrMemory view asked (mapped f r) bytes → BecomesPart strict asked made
    → ReadsOrMemory (part_map view) made (mapped (part_map f) (turned (part_of strict) r)) bytes
becomes_mapped {X} {Y} {Z} view f r bytes strict asked made h is =
    subst (λ (o : Option (Part Z)). AnswersOrMemory (part_map view) made o (r.IsCause bytes))
    (part_of-mapped f strict (r.value bytes))
    (becomes_part view (mapped f r) bytes strict asked made h is)

pub part_map-same : {X : Type 0} (p : Part X) → part_map (λ x. x) p ≡ p
part_map-same Absent = refl
part_map-same (part.Read x) = refl
part_map-same Refused = refl

same_part : {X : Type 0} (made : Result (Part X) ErrorOf) (r : Reading (Part X)) (bytes : List ℕ)
    → ReadsOrMemory (part_map (λ x. x)) made r bytes → ReadsOrMemory (λ x. x) made r bytes
same_part {X} (Ok p) r bytes h = h ∙ ap (λ (q : Part X). Some q) (part_map-same p)
same_part (Err e) r bytes h = h

-- the part of a table that is seen as it is
pub becomes_same : {X : Type 0} (r : Reading X) (bytes : List ℕ) (strict : Bool)
    (asked : Result X ErrorOf) (made : Result (Part X) ErrorOf)
    → ReadsOrMemory (λ x. x) asked r bytes → BecomesPart strict asked made
    → ReadsOrMemory (λ x. x) made (turned (part_of strict) r) bytes
becomes_same r bytes strict asked made h is =
    same_part made (turned (part_of strict) r) bytes
    (becomes_part (λ x. x) r bytes strict asked made h is)

-- ---- where a table was read

-- A table was read: it is asked for, and a directory leads to it.
pub record IsReadFrom {A : Type 0} (asked : Bool) (reader : DataDirectory → Reading A)
    (directory : Option DataDirectory) (bytes : List ℕ) (table : A) : Type 0 where
  pub at : DataDirectory
  pub is : directory ≡ Some at
  pub read : (reader at).value bytes ≡ Some table

part-read : {A : Type 0} (strict : Bool) (o : Option A) (table : A)
    → part_of strict o ≡ Some (part.Read table) → o ≡ Some table
part-read strict (Some x) table is = cc
part-read true None table is = absurd cc
part-read false None table is = absurd cc

pub read_from : {A : Type 0} (asked strict : Bool) (reader : DataDirectory → Reading A)
    (directory : Option DataDirectory) (bytes : List ℕ) (table : A)
    → (pick asked (part_at strict reader directory) (given Absent)).value bytes
    ≡ Some (part.Read table)
    → IsReadFrom asked reader directory bytes table
read_from false strict reader directory bytes table is = absurd cc
read_from true strict reader None bytes table is = absurd cc
read_from true strict reader (Some d) bytes table is = record {
  at = d;
  is = refl;
  read = part-read strict ((reader d).value bytes) table is;
}

-- ---- what holds of a table
