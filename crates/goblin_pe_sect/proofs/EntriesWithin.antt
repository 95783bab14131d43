-- Directories that are read end within the file.
use Rattle.std.proofs.Common.{◌≡◌, ◌+◌, ◌-◌, ◌*◌, ◌<◌, ◌≤◌, ℕ, Bool, true, false, cond, nat_le, List, length, Option, Some, None, ap, refl, inl, inr, arith, IfSome, option_map}
use Rattle.std.proofs.lemmas.Bool.{cases_lt}
use Rattle.goblin_base.specs.{declared.endian.Endian.TheVariants.Little, Answers.all_at}
use Rattle.goblin_base.specs.Record.{record_at}
use Rattle.goblin_base.proofs.{Numbers.slice_at-past, Steps.all_at-each}
use Rattle.goblin_pe_sect.specs.DataDirectories.{DataDirectory, directory_record}
use Rattle.goblin_pe_sect.specs.DirectoryReadings.{directories_at, sixteen}

directory_past : (bytes : List ℕ) (p : ℕ) → length bytes < p + 8
    → record_at 8 (directory_record Little) bytes p ≡ None
directory_past bytes p past = ap (option_map (directory_record Little)) (slice_at-past bytes p 8 past)

all-within : (count : ℕ) (bytes : List ℕ) (p : ℕ) (all : List DataDirectory) → p ≤ length bytes
    → all_at (λ i. record_at 8 (directory_record Little) bytes (p + 8 * i)) count ≡ Some all
    → p + 8 * count ≤ length bytes
all-within count bytes p all low is =
    let directory : ℕ → Option DataDirectory =
    λ (i : ℕ). record_at 8 (directory_record Little) bytes (p + 8 * i) in
    elim (cases_lt 0 count) [
      | inl some ↦
          let last = p + 8 * (count - 1) in
          elim (cases_lt (length bytes) (last + 8)) [
            | inl past ↦
                absurd (all_at-each directory count all is (count - 1) (omega (arith, some))
                (directory_past bytes last past))
            | inr within ↦ omega (arith, some, within)
          ]
      | inr none ↦ omega (arith, none, low)
    ]

made-within : {A B : Type 0} (few : Bool) (made : Option A) (f : A → B) (P : Type 0)
    → ((x : A) → made ≡ Some x → P)
    → IfSome {T = B} (cond few (option_map f made) None) (λ _. P)
made-within true None f P holds = tt
made-within true (Some x) f P holds = holds x refl
made-within false made f P holds = tt

pub directories-within : (count : ℕ) (bytes : List ℕ) (p : ℕ) → p ≤ length bytes
    → IfSome ((directories_at count p).value bytes) (λ _. p + 8 * count ≤ length bytes)
unfolding directories_at
directories-within count bytes p low =
    made-within (nat_le count 16)
    (all_at (λ i. record_at 8 (directory_record Little) bytes (p + 8 * i)) count) (sixteen p)
    (p + 8 * count ≤ length bytes) (λ all is. all-within count bytes p all low is)
