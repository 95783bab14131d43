-- Directories within the same front of two lists of bytes are the same.
use Rattle.std.proofs.Common.{◌≡◌, ℕ, ◌+◌, ◌*◌, ◌≤◌, List, Option, Some, sym, ap, ◌∙◌, inl, inr, arith}
use Rattle.std.proofs.lemmas.Bool.{cases_lt}
use Rattle.goblin_base.specs.declared.endian.Endian.TheVariants.{Little}
use Rattle.goblin_base.proofs.{Fronts.HaveFront, Fronts.slice-front, Footprints.same_map}
use Rattle.goblin_pe_sect.specs.DataDirectories.{DataDirectory, directory_record, entry_ending}
use Rattle.goblin_pe_sect.specs.DirectoryReadings.{directories_at}
use Rattle.goblin_pe_sect.proofs.DirectoryReadings.{directories_read, value-directories_at}
use Rattle.goblin_pe_sect.proofs.Entries.{directory_entry_at, directory_entry_at-below, directory_entry_at-past, entries_there}

entry-front : (n count p : ℕ) (a b : List ℕ) → HaveFront n a b → p + 8 * count ≤ n → (i : ℕ) → directory_entry_at count a p i ≡ directory_entry_at count b p i
entry-front n count p a b h le i =
    elim (cases_lt i count) [
      | inl lt ↦
          directory_entry_at-below count a p i lt
          ∙ ap (λ (own : List ℕ). entry_ending (p + 8 * i + 8) (directory_record Little own)) (slice-front n (p + 8 * i) 8 a b h (omega (arith, lt, le)))
          ∙ sym (directory_entry_at-below count b p i lt)
      | inr past ↦ directory_entry_at-past count a p i past ∙ sym (directory_entry_at-past count b p i past)
    ]

pub directories-front : (n count p : ℕ) (entries : List (Option (ℕ × DataDirectory))) (a b : List ℕ) → HaveFront n a b → p + 8 * count ≤ n
    → (directories_at count p).value a ≡ Some entries → (directories_at count p).value b ≡ Some entries
directories-front n count p entries a b h le read =
    let are = directories_read count a p entries read in
    let same = same_map (directory_entry_at count a p) (directory_entry_at count b p) 16 0 (λ i low high. entry-front n count p a b h le i) in
    value-directories_at count b p ∙ entries_there count b p are.few (λ _. omega (arith, h.in_b, le)) ∙ ap (λ (es : List (Option (ℕ × DataDirectory))). Some es) (sym same ∙ are.are)
