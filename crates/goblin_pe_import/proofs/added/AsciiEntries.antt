-- Entries of a lookup table whose name is ASCII.
use Rattle.std.proofs.Common.{◌≡◌, ◌+◌, ◌++◌, ◌≤◌, ◌∙◌, ℕ, Bool, true, false, List, Option, Some, length, refl, sym, ap, add-zero, arith, replicate, slice_range}
use Rattle.goblin_base.specs.Bytes.{number, number_at, text_within}
use Rattle.goblin_base.specs.declared.endian.Endian.TheVariants.{Little}
use Rattle.goblin_base.proofs.{AsciiCuts.limited_in_rest, InMemory.array_stored, InMemory.text_within_stored}
use Rattle.goblin_base.proofs.Numbers.{number-of_slice, number_in_rest}
use Rattle.goblin_pe_import.specs.LookupReadings.{hint_name}
use Rattle.goblin_pe_import.proofs.HintNames.{hint_there}

module _ (xs : List ℕ) (n p hint : ℕ) (name : List ℕ) (longest : Option ℕ) where
  -- a hint and a name that are read in what follows their place are those at the place, in both
  -- modes
  pub ascii_hint : (strict : Bool) → p + 2 ≤ length xs
      → hint ≡ number Little 2 (slice_range xs p (length xs)) 0
      → text_within longest (slice_range xs p (length xs)) 2 ≡ Some name
      → (hint_name strict longest p).value (xs ++ replicate n 0)
      ≡ Some (record { hint = hint; name = name })
  unfolding hint_name
  ascii_hint strict room is text =
      let bytes = xs ++ replicate n 0 in
      let two = array_stored xs n p 2 (omega (arith, room)) (omega (arith, room)) in
      let own : number Little 2 (slice_range xs p (p + 2)) 0 ≡ hint =
      number-of_slice Little 2 xs p 2 0 (omega arith) ∙ ap (number Little 2 xs) (add-zero p)
      ∙ sym (is ∙ number_in_rest Little 2 xs p) in
      let there : number_at Little 2 bytes p ≡ Some hint =
      hint_there bytes p (slice_range xs p (p + 2)) two ∙ ap (λ (k : ℕ). Some k) own in
      let named : text_within longest bytes (p + 2) ≡ Some name =
      text_within_stored longest xs n (p + 2) name
      (sym (limited_in_rest longest xs p 2 (omega (arith, room))) ∙ text) in
      by strict there named
    where
      by : (strict : Bool) → number_at Little 2 (xs ++ replicate n 0) p ≡ Some hint
          → text_within longest (xs ++ replicate n 0) (p + 2) ≡ Some name
          → (hint_name strict longest p).value (xs ++ replicate n 0)
          ≡ Some (record { hint = hint; name = name })
      by true there named = rw (there, named) refl
      by false there named = rw (there, named) refl
