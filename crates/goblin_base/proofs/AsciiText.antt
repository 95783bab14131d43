-- A run of ASCII without a NUL is the text before the first NUL.
use Rattle.std.proofs.Common.{◌≡◌, ℕ, ◌<◌, ◌≤◌, false, List, take, length, IsUtf8, IsAscii, Some, ap, ◌∙◌, arith, inl, inr, ◌==◌, slice_index}
use Rattle.std.specs.List.{position_or_len}
use Rattle.std.proofs.lemmas.Bool.{cases_lt, ne_eqb, eq-eqb, cond-true}
use Rattle.std.proofs.lemmas.List.{get_or-take, length-take, get_or_past}
use Rattle.std.proofs.lemmas.List.Sums.{position_or_len_is}
use Rattle.std.proofs.lemmas.Str.{IsUtf8-from_ascii, is_utf8-from_IsUtf8}
use Rattle.goblin_base.specs.Bytes.{before_nul, text_of}

module _ (bytes : List ℕ) (run : ℕ) (within : run ≤ length bytes) (are_ascii : (k : ℕ) → k < run → (0 < slice_index bytes k) × (slice_index bytes k < 128)) where
  ascii : IsAscii (take run bytes)
  ascii k =
      elim (cases_lt k run) [
        | inl lt ↦ rw (get_or-take run bytes k 0 lt) (are_ascii k lt).1
        | inr past ↦ rw (get_or_past (take run bytes) k 0 (omega (arith, past, within, length-take run bytes))) (omega arith)
      ]

  pub ascii_utf8 : IsUtf8 (take run bytes)
  ascii_utf8 = IsUtf8-from_ascii (take run bytes) ascii

  pub ascii_text : (run < length bytes → slice_index bytes run ≡ 0) → text_of (before_nul bytes) ≡ Some (take run bytes)
  ascii_text ends =
      let nonzero : (k : ℕ) → k < run → (slice_index bytes k == 0) ≡ false = λ k lt. ne_eqb (slice_index bytes k) 0 (λ e. absurd (omega (arith, e, (are_ascii k lt).0))) in
      let place : position_or_len (λ b. b == 0) bytes ≡ run = position_or_len_is (λ b. b == 0) bytes run 0 within nonzero (λ lt. eq-eqb (slice_index bytes run) 0 (ends lt)) in
      let same : before_nul bytes ≡ take run bytes = ap (λ n. take n bytes) place in
      ap text_of same ∙ cond-true _ _ _ (is_utf8-from_IsUtf8 (take run bytes) ascii_utf8)
