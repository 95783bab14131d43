-- Runs of bytes that are ASCII and no NUL.
use Rattle.std.proofs.Common.{◌≡◌, ℕ, ◌+◌, ◌-◌, ◌<◌, List, length, sym, ap, ◌∙◌, arith, inl, inr, slice_index, slice_range, get_or-drop}
use Rattle.std.proofs.lemmas.Bool.{cases_lt}
use Rattle.goblin_base.proofs.Numbers.{rest_is_drop}

-- the byte is ASCII and no NUL
abbrev pub IsNonzeroAscii : ℕ → Type 0
IsNonzeroAscii byte = (0 < byte) × (byte < 128)

-- all bytes before an index are
abbrev pub AreNonzeroAscii : List ℕ → ℕ → Type 0
AreNonzeroAscii bytes n = (k : ℕ) → k < n → IsNonzeroAscii (slice_index bytes k)

-- the index of a byte in the rest, and in the whole
pub byte_after : (bytes : List ℕ) (at run : ℕ) → slice_index (slice_range bytes at (length bytes)) run ≡ slice_index bytes (at + run)
byte_after bytes at run = ap (λ (s : List ℕ). slice_index s run) (rest_is_drop bytes at) ∙ get_or-drop at bytes run 0

-- a run at the front of what is left extends the run before it
pub run_after : (bytes : List ℕ) (at run : ℕ) → AreNonzeroAscii bytes at → AreNonzeroAscii (slice_range bytes at (length bytes)) run → AreNonzeroAscii bytes (at + run)
run_after bytes at run before rest k lt = elim (cases_lt k at) [
  | inl low ↦ before k low
  | inr high ↦
      let place : at + (k - at) ≡ k = omega (arith, high) in
      let same : slice_index (slice_range bytes at (length bytes)) (k - at) ≡ slice_index bytes k = byte_after bytes at (k - at) ∙ ap (slice_index bytes) place in
      rw (sym same) (rest (k - at) (omega (arith, high, lt)))
]
