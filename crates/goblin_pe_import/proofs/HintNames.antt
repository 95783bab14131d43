-- The hint at an offset, by its two bytes.
use Rattle.std.proofs.Common.{◌≡◌, ◌+◌, ◌≤◌, ◌∙◌, ℕ, List, length, Some, None, refl, sym, ap, add-zero, arith, inl, inr, le-leb}
use Rattle.std.proofs.lemmas.Bool.{cases_lt, lt-leb}
use Rattle.goblin_base.specs.Bytes.{number, number_at, slice_at}
use Rattle.goblin_base.specs.declared.endian.Endian.TheVariants.{Little}
use Rattle.goblin_base.proofs.Numbers.{number-of_slice, slice_at-inside, slice_at-some}

pub hint_there : (bytes : List ℕ) (p : ℕ) (hint : List ℕ) → slice_at bytes p 2 ≡ Some hint
    → number_at Little 2 bytes p ≡ Some (number Little 2 hint 0)
hint_there bytes p hint is =
    let own = slice_at-some bytes p 2 hint is in
    let same : number Little 2 hint 0 ≡ number Little 2 bytes p =
    ap (λ (s : List ℕ). number Little 2 s 0) own.value
    ∙ number-of_slice Little 2 bytes p 2 0 (omega arith)
    ∙ ap (number Little 2 bytes) (add-zero p) in
    rw (le-leb (p + 2) (length bytes) own.end) (ap (λ (n : ℕ). Some n) (sym same))

pub hint_missing : (bytes : List ℕ) (p : ℕ) → slice_at bytes p 2 ≡ None
    → number_at Little 2 bytes p ≡ None
hint_missing bytes p none =
    elim (cases_lt (length bytes) (p + 2)) [
      | inl past ↦ rw (lt-leb _ _ past) refl
      | inr le ↦
          let there = slice_at-inside bytes p 2 (omega (arith, le)) le in
          absurd (cc (none, there))
    ]

-- a text follows a hint no farther than a number can say
pub hint_end : (bytes : List ℕ) (p : ℕ) (hint : List ℕ) → slice_at bytes p 2 ≡ Some hint
    → p + 2 ≤ length bytes
hint_end bytes p hint is = (slice_at-some bytes p 2 hint is).end

pub ruleset hints = (hint_there, hint_missing, hint_end)
