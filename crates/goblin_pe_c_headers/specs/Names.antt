-- The names that rows have: whole, or cut at the limit of the options.
use Rattle.std.specs.Prelude.{◌≡◌, ℕ, zero, suc, Bool, true, false, if◌then◌else◌, List, length}
use Rattle.std.specs.Prelude.{nat_lt, slice_index, take, Option, Some, None}
use Rattle.goblin_base.specs.Bytes.{begins_character, stretch, text_within}

-- the last place up to n at which a character begins
unfoldable pub cut_end : List ℕ → ℕ → ℕ
cut_end text zero = zero
cut_end text (suc n) =
    if begins_character (slice_index text (suc n)) then suc n else cut_end text n

-- The name that a row has of a text, and whether it is cut: then it is the longest front of whole
-- characters that has no more bytes than the limit.
abbrev pub cut_name : Option ℕ → List ℕ → List ℕ × Bool
cut_name None text = (text, false)
cut_name (Some n) text =
    if nat_lt n (length text) then (take (cut_end text n) text, true) else (text, false)

-- The name of a text that was read up to the limit is that of all its bytes, up to a NUL.
abbrev pub NamesOfWhole : Type 0
NamesOfWhole =
    (longest : Option ℕ) (p : ℕ) (bytes text : List ℕ)
    → text_within longest bytes p ≡ Some text
    → cut_name longest text ≡ cut_name longest (stretch bytes p)
