-- Numbers in decimal and in base 64, as in the names of sections.
use Rattle.std.specs.Prelude.{if◌then◌else◌, slice_index, length, Option, nat_lt, codes, zero, ◌++◌}
use Rattle.std.specs.Prelude.{◌==◌, List, Some, None, suc, ◌+◌, ◌*◌, ◌/◌, ◌%◌, ◌^◌, ◌∷◌, map, [], ℕ}
use Rattle.std.specs.List.{list_all, position_or_len}
pub use Rattle.goblin_pe_sect.specs.declared.digits.Digits.{Digits}
pub use Rattle.goblin_pe_sect.specs.declared.digits.Digits.TheVariants.{Decimal, Base64}

-- the digits, in the order of their values
unfoldable pub alphabet : Digits → List ℕ
alphabet Decimal = codes "0123456789"
alphabet Base64 = codes "ABCDEFGHIJKLMNOPQRSTUVWXYZabcdefghijklmnopqrstuvwxyz0123456789+/"

-- the base: how many digits there are
abbrev pub radix : Digits → ℕ
radix digits = length (alphabet digits)

-- the value of a digit: its place in the alphabet; for any other byte the radix
abbrev pub digit : Digits → ℕ → ℕ
digit digits b = position_or_len (λ d. d == b) (alphabet digits)

-- the number of these digits, the most significant first: the sum of each digit times r to the
-- power of its place
unfoldable pub digits_sum : ℕ → List ℕ → ℕ
digits_sum r [] = 0
digits_sum r (d ∷ ds) = d * r ^ length ds + digits_sum r ds

-- the number of a text, if each byte is a digit
abbrev pub numeral : Digits → List ℕ → Option ℕ
numeral digits text =
    if list_all (λ b. nat_lt (digit digits b) (radix digits)) text
    then Some (digits_sum (radix digits) (map (digit digits) text))
    else None

-- the byte of a digit
abbrev pub digit_byte : Digits → ℕ → ℕ
digit_byte digits d = slice_index (alphabet digits) d

-- the last k digits of a number, the most significant first
unfoldable pub last_digits : ℕ → ℕ → ℕ → List ℕ
last_digits r zero n = []
last_digits r (suc k) n = last_digits r k (n / r) ++ n % r ∷ []
