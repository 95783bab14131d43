-- The pieces of a line: numbers and names as text.
use Rattle.std.specs.Prelude.{ℕ, List, [], ◌∷◌, ◌++◌, Bool, false, ◌==◌, nat_le, not, ◌&&◌, codes}
use Rattle.std.specs.Prelude.{if◌then◌else◌, ◌/◌, ◌%◌, flat_map}
use Rattle.std.specs.Fmt.{decimal, digits, digit_glyph}

-- a label, and a number in hexadecimal: `0x` and lower-case digits without leading zeros
unfoldable pub hex_field : List ℕ → ℕ → List ℕ
hex_field label n = label ++ codes "0x" ++ digits 16 false n

-- a label, and a number in decimal
unfoldable pub decimal_field : List ℕ → ℕ → List ℕ
decimal_field label n = label ++ decimal n

-- printable characters other than the backslash are printed as they are
abbrev pub is_unescaped : ℕ → Bool
is_unescaped b = nat_le 0x20 b && nat_le b 0x7e && not (b == 0x5c)

-- another byte is `\x` and two lower-case hexadecimal digits
unfoldable pub escaped_byte : ℕ → List ℕ
escaped_byte b =
    if is_unescaped b
    then b ∷ []
    else codes "\\x" ++ digit_glyph false (b / 16) ∷ digit_glyph false (b % 16) ∷ []

-- a name, as it is printed
abbrev pub escaped : List ℕ → List ℕ
escaped name = flat_map escaped_byte name

-- a label, and a name
unfoldable pub name_field : List ℕ → List ℕ → List ℕ
name_field label name = label ++ escaped name
