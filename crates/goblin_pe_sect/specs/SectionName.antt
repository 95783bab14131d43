-- The eight bytes of a section's name: they are the name itself, or hold its offset in the string
-- table.
use Rattle.std.specs.Prelude.{IsTrue, IsSomeAnd, ◌≢◌, ◌≡◌, ◌≤◌, ℕ, ◌-◌, ◌^◌, ◌++◌, ◌==◌}
use Rattle.std.specs.Prelude.{if◌then◌else◌, Bool, List, ◌∷◌, length, drop, map, slice_index}
use Rattle.std.specs.Prelude.{replicate, Option, Some, None, option_map, nat_lt, nat_le}
use Rattle.goblin_base.specs.declared.error.ErrorOf.{ErrorOf}
use Rattle.goblin_base.specs.{declared.error.ErrorOf.TheVariants.Malformed, Bytes.bounded_text_at}
use Rattle.goblin_base.specs.declared.error.CauseOf.TheVariants.{NameText, NameBase64, NameDecimal}
use Rattle.goblin_base.specs.declared.error.CauseOf.TheVariants.{NameOffset}
use Rattle.goblin_pe_sect.specs.Digits.{digit_byte, last_digits, numeral, Decimal, Base64}

-- Source: PE Format, "Section Table (Section Headers)", for the decimal form; linkers write the
-- base 64 form for greater numbers.

-- the text without a plus at its front
abbrev pub without_plus : List ℕ → List ℕ
without_plus text = if slice_index text 0 == 43 then drop 1 text else text

-- the decimal number of a text: an optional plus, then at least one digit
abbrev pub decimal_number : List ℕ → Option ℕ
decimal_number text =
    if length (without_plus text) == 0 then None else numeral Decimal (without_plus text)

-- what the text after the slashes of a name gives: the number in it; if there is no text, strict
-- mode has no value, and permissive mode takes the name as direct
abbrev pub text_value : Bool → Option (List ℕ) → (List ℕ → Option ℕ) → Option (Option ℕ)
text_value strict (Some text) number_of = option_map (λ n. Some n) (number_of text)
text_value strict None number_of = if strict then None else Some None

-- The offset in the string table that the eight bytes of a name hold. Without a slash at the front
-- they hold none. A decimal number follows one slash, a base 64 number two. If the number is
-- malformed, there is no value.
unfoldable pub name_value : Bool → List ℕ → Option (Option ℕ)
name_value strict name =
    if slice_index name 0 == 47 then
    if slice_index name 1 == 47 then text_value strict (bounded_text_at name 2 6) (numeral Base64)
    else text_value strict (bounded_text_at name 1 7) decimal_number
    else Some None

-- which cause is true if a name is refused
abbrev pub IsNameFault : Bool → List ℕ → ErrorOf → Type 0
IsNameFault strict name (Malformed NameText) =
    IsTrue strict × (slice_index name 0 ≡ 47)
    × ((if slice_index name 1 == 47 then bounded_text_at name 2 6 else bounded_text_at name 1 7)
    ≡ None)
IsNameFault strict name (Malformed NameBase64) =
    (slice_index name 0 ≡ 47) × (slice_index name 1 ≡ 47)
    × IsSomeAnd (bounded_text_at name 2 6) (λ text. numeral Base64 text ≡ None)
IsNameFault strict name (Malformed NameDecimal) =
    (slice_index name 0 ≡ 47) × (slice_index name 1 ≢ 47)
    × IsSomeAnd (bounded_text_at name 1 7) (λ text. decimal_number text ≡ None)
IsNameFault strict name e = ⊥

-- how many decimal digits a number up to 9,999,999 has
abbrev pub decimal_width : ℕ → ℕ
decimal_width n =
    if nat_lt n 10 then 1 else if nat_lt n 100 then 2 else if nat_lt n 1000 then 3
    else if nat_lt n 10000 then 4 else if nat_lt n 100000 then 5 else if nat_lt n 1000000 then 6
    else 7

-- The name that holds n. If n is at most 9,999,999, it is a slash, the decimal digits of n, and
-- NULs. If n is greater but below 64 ^ 6, it is two slashes and six base 64 digits. No name holds a
-- greater number.
unfoldable pub indirect_name : ℕ → Option (List ℕ)
indirect_name n =
    if nat_le n 9999999 then Some
    (47 ∷ map (digit_byte Decimal) (last_digits 10 (decimal_width n) n)
    ++ replicate (7 - decimal_width n) 0)
    else if nat_lt n (64 ^ 6) then Some (47 ∷ 47 ∷ map (digit_byte Base64) (last_digits 64 6 n))
    else None

-- which cause is true if no name holds the number
abbrev pub IsNameOffsetFault : ℕ → ErrorOf → Type 0
IsNameOffsetFault n (Malformed (NameOffset m)) = (m ≡ n) × (64 ^ 6 ≤ n)
IsNameOffsetFault n e = ⊥
