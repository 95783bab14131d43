-- Forwarders: texts that name an export of another library.
use Rattle.std.specs.Prelude.{◌≡◌, ◌≢◌, ℕ, ◌+◌, ◌<◌, ◌^◌, ◌==◌, ◌&&◌, nat_lt, if◌then◌else◌, Bool}
use Rattle.std.specs.Prelude.{true, false, List, [], ◌∷◌, ◌++◌, length, slice_index, min, Option}
use Rattle.std.specs.Prelude.{Some, None, option_map}
use Rattle.std.specs.{List.before_first, List.after_first, Str.all_ascii_digits}
use Rattle.std.specs.Str.Parse.{IsNumeral, digits_value, without_leading_plus}
use Rattle.goblin_base.specs.{declared.endian.Endian.Endian, declared.error.ErrorOf.ErrorOf}
use Rattle.goblin_base.specs.declared.error.ErrorOf.TheVariants.{Malformed}
use Rattle.goblin_base.specs.{declared.error.CauseOf.TheVariants.ForwarderOrdinal, Bytes.text_at}
use Rattle.goblin_base.specs.{Answers.◌>>=◌, Reading.Reading}
use Rattle.goblin_base.specs.declared.error.CauseOf.TheVariants.{Forwarder as NoForwarder}
use Rattle.goblin_base.proofs.Picks.{by_cases-not_memory}
use Rattle.readings.specs.Reads as reads
use Rattle.readings.specs.Reads.{checked}
use Rattle.goblin_pe_export.specs.declared.export.forwarder.Reexport.{Reexport}
use Rattle.goblin_pe_export.specs.declared.export.forwarder.Reexport.TheVariants.{DLLName}
use Rattle.goblin_pe_export.specs.declared.export.forwarder.Reexport.TheVariants.{DLLOrdinal}

-- Source: PE Format, "Export Address Table".

-- an export of another library, by its name or by its ordinal; texts as their bytes
pub data Forwarder : Type 0 where
  ByName : (export lib : List ℕ) → Forwarder
  ByOrdinal : (ordinal : ℕ) (lib : List ℕ) → Forwarder

-- no character of the text is a dot (46)
abbrev pub HasNoDot : List ℕ → Type 0
HasNoDot text = (i : ℕ) → i < length text → slice_index text i ≢ 46

-- The grammar: a library without a dot, a dot, and then a name, or '#' (35) and an ordinal. The
-- name has at least one character and does not begin with '#'. The ordinal is an optional '+' and
-- at least one decimal digit, with a value below 2^32.
pub data IsForwarder (text : List ℕ) : Forwarder → Type 0 where
  Named : (export lib : List ℕ) → text ≡ lib ++ 46 ∷ export → HasNoDot lib → 0 < length export
      → slice_index export 0 ≢ 35 → IsForwarder text (ByName export lib)
  Numbered : (digits lib : List ℕ) → text ≡ lib ++ 46 ∷ 35 ∷ digits → HasNoDot lib
      → IsNumeral 10 (without_leading_plus digits)
      → digits_value 10 (without_leading_plus digits) < 2 ^ 32
      → IsForwarder text (ByOrdinal (digits_value 10 (without_leading_plus digits)) lib)

-- ---- the forwarder in a text

abbrev pub is_dot : ℕ → Bool
is_dot c = c == 46

-- the ordinal in a text
unfoldable pub ordinal_of : List ℕ → Option ℕ
ordinal_of text =
    let digits = without_leading_plus text in
    if (nat_lt 0 (length digits) && all_ascii_digits digits)
    && nat_lt (digits_value 10 digits) (2 ^ 32)
    then Some (digits_value 10 digits)
    else None

-- the export that a library and the text after its dot name
unfoldable pub export_of : List ℕ → List ℕ → Option Forwarder
export_of lib [] = None
export_of lib (c ∷ rest) =
    if c == 35
    then option_map (λ n. ByOrdinal n lib) (ordinal_of rest)
    else Some (ByName (c ∷ rest) lib)

-- the forwarder that a text names; without a dot nothing follows the library
unfoldable pub forwarder_of : List ℕ → Option Forwarder
forwarder_of text = export_of (before_first is_dot text) (after_first is_dot text)

-- the forwarder at the front of bytes, and its size in bytes: that of its text, and of the NUL
-- after it if there is one
abbrev pub forwarder_in : Endian → List ℕ → Option (Forwarder × ℕ)
forwarder_in endian bytes = do
  text ← text_at bytes 0
  forwarder ← forwarder_of text
  Some (forwarder, min (length text + 1) (length bytes))

-- a forwarder that was read, with its texts as their bytes
abbrev pub forwarder_value : Reexport → Forwarder
forwarder_value (DLLName export lib) = ByName export.now lib.now
forwarder_value (DLLOrdinal ordinal lib) = ByOrdinal ordinal lib.now

-- which cause is true of a text that is not a forwarder: nothing follows its first dot, or no
-- ordinal follows the '#' there
abbrev pub IsForwarderFault : List ℕ → ErrorOf → Type 0
IsForwarderFault text (Malformed NoForwarder) = after_first is_dot text ≡ []
IsForwarderFault text (Malformed ForwarderOrdinal) =
    (digits : List ℕ) × (after_first is_dot text ≡ 35 ∷ digits) × (ordinal_of digits ≡ None)
IsForwarderFault text e = ⊥

-- the forwarder that the text at an offset names
abbrev pub forwarder_at : ℕ → Reading Forwarder
forwarder_at p =
    checked forwarder_of IsForwarderFault
    (λ text. by_cases-not_memory (IsForwarderFault text) (λ m h. h)) (reads.text_at p)

-- The forwarder that a text names, which may be the front of a longer one. In such a front, the
-- library is what comes before the first dot, if there is one, and what follows is a name, whatever
-- it is.
abbrev pub forwarder_in_text : (is_longer : Bool) → List ℕ → Option Forwarder
forwarder_in_text false text = forwarder_of text
forwarder_in_text true text =
    Some (ByName (after_first is_dot text) (before_first is_dot text))

-- the text has more bytes than the limit
abbrev pub is_longer : Option ℕ → List ℕ → Bool
is_longer None text = false
is_longer (Some n) text = nat_lt n (length text)

-- the forwarder that the text at an offset names; the text is cut at a limit if there is one
abbrev pub forwarder_within : Option ℕ → ℕ → Reading Forwarder
forwarder_within longest p =
    checked (λ text. forwarder_in_text (is_longer longest text) text) IsForwarderFault
    (λ text. by_cases-not_memory (IsForwarderFault text) (λ m h. h)) (reads.text_within longest p)
