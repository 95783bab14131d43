-- A symbol that was read is written as it stood, and one that was written is read again; and what a name says that stores a number.
use Rattle.std.proofs.Common.{◌≡◌, ℕ, ◌<◌, ◌^◌, List, [], ◌∷◌, refl, ap, arith, length, SFits, ◌∙◌, Some, option_map, slice_range}
use Rattle.std.specs.Int.{w16}
use Rattle.std.proofs.lemmas.Int.{of_z-to_z, to_z-of_z}
use Rattle.goblin_base.specs.declared.endian.Endian.{Endian}
use Rattle.goblin_base.specs.declared.endian.Endian.TheVariants.{Little}
use Rattle.goblin_base.specs.Bytes.{IsBytes, number, number_bytes, slice_at}
use Rattle.goblin_base.specs.Record.{WritesBack, encoding, FieldValue, FieldsFit, ReadsBack}
use Rattle.goblin_base.specs.Record.FieldValue.{uint, octets}
use Rattle.goblin_base.proofs.Steps.{mapped}
use Rattle.goblin_base.proofs.RecordRoundTrip.{slots_in, fields_from, number-lt, writes_back, reads_back}
use Rattle.goblin_pe_symbol.specs.Symbols.{Symbol, name_offset_of, offset_name, stored_offset, symbol_fields, symbol_record}

symbol_lies : (endian : Endian) (own : List ℕ) → IsBytes own → symbol_fields (symbol_record endian own) ≡ fields_from endian (slots_in 18 symbol_record symbol_fields) own 0
symbol_lies endian own h =
    let small : number endian 2 own 12 < 2 ^ 16 = omega (arith, number-lt endian 2 own 12 h) in
    rw (of_z-to_z w16 (number endian 2 own 12) small) refl

pub symbol_back : WritesBack 18 symbol_record symbol_fields
symbol_back = writes_back 18 symbol_record symbol_fields refl symbol_lies

-- the bytes of two numbers, if the first is 0
pub offset_name_bytes : (n : ℕ) → encoding Little (uint 4 0 ∷ uint 4 n ∷ []) ≡ offset_name n
unfolding number_bytes
offset_name_bytes n = refl

number_back : (n : ℕ) → n < 2 ^ 32 → number Little 4 (offset_name n) 4 ≡ n
unfolding number number_bytes
number_back n small = omega (arith, small)

pub offset_name_says : (n : ℕ) → n < 2 ^ 32 → name_offset_of (offset_name n) ≡ stored_offset n
offset_name_says n small = ap stored_offset (number_back n small)

pub ruleset offset_names = (offset_name_bytes, offset_name_says)

-- the fields of a symbol in a record's 18 bytes, the section's number without its sign
abbrev symbol_raw : Endian → List ℕ → List FieldValue
symbol_raw endian own =
    octets (slice_range own 0 8) ∷ uint 4 (number endian 4 own 8) ∷ uint 2 (number endian 2 own 12) ∷ uint 2 (number endian 2 own 14) ∷ uint 1 (number endian 1 own 16) ∷ uint 1 (number endian 1 own 17) ∷ []

raw_again : (s : Symbol) → length s.name ≡ 8 → FieldsFit (symbol_fields s) → ReadsBack 18 symbol_raw (λ fields. fields) (symbol_fields s)
raw_again s eight fit = reads_back 18 symbol_raw (λ fields. fields) (symbol_fields s) (rw eight refl) (omega arith) fit (λ endian own. rw eight refl) (λ endian own e. e)

raw_same : (endian : Endian) (own : List ℕ) (s : Symbol) → SFits w16 s.section_number → symbol_raw endian own ≡ symbol_fields s → symbol_record endian own ≡ s
raw_same endian own s small e = grind (arith, e, to_z-of_z w16 s.section_number small)

pub symbol_again : (s : Symbol) → length s.name ≡ 8 → SFits w16 s.section_number → FieldsFit (symbol_fields s) → ReadsBack 18 symbol_record symbol_fields s
unfolding ReadsBack
symbol_again s eight small fit endian =
    let own = mapped (slice_at (encoding endian (symbol_fields s)) 0 18) (symbol_raw endian) (symbol_fields s) (raw_again s eight fit endian) in
    ap (option_map (symbol_record endian)) own.is ∙ ap (λ (x : Symbol). Some x) (raw_same endian own.value s small own.made)

pub ruleset round_trip = (symbol_back, symbol_again)
