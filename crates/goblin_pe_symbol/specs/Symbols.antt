-- Symbols of a COFF file: their records and names, and which records of a table are symbols.
use Rattle.std.specs.Prelude.{◌≡◌, ◌≢◌, ◌⊎◌, ◌<◌, ◌≤◌, ℕ, zero, suc, ◌+◌, ◌-◌, ◌*◌, ◌/◌, ◌^◌, ◌==◌}
use Rattle.std.specs.Prelude.{nat_le, if◌then◌else◌, List, [], ◌∷◌, ◌++◌, length, replicate}
use Rattle.std.specs.Prelude.{slice_index, slice_range, Option, Some, None, option_map}
use Rattle.std.specs.{Borrow.Bor, Int.cast_signed, Int.cast_unsigned, Int.w16, List.All}
use Rattle.std.specs.List.{AllPairs, Contains}
use Rattle.goblin_base.specs.declared.endian.Endian.{Endian}
use Rattle.goblin_base.specs.declared.endian.Endian.TheVariants.{Little}
use Rattle.goblin_base.specs.{declared.error.ErrorOf.ErrorOf, Reading.Reading, Record.FieldValue}
use Rattle.goblin_base.specs.Strtab.{rest_at}
use Rattle.goblin_base.specs.declared.error.CauseOf.TheVariants.{Overflow, SymbolName}
use Rattle.goblin_base.specs.declared.error.ErrorOf.TheVariants.{Malformed, Read}
use Rattle.goblin_base.specs.Bytes.{bounded_text_at, number, number_bytes}
use Rattle.goblin_base.specs.Answers.{IsBoundedTextFault, IsSliceFault, ◌>>=◌}
use Rattle.goblin_base.specs.Record.FieldValue.{octets, uint}
use Rattle.goblin_base.proofs.Picks.{by_cases-not_memory}
use Rattle.readings.specs.Reads.{because_by, record_at, slice_at}
pub use Rattle.goblin_pe_symbol.specs.declared.symbol.Symbol.{Symbol}
use Rattle.goblin_pe_symbol.specs.declared.symbol.SymbolIterator.{SymbolIterator}
use Rattle.goblin_pe_symbol.specs.declared.symbol.SymbolTable.{SymbolTable}

-- Source: PE Format, "COFF Symbol Table" and "Symbol Name Representation".

-- the symbol in a record's 18 bytes
abbrev pub symbol_record : Endian → List ℕ → Symbol
symbol_record endian bytes = record {
  name = slice_range bytes 0 8;
  value = number endian 4 bytes 8;
  section_number = cast_signed w16 (number endian 2 bytes 12);
  typ = number endian 2 bytes 14;
  storage_class = number endian 1 bytes 16;
  number_of_aux_symbols = number endian 1 bytes 17;
}

-- the fields of a symbol, in order
abbrev pub symbol_fields : Symbol → List FieldValue
symbol_fields s =
    octets s.name ∷ uint 4 s.value ∷ uint 2 (cast_unsigned w16 s.section_number) ∷ uint 2 s.typ
    ∷ uint 1 s.storage_class ∷ uint 1 s.number_of_aux_symbols ∷ []

-- ---- names

-- the name in a record: the text of its first eight bytes, if the first is not 0
abbrev pub inline_name : List ℕ → Option (List ℕ)
inline_name bytes = if slice_index bytes 0 == 0 then None else bounded_text_at bytes 0 8

-- the name in a record's bytes, and the symbol
abbrev pub name_and_symbol : List ℕ → Option (List ℕ) × Symbol
name_and_symbol bytes = (inline_name bytes, symbol_record Little bytes)

-- the name in the record at an offset, and the symbol
abbrev pub symbol_at : ℕ → Reading (Option (List ℕ) × Symbol)
symbol_at p = record_at 18 name_and_symbol p

-- a name and a symbol as contracts see them: the name as its bytes
abbrev pub named_value : Option (Bor (List ℕ)) × Symbol → Option (List ℕ) × Symbol
named_value x = (option_map (λ s. s.now) x.0, x.1)

-- the number that is stored in place of a name: the last four of the eight bytes, if the first is 0
abbrev pub stored_number : List ℕ → Option ℕ
stored_number name = if slice_index name 0 == 0 then Some (number Little 4 name 4) else None

-- the offset in the string table for a stored number, which also counts the four bytes of the
-- table's length
abbrev pub stored_offset : ℕ → Option ℕ
stored_offset n = if nat_le 4 n then Some (n - 4) else None

-- the offset of the name in the string table
abbrev pub name_offset_of : List ℕ → Option ℕ
name_offset_of name = stored_number name >>= stored_offset

-- eight bytes that store a number in place of a name
abbrev pub offset_name : ℕ → List ℕ
offset_name n = replicate 4 0 ++ number_bytes Little 4 n

-- the name of a symbol: if a number is stored in its place, the text that the string table has at
-- that offset, else the text of the eight bytes
abbrev pub symbol_name : List ℕ → List ℕ → Option (List ℕ)
symbol_name table name =
    if slice_index name 0 == 0
    then (name_offset_of name >>= rest_at table)
    else bounded_text_at name 0 8

-- which cause is true of a symbol without a name: its number is below 4, the string table has
-- nothing at its offset, or its eight bytes are not a text
abbrev pub IsNoSymbolName : List ℕ → List ℕ → ErrorOf → Type 0
IsNoSymbolName table name (Malformed (SymbolName n)) =
    ((stored_number name ≡ Some n) × (n < 4))
    ⊎ ((name_offset_of name ≡ Some n) × (rest_at table n ≡ None))
IsNoSymbolName table name (Read fault) =
    (slice_index name 0 ≢ 0) × IsBoundedTextFault name 0 8 (Read fault)
IsNoSymbolName table name e = ⊥

-- ---- tables

-- the bytes of a table
abbrev pub symbol_bytes : SymbolTable → List ℕ
symbol_bytes table = table.symbols.now

-- which cause is true of bytes without a table of n records at p: they run past the end, or their
-- size overflows 64 bits
abbrev pub IsSymbolsFault : List ℕ → ℕ → ℕ → ErrorOf → Type 0
IsSymbolsFault bytes p n (Malformed Overflow) = 2 ^ 64 ≤ 18 * n
IsSymbolsFault bytes p n (Read fault) =
    (18 * n < 2 ^ 64) × IsSliceFault bytes p (18 * n) (Read fault)
IsSymbolsFault bytes p n e = ⊥

-- the bytes of the table of n records at p
abbrev pub symbol_table : ℕ → ℕ → Reading (List ℕ)
symbol_table p n =
    because_by (λ bytes. IsSymbolsFault bytes p n)
    (λ bytes. by_cases-not_memory (IsSymbolsFault bytes p n) (λ m h. h)) (slice_at p (18 * n))

-- the name of a source file in the n records from record i on: their text
abbrev pub file_name_at : List ℕ → ℕ → ℕ → Option (List ℕ)
file_name_at table i n = bounded_text_at table (18 * i) (18 * n)

-- the bytes of record i of a table
abbrev pub record_of : List ℕ → ℕ → List ℕ
record_of table i = slice_range table (18 * i) (18 * i + 18)

-- how many auxiliary records follow record i
abbrev pub aux : List ℕ → ℕ → ℕ
aux table i = (symbol_record Little (record_of table i)).number_of_aux_symbols

-- The heads of a table of n records, which are its symbols. They are the least set that contains 0,
-- if there is a record, and for each head the record after its auxiliary records, if there is one.
pub data IsHead (table : List ℕ) (n : ℕ) : ℕ → Type 0 where
  first : 0 < n → IsHead table n 0
  next : (h : ℕ) → IsHead table n h → h + 1 + aux table h < n → IsHead table n (h + 1 + aux table h)

-- a symbol with its index and the name in it
abbrev pub SymbolItem : Type 0
SymbolItem = ℕ × Option (List ℕ) × Symbol

-- record i as a symbol
abbrev pub symbol_of : List ℕ → ℕ → SymbolItem
symbol_of table i = (i, inline_name (record_of table i), symbol_record Little (record_of table i))

-- the symbols among the m records from record i on; the first `skipped` of these are auxiliary
-- records of a symbol before them
unfoldable pub symbols_from : ℕ → ℕ → List ℕ → ℕ → List SymbolItem
symbols_from zero skipped table i = []
symbols_from (suc m) zero table i = symbol_of table i ∷ symbols_from m (aux table i) table (i + 1)
symbols_from (suc m) (suc skipped) table i = symbols_from m skipped table (i + 1)

-- the symbols of a table
abbrev pub symbols_in : List ℕ → List SymbolItem
symbols_in table = symbols_from (length table / 18) 0 table 0

-- the symbols that an iterator has left, and an item that it yields, with the name as its bytes
abbrev pub symbols_left : SymbolIterator → List SymbolItem
symbols_left s = symbols_from (length s.symbols.now / 18 - s.index) 0 s.symbols.now s.index

abbrev pub symbol_item : ℕ × Option (Bor (List ℕ)) × Symbol → SymbolItem
symbol_item x = (x.0, option_map (λ s. s.now) x.1, x.2)

-- The items are the heads of the table in order, each with its record.
pub record AreSymbolsOf (table : List ℕ) (items : List SymbolItem) : Type 0 where
  pub each : All (λ item. IsHead table (length table / 18) item.0 × (item ≡ symbol_of table item.0))
      items
  pub all : (h : ℕ) → IsHead table (length table / 18) h → Contains items (symbol_of table h)
  pub order : AllPairs (λ a b. a.0 < b.0) items
