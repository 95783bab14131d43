-- The symbols of a table from one of its records on, and what a call gives of them.
use Rattle.std.specs.Prelude.{◌≡◌, ℕ, zero, suc, ◌+◌, ◌-◌, ◌*◌, ◌/◌, ◌==◌, if◌then◌else◌, List, []}
use Rattle.std.specs.Prelude.{◌∷◌, Bool, is_some, length, nat_lt, take, drop, slice_index, true}
use Rattle.std.specs.Prelude.{Option, Some, None}
use Rattle.std.specs.{Option.unwrap_or, Str.is_utf8}
use Rattle.goblin_base.specs.{declared.endian.Endian.TheVariants.Little, Answers.◌>>=◌}
use Rattle.goblin_base.specs.{Bytes.text_within, Reading.Reading}
use Rattle.goblin_base.specs.declared.error.CauseOf.TheVariants.{CoffLength, StringTable}
use Rattle.goblin_base.specs.Strtab.{is_in_piece, rest_at}
use Rattle.readings.specs.Reads as reads
use Rattle.readings.specs.Reads.{because, bytes_between, given, mapped, needs, number_at}
use Rattle.readings.specs.Reads.{◌beside◌, pick, slice_at}
use Rattle.goblin_pe_symbol.specs.declared.symbol.Symbol.{Symbol}
use Rattle.goblin_pe_symbol.specs.Symbols.{SymbolItem, aux, name_offset_of, stored_offset}
use Rattle.goblin_pe_symbol.specs.Symbols.{symbols_from}
use Rattle.goblin_pe_head.specs.declared.header.coff.CoffHeader.{CoffHeader}
use Rattle.goblin_pe_head.specs.CoffHeader.{string_table_offset, symbols_end}
use Rattle.goblin_pe_head.specs.CoffReadings.{strings_of, symbols_of}
use Rattle.goblin_pe_c_headers.specs.{declared.symbol.PeSymbol.PeSymbol, Images.PeImage}
use Rattle.goblin_pe_c_headers.specs.{Names.cut_name, Options.longest_of}
use Rattle.goblin_pe_c_headers.specs.Onward.{Batch, FillsRows, Table, unrefused, PeBatch}

-- The name at an offset of the bytes of a string table: what is left of the piece there, where that
-- is UTF-8, whatever the other bytes are, whole or, where there is a limit, cut there. At the end
-- it is an empty one, if a piece ends there.
abbrev pub name_in_piece : Option ℕ → List ℕ → ℕ → Option (List ℕ)
name_in_piece longest strings o =
    if o == length strings
    then (if is_in_piece strings o then Some [] else None)
    else text_within longest strings o

-- Of bytes that are UTF-8 as a whole, these are the texts of the string table that they are.
abbrev pub NamesOfText : Type 0
NamesOfText =
    (strings : List ℕ) (o : ℕ) → is_utf8 strings ≡ true
    → name_in_piece None strings o ≡ rest_at strings o

-- the name: if a number is stored in its place, what a string table has at that offset, else the
-- one in the record
abbrev pub name_in : (ℕ → Option (List ℕ)) → Option (List ℕ) → Symbol → Option (List ℕ)
name_in names inline_name symbol =
    if slice_index symbol.name 0 == 0
    then (name_offset_of symbol.name >>= names)
    else inline_name

-- a symbol with its index, its name and whether that is cut, and the bytes of its auxiliary records
pub record NamedSymbol : Type 0 where
  pub index : ℕ
  pub name : List ℕ × Bool
  pub has_name : Bool
  pub auxiliary : List ℕ
  pub symbol : Symbol
  pub reserved : List ℕ

-- the bytes of the auxiliary records of the symbol at index i: as many as it says and the table has
abbrev pub auxiliary_of : List ℕ → ℕ → Symbol → List ℕ
auxiliary_of table i symbol = take (18 * symbol.number_of_aux_symbols) (drop (18 * (i + 1)) table)

-- a symbol of a table with its name from the record or a string table, cut at the limit, and its
-- auxiliary records; a missing name is empty
abbrev pub named_symbol : Option ℕ → List ℕ → List ℕ → SymbolItem → NamedSymbol
named_symbol longest table strings item =
    let name = name_in (name_in_piece longest strings) item.1 item.2 in
    record {
      index = item.0;
      name = cut_name longest (unwrap_or name []);
      has_name = is_some name;
      auxiliary = auxiliary_of table item.0 item.2;
      symbol = item.2;
      reserved = 0 ∷ 0 ∷ [];
    }

-- what a record holds of it
abbrev pub named_symbol_model : PeSymbol → NamedSymbol
named_symbol_model s = record {
  index = s.index;
  name = (s.name.now, s.is_name_cut);
  has_name = s.has_name;
  auxiliary = s.auxiliary.now;
  symbol = s.record;
  reserved = s.reserved;
}

-- the symbols of a table from record i on, which is read as a symbol whatever it is
abbrev pub symbols_onward : List ℕ → ℕ → List SymbolItem
symbols_onward table i = symbols_from (length table / 18 - i) 0 table i

-- the index after a symbol and its auxiliary records
abbrev pub next_index : List ℕ → ℕ → ℕ
next_index table i = i + 1 + aux table i

-- the index after n symbols, if the first is at index i
unfoldable pub index_after : List ℕ → ℕ → ℕ → ℕ
index_after table zero i = i
index_after table (suc n) i = next_index table (index_after table n i)

-- the symbols of a table with their names, from any record on
abbrev pub named_symbol_table : Option ℕ → List ℕ → List ℕ
    → Table ℕ PeSymbol SymbolItem NamedSymbol
named_symbol_table longest table strings = record {
  view = named_symbol_model;
  value_of = named_symbol longest table strings;
  from = λ i. Some (unrefused (symbols_onward table i));
}

-- The records hold the symbols from the position on, as far as there is room. The position is then
-- that of the symbols that come next.
abbrev pub GivesSymbols : Option ℕ → List ℕ → List ℕ → Batch ℕ PeSymbol → Batch ℕ PeSymbol
    → PeBatch → Type 0
GivesSymbols longest table strings old new batch =
    FillsRows (named_symbol_table longest table strings)
    (new.position ≡ index_after table batch.count old.position) old new batch

-- ---- where the tables lie

-- the symbol table and the string table that a header leads to
abbrev pub symbol_tables : CoffHeader → Reading (Option (List ℕ) × Option (List ℕ))
symbol_tables header =
    reads.◌>>=◌ (symbols_of header)
    (λ symbols. mapped (λ strings. (symbols, strings)) (strings_of header))

-- the n bytes at p; n may be 0
abbrev pub strings_from_c : ℕ → ℕ → Reading (List ℕ)
strings_from_c p n = because (StringTable p n) (bytes_between p (p + n))

-- how many bytes the texts of the string table that a header leads to have, by its length, which
-- includes the four bytes that say it; none where there is no such table
abbrev pub texts_at : ℕ → Reading (Option ℕ)
texts_at p =
    reads.◌>>=◌ (number_at Little 4 p)
    (λ n. pick (nat_lt n 4) (needs None CoffLength) (given (Some (n - 4))))

-- what is read by a number, or this value where there is none
abbrev pub read_by : {A : Type 0} → A → (ℕ → Reading A) → Option ℕ → Reading A
read_by none reading None = given none
read_by none reading (Some n) = reading n

unfoldable pub texts_of : CoffHeader → Reading (Option ℕ)
texts_of header = read_by None texts_at (string_table_offset header)

-- the bytes of the symbol table that a header leads to, and of the texts of the string table,
-- whatever these are; no bytes if there are none
unfoldable pub found_tables : CoffHeader → Reading (List ℕ × List ℕ)
found_tables header =
    reads.◌>>=◌ (texts_of header) (read_by ([], []) (λ n.
    slice_at header.pointer_to_symbol_table (18 * header.number_of_symbol_table)
    beside strings_from_c (symbols_end header + 4) n))

-- Where the tables are read whose texts are tested, those are found that they are.
abbrev pub FindsTables : Type 0
FindsTables =
    (header : CoffHeader) (bytes : List ℕ) (tables : Option (List ℕ) × Option (List ℕ))
    → (symbol_tables header).value bytes ≡ Some tables
    → (found_tables header).value bytes ≡ Some (unwrap_or tables.0 [], unwrap_or tables.1 [])

-- the texts of the string table that a header leads to, if there is one
unfoldable pub string_bytes : CoffHeader → Reading (Option (List ℕ))
string_bytes header =
    reads.◌>>=◌ (texts_of header)
    (read_by None (λ n. mapped (λ s. Some s) (strings_from_c (symbols_end header + 4) n)))

-- the text at an offset of the string table of an image, whose first four bytes are its length:
-- what is left of the piece there, where that is UTF-8, by the limit
abbrev pub string_at : PeImage → ℕ → Option (List ℕ)
string_at image o =
    (string_bytes image.coff_header).value image.bytes.now
    >>= λ found. found >>= λ strings. stored_offset o
    >>= name_in_piece (longest_of image.options) strings
