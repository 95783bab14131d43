-- The symbols of a table from an index on, one by one.
use Rattle.std.proofs.Common.{◌≡◌, ◌<◌, ◌≤◌, ℕ, suc, ◌+◌, ◌/◌, List, length, take, set, true, arith, ap, refl, Option, Some, take_all}
use Rattle.goblin_pe_symbol.specs.Symbols.{SymbolItem, aux, symbol_of}
use Rattle.goblin_pe_symbol.proofs.SymbolHeads.{symbols_next, symbols_past}
use Rattle.goblin_pe_c_headers.specs.{declared.symbol.PeSymbol.PeSymbol, Onward.rows_given, Onward.unrefused}
use Rattle.goblin_pe_c_headers.specs.Symbols.{GivesSymbols, index_after, named_symbol, named_symbol_table, named_symbol_model, next_index, symbols_onward}
use Rattle.goblin_pe_c_headers.proofs.GivenOnward.{AtIndex, index-end, index-more, index-start}

-- all bytes are fewer than were asked for
pub all_left : (n : ℕ) (xs : List ℕ) → length xs < n → take n xs ≡ xs
all_left n xs less = take_all n xs (omega (arith, less))

-- the symbols from a record on
abbrev symbols : List ℕ → ℕ → List (Option SymbolItem)
symbols table i = unrefused (symbols_onward table i)

-- the records hold the symbols up to a position
abbrev pub IsGiving : Option ℕ → List ℕ → List ℕ → ℕ → List PeSymbol → ℕ → List PeSymbol → ℕ → Type 0
IsGiving longest table strings from old = AtIndex (named_symbol_table longest table strings) (symbols table) (λ n. index_after table n from) from old

pub giving_start : (longest : Option ℕ) (table strings : List ℕ) (from : ℕ) (old : List PeSymbol) → IsGiving longest table strings from old from old 0
unfolding index_after
giving_start longest table strings from old = index-start (named_symbol_table longest table strings) (symbols table) (λ n. index_after table n from) from old refl refl

module _ (longest : Option ℕ) (table strings : List ℕ) {from : ℕ} {old : List PeSymbol} {position : ℕ} {records : List PeSymbol} {count : ℕ}
    (h : IsGiving longest table strings from old position records count) where
  pub giving_next : (n : ℕ) (r : PeSymbol) → count < length records → position < length table / 18 → n ≡ aux table position
      → named_symbol_model r ≡ named_symbol longest table strings (symbol_of table position) → IsGiving longest table strings from old (position + (1 + n)) (set records count r) (count + 1)
  unfolding index_after
  giving_next n r room inside size is =
      let next : position + (1 + n) ≡ next_index table position = omega (arith, size) in
      let step = symbols_next (length table / 18) table position inside in
      let one : count + 1 ≡ suc count = omega arith in
      rw next (index-more h (symbol_of table position) (next_index table position) r (ap unrefused step) refl (rw one (ap (next_index table) h.moved)) room is)

  -- where no more symbols come
  pub giving_all : length table / 18 ≤ position → count < length records
      → GivesSymbols longest table strings (record { position = from; records = old }) (record { position = position; records = records }) (rows_given count true)
  giving_all past within =
      let none = symbols_past (length table / 18) table position past in
      index-end h (ap unrefused none) (ap (λ (xs : List SymbolItem). Some (unrefused xs)) none) within
