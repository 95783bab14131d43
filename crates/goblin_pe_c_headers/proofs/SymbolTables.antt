-- Where a symbol table and its string table lie.
use Rattle.std.proofs.Common.{◌≡◌, ℕ, ◌+◌, ◌-◌, ◌*◌, Bool, true, false, cond, List, [], length, refl, ap, sym, subst, ◌∙◌, arith, inl, inr, ◌==◌, drop, Option, Some, None, nat_le, nat_lt, slice_range, le-leb, leb-true, length-drop, length-take}
use Rattle.std.proofs.{lemmas.Option.cond_some, lemmas.Bool.cases_Bool}
use Rattle.std.specs.Option.{unwrap_or}
use Rattle.goblin_base.specs.{declared.endian.Endian.TheVariants.Little, Parts.bytes_between}
use Rattle.goblin_base.specs.Strtab.{string_table}
use Rattle.goblin_base.specs.Bytes.{number_at, slice_at, text_of}
use Rattle.goblin_base.proofs.Steps.{mapped, same_value, step}
use Rattle.goblin_base.proofs.{TextEnds.cond_some_by, Kept.without_test}
use Rattle.goblin_pe_head.specs.declared.header.coff.CoffHeader.{CoffHeader}
use Rattle.goblin_pe_head.specs.CoffHeader.{string_table_offset, symbols_end}
use Rattle.goblin_pe_head.specs.CoffReadings.{strings_at, strings_of, symbols_of}
use Rattle.goblin_pe_c_headers.specs.Symbols.{FindsTables, found_tables, symbol_tables, texts_at, texts_of}

-- the texts of a string table are the bytes where they lie
texts_there : (bytes : List ℕ) (p n : ℕ) (s : List ℕ) → string_table bytes p n ≡ Some s → (length s ≡ n) × (bytes_between bytes p (p + length s) ≡ Some s)
texts_there bytes p n s is =
    let table = cond_some_by (nat_le (p + n) (length bytes)) (text_of (slice_range bytes p (p + n))) s is in
    let same : s ≡ slice_range bytes p (p + n) = sym ((cond_some _ _ s table.1).1) in
    let le = leb-true (p + n) (length bytes) table.0 in
    let long : length s ≡ n = ap length same ∙ omega (arith, length-take (p + n - p) (drop p bytes), length-drop p bytes, le) in
    let begins : nat_le p (p + n) ≡ true = le-leb p (p + n) (omega arith) in
    (long, rw (long, begins, table.0) (ap (λ (xs : List ℕ). Some xs) (sym same)))

-- what is read of a string table is its texts
strings_there : (bytes : List ℕ) (p : ℕ) (s : List ℕ) → (strings_at p).value bytes ≡ Some s → bytes_between bytes (p + 4) (p + 4 + length s) ≡ Some s
strings_there bytes p s is =
    let size = step (number_at Little 4 bytes p) _ s is in
    (texts_there bytes (p + 4) (size.value - 4) s (without_test (nat_lt size.value 4) (string_table bytes (p + 4) (size.value - 4)) s size.then)).1

not_few : (few : Bool) (table : Option (List ℕ)) (s : List ℕ) → cond few None table ≡ Some s → few ≡ false
not_few true table s is = absurd (cc is)
not_few false table s is = refl

-- the length of a string table that was read says how many bytes its texts have
texts_length : (bytes : List ℕ) (p : ℕ) (s : List ℕ) → (strings_at p).value bytes ≡ Some s → (texts_at p).value bytes ≡ Some (Some (length s))
texts_length bytes p s is =
    let size = step (number_at Little 4 bytes p) _ s is in
    let table = string_table bytes (p + 4) (size.value - 4) in
    let few = not_few (nat_lt size.value 4) table s size.then in
    let there = texts_there bytes (p + 4) (size.value - 4) s (without_test (nat_lt size.value 4) table s size.then) in
    rw (size.is, few, there.0) refl

-- ---- tables that are found

module _ (header : CoffHeader) (bytes : List ℕ) where
  -- those that are read are found
  abbrev Found : Option (List ℕ) × Option (List ℕ) → Type 0
  Found x = (found_tables header).value bytes ≡ Some (unwrap_or x.0 [], unwrap_or x.1 [])

  -- where there are none
  none_found : (x : Option (List ℕ) × Option (List ℕ)) → (header.pointer_to_symbol_table == 0) ≡ true → (symbol_tables header).value bytes ≡ Some x → Found x
  unfolding found_tables texts_of symbols_of strings_of string_table_offset
  none_found x none is =
      let made : (symbol_tables header).value bytes ≡ Some (None, None) = rw none refl in
      subst Found (same_value _ _ (sym made ∙ is)) (rw none refl)

  -- where there are some
  both_found : (records strings : List ℕ) → (header.pointer_to_symbol_table == 0) ≡ false → slice_at bytes header.pointer_to_symbol_table (18 * header.number_of_symbol_table) ≡ Some records
      → (strings_at (symbols_end header)).value bytes ≡ Some strings → Found (Some records, Some strings)
  unfolding found_tables texts_of string_table_offset
  both_found records strings some placed ended =
      rw (some, texts_length bytes (symbols_end header) strings ended, placed, strings_there bytes (symbols_end header) strings ended) refl

  some_found : (x : Option (List ℕ) × Option (List ℕ)) → (header.pointer_to_symbol_table == 0) ≡ false → (symbol_tables header).value bytes ≡ Some x → Found x
  unfolding symbols_of strings_of string_table_offset
  some_found x some is =
      let read = step ((symbols_of header).value bytes) _ x is in
      let both = mapped ((strings_of header).value bytes) (λ (strings : Option (List ℕ)). (read.value, strings)) x read.then in
      let records = mapped (slice_at bytes header.pointer_to_symbol_table (18 * header.number_of_symbol_table)) (λ (t : List ℕ). Some t) read.value (sym (rw some refl) ∙ read.is) in
      let strings = mapped ((strings_at (symbols_end header)).value bytes) (λ (t : List ℕ). Some t) both.value (sym (rw some refl) ∙ both.is) in
      subst Found both.made
      (subst (λ (symbols : Option (List ℕ)). Found (symbols, both.value)) records.made
      (subst (λ (texts : Option (List ℕ)). Found (Some records.value, texts)) strings.made (both_found records.value strings.value some records.is strings.is)))

pub finds_tables : FindsTables
finds_tables header bytes x is =
    elim (cases_Bool (header.pointer_to_symbol_table == 0)) [
      | inl none ↦ none_found header bytes x none is
      | inr some ↦ some_found header bytes x some is
    ]
