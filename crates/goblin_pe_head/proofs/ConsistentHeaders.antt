-- A header whose parts agree is read again from what is written of it, and a header that was read has such parts.
use Rattle.std.proofs.Common.{◌≡◌, ℕ, zero, suc, ◌+◌, ◌-◌, ◌*◌, ◌^◌, ◌<◌, ◌≤◌, ◌&&◌, Bool, true, false, cond, nat_le, nat_lt, nat_eq, List, [], ◌∷◌, ◌++◌, take, drop, length, get_or, Option, Some, None, Result, Ok, Err, refl, sym, ap, ◌∙◌, subst, append_assoc, inl, inr, arith, ◌==◌, IfOk, IfSome, option_map, slice_range, append-nil, drop_at, drop-drop, length-append, length-drop, length-take-le, take_all, take_at, mod-eq_of_lt}
use Rattle.std.proofs.lemmas.Bool.{and_parts, cases_lt, eqb-true, le-leb, leb-true, lt-ltb, le-ltb}
use Rattle.std.proofs.{lemmas.List.FromFn.fill_by_all, lemmas.Option.cond_some}
use Rattle.goblin_base.specs.declared.endian.Endian.{Endian}
use Rattle.goblin_base.specs.declared.endian.Endian.TheVariants.{Little}
use Rattle.goblin_base.specs.{declared.error.ErrorOf.ErrorOf, Reading.Reads}
use Rattle.goblin_base.specs.Bytes.{IsBytes, number, number_at, number_bytes, replaced, slice_at}
use Rattle.goblin_base.specs.Record.{FieldValue, FieldsFit, ReadsBack, encoding, record_at, uint}
use Rattle.goblin_base.proofs.Numbers.{number-of_slice, number-slice, read_number}
use Rattle.goblin_base.proofs.{Records.record_at-some, Steps.mapped, Steps.same_value, Steps.step}
use Rattle.goblin_base.proofs.Writing.{encoding_append, length_encoding}
use Rattle.goblin_base.proofs.RecordRoundTrip.{bytes_after, IsBytes-slice, number-lt, slice-is}
use Rattle.goblin_pe_sect.specs.declared.data_directories.DataDirectory.{DataDirectory}
use Rattle.goblin_pe_sect.specs.DataDirectories.{directory_fields, directory_or_zeros, directory_record, entries_fields, entry_ending}
use Rattle.goblin_pe_sect.specs.DirectoryReadings.{directories_at}
use Rattle.goblin_pe_sect.proofs.DataDirectoriesRoundTrip.{directory_again}
use Rattle.goblin_pe_sect.proofs.DirectoryReadings.{directories_read, value-directories_at}
use Rattle.goblin_pe_sect.proofs.Entries.{directory_entry_at, directory_entry_at-below, directory_entry_at-past, entries_there, width-entries}
use Rattle.goblin_pe_head.specs.DosHeader.{DosHeader, dos_fields, dos_record}
use Rattle.goblin_pe_head.specs.{declared.header.pe_header.Header.Header, CoffHeader.coff_fields}
use Rattle.goblin_pe_head.specs.{CoffHeader.coff_header, RichHeader.rich_at, RichHeader.rich_in}
use Rattle.goblin_pe_head.specs.OptionalHeader.{OptionalHeader, StandardFields, StandardFields32, StandardFields64, WindowsFields32, WindowsFields64, bytes_32, bytes_64, fields_size, narrowed, optional_bytes, standard_32_fields, standard_32_record, standard_64_fields, standard_64_record, standard_from_32, standard_from_64, standard_to_32, standard_to_64, windows_32_fields, windows_32_record, windows_record_fields, windows_record, windows_from_32, windows_to_32}
use Rattle.goblin_pe_head.specs.HeaderLaws.{FieldsReadBack, IsConsistent, IsConsistentOptional, IsConsistentPart, IsEntryAt}
use Rattle.goblin_pe_head.specs.HeaderReadings.{optional_at, optional_header, pe_header, standard_by, stub_in, windows_by}
use Rattle.goblin_pe_head.specs.PeHeader.{PeHeader, header_parts, header_value, written_part}
use Rattle.goblin_pe_head.proofs.OptionalHeaderRoundTrip.{four-bytes}
use Rattle.goblin_pe_head.proofs.OptionalParts.{IsOptionalOf, magic_32, magic_64, of_optional, optional_of, pick, same_magic}
use Rattle.goblin_pe_head.proofs.PeHeaderRoundTrip.{dos_of, of_dos, of_parts, parts_of, strict_stub}

-- ---- what is at a place

-- these bytes are at p, and others after them
record StandAt (bytes : List ℕ) (p : ℕ) (own : List ℕ) : Type 0 where
  rest : List ℕ
  is : drop p bytes ≡ own ++ rest
  some : 0 < length own

stand-end : (bytes : List ℕ) (p : ℕ) (own : List ℕ) → StandAt bytes p own → p + length own ≤ length bytes
stand-end bytes p own h =
    let long : length (drop p bytes) ≡ length own + length h.rest = ap length h.is ∙ length-append own h.rest in
    omega (arith, long, h.some, length-drop p bytes)

stand-slice : (bytes : List ℕ) (p n : ℕ) (own : List ℕ) → StandAt bytes p own → length own ≡ n → slice_range bytes p (p + n) ≡ own
stand-slice bytes p n own h long = slice-is bytes p n ∙ ap (take n) h.is ∙ take_at own h.rest n long

stand-record : {R : Type 0} (bytes : List ℕ) (p n : ℕ) (value : Endian → List ℕ → R) (fields : R → List FieldValue) (r : R)
    → StandAt bytes p (encoding Little (fields r)) → length (encoding Little (fields r)) ≡ n → ReadsBack n value fields r → record_at n (value Little) bytes p ≡ Some r
unfolding ReadsBack
stand-record {R} bytes p n value fields r h long back =
    let own = encoding Little (fields r) in
    let end = stand-end bytes p own h in
    let alone = record_at-some n (value Little) own 0 r (back Little) in
    let whole : slice_range own 0 (0 + n) ≡ own = slice-is own 0 n ∙ take_all n own (omega (arith, long)) in
    let start : nat_lt p (length bytes) ≡ true = lt-ltb _ _ (omega (arith, end, h.some)) in
    let finish : nat_le (p + n) (length bytes) ≡ true = le-leb _ _ (omega (arith, end, long)) in
    rw (start, finish) (ap (λ (s : List ℕ). Some (value Little s)) (stand-slice bytes p n own h long ∙ sym whole) ∙ ap (λ (x : R). Some x) (sym alone.is))

-- ---- the data directories

length-directory : (entry : Option (ℕ × DataDirectory)) → length (encoding Little (directory_fields (directory_or_zeros entry))) ≡ 8
length-directory entry = length_encoding Little (directory_fields (directory_or_zeros entry))

encoding-cons : (e : Option (ℕ × DataDirectory)) (entries : List (Option (ℕ × DataDirectory)))
    → encoding Little (entries_fields (e ∷ entries)) ≡ encoding Little (directory_fields (directory_or_zeros e)) ++ encoding Little (entries_fields entries)
encoding-cons e entries = encoding_append Little (directory_fields (directory_or_zeros e)) (entries_fields entries)

-- each directory is at its place
entry-stands : (bytes : List ℕ) (p : ℕ) (entries : List (Option (ℕ × DataDirectory))) (rest : List ℕ) (i : ℕ) → drop p bytes ≡ encoding Little (entries_fields entries) ++ rest → i < length entries
    → StandAt bytes (p + 8 * i) (encoding Little (directory_fields (directory_or_zeros (get_or entries i None))))
entry-stands bytes p [] rest i is lt = absurd (omega (arith, lt))
entry-stands bytes p (e ∷ entries) rest zero is lt =
    let own = encoding Little (directory_fields (directory_or_zeros e)) in
    let others = encoding Little (entries_fields entries) in
    let place : p + 8 * 0 ≡ p = omega arith in
    rw place (record {
      rest = others ++ rest;
      is = is ∙ ap (λ (xs : List ℕ). xs ++ rest) (encoding-cons e entries) ∙ append_assoc own others rest;
      some = omega (arith, length-directory e);
    })
entry-stands bytes p (e ∷ entries) rest (suc i) is lt =
    let own = encoding Little (directory_fields (directory_or_zeros e)) in
    let others = encoding Little (entries_fields entries) in
    let whole : drop p bytes ≡ own ++ (others ++ rest) = is ∙ ap (λ (xs : List ℕ). xs ++ rest) (encoding-cons e entries) ∙ append_assoc own others rest in
    let next : drop (p + 8) bytes ≡ others ++ rest = sym (drop-drop 8 p bytes) ∙ ap (drop 8) whole ∙ drop_at own (others ++ rest) 8 (length-directory e) in
    let place : p + 8 + 8 * i ≡ p + 8 * suc i = omega arith in
    subst (λ (k : ℕ). StandAt bytes k (encoding Little (directory_fields (directory_or_zeros (get_or entries i None))))) place (entry-stands bytes (p + 8) entries rest i next (omega (arith, lt)))

entry-again : (bytes : List ℕ) (p count i : ℕ) (entry : Option (ℕ × DataDirectory)) → IsEntryAt p count i entry → StandAt bytes (p + 8 * i) (encoding Little (directory_fields (directory_or_zeros entry)))
    → directory_entry_at count bytes p i ≡ entry
entry-again bytes p count i entry is stands =
    elim (cases_lt i count) [
      | inl lt ↦
          let d = directory_or_zeros entry in
          let again = record_at-some 8 (directory_record Little) bytes (p + 8 * i) d (stand-record bytes (p + 8 * i) 8 directory_record directory_fields d stands (length-directory entry) (directory_again d is.1)) in
          directory_entry_at-below count bytes p i lt ∙ ap (entry_ending (p + 8 * i + 8)) (sym again.is) ∙ (let own = is.0 in rw (lt-ltb i count lt) at own)
      | inr past ↦ directory_entry_at-past count bytes p i past ∙ (let own = is.0 in rw (le-ltb i count past) at own)
    ]

entries-again : (bytes : List ℕ) (p count : ℕ) (entries : List (Option (ℕ × DataDirectory))) (rest : List ℕ) → drop p bytes ≡ encoding Little (entries_fields entries) ++ rest
    → count ≤ 16 → length entries ≡ 16 → ((i : ℕ) → i < 16 → IsEntryAt p count i (get_or entries i None)) → (directories_at count p).value bytes ≡ Some entries
entries-again bytes p count entries rest is most sixteen each =
    let long : length (encoding Little (entries_fields entries)) ≡ 128 = length_encoding Little (entries_fields entries) ∙ width-entries entries ∙ omega (arith, sixteen) in
    let all : length (drop p bytes) ≡ 128 + length rest = ap length is ∙ length-append (encoding Little (entries_fields entries)) rest ∙ ap (λ (k : ℕ). k + length rest) long in
    let made = fill_by_all (directory_entry_at count bytes p) entries 16 None sixteen
    (λ i lt. sym (entry-again bytes p count i (get_or entries i None) (each i lt) (entry-stands bytes p entries rest i is (omega (arith, lt, sixteen))))) in
    value-directories_at count bytes p ∙ entries_there count bytes p most (λ some. omega (arith, all, most, length-drop p bytes)) ∙ ap Some (sym made)

-- ---- the optional header

-- what was narrowed is widened to what it was
standard_32-same : (s : StandardFields) → s.size_of_code < 2 ^ 32 → s.size_of_initialized_data < 2 ^ 32 → s.size_of_uninitialized_data < 2 ^ 32 → s.base_of_code < 2 ^ 32
    → standard_from_32 (standard_to_32 s) ≡ s
unfolding standard_from_32 standard_to_32
standard_32-same s a b c d = rw (mod-eq_of_lt a, mod-eq_of_lt b, mod-eq_of_lt c, mod-eq_of_lt d) refl

standard_64-same : (s : StandardFields) → s.size_of_code < 2 ^ 32 → s.size_of_initialized_data < 2 ^ 32 → s.size_of_uninitialized_data < 2 ^ 32 → s.base_of_code < 2 ^ 32
    → s.base_of_data ≡ 0 → standard_from_64 (standard_to_64 s) ≡ s
unfolding standard_from_64 standard_to_64
standard_64-same s a b c d none =
    rw (mod-eq_of_lt a, mod-eq_of_lt b, mod-eq_of_lt c, mod-eq_of_lt d) (ap (λ (n : ℕ). record s { base_of_data = n }) (sym none))

windows-same : (x : WindowsFields64) (w : WindowsFields32) → windows_to_32 x ≡ Some w → windows_from_32 w ≡ x
unfolding windows_to_32
windows-same x w e =
    let base = step (narrowed x.image_base) _ w e in
    let stack = step (narrowed x.size_of_stack_reserve) _ w base.then in
    let stack' = step (narrowed x.size_of_stack_commit) _ w stack.then in
    let heap = step (narrowed x.size_of_heap_reserve) _ w stack'.then in
    let heap' = step (narrowed x.size_of_heap_commit) _ w heap.then in
    let one = (cond_some (nat_lt x.image_base (2 ^ 32)) x.image_base base.value base.is).1 in
    let two = (cond_some (nat_lt x.size_of_stack_reserve (2 ^ 32)) x.size_of_stack_reserve stack.value stack.is).1 in
    let three = (cond_some (nat_lt x.size_of_stack_commit (2 ^ 32)) x.size_of_stack_commit stack'.value stack'.is).1 in
    let four = (cond_some (nat_lt x.size_of_heap_reserve (2 ^ 32)) x.size_of_heap_reserve heap.value heap.is).1 in
    let five = (cond_some (nat_lt x.size_of_heap_commit (2 ^ 32)) x.size_of_heap_commit heap'.value heap'.is).1 in
    let made = same_value _ w heap'.then in
    ap windows_from_32 (sym made) ∙ grind (arith, one, two, three, four, five)

-- the magic of standard fields that were read is the number at the front
front-magic : (bytes : List ℕ) (n magic : ℕ) → n ≤ length bytes → 2 ≤ n → magic ≡ number Little 2 (slice_range bytes 0 (0 + n)) 0 → number_at Little 2 bytes 0 ≡ Some magic
front-magic bytes n magic room two is =
    let same : number Little 2 bytes 0 ≡ magic = sym (is ∙ number-of_slice Little 2 bytes 0 n 0 two) in
    let there : nat_le (0 + 2) (length bytes) ≡ true = le-leb _ _ (omega (arith, room, two)) in
    rw (there, same) refl

module _ (h : OptionalHeader) (agree : IsConsistentOptional h) (bytes rest : List ℕ) where
  abbrev s : StandardFields
  s = h.standard_fields

  abbrev count : ℕ
  count = h.windows_fields.number_of_rva_and_sizes

  abbrev entries : List (Option (ℕ × DataDirectory))
  entries = h.data_directories.data_directories

  abbrev table : List ℕ
  table = encoding Little (entries_fields entries)

  -- the data directories are there, after fields of either width
  table-again : (size : ℕ) → fields_size s.magic ≡ size → drop size bytes ≡ table ++ rest → (directories_at count size).value bytes ≡ Some entries
  table-again size width after =
      let each = subst (λ (start : ℕ). (i : ℕ) → i < 16 → IsEntryAt start count i (get_or entries i None)) width agree.2 in
      entries-again bytes size count entries rest after agree.0 agree.1 each

  narrow-again : (w : WindowsFields32) → s.magic ≡ 0x10B → windows_to_32 h.windows_fields ≡ Some w
      → bytes ≡ encoding Little (standard_32_fields (standard_to_32 s)) ++ (encoding Little (windows_32_fields w) ++ (table ++ rest))
      → ReadsBack 28 standard_32_record standard_32_fields (standard_to_32 s) → ReadsBack 68 windows_32_record windows_32_fields w
      → optional_header.value bytes ≡ Some (h, 96 + 8 * count)
  unfolding standard_by windows_by standard_to_32
  narrow-again w magic narrowed is standard windows =
      let first = encoding Little (standard_32_fields (standard_to_32 s)) in
      let second = encoding Little (windows_32_fields w) in
      let long : length first ≡ 28 = length_encoding Little (standard_32_fields (standard_to_32 s)) in
      let long_second : length second ≡ 68 = length_encoding Little (windows_32_fields w) in
      let after : drop 28 bytes ≡ second ++ (table ++ rest) = ap (drop 28) is ∙ drop_at first (second ++ (table ++ rest)) 28 long in
      let last : drop 96 bytes ≡ table ++ rest = sym (drop-drop 68 28 bytes) ∙ ap (drop 68) after ∙ drop_at second (table ++ rest) 68 long_second in
      let front : StandAt bytes 0 first = record { rest = second ++ (table ++ rest); is = is; some = omega (arith, long) } in
      let back : StandAt bytes 28 second = record { rest = table ++ rest; is = after; some = omega (arith, long_second) } in
      let one = stand-record bytes 0 28 standard_32_record standard_32_fields (standard_to_32 s) front long standard in
      let two = mapped (slice_at bytes 28 68) (windows_32_record Little) w (stand-record bytes 28 68 windows_32_record windows_32_fields w back long_second windows) in
      let own = record_at-some 28 (standard_32_record Little) bytes 0 (standard_to_32 s) one in
      let number = front-magic bytes 28 0x10B own.end (omega arith) (sym magic ∙ ap (λ (x : StandardFields32). x.magic) own.is) in
      of_optional 0x10B bytes (h, 96 + 8 * count) (record {
        front = number;
        standard = rw one (ap (λ (f : StandardFields). Some f) (standard_32-same s agree.3 agree.4 agree.5 agree.6));
        windows = rw two.is (ap (λ (f : WindowsFields64). Some f) (ap windows_from_32 two.made ∙ windows-same h.windows_fields w narrowed));
        directories = table-again 96 (rw magic refl) last;
        size = refl;
      })

  wide-again : s.magic ≡ 0x20B
      → bytes ≡ encoding Little (standard_64_fields (standard_to_64 s)) ++ (encoding Little (windows_record_fields 8 h.windows_fields) ++ (table ++ rest))
      → ReadsBack 24 standard_64_record standard_64_fields (standard_to_64 s) → ReadsBack 88 (windows_record 8) (windows_record_fields 8) h.windows_fields
      → optional_header.value bytes ≡ Some (h, 112 + 8 * count)
  unfolding standard_by windows_by standard_to_64
  wide-again magic is standard windows =
      let first = encoding Little (standard_64_fields (standard_to_64 s)) in
      let second = encoding Little (windows_record_fields 8 h.windows_fields) in
      let long : length first ≡ 24 = length_encoding Little (standard_64_fields (standard_to_64 s)) in
      let long_second : length second ≡ 88 = length_encoding Little (windows_record_fields 8 h.windows_fields) in
      let after : drop 24 bytes ≡ second ++ (table ++ rest) = ap (drop 24) is ∙ drop_at first (second ++ (table ++ rest)) 24 long in
      let last : drop 112 bytes ≡ table ++ rest = sym (drop-drop 88 24 bytes) ∙ ap (drop 88) after ∙ drop_at second (table ++ rest) 88 long_second in
      let front : StandAt bytes 0 first = record { rest = second ++ (table ++ rest); is = is; some = omega (arith, long) } in
      let back : StandAt bytes 24 second = record { rest = table ++ rest; is = after; some = omega (arith, long_second) } in
      let one = stand-record bytes 0 24 standard_64_record standard_64_fields (standard_to_64 s) front long standard in
      let two = stand-record bytes 24 88 (windows_record 8) (windows_record_fields 8) h.windows_fields back long_second windows in
      let own = record_at-some 24 (standard_64_record Little) bytes 0 (standard_to_64 s) one in
      let number = front-magic bytes 24 0x20B own.end (omega arith) (sym magic ∙ ap (λ (x : StandardFields64). x.magic) own.is) in
      of_optional 0x20B bytes (h, 112 + 8 * count) (record {
        front = number;
        standard = rw one (ap (λ (f : StandardFields). Some f) (standard_64-same s agree.3 agree.4 agree.5 agree.6 (agree.7 magic)));
        windows = two;
        directories = table-again 112 (rw magic refl) last;
        size = refl;
      })

pieces : (first second third whole rest : List ℕ) → first ++ (second ++ (third ++ [])) ≡ whole → whole ++ rest ≡ first ++ (second ++ (third ++ rest))
pieces first second third whole rest is = ap (λ (xs : List ℕ). xs ++ rest) (sym is) ∙ simp (append_assoc, append-nil)

-- an optional header that was written is read again
optional-again : (h : OptionalHeader) (written bytes rest : List ℕ) → IsConsistentOptional h → FieldsReadBack h → optional_bytes Little h ≡ Some written → bytes ≡ written ++ rest → (size : ℕ) × (optional_header.value bytes ≡ Some (h, size))
unfolding optional_bytes
optional-again h written bytes rest agree fields made is =
    elim (pick (nat_eq h.standard_fields.magic 0x10B) (nat_eq h.standard_fields.magic 0x20B) (bytes_32 Little h) (Some (bytes_64 Little h)) written made) [
      | inl narrow ↦
          let magic = eqb-true h.standard_fields.magic 0x10B narrow.0 in
          let own = mapped (windows_to_32 h.windows_fields) _ written narrow.1 in
          let back = fields.0 magic in (
            96 + 8 * h.windows_fields.number_of_rva_and_sizes,
            narrow-again h agree bytes rest own.value magic own.is (is ∙ pieces (encoding Little (standard_32_fields (standard_to_32 h.standard_fields))) (encoding Little (windows_32_fields own.value)) (encoding Little (entries_fields h.data_directories.data_directories)) written rest own.made) back.0
                (subst (λ (o : Option WindowsFields32). IfSome o (ReadsBack 68 windows_32_record windows_32_fields)) own.is back.1),
          )
      | inr wide ↦
          let magic = eqb-true h.standard_fields.magic 0x20B wide.0 in
          let back = fields.1 magic in (
            112 + 8 * h.windows_fields.number_of_rva_and_sizes,
            wide-again h agree bytes rest magic (is ∙ pieces (encoding Little (standard_64_fields (standard_to_64 h.standard_fields))) (encoding Little (windows_record_fields 8 h.windows_fields)) (encoding Little (entries_fields h.data_directories.data_directories)) written rest (same_value (bytes_64 Little h) written wide.1)) back.0 back.1,
          )
    ]

part-again : (size p : ℕ) (optional : Option OptionalHeader) (written bytes rest : List ℕ) → IsConsistentPart size optional → IfSome optional FieldsReadBack → written_part Little optional ≡ Some written
    → drop p bytes ≡ written ++ rest → (optional_at size p).value bytes ≡ Some optional
unfolding optional_at
part-again size p None written bytes rest agree fields made is = rw agree refl
part-again size p (Some h) written bytes rest agree fields made is =
    let read = optional-again h written (drop p bytes) rest agree.1 fields made is in
    rw (agree.0, read.1) refl

-- ---- the whole header

signature : encoding Little (uint 4 0x4550 ∷ []) ≡ 0x50 ∷ 0x45 ∷ 0 ∷ 0 ∷ []
unfolding number_bytes
signature = refl

number-stands : (bytes : List ℕ) (p : ℕ) → StandAt bytes p (encoding Little (uint 4 0x4550 ∷ [])) → number_at Little 4 bytes p ≡ Some 0x4550
number-stands bytes p h =
    let own = encoding Little (uint 4 0x4550 ∷ []) in
    let long : length own ≡ 4 = ap length signature in
    let end : nat_le (p + 4) (length bytes) ≡ true = le-leb _ _ (omega (arith, stand-end bytes p own h, long)) in
    let is : number Little 4 bytes p ≡ 0x4550 = number-slice Little 4 bytes p ∙ ap (read_number Little 4) (stand-slice bytes p 4 own h long ∙ signature) in
    rw (end, is) refl

module _ (h : PeHeader) (agree : IsConsistent h) (bytes rest optional : List ℕ) where
  abbrev p : ℕ
  p = h.dos_header.pe_pointer

  abbrev dos : List ℕ
  dos = encoding Little (dos_fields h.dos_header)

  abbrev sign : List ℕ
  sign = encoding Little (uint 4 h.signature ∷ [])

  abbrev coff : List ℕ
  coff = encoding Little (coff_fields h.coff_header)

  laid-again : bytes ≡ dos ++ (h.dos_stub ++ (sign ++ (coff ++ (optional ++ rest)))) → written_part Little h.optional_header ≡ Some optional
      → ReadsBack 64 dos_record dos_fields h.dos_header → ReadsBack 20 coff_header coff_fields h.coff_header → IfSome h.optional_header FieldsReadBack
      → (pe_header true).value bytes ≡ Some h
  unfolding rich_at stub_in
  laid-again is made dos_back coff_back fields =
      let stub = h.dos_stub in
      let tail = sign ++ (coff ++ (optional ++ rest)) in
      let long_dos : length dos ≡ 64 = length_encoding Little (dos_fields h.dos_header) in
      let long_sign : length sign ≡ 4 = length_encoding Little (uint 4 h.signature ∷ []) in
      let long_coff : length coff ≡ 20 = length_encoding Little (coff_fields h.coff_header) in
      let pointer : p ≡ 64 + length stub = agree.1 in
      let at_stub : drop 64 bytes ≡ stub ++ tail = ap (drop 64) is ∙ drop_at dos (stub ++ tail) 64 long_dos in
      let at_sign : drop p bytes ≡ tail = ap (λ (k : ℕ). drop k bytes) pointer ∙ sym (drop-drop (length stub) 64 bytes) ∙ ap (drop (length stub)) at_stub ∙ drop_at stub tail (length stub) refl in
      let at_coff : drop (p + 4) bytes ≡ coff ++ (optional ++ rest) = sym (drop-drop 4 p bytes) ∙ ap (drop 4) at_sign ∙ drop_at sign (coff ++ (optional ++ rest)) 4 long_sign in
      let place : p + 4 + 20 ≡ p + 24 = omega arith in
      let at_optional : drop (p + 24) bytes ≡ optional ++ rest = ap (λ (k : ℕ). drop k bytes) (sym place) ∙ sym (drop-drop 20 (p + 4) bytes) ∙ ap (drop 20) at_coff ∙ drop_at coff (optional ++ rest) 20 long_coff in
      let dos_stands : StandAt bytes 0 dos = record { rest = stub ++ tail; is = is; some = omega (arith, long_dos) } in
      let sign_stands : StandAt bytes p sign = record { rest = coff ++ (optional ++ rest); is = at_sign; some = omega (arith, long_sign) } in
      let coff_stands : StandAt bytes (p + 4) coff = record { rest = optional ++ rest; is = at_coff; some = omega (arith, long_coff) } in
      let own = stand-record bytes 0 64 dos_record dos_fields h.dos_header dos_stands long_dos dos_back in
      let record_is = record_at-some 64 (dos_record Little) bytes 0 h.dos_header own in
      let number : number_at Little 4 bytes p ≡ Some 0x4550 =
      number-stands bytes p (subst (λ (x : ℕ). StandAt bytes p (encoding Little (uint 4 x ∷ []))) agree.3 sign_stands) in
      let low : nat_le 64 p ≡ true = le-leb _ _ (omega (arith, pointer)) in
      let room : nat_le p (length bytes) ≡ true = le-leb _ _ (omega (arith, stand-end bytes p sign sign_stands)) in
      let width : p - 64 ≡ length stub = omega (arith, pointer) in
      let stretch : slice_range bytes 64 p ≡ stub = rw width (ap (take (length stub)) at_stub ∙ take_at stub tail (length stub) refl) in
      of_parts true bytes h (record {
        dos = of_dos bytes h.dos_header (record {
          magic = front-magic bytes 64 0x5A4D record_is.end (omega arith) (sym agree.0 ∙ ap (λ (x : DosHeader). x.signature) record_is.is);
          own = own;
          signature = number;
        });
        stub = rw (low, room) (ap (λ (xs : List ℕ). Some xs) stretch);
        rich = ap (λ (xs : List ℕ). cond (nat_lt p 68) (Some None) (rich_in.value xs)) stretch ∙ agree.2;
        signature = number ∙ ap (λ (x : ℕ). Some x) (sym agree.3);
        coff = stand-record bytes (p + 4) 20 coff_header coff_fields h.coff_header coff_stands long_coff coff_back;
        optional = part-again h.coff_header.size_of_optional_header (p + 24) h.optional_header optional bytes rest agree.4 fields made at_optional;
      })

five : (a b c d e rest : List ℕ) → (a ++ (b ++ (c ++ (d ++ (e ++ []))))) ++ rest ≡ a ++ (b ++ (c ++ (d ++ (e ++ rest))))
five a b c d e rest = simp (append_assoc, append-nil)

-- a header whose parts agree reads back, whatever bytes it was written over
pub consistent_again : (endian : Endian) (old new optional : List ℕ) (h : PeHeader) → written_part endian h.optional_header ≡ Some optional → new ≡ replaced old 0 (header_parts endian h optional)
    → ReadsBack 64 dos_record dos_fields h.dos_header → ReadsBack 20 coff_header coff_fields h.coff_header → IfSome h.optional_header FieldsReadBack
    → endian ≡ Little → IsConsistent h → (pe_header true).value new ≡ Some h
unfolding header_parts
consistent_again endian old new optional h made written dos coff fields little agree =
    let part : written_part Little h.optional_header ≡ Some optional = subst (λ (e : Endian). written_part e h.optional_header ≡ Some optional) little made in
    let parts = header_parts Little h optional in
    let rest = drop (0 + length (header_parts endian h optional)) old in
    let is : new ≡ parts ++ rest = written ∙ ap (λ (e : Endian). header_parts e h optional ++ rest) little in
    laid-again h agree new rest optional
    (is ∙ five (encoding Little (dos_fields h.dos_header)) h.dos_stub (encoding Little (uint 4 h.signature ∷ [])) (encoding Little (coff_fields h.coff_header)) optional rest)
    part dos coff fields

-- ---- a header that was read

-- an entry that was read, by the tests that it passed
entry-agrees : (test b c : Bool) (end : ℕ) (d : DataDirectory) → (d.virtual_address == 0) ≡ b → (d.size == 0) ≡ c → FieldsFit (directory_fields d)
    → (cond test (entry_ending end (directory_or_zeros (cond test (cond (b && c) None (Some (end, d))) None))) None ≡ cond test (cond (b && c) None (Some (end, d))) None)
    × FieldsFit (directory_fields (directory_or_zeros (cond test (cond (b && c) None (Some (end, d))) None)))
entry-agrees false b c end d address size fit = (refl, (omega arith, (omega arith, tt)))
entry-agrees true true true end d address size fit = (refl, (omega arith, (omega arith, tt)))
entry-agrees true true false end d address size fit = (rw (address, size) refl, fit)
entry-agrees true false c end d address size fit = (rw address refl, fit)

directory-fits : (own : List ℕ) → IsBytes own → FieldsFit (directory_fields (directory_record Little own))
directory-fits own fits = (number-lt Little 4 own 0 fits, (number-lt Little 4 own 4 fits, tt))

entries-agree : (bytes : List ℕ) (p count : ℕ) (entries : List (Option (ℕ × DataDirectory))) → IsBytes bytes → (directories_at count p).value bytes ≡ Some entries
    → (count ≤ 16) × (length entries ≡ 16) × ((i : ℕ) → i < 16 → IsEntryAt p count i (get_or entries i None))
entries-agree bytes p count entries fits read =
    let are = directories_read count bytes p entries read in (
      are.few,
      are.sixteen,
      λ i lt.
          let own = slice_range bytes (p + 8 * i) (p + 8 * i + 8) in
          let d = directory_record Little own in
          subst (IsEntryAt p count i) (sym (are.each i lt))
          (entry-agrees (nat_lt i count) (d.virtual_address == 0) (d.size == 0) (p + 8 * i + 8) d refl refl (directory-fits own (IsBytes-slice bytes (p + 8 * i) 8 fits))),
    )

-- standard fields of either width that were read
record AreConsistent (s : StandardFields) : Type 0 where
  code : s.size_of_code < 2 ^ 32
  initialized : s.size_of_initialized_data < 2 ^ 32
  uninitialized : s.size_of_uninitialized_data < 2 ^ 32
  base : s.base_of_code < 2 ^ 32
  no_data : s.magic ≡ 0x20B → s.base_of_data ≡ 0

narrow-agrees : (bytes : List ℕ) (x : OptionalHeader × ℕ) → IsBytes bytes → IsOptionalOf 0x10B bytes x → AreConsistent x.0.standard_fields
unfolding standard_by standard_from_32
narrow-agrees bytes x fits is =
    let read = mapped (record_at 28 (standard_32_record Little) bytes 0) standard_from_32 x.0.standard_fields is.standard in
    let s = slice_range bytes 0 (0 + 28) in
    let within = IsBytes-slice bytes 0 28 fits in
    let same : standard_from_32 (standard_32_record Little s) ≡ x.0.standard_fields = ap standard_from_32 (sym (record_at-some 28 (standard_32_record Little) bytes 0 read.value read.is).is) ∙ read.made in
    let magic = ap (λ (f : StandardFields). f.magic) same ∙ magic_32 bytes x is in
    subst AreConsistent same (record {
      code = four-bytes s 4 within;
      initialized = four-bytes s 8 within;
      uninitialized = four-bytes s 12 within;
      base = four-bytes s 20 within;
      no_data = λ wide. absurd (omega (arith, wide, magic));
    })

wide-agrees : (bytes : List ℕ) (x : OptionalHeader × ℕ) → IsBytes bytes → IsOptionalOf 0x20B bytes x → AreConsistent x.0.standard_fields
unfolding standard_by standard_from_64
wide-agrees bytes x fits is =
    let read = mapped (record_at 24 (standard_64_record Little) bytes 0) standard_from_64 x.0.standard_fields is.standard in
    let s = slice_range bytes 0 (0 + 24) in
    let within = IsBytes-slice bytes 0 24 fits in
    let same : standard_from_64 (standard_64_record Little s) ≡ x.0.standard_fields = ap standard_from_64 (sym (record_at-some 24 (standard_64_record Little) bytes 0 read.value read.is).is) ∙ read.made in
    subst AreConsistent same (record {
      code = four-bytes s 4 within;
      initialized = four-bytes s 8 within;
      uninitialized = four-bytes s 12 within;
      base = four-bytes s 20 within;
      no_data = λ wide. refl;
    })

whole-agrees : (magic : ℕ) (bytes : List ℕ) (x : OptionalHeader × ℕ) → IsBytes bytes → IsOptionalOf magic bytes x → x.0.standard_fields.magic ≡ magic → AreConsistent x.0.standard_fields
    → IsConsistentOptional x.0
whole-agrees magic bytes x fits is same fields =
    let count = x.0.windows_fields.number_of_rva_and_sizes in
    let entries = x.0.data_directories.data_directories in
    let table = entries-agree bytes (fields_size magic) count entries fits is.directories in
    let each = subst (λ (magic : ℕ). (i : ℕ) → i < 16 → IsEntryAt (fields_size magic) count i (get_or entries i None)) (sym same) table.2 in
    (table.0, table.1, each, fields.code, fields.initialized, fields.uninitialized, fields.base, fields.no_data)

optional-agrees : (bytes : List ℕ) (x : OptionalHeader × ℕ) → IsBytes bytes → optional_header.value bytes ≡ Some x → IsConsistentOptional x.0
optional-agrees bytes x fits e = elim (optional_of bytes x e) [
  | inl is ↦ whole-agrees 0x10B bytes x fits is (magic_32 bytes x is) (narrow-agrees bytes x fits is)
  | inr is ↦ whole-agrees 0x20B bytes x fits is (magic_64 bytes x is) (wide-agrees bytes x fits is)
]

part-agrees : (size : ℕ) (test : Bool) (optional : Option OptionalHeader) (bytes : List ℕ) → (size == 0) ≡ test → IsBytes bytes
    → cond test (Some None) (option_map (λ (header : OptionalHeader × ℕ). Some header.0) (optional_header.value bytes)) ≡ Some optional → IsConsistentPart size optional
part-agrees size true optional bytes none fits e = subst (IsConsistentPart size) (same_value None optional e) (eqb-true size 0 none)
part-agrees size false optional bytes some fits e =
    let found = mapped (optional_header.value bytes) (λ (header : OptionalHeader × ℕ). Some header.0) optional e in
    subst (IsConsistentPart size) found.made (some, optional-agrees bytes found.value fits found.is)

-- the parts of a header that strict mode read agree
pub header_consistent : (bytes : List ℕ) (h : PeHeader) → IsBytes bytes → (pe_header true).value bytes ≡ Some h → IsConsistent h
unfolding rich_at optional_at
header_consistent bytes h fits e =
    let is = parts_of true bytes h e in
    let dos = dos_of bytes h.dos_header is.dos in
    let p = h.dos_header.pe_pointer in
    let own = (record_at-some 64 (dos_record Little) bytes 0 h.dos_header dos.own).is in
    let stub = cond_some (nat_le 64 p && nat_le p (length bytes)) (slice_range bytes 64 p) h.dos_stub (strict_stub bytes h is) in
    let tests = and_parts (nat_le 64 p) (nat_le p (length bytes)) stub.0 in
    let low = leb-true 64 p tests.0 in
    let high = leb-true p (length bytes) tests.1 in
    let long : length h.dos_stub ≡ p - 64 = ap length (sym stub.1) ∙ length-take-le (p - 64) (drop 64 bytes) (omega (arith, low, high, length-drop 64 bytes)) in (
      ap (λ (x : DosHeader). x.signature) own ∙ same_magic bytes 64 0x5A4D (omega arith) dos.magic,
      omega (arith, long, low),
      ap (λ (xs : List ℕ). cond (nat_lt p 68) (Some None) (rich_in.value xs)) (sym stub.1) ∙ is.rich,
      same_value h.signature 0x4550 (sym is.signature ∙ dos.signature),
      part-agrees h.coff_header.size_of_optional_header (h.coff_header.size_of_optional_header == 0) h.optional_header (drop (p + 24) bytes) refl (bytes_after bytes (p + 24) fits) is.optional,
    )

pub read_consistent : (r : Result Header ErrorOf) (bytes : List ℕ) → IsBytes bytes → Reads header_value r (pe_header true) bytes → IfOk r (λ h. IsConsistent (header_value h))
read_consistent (Ok h) bytes fits reads = header_consistent bytes (header_value h) fits reads
read_consistent (Err e) bytes fits reads = tt
