-- A header that strict mode read is written back from its record.
use Rattle.std.proofs.Common.{◌≡◌, ◌∙◌, ◌++◌, ◌+◌, ◌-◌, ◌≤◌, ◌==◌, ◌&&◌, ℕ, zero, suc, true, false, length, List, [], ◌∷◌, map, drop, refl, sym, ap, arith, rules, tests, Option, Some, None, nat_le, nat_lt, slice_range, leb-true, length-drop, length-take, ne_eqb}
use Rattle.std.proofs.{lemmas.List.nil_from_length, lemmas.Bool.and_parts, lemmas.Option.cond_some}
use Rattle.std.specs.Option.{is_some}
use Rattle.goblin_base.specs.{declared.endian.Endian.TheVariants.Little, Parts.bytes_between}
use Rattle.goblin_base.specs.Record.{FieldValue}
use Rattle.goblin_base.proofs.{Numbers.slice_at-inside, Steps.same_value}
use Rattle.readings.specs.Reads.{given, pick, slice_at}
use Rattle.goblin_pe_sect.specs.declared.data_directories.DataDirectory.{DataDirectory}
use Rattle.goblin_pe_sect.specs.DataDirectories.{directory_fields, directory_or_zeros, entries_fields}
use Rattle.goblin_pe_head.specs.declared.optional_header.OptionalHeader.{OptionalHeader}
use Rattle.goblin_pe_head.specs.{HeaderLaws.HeaderWritesBack, HeaderReadings.pe_header}
use Rattle.goblin_pe_head.specs.OptionalHeader.{optional_bytes}
use Rattle.goblin_pe_head.specs.PeHeader.{PeHeader, header_bytes, header_parts, written_part}
use Rattle.goblin_pe_head.proofs.PeHeaderRoundTrip.{dos_of, header_back, parts_of, strict_stub}
use Rattle.goblin_pe.specs.Whole.{places_in}
use Rattle.goblin_pe_c_headers.specs.{declared.image.PeImage.PeImage, Headers.optional_record}
use Rattle.goblin_pe_c_headers.specs.Written.{entry_from_c, header_from_c, image_stub, optional_from_c}
use Rattle.goblin_pe_c_tables.specs.ReadImages.{ImageWritesBack, image_of}

abbrev Entry : Type 0
Entry = Option (ℕ × DataDirectory)

-- ---- an optional header

-- where the records of its entries end is not written
entries-same : (entries : List Entry)
    → entries_fields (map entry_from_c (map directory_or_zeros entries)) ≡ entries_fields entries
entries-same [] = refl
entries-same (entry ∷ entries) =
    ap (λ (rest : List FieldValue). directory_fields (directory_or_zeros entry) ++ rest) (entries-same entries)

same-bytes : (h : OptionalHeader) (entries : List Entry)
    → entries_fields entries ≡ entries_fields h.data_directories.data_directories
    → optional_bytes Little (record h { data_directories = record { data_directories = entries } })
    ≡ optional_bytes Little h
unfolding optional_bytes
same-bytes h entries same = rw same refl

part-back : (image : PeImage) (optional : Option OptionalHeader) → image.optional_header ≡ optional_record optional
    → image.has_optional_header ≡ is_some optional → image.directories ≡ (places_in optional).directories
    → written_part Little (optional_from_c image) ≡ written_part Little optional
unfolding places_in
part-back image None fields has directories = rw has refl
part-back image (Some h) fields has directories =
    rw (has, fields, directories) (same-bytes h (map entry_from_c (map directory_or_zeros h.data_directories.data_directories)) (entries-same h.data_directories.data_directories))

-- ---- the stub

-- the stub that strict mode read is in the file
stub-there : (bytes : List ℕ) (p : ℕ) (stub : List ℕ) → bytes_between bytes 64 p ≡ Some stub
    → (nat_lt p 64 ≡ false) × ((pick (length stub == 0) (given []) (slice_at 64 (length stub))).value bytes ≡ Some stub)
stub-there bytes p stub is =
    let inside = cond_some (nat_le 64 p && nat_le p (length bytes)) (slice_range bytes 64 p) stub is in
    let both = and_parts (nat_le 64 p) (nat_le p (length bytes)) inside.0 in
    let begins = leb-true 64 p both.0 in
    let ends = leb-true p (length bytes) both.1 in
    let size : length stub ≡ p - 64 = ap (λ (xs : List ℕ). length xs) (sym inside.1) ∙ omega (arith, length-take (p - 64) (drop 64 bytes), length-drop 64 bytes, ends) in
    let after : nat_lt p 64 ≡ false = search (rules, tests) in
    (after, by (length stub) refl begins ends size inside.1)
  where
    by : (n : ℕ) → length stub ≡ n → 64 ≤ p → p ≤ length bytes → length stub ≡ p - 64 → slice_range bytes 64 p ≡ stub
        → (pick (length stub == 0) (given []) (slice_at 64 (length stub))).value bytes ≡ Some stub
    by zero none begins ends size same = rw none (ap (λ (xs : List ℕ). Some xs) (sym (nil_from_length stub none)))
    by (suc n) some begins ends size same =
        let end : 64 + suc n ≡ p = omega (arith, some, size, begins) in
        let more : (suc n == 0) ≡ false = ne_eqb (suc n) 0 (λ e. omega (arith, e)) in
        rw (some, more) (slice_at-inside bytes 64 (suc n) (omega (arith, end, ends)) (omega (arith, end, ends)) ∙ ap (λ (q : ℕ). Some (slice_range bytes 64 q)) end ∙ ap (λ (xs : List ℕ). Some xs) same)

-- ---- a header

-- what a record says is written as the header that strict mode read
record-written : (image : PeImage) (h : PeHeader) → (pe_header true).value image.bytes.now ≡ Some h → image ≡ image_of image.options h image
    → header_bytes Little (header_from_c image h.dos_stub) ≡ header_bytes Little h
unfolding header_bytes header_parts
record-written image h e is =
    let parts = parts_of true image.bytes.now h e in
    let signature : 0x4550 ≡ h.signature = same_value 0x4550 h.signature (sym (dos_of image.bytes.now h.dos_header parts.dos).signature ∙ parts.signature) in
    let fields = ap (λ (i : PeImage). i.optional_header) is in
    let has = ap (λ (i : PeImage). i.has_optional_header) is in
    let directories = ap (λ (i : PeImage). i.directories) is in
    let dos = ap (λ (i : PeImage). i.dos_header) is in
    let coff = ap (λ (i : PeImage). i.coff_header) is in
    let part = part-back image h.optional_header fields has directories in
    rw (signature, part, dos, coff) refl

pub image_back : ImageWritesBack
unfolding ImageWritesBack HeaderWritesBack
image_back image h fits e is =
    let stub = stub-there image.bytes.now h.dos_header.pe_pointer h.dos_stub (strict_stub image.bytes.now h (parts_of true image.bytes.now h e)) in
    let replaced = ap (λ (i : PeImage). i.is_dos_stub_replaced) is in
    let size = ap (λ (i : PeImage). i.dos_stub_size) is in
    let there : (image_stub image).value image.bytes.now ≡ Some h.dos_stub = rw (replaced, stub.0, size) stub.1 in
    rw there (record-written image h e is ∙ (header_back image.bytes.now h fits e).1)
