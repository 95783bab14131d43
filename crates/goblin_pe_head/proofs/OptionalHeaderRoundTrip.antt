-- An optional header that was read is written as its bytes, with the missing directories after them.
use Rattle.std.proofs.Common.{◌≡◌, ℕ, ◌+◌, ◌-◌, ◌*◌, ◌^◌, ◌≤◌, ◌<◌, List, [], ◌++◌, take, drop, replicate, length, Option, Some, refl, sym, ap, ◌∙◌, subst, inl, inr, IfSome, slice_range, lt-ltb, append-nil, mod-eq_of_lt}
use Rattle.goblin_base.specs.declared.endian.Endian.TheVariants.{Little}
use Rattle.goblin_base.specs.Bytes.{IsBytes, number, slice_at}
use Rattle.goblin_base.specs.Record.{FieldValue, encoding, record_at}
use Rattle.goblin_base.proofs.RecordRoundTrip.{IsBytes-slice, front_more, number-lt, slice-is}
use Rattle.goblin_base.proofs.{Numbers.slice_at-some, Records.record_at-some, Steps.mapped}
use Rattle.goblin_pe_sect.specs.declared.data_directories.DataDirectory.{DataDirectory}
use Rattle.goblin_pe_sect.specs.{DataDirectories.entries_fields, DirectoryReadings.directories_at}
use Rattle.goblin_pe_sect.proofs.DataDirectoriesRoundTrip.{entries_back}
use Rattle.goblin_pe_head.specs.OptionalHeader.{StandardFields32, StandardFields64, WindowsFields32, WindowsFields64, OptionalHeader, optional_bytes, standard_32_fields, standard_32_record, standard_64_fields, standard_64_record, standard_from_32, standard_from_64, standard_to_32, standard_to_64, as_windows_32, windows_32_fields, windows_32_record, windows_record_fields, windows_record, windows_to_32}
use Rattle.goblin_pe_head.specs.HeaderReadings.{optional_header, standard_by, windows_by}
use Rattle.goblin_pe_head.specs.OptionalHeaderLaws.{optional_header-within}
use Rattle.goblin_pe_head.specs.HeaderLaws.{OptionalWritesBack, filling, optional_size}
use Rattle.goblin_pe_head.proofs.OptionalParts.{IsOptionalOf, magic_32, magic_64, optional_of}
use Rattle.goblin_pe_head.proofs.RecordRoundTrips.{standard_32_back, standard_64_back, windows_4_back, windows_64_back}

-- a field of four bytes fits 32 bits
pub four-bytes : (own : List ℕ) (p : ℕ) → IsBytes own → number Little 4 own p < 2 ^ 32
four-bytes own p h = number-lt Little 4 own p h

-- what was widened is narrowed to what it was
standard_32-same : (own : List ℕ) → IsBytes own → standard_to_32 (standard_from_32 (standard_32_record Little own)) ≡ standard_32_record Little own
unfolding standard_to_32 standard_from_32
standard_32-same own h = rw (mod-eq_of_lt (four-bytes own 4 h), mod-eq_of_lt (four-bytes own 8 h), mod-eq_of_lt (four-bytes own 12 h), mod-eq_of_lt (four-bytes own 20 h)) refl

standard_64-same : (own : List ℕ) → IsBytes own → standard_to_64 (standard_from_64 (standard_64_record Little own)) ≡ standard_64_record Little own
unfolding standard_to_64 standard_from_64
standard_64-same own h = rw (mod-eq_of_lt (four-bytes own 4 h), mod-eq_of_lt (four-bytes own 8 h), mod-eq_of_lt (four-bytes own 12 h), mod-eq_of_lt (four-bytes own 20 h)) refl

windows_32-same : (own : List ℕ) → IsBytes own → windows_to_32 (windows_record 4 Little own) ≡ Some (windows_32_record Little own)
unfolding windows_to_32
windows_32-same own h = rw (lt-ltb _ _ (four-bytes own 0 h), lt-ltb _ _ (four-bytes own 44 h), lt-ltb _ _ (four-bytes own 48 h), lt-ltb _ _ (four-bytes own 52 h), lt-ltb _ _ (four-bytes own 56 h)) refl

form_32 : (h : OptionalHeader) (s : StandardFields32) (w : WindowsFields32) → h.standard_fields.magic ≡ 0x10B → standard_to_32 h.standard_fields ≡ s → windows_to_32 h.windows_fields ≡ Some w
    → optional_bytes Little h ≡ Some (encoding Little (standard_32_fields s) ++ (encoding Little (windows_32_fields w) ++ (encoding Little (entries_fields h.data_directories.data_directories) ++ [])))
unfolding optional_bytes
form_32 h s w magic standard windows = rw (standard, windows, magic) refl

form_64 : (h : OptionalHeader) (s : StandardFields64) → h.standard_fields.magic ≡ 0x20B → standard_to_64 h.standard_fields ≡ s
    → optional_bytes Little h ≡ Some (encoding Little (standard_64_fields s) ++ (encoding Little (windows_record_fields 8 h.windows_fields) ++ (encoding Little (entries_fields h.data_directories.data_directories) ++ [])))
unfolding optional_bytes
form_64 h s magic standard = rw (standard, magic) refl

-- the bytes of a record that was read are those at its place
record_bytes-are : {R : Type 0} (size : ℕ) (value : List ℕ → R) (fields : R → List FieldValue) (bytes : List ℕ) (p : ℕ) (r : R)
    → ((bytes : List ℕ) (p : ℕ) (r : R) → IsBytes bytes → record_at size value bytes p ≡ Some r → slice_at bytes p size ≡ Some (encoding Little (fields r)))
    → IsBytes bytes → record_at size value bytes p ≡ Some r → encoding Little (fields r) ≡ take size (drop p bytes)
record_bytes-are size value fields bytes p r back h e =
    (slice_at-some bytes p size (encoding Little (fields r)) (back bytes p r h e)).value ∙ slice-is bytes p size

-- three pieces that follow one another
pieces : (bytes : List ℕ) (n m k : ℕ) (first second third zeros : List ℕ) → first ≡ take n bytes → second ≡ take m (drop n bytes) → third ≡ take k (drop (n + m) bytes) ++ zeros
    → first ++ (second ++ (third ++ [])) ≡ take (n + m + k) bytes ++ zeros
pieces bytes n m k first second third zeros a b c =
    ap (λ (xs : List ℕ). xs ++ (second ++ (third ++ []))) a
    ∙ front_more bytes n m second (third ++ []) b
    ∙ ap (λ (xs : List ℕ). take (n + m) bytes ++ xs) (append-nil third ∙ c)
    ∙ front_more bytes (n + m) k (take k (drop (n + m) bytes)) zeros refl

-- what is known of an optional header that was read
abbrev IsForm : List ℕ → OptionalHeader → ℕ → Type 0
IsForm bytes h n = (n ≡ optional_size h) × (optional_bytes Little h ≡ Some (take n bytes ++ filling h))

entries-are : (bytes : List ℕ) (count p : ℕ) (entries : List (Option (ℕ × DataDirectory))) → IsBytes bytes → (directories_at count p).value bytes ≡ Some entries
    → encoding Little (entries_fields entries) ≡ take (8 * count) (drop p bytes) ++ replicate (8 * (16 - count)) 0
entries-are bytes count p entries h e = entries_back count bytes p entries h e ∙ ap (λ (xs : List ℕ). xs ++ replicate (8 * (16 - count)) 0) (slice-is bytes p (8 * count))

narrow : (bytes : List ℕ) (x : OptionalHeader × ℕ) → IsBytes bytes → IsOptionalOf 0x10B bytes x → IsForm bytes x.0 x.1
unfolding standard_by windows_by
narrow bytes x h is =
    let header = x.0 in
    let count = header.windows_fields.number_of_rva_and_sizes in
    let entries = header.data_directories.data_directories in
    let s = mapped (record_at 28 (standard_32_record Little) bytes 0) standard_from_32 header.standard_fields is.standard in
    let s_is = (record_at-some 28 (standard_32_record Little) bytes 0 s.value s.is).is in
    let w_is = (record_at-some 68 (windows_record 4 Little) bytes 28 header.windows_fields is.windows).is in
    let standard : standard_to_32 header.standard_fields ≡ s.value =
    ap standard_to_32 (sym s.made) ∙ ap (λ (x : StandardFields32). standard_to_32 (standard_from_32 x)) s_is ∙ standard_32-same (slice_range bytes 0 (0 + 28)) (IsBytes-slice bytes 0 28 h) ∙ sym s_is in
    let windows : windows_to_32 header.windows_fields ≡ Some (as_windows_32 header.windows_fields) =
    ap windows_to_32 w_is ∙ windows_32-same (slice_range bytes 28 (28 + 68)) (IsBytes-slice bytes 28 68 h) ∙ ap (λ (x : WindowsFields64). Some (as_windows_32 x)) (sym w_is) in
    let magic = magic_32 bytes x is in (
      rw magic (sym is.size),
      form_32 header s.value (as_windows_32 header.windows_fields) magic standard windows
          ∙ ap (λ (xs : List ℕ). Some xs) (pieces bytes 28 68 (8 * count) (encoding Little (standard_32_fields s.value)) (encoding Little (windows_record_fields 4 header.windows_fields)) (encoding Little (entries_fields entries)) (filling header)
          (record_bytes-are 28 (standard_32_record Little) standard_32_fields bytes 0 s.value (standard_32_back Little) h s.is)
          (record_bytes-are 68 (windows_record 4 Little) (windows_record_fields 4) bytes 28 header.windows_fields (windows_4_back Little) h is.windows)
          (entries-are bytes count 96 entries h is.directories))
          ∙ ap (λ (n : ℕ). Some (take n bytes ++ filling header)) is.size,
    )

wide : (bytes : List ℕ) (x : OptionalHeader × ℕ) → IsBytes bytes → IsOptionalOf 0x20B bytes x → IsForm bytes x.0 x.1
unfolding standard_by windows_by
wide bytes x h is =
    let header = x.0 in
    let count = header.windows_fields.number_of_rva_and_sizes in
    let entries = header.data_directories.data_directories in
    let s = mapped (record_at 24 (standard_64_record Little) bytes 0) standard_from_64 header.standard_fields is.standard in
    let s_is = (record_at-some 24 (standard_64_record Little) bytes 0 s.value s.is).is in
    let standard : standard_to_64 header.standard_fields ≡ s.value =
    ap standard_to_64 (sym s.made) ∙ ap (λ (x : StandardFields64). standard_to_64 (standard_from_64 x)) s_is ∙ standard_64-same (slice_range bytes 0 (0 + 24)) (IsBytes-slice bytes 0 24 h) ∙ sym s_is in
    let magic = magic_64 bytes x is in (
      rw magic (sym is.size),
      form_64 header s.value magic standard
          ∙ ap (λ (xs : List ℕ). Some xs) (pieces bytes 24 88 (8 * count) (encoding Little (standard_64_fields s.value)) (encoding Little (windows_record_fields 8 header.windows_fields)) (encoding Little (entries_fields entries)) (filling header)
          (record_bytes-are 24 (standard_64_record Little) standard_64_fields bytes 0 s.value (standard_64_back Little) h s.is)
          (record_bytes-are 88 (windows_record 8 Little) (windows_record_fields 8) bytes 24 header.windows_fields (windows_64_back Little) h is.windows)
          (entries-are bytes count 112 entries h is.directories))
          ∙ ap (λ (n : ℕ). Some (take n bytes ++ filling header)) is.size,
    )

within : (bytes : List ℕ) (h : OptionalHeader) (n : ℕ) → optional_header.value bytes ≡ Some (h, n) → n ≤ length bytes
within bytes h n e = subst (λ (o : Option (OptionalHeader × ℕ)). IfSome o (λ x. x.1 ≤ length bytes)) e (optional_header-within bytes)

pub optional_back : OptionalWritesBack
unfolding OptionalWritesBack
optional_back bytes h n fits e =
    let form : IsForm bytes h n = elim (optional_of bytes (h, n) e) [ inl is ↦ narrow bytes (h, n) fits is | inr is ↦ wide bytes (h, n) fits is ] in
    (form.0, within bytes h n e, form.1)
