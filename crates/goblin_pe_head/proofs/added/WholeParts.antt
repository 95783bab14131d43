-- The parts of a header that is read as a whole, each read by itself, are its parts.
use Rattle.std.proofs.Common.{replicate, ◌≡◌, ℕ, ◌+◌, ◌≤◌, Bool, true, false, cond, nat_le, List, drop, Option, Some, None, Result, Ok, Err, refl, sym, ap, ◌∙◌, arith, inl, inr, ◌==◌, IfSome, option_map, unwrap_or}
use Rattle.std.specs.Prelude.{min}
use Rattle.std.proofs.lemmas.Bool.{leb-true}
use Rattle.goblin_base.specs.{declared.error.ErrorOf.ErrorOf, Reading.Reading, Reading.Reads}
use Rattle.goblin_base.proofs.Steps.{same_value}
use Rattle.goblin_pe_sect.specs.declared.data_directories.DataDirectories.{DataDirectories}
use Rattle.goblin_pe_sect.specs.declared.data_directories.DataDirectory.{DataDirectory}
use Rattle.goblin_pe_sect.specs.DirectoryReadings.{directories_at}
use Rattle.goblin_pe_head.specs.{CoffHeader.CoffHeader, DosHeader.DosHeader}
use Rattle.goblin_pe_head.specs.{declared.added.parts.HeaderParts.HeaderParts, PeHeader.PeHeader}
use Rattle.goblin_pe_head.specs.OptionalHeader.{OptionalHeader, StandardFields, WindowsFields64}
use Rattle.goblin_pe_head.specs.OptionalHeader.{fields_size}
use Rattle.goblin_pe_head.specs.added.HeaderParts.{AreOfHeader, AreOfWhole, ArePartsOf, coff_part, directories_front, optional_part, placed_coff, standard_front, zero_windows_fields, windows_front}
use Rattle.goblin_pe_head.specs.HeaderReadings.{dos_header, optional_at, optional_header, pe_header}
use Rattle.goblin_pe_head.proofs.OptionalParts.{IsOptionalOf, optional_of}
use Rattle.goblin_pe_head.proofs.PeHeaderRoundTrip.{IsHeaderOf, parts_of}

-- ---- the optional header

tested : {A : Type 0} (b : Bool) (o : Option A) (x : A) → cond b o None ≡ Some x → b ≡ true
tested true o x e = refl
tested false o x e = absurd cc

few : (count p : ℕ) (bytes : List ℕ) (entries : List (Option (ℕ × DataDirectory))) → (directories_at count p).value bytes ≡ Some entries → count ≤ 16
unfolding directories_at
few count p bytes entries e = leb-true count 16 (tested (nat_le count 16) _ entries e)

-- its parts, each by itself
record AreFrontOf (bytes : List ℕ) (h : OptionalHeader) : Type 0 where
  standard : standard_front.value bytes ≡ Some h.standard_fields
  windows : windows_front.value bytes ≡ Some h.windows_fields
  directories : directories_front.value bytes ≡ Some h.data_directories.data_directories

by_magic : (magic : ℕ) (bytes : List ℕ) (x : OptionalHeader × ℕ) → IsOptionalOf magic bytes x → AreFrontOf bytes x.0
unfolding standard_front windows_front directories_front directories_at
by_magic magic bytes x is =
    let count = x.0.windows_fields.number_of_rva_and_sizes in
    let most = few count (fields_size magic) bytes x.0.data_directories.data_directories is.directories in
    let least : min count 16 ≡ count = omega (arith, most) in
    record { standard = rw is.front is.standard; windows = rw is.front is.windows; directories = rw (is.front, is.windows, least) is.directories }

front : (bytes : List ℕ) (x : OptionalHeader × ℕ) → optional_header.value bytes ≡ Some x → AreFrontOf bytes x.0
front bytes x e = elim (optional_of bytes x e) [ inl is ↦ by_magic 0x10B bytes x is | inr is ↦ by_magic 0x20B bytes x is ]

-- ---- the parts of a header

placed : (strict : Bool) (bytes : List ℕ) (h : PeHeader) → IsHeaderOf strict bytes h → placed_coff.value bytes ≡ Some (h.dos_header.pe_pointer + 24, h.coff_header)
unfolding placed_coff
placed strict bytes h is = rw (is.dos, is.coff) refl

-- where the COFF header of a header that is read as a whole lies
pub whole_placed : (strict : Bool) (bytes : List ℕ) (h : PeHeader) → (pe_header strict).value bytes ≡ Some h
    → placed_coff.value bytes ≡ Some (h.dos_header.pe_pointer + 24, h.coff_header)
whole_placed strict bytes h e = placed strict bytes h (parts_of strict bytes h e)

-- what is read of a part, if the whole is read unless there is none
read_part : {A : Type 0} (none : Bool) (whole : Option (OptionalHeader × ℕ)) (own : Option A) (part : OptionalHeader → A) (o : Option OptionalHeader)
    → ((x : OptionalHeader × ℕ) → whole ≡ Some x → own ≡ Some (part x.0)) → cond none (Some None) (option_map (λ (x : OptionalHeader × ℕ). Some x.0) whole) ≡ Some o
    → cond none (Some None) (option_map (λ (x : A). Some x) own) ≡ Some (option_map part o)
read_part true whole own part o each e = ap (λ (o : Option OptionalHeader). Some (option_map part o)) (same_value None o e)
read_part false None own part o each e = absurd cc
read_part false (Some x) own part o each e = rw (each x refl) (ap (λ (o : Option OptionalHeader). Some (option_map part o)) (same_value (Some x.0) o e))

in_header : {A : Type 0} (read : Reading A) (part : OptionalHeader → A) (strict : Bool) (bytes : List ℕ) (h : PeHeader) → IsHeaderOf strict bytes h
    → ((bytes : List ℕ) (x : OptionalHeader × ℕ) → optional_header.value bytes ≡ Some x → read.value bytes ≡ Some (part x.0))
    → (optional_part read).value bytes ≡ Some (option_map part h.optional_header)
unfolding optional_at
in_header read part strict bytes h is each =
    let own = drop (h.dos_header.pe_pointer + 24) bytes in
    rw (placed strict bytes h is) (read_part (h.coff_header.size_of_optional_header == 0) (optional_header.value own) (read.value own) part h.optional_header (each own) is.optional)

-- ---- what is read of them

-- a reader's answer, by the value
record IsAnswered {X Y : Type 0} (view : X → Y) (r : Result X ErrorOf) (y : Y) : Type 0 where
  value : X
  is : r ≡ Ok value
  made : view value ≡ y

answered : {X Y : Type 0} (view : X → Y) (r : Result X ErrorOf) (reading : Reading Y) (bytes : List ℕ) (y : Y) → Reads view r reading bytes → reading.value bytes ≡ Some y
    → IsAnswered view r y
answered view (Ok x) reading bytes y reads e = record { value = x; is = refl; made = same_value (view x) y (sym reads ∙ e) }
answered view (Err error) reading bytes y reads e = absurd (cc (reads.0, e))

-- an optional header is made of its parts
remade : (o : Option OptionalHeader) (s : Option StandardFields) (w : Option WindowsFields64) (d : Option DataDirectories)
    → s ≡ option_map (λ h. h.standard_fields) o → w ≡ option_map (λ h. h.windows_fields) o
    → option_map (λ d. d.data_directories) d ≡ option_map (λ h. h.data_directories.data_directories) o
    → option_map (λ standard. record { standard_fields = standard; windows_fields = unwrap_or w zero_windows_fields; data_directories = unwrap_or d (record { data_directories = replicate 16 None }) }) s ≡ o
remade None s w d es ew ed = rw es refl
remade (Some h) s w None es ew ed = absurd cc
remade (Some h) s w (Some d) es ew ed =
    let same = same_value d.data_directories h.data_directories.data_directories ed in
    let made : List (Option (ℕ × DataDirectory)) → Option OptionalHeader = λ entries. Some (record { standard_fields = h.standard_fields; windows_fields = h.windows_fields; data_directories = record { data_directories = entries } }) in
    rw (es, ew) (ap made same)

of_header : (bytes : List ℕ) (parts : HeaderParts) → ArePartsOf bytes parts → (strict : Bool) (h : PeHeader) → (pe_header strict).value bytes ≡ Some h → AreOfHeader h parts
of_header bytes parts are strict h e =
    let is = parts_of strict bytes h e in
    let dos = answered (λ h. h) parts.dos_header dos_header bytes h.dos_header are.dos_header is.dos in
    let coff = answered (λ h. h) parts.coff_header coff_part bytes h.coff_header are.coff_header (ap (option_map (λ placed. placed.1)) (placed strict bytes h is)) in
    let standard = answered (λ f. f) parts.standard_fields (optional_part standard_front) bytes _ are.standard_fields (in_header standard_front (λ h. h.standard_fields) strict bytes h is (λ own x e. (front own x e).standard)) in
    let windows = answered (λ f. f) parts.windows_fields (optional_part windows_front) bytes _ are.windows_fields (in_header windows_front (λ h. h.windows_fields) strict bytes h is (λ own x e. (front own x e).windows)) in
    let directories = answered (option_map (λ d. d.data_directories)) parts.data_directories (optional_part directories_front) bytes _ are.data_directories
    (in_header directories_front (λ h. h.data_directories.data_directories) strict bytes h is (λ own x e. (front own x e).directories)) in
    record {
      dos = dos.is ∙ ap (λ (h : DosHeader). Ok h) dos.made;
      coff = coff.is ∙ ap (λ (h : CoffHeader). Ok h) coff.made;
      optional = rw (standard.is, windows.is, directories.is) (remade h.optional_header standard.value windows.value directories.value standard.made windows.made directories.made);
    }

where_some : {A : Type 0} (o : Option A) (Holds : A → Type 0) → ((x : A) → o ≡ Some x → Holds x) → IfSome o Holds
where_some None Holds each = tt
where_some (Some x) Holds each = each x refl

pub whole_parts : (bytes : List ℕ) (parts : HeaderParts) → ArePartsOf bytes parts → AreOfWhole bytes parts
whole_parts bytes parts are strict =
    where_some ((pe_header strict).value bytes) (λ h. AreOfHeader h parts) (of_header bytes parts are strict)
