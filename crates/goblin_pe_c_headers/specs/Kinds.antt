-- What a file is, by its first bytes.
use Rattle.std.specs.List.{list_any}
use Rattle.std.specs.Prelude.{ℕ, Bool, false, ◌==◌, ◌&&◌, if◌then◌else◌, nat_eq, nat_le, List, []}
use Rattle.std.specs.Prelude.{◌∷◌, option_map, unwrap_or}
use Rattle.goblin_base.specs.{declared.endian.Endian.TheVariants.Little, Bytes.number_at}
use Rattle.goblin_pe_c_headers.specs.declared.kind.Kind.{Kind}
use Rattle.goblin_pe_c_headers.specs.declared.kind.Kind.TheVariants as kind

abbrev pub kind_number : Kind → ℕ
kind_number kind.Unknown = 0
kind_number kind.Image = 1
kind_number kind.Object = 2
kind_number kind.Te = 3
kind_number kind.Archive = 4
kind_number kind.ImportObject = 5
kind_number kind.BigObject = 6

-- The machines that a COFF header names, except 0, any machine.
-- Source: PE Format, "Machine Types", and of some the Windows headers.
abbrev pub machines : List ℕ
machines =
    0x184 ∷ 0x284 ∷ 0x1D3 ∷ 0x8664 ∷ 0x1C0 ∷ 0xAA64 ∷ 0x1C4 ∷ 0xEBC ∷ 0x14C ∷ 0x200 ∷ 0x6232
    ∷ 0x6264 ∷ 0x9041 ∷ 0x266 ∷ 0x366 ∷ 0x466 ∷ 0x1F0 ∷ 0x1F1 ∷ 0x166 ∷ 0x5032 ∷ 0x5064
    ∷ 0x5128 ∷ 0x1A2 ∷ 0x1A3 ∷ 0x1A6 ∷ 0x1A8 ∷ 0x1C2 ∷ 0x169 ∷ []

-- the kind by the number of the first two bytes: MZ, VZ or a machine
abbrev pub kind_with : ℕ → Kind
kind_with magic =
    if magic == 0x5A4D then kind.Image
    else if magic == 0x5A56 then kind.Te
    else if list_any (λ machine. nat_eq machine magic) machines then kind.Object
    else kind.Unknown

-- the n bytes at p are there, and are this number
abbrev pub has_number : ℕ → List ℕ → ℕ → ℕ → Bool
has_number n bytes p number =
    unwrap_or (option_map (λ found. found == number) (number_at Little n bytes p)) false

-- The identifier of big objects, {D1BAA1C7-BAEE-4BA9-AF20-FAF66AA4DCB8}, in the 16 bytes at 12.
-- Source: the Windows headers, ANON_OBJECT_HEADER_BIGOBJ.
abbrev pub is_big : List ℕ → Bool
is_big bytes =
    has_number 8 bytes 12 0x4BA9BAEED1BAA1C7 && has_number 8 bytes 20 0xB8DCA46AF6FA20AF

-- The kind by the version, of what begins with 0 and 0xFFFF.
-- Source: PE Format, "Import Header"; the Windows headers, ANON_OBJECT_HEADER.
abbrev pub anonymous_kind : List ℕ → Kind
anonymous_kind bytes =
    let version = number_at Little 2 bytes 4 in
    if has_number 2 bytes 4 0 then kind.ImportObject
    else if unwrap_or (option_map (nat_le 2) version) false && is_big bytes then kind.BigObject
    else kind.Unknown

-- the kind of a file: `!<arch>` and a line feed, 0 and 0xFFFF, or by the first two bytes, unknown
-- if they are not there
abbrev pub kind_of : List ℕ → Kind
kind_of bytes =
    if has_number 8 bytes 0 0xA3E686372613C21 then kind.Archive
    else if has_number 4 bytes 0 0xFFFF0000 then anonymous_kind bytes
    else unwrap_or (option_map kind_with (number_at Little 2 bytes 0)) kind.Unknown
