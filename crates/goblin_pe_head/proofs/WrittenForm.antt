-- The written form of a header.
use Rattle.std.proofs.Common.{◌≡◌, ℕ, ◌+◌, List, [], ◌∷◌, ◌++◌, length, arith, length-append}
use Rattle.goblin_base.specs.declared.endian.Endian.{Endian}
use Rattle.goblin_base.specs.declared.endian.Endian.TheVariants.{Little}
use Rattle.goblin_base.specs.Record.{encoding, uint}
use Rattle.goblin_base.proofs.Writing.{length_encoding}
use Rattle.goblin_pe_head.specs.{CoffHeader.coff_fields, DosHeader.dos_fields}
use Rattle.goblin_pe_head.specs.PeHeader.{PeHeader, header_parts}

length-dos : (endian : Endian) (h : PeHeader) → length (encoding endian (dos_fields h.dos_header)) ≡ 64
length-dos endian h = length_encoding endian (dos_fields h.dos_header)

length-coff : (endian : Endian) (h : PeHeader) → length (encoding endian (coff_fields h.coff_header)) ≡ 20
length-coff endian h = length_encoding endian (coff_fields h.coff_header)

-- how many bytes the parts of a header take
pub length_header_parts : (endian : Endian) (h : PeHeader) (optional : List ℕ) → length (header_parts endian h optional) ≡ 88 + length h.dos_stub + length optional
unfolding header_parts
length_header_parts endian h optional =
    let dos = encoding endian (dos_fields h.dos_header) in
    let signature = encoding Little (uint 4 h.signature ∷ []) in
    let coff = encoding endian (coff_fields h.coff_header) in
    omega (
      arith,
      length-append dos (h.dos_stub ++ (signature ++ (coff ++ (optional ++ [])))),
      length-append h.dos_stub (signature ++ (coff ++ (optional ++ []))),
      length-append signature (coff ++ (optional ++ [])),
      length-append coff (optional ++ []),
      length-append optional [],
      length-dos endian h,
      length_encoding Little (uint 4 h.signature ∷ []),
      length-coff endian h,
    )
