use Rattle.std.proofs.Common.{◌≡◌, ◌+◌, None, length}
use Rattle.goblin_pe_sect.specs.SectionTable.{mapped_sections}
use Rattle.goblin_pe_c_headers.specs.Addresses.{mapped_model}
use Rattle.goblin_pe_c_headers.proofs.Holders.{left}
use Rattle.goblin_pe_c_headers.proofs.memory.holder.Given as goal

abbrev pub invariant-sections : goal.invariant-sections
invariant-sections l = record {
  count : length (mapped_sections l.fn.mapped.records) ≡ l.index + length (mapped_sections l.rest);
  same : left (mapped_model l.fn.mapped) l.fn.rva 0 None (mapped_sections l.fn.mapped.records) ≡ left (mapped_model l.fn.mapped) l.fn.rva l.index l.first (mapped_sections l.rest);
}
