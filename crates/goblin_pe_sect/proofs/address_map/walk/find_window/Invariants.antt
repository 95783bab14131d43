-- The windows so far lie before the addresses from `low` up to `high`, among which the address is, or
-- after them.
use Rattle.std.proofs.Common.{◌≡◌, length}
use Rattle.goblin_pe_sect.specs.SectionTable.{mapped_sections}
use Rattle.goblin_pe_sect.proofs.Walked.{IsLeft}
use Rattle.goblin_pe_sect.proofs.address_map.walk.find_window.Given as goal

abbrev pub invariant-records : goal.invariant-records
invariant-records l = record {
  is : IsLeft l.mapping l.file_alignment (mapped_sections l.fn.records) (mapped_sections l.rest) l.rva l.low l.high;
  same : l.run ≡ l.fn.run;
}

abbrev pub decreases-records : goal.decreases-records
decreases-records l = length (mapped_sections l.rest)
