use Rattle.std.proofs.Common.{◌≡◌, take}
use Rattle.goblin_pe_sect.specs.SectionTable.{mapped_sections}
use Rattle.goblin_pe_sect.proofs.added.record_map.listed.Given as goal

abbrev pub invariant-records : goal.invariant-records
invariant-records l = l.sections.items ≡ take l.i (mapped_sections l.records)
