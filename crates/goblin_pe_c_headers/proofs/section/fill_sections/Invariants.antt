-- The rows so far fill the records.
use Rattle.goblin_pe_c_headers.specs.Sections.{row_model, section_rows}
use Rattle.goblin_pe_c_headers.proofs.GivenOnward.{AtRow}
use Rattle.goblin_pe_c_headers.proofs.section.fill_sections.Given as goal

abbrev pub invariant-records : goal.invariant-records
invariant-records l = AtRow row_model (section_rows l.image l.headers) l.initial.position l.initial.records l.index l.records l.count
