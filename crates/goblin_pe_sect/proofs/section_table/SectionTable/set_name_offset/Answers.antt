use Rattle.std.proofs.Common.{sym}
use Rattle.goblin_pe_sect.proofs.SectionNameRoundTrip.{name_back}
use Rattle.goblin_pe_sect.proofs.section_table.SectionTable.set_name_offset.Goals as goal

pub returns-clause-says : goal.returns-clause-says
returns-clause-says c strict = name_back strict c.args.idx c.in-Some.name (sym c.in-Some.ensures.value)
