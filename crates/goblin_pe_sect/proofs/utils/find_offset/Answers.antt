use Rattle.goblin_pe_sect.specs.Options.{mapping_by}
use Rattle.goblin_pe_sect.proofs.Mapped.{file_offset_injective}
use Rattle.goblin_pe_sect.proofs.utils.find_offset.Goals as goal

pub returns-clause-apart : goal.returns-clause-apart
returns-clause-apart c = file_offset_injective (mapping_by c.args.opts.now) c.args.sections.now c.args.file_alignment
