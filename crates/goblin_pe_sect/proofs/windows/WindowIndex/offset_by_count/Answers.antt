use Rattle.goblin_pe_sect.proofs.WindowPieces.{located-none, located-itself}
use Rattle.goblin_pe_sect.proofs.windows.WindowIndex.offset_by_count.Goals as goal

pub returns-then-self : goal.returns-then-self
returns-then-self c =
    located-none _ _ _ _ c.self.view_is c.args.rva _ c.requires c.if-self.true c.if-count-eq0.true

pub returns-else-self : goal.returns-else-self
returns-else-self c =
    located-itself _ _ _ _ c.self.view_is c.args.rva _ c.requires c.if-self.false
