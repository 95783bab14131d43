use Rattle.std.proofs.Common.{length}
use Rattle.goblin_pe_sect.proofs.windows.owners.+push_pieces.Given as goal

abbrev pub decreases-push_pieces : goal.decreases-push_pieces
decreases-push_pieces l = length l.begins.now
