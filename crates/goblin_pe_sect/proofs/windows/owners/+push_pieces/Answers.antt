use Rattle.std.proofs.Common.{◌/◌, length}
use Rattle.goblin_pe_sect.proofs.Stretches.{halves}
use Rattle.goblin_pe_sect.proofs.windows.owners.+push_pieces.Goals as goal

pub returns : goal.returns
returns t c =
    rw (c.in_ok-push_pieces-2.ensures, c.in_ok-push_pieces.ensures, c.deref-2.ensures.value, c.deref.ensures.value, c.split_at.ensures.front, c.split_at.ensures.back) (halves c.args.windows.now c.in_ok-near.near.items c.args.begins.now c.args.pieces.now.items (length c.args.begins.now / 2) c.requires c.in_ok-near.ensures)
