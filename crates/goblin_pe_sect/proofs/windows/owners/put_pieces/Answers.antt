use Rattle.goblin_pe_sect.proofs.Stretches.{begins-among, owners-among, owners-sections}
use Rattle.goblin_pe_sect.proofs.Halving.{rising_to}
use Rattle.goblin_pe_sect.proofs.windows.owners.put_pieces.Goals as goal

pub push_pieces-requires : goal.push_pieces-requires
push_pieces-requires c = rising_to c.args.begins.now c.requires.rising

pub returns-clause-begins : goal.returns-clause-begins
returns-clause-begins c =
    rw (c.in_ok-push_pieces.ensures, c.clear.ensures.items, c.deref.ensures.value) (begins-among c.in_ok-windows.windows.items c.args.begins.now)

pub returns-clause-owners : goal.returns-clause-owners
returns-clause-owners c =
    rw (c.in_ok-push_pieces.ensures, c.clear.ensures.items, c.deref.ensures.value, owners-among c.in_ok-windows.windows.items c.args.begins.now, c.in_ok-windows.ensures) (owners-sections c.args.mapping c.args.file_alignment c.args.sections.now c.args.begins.now)
