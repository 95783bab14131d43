use Rattle.std.proofs.Common.{◌≡◌, ◌++◌, map, take}
use Rattle.goblin_pe_sect.specs.WindowStretches.{piece_among}
use Rattle.goblin_pe_sect.proofs.windows.owners.push_each_piece.Given as goal

abbrev pub invariant-pieces : goal.invariant-pieces
invariant-pieces l =
    l.pieces.items ≡ l.fn.pieces.items ++ map (piece_among l.fn.windows) (take l.begin-index l.fn.begins)
