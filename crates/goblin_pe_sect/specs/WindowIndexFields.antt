-- What an index of windows keeps.
use Rattle.std.specs.Prelude.{◌≡◌}
use Rattle.goblin_pe_sect.specs.declared.windows.WindowIndex.TheInside.{Inside}
use Rattle.goblin_pe_sect.specs.declared.windows.bounds.Bounds.TheInside.{Inside as InsideBounds}
use Rattle.goblin_pe_sect.specs.declared.windows.bounds.Piece.{Piece}

-- An index keeps only its pieces and whether it maps addresses, and a piece keeps only where it
-- begins and its owner. So indexes with the same of these are the same.
abbrev pub KeepsPiecesAlone : Type 0
KeepsPiecesAlone =
    ((v w : Inside) → v.resolves ≡ w.resolves → v.pieces ≡ w.pieces → v ≡ w)
    × ((p q : Piece) → p.begin ≡ q.begin → p.owner ≡ q.owner → p ≡ q)

-- bounds keep only their pieces
abbrev pub KeepsBoundsAlone : Type 0
KeepsBoundsAlone = (b c : InsideBounds) → b.pieces ≡ c.pieces → b ≡ c
