-- The pieces of the address space with their owners, as made from the windows of sections.
use Rattle.std.specs.Prelude.{ℕ, ◌≡◌, List, map}
use Rattle.goblin_pe_sect.specs.declared.options.Mapping.{Mapping}
use Rattle.goblin_pe_sect.specs.{declared.windows.bounds.Piece.Piece, SectionTable.Section}
use Rattle.goblin_pe_sect.specs.WindowIndex.{AreNear, IsCut, begins_of, first_owner, owners_of}

-- the pieces are those of the sections' windows; each has what is kept of the first section whose
-- window covers it
pub record IsDivision (mapping : Mapping) (sections : List Section) (alignment : ℕ)
    (pieces : List Piece) : Type 0 where
  pub cut : IsCut mapping.view sections alignment (begins_of pieces)
  pub near : AreNear mapping.view sections alignment
  pub owned : owners_of pieces ≡ map (first_owner mapping sections alignment) (begins_of pieces)
