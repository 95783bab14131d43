-- Tables of sections that differ only in the order of the sections.
use Rattle.std.specs.Prelude.{IsTrue, ℕ, List, AllPairs, IsPermutation}
use Rattle.std.specs.Int.{is_power_of_two}
use Rattle.goblin_pe_sect.specs.{declared.options.View.View, SectionTable.Section}
use Rattle.goblin_pe_sect.specs.Mapping.{InWindow}

-- no address lies in the windows of both sections
abbrev pub HaveDisjointWindows : View → ℕ → Section → Section → Type 0
HaveDisjointWindows view alignment s t =
    (rva : ℕ) → InWindow view alignment rva s → ¬ InWindow view alignment rva t

-- The second table has the sections of the first, in any order, and the windows of any two sections
-- are disjoint. If the alignment is not a power of two, there are no windows.
pub record IsReordering (view : View) (alignment : ℕ)
    (first second : List Section) : Type 0 where
  pub moved : IsPermutation first second
  pub apart : IsTrue (is_power_of_two alignment)
      → AllPairs (HaveDisjointWindows view alignment) first
