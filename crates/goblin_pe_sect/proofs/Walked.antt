-- A walk over the windows of sections, and the addresses that the section where it ends owns.
use Rattle.std.proofs.Common.{◌≡◌, ℕ, ◌<◌, ◌≤◌, Bool, true, cond, max, min, IsTrue, List, [], ◌∷◌, Some, None, find, ap, ◌∙◌, refl, arith, rules}
use Rattle.std.specs.Int.{is_power_of_two}
use Rattle.goblin_pe_sect.specs.Mapping.{InWindow, ends_in, file_offset, file_place, is_in_window, mapped_end, offset_in, window_bytes_end, window_end}
use Rattle.goblin_base.specs.Parts.{end_or_none}
use Rattle.goblin_pe_sect.specs.declared.address_map.run.Place.{Place}
use Rattle.goblin_pe_sect.specs.{SectionTable.Section, declared.options.Mapping.Mapping}
use Rattle.goblin_pe_sect.proofs.Mapped.{window_test, window_test_fails}

-- the address is among those from `low` up to `high`, which the sections that are left hold as all sections do
pub record IsLeft (mapping : Mapping) (alignment : ℕ) (sections left : List Section) (rva low high : ℕ) : Type 0 where
  pub from : low ≤ rva
  pub to : rva < high
  pub same : (other : ℕ) → low ≤ other → other < high → find (is_in_window mapping.view alignment other) sections ≡ find (is_in_window mapping.view alignment other) left

-- the place of an address in the window of a section
abbrev pub place_in : Mapping → ℕ → Section → ℕ → Place
place_in mapping alignment s rva =
    record { offset = offset_in mapping s rva; end = end_or_none (ends_in mapping.view (Some (mapped_end mapping alignment s))) }

module _ (mapping : Mapping) (alignment : ℕ) (on : IsTrue mapping.resolve_rva) (even : IsTrue (is_power_of_two alignment)) where
  -- the section that is found says the place of an address
  found_place : (sections : List Section) (rva : ℕ) (s : Section) → find (is_in_window mapping.view alignment rva) sections ≡ Some s → file_place mapping sections alignment rva ≡ Some (place_in mapping alignment s rva)
  unfolding file_offset window_bytes_end
  found_place sections rva s found =
      let mapped : mapping.resolve_rva ≡ true = search rules in
      let aligned : is_power_of_two alignment ≡ true = search rules in
      rw (mapped, aligned, found) refl

  -- and there is none where no section is found
  found_none : (sections : List Section) (rva : ℕ) → find (is_in_window mapping.view alignment rva) sections ≡ None → file_place mapping sections alignment rva ≡ None
  unfolding file_offset
  found_none sections rva found =
      let mapped : mapping.resolve_rva ≡ true = search rules in
      let aligned : is_power_of_two alignment ≡ true = search rules in
      rw (mapped, aligned, found) refl

  -- a section whose window does not hold an address is not found
  not_first : (s : Section) (later : List Section) (rva : ℕ) → ¬ InWindow mapping.view alignment rva s → find (is_in_window mapping.view alignment rva) (s ∷ later) ≡ find (is_in_window mapping.view alignment rva) later
  not_first s later rva out =
      ap (λ (b : Bool). cond b (Some s) (find (is_in_window mapping.view alignment rva) later)) (window_test_fails mapping.view alignment rva s out)

  -- and one whose window holds it is found before the others
  first : (s : Section) (later : List Section) (rva : ℕ) → InWindow mapping.view alignment rva s → find (is_in_window mapping.view alignment rva) (s ∷ later) ≡ Some s
  first s later rva holds =
      ap (λ (b : Bool). cond b (Some s) (find (is_in_window mapping.view alignment rva) later)) (window_test mapping.view alignment rva s holds)

  module _ (sections left : List Section) (rva low high : ℕ) (is : IsLeft mapping alignment sections left rva low high) where
    module _ (s : Section) (later : List Section) (next : left ≡ s ∷ later) where
      same_found : (other : ℕ) → low ≤ other → other < high → find (is_in_window mapping.view alignment other) sections ≡ find (is_in_window mapping.view alignment other) (s ∷ later)
      same_found other from to = is.same other from to ∙ ap (λ (left : List Section). find (is_in_window mapping.view alignment other) left) next

      -- a section is passed whose window ends before the address
      pub passed_before : (low' high' end : ℕ) → low' ≡ max low end → high' ≡ high → window_end mapping.view s alignment ≤ end → end ≤ rva → IsLeft mapping alignment sections later rva low' high'
      passed_before low' high' end up same before from = record {
        from = omega (arith, is.from, up, from);
        to = omega (arith, is.to, same);
        same = λ other begin to. same_found other (omega (arith, up, begin)) (omega (arith, same, to)) ∙ not_first s later other (λ holds. omega (arith, up, begin, before, holds.1));
      }

      -- and one whose window begins after it
      pub passed_after : (low' high' begin : ℕ) → low' ≡ low → high' ≡ min high begin → begin ≡ s.virtual_address → rva < begin → IsLeft mapping alignment sections later rva low' high'
      passed_after low' high' begin same down after to = record {
        from = omega (arith, is.from, same);
        to = omega (arith, is.to, down, to);
        same = λ other from end. same_found other (omega (arith, same, from)) (omega (arith, down, end)) ∙ not_first s later other (λ holds. omega (arith, down, end, after, holds.0));
      }

      -- an address between them in the next window has the place that its section says
      pub owned : (other : ℕ) → low ≤ other → other < high → s.virtual_address ≤ other → other < window_end mapping.view s alignment → file_place mapping sections alignment other ≡ Some (place_in mapping alignment s other)
      owned other from to begin end = found_place sections other s (same_found other from to ∙ first s later other (begin, end))

    -- the address has no place where no section is left
    pub owned_by_none : left ≡ [] → file_place mapping sections alignment rva ≡ None
    owned_by_none none =
        found_none sections rva (is.same rva is.from is.to ∙ ap (λ (left : List Section). find (is_in_window mapping.view alignment rva) left) none)
