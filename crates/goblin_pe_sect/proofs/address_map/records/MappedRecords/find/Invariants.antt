-- The first section of those that are left is the first of all.
use Rattle.std.proofs.Common.{◌≡◌, ◌+◌, Bool, find, length}
use Rattle.std.specs.{Fn.FnReturnsAt, List.position_or_len}
use Rattle.readings.specs.Tests.{IsTest}
use Rattle.goblin_pe_sect.specs.SectionTable.{Section, mapped_sections}
use Rattle.goblin_pe_sect.proofs.address_map.records.MappedRecords.find.Given as goal

abbrev pub invariant-sections : goal.invariant-sections
invariant-sections g l = record {
  count : length (mapped_sections l.fn.self) ≡ l.index + length (mapped_sections l.rest);
  place : (p : Section → Bool) → IsTest (λ s. s) (FnReturnsAt g.F.Fn l.fn.test) p
      → position_or_len p (mapped_sections l.fn.self) ≡ l.index + position_or_len p (mapped_sections l.rest);
  first : (p : Section → Bool) → IsTest (λ s. s) (FnReturnsAt g.F.Fn l.fn.test) p
      → find p (mapped_sections l.fn.self) ≡ find p (mapped_sections l.rest);
}
