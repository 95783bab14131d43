-- What was still to come is what comes from the name pointer that is looked at.
use Rattle.std.proofs.Common.{◌≡◌, ◌≤◌, max}
use Rattle.goblin_pe_export.specs.added.ExportWalks.{KeepsOver, exports_at, exports_left}
use Rattle.goblin_pe_export.proofs.added.exports.Exports.next_before.Given as goal

abbrev pub invariant-pointers : goal.invariant-pointers
invariant-pointers l = record {
  begun : l.fn.self.next ≤ l.index;
  at : l.self.next ≡ l.index;
  most : l.index ≤ max l.fn.self.next l.end;
  over : KeepsOver l.fn.self l.self;
  left : exports_left l.fn.self ≡ exports_at l.self l.index;
}
