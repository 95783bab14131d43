use Rattle.std.proofs.Common.{◌≤◌, Some, arith, refl}
use Rattle.goblin_pe_import.proofs.LookupWalk.{rest-kept, rest-start}
use Rattle.goblin_pe_import.proofs.PassedSlots.{passed-kept}
use Rattle.goblin_pe_import.specs.ImportEntries.{entry_slots}
use Rattle.readings.proofs.Walks.{stop-next}
use Rattle.goblin_pe_import.proofs.added.ascii.ascii_kept.Goals as goal

pub returns-clause-steps : goal.returns-clause-steps
returns-clause-steps g c =
    let wide : 1 ≤ g.T.Bitfield.format.width = omega (arith, c.size_of.ensures.width, c.size_of.ensures.positive) in
    rw (c.saturating_sub.ensures, c.size_of.ensures.width) (rest-kept _ _ _ _ _ (Some c.args.place) c.args.place (rest-start _ _ _ _ _ _ _ refl) wide _ c.in-Some.ensures.0 c.in-Some.ensures.1 (Some c.in-Some-ascii_entry.entry) c.in-Some-ascii_entry.ensures c.in-Some-ascii_entry.entry refl)

pub returns-clause-counted : goal.returns-clause-counted
returns-clause-counted g c =
    let wide : 1 ≤ g.T.Bitfield.format.width = omega (arith, c.size_of.ensures.width, c.size_of.ensures.positive) in
    stop-next (entry_slots g.T.Bitfield.format) c.args.bytes.now c.args.place wide _ c.in-Some.ensures.0 c.in-Some.ensures.1

pub returns-clause-passed : goal.returns-clause-passed
returns-clause-passed g c k =
    let wide : 1 ≤ g.T.Bitfield.format.width = omega (arith, c.size_of.ensures.width, c.size_of.ensures.positive) in
    passed-kept _ _ _ _ c.args.place wide _ c.in-Some.ensures.0 c.in-Some.ensures.1 (Some c.in-Some-ascii_entry.entry) c.in-Some-ascii_entry.ensures c.in-Some-ascii_entry.entry refl k
