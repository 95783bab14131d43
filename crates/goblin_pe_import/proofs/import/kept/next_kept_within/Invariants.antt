use Rattle.std.proofs.Common.{◌≡◌, ◌≤◌, length, ◌-◌, Some}
use Rattle.goblin_pe_sect.specs.Addresses.{map_of, reads_strictly}
use Rattle.goblin_pe_import.specs.Steps.{AreCounted, HasNotGrown, slots_ahead}
use Rattle.goblin_pe_import.specs.Passed.{Count, HasRisen, count_of, entries_ahead}
use Rattle.goblin_pe_import.proofs.LookupWalk.{AtRest}
use Rattle.goblin_pe_import.proofs.import.kept.next_kept_within.Given as goal

abbrev pub invariant-slots : goal.invariant-slots
invariant-slots g l =
    let format = g.T.Bitfield.format in
    let before = slots_ahead format l.fn.bytes l.initial.place in
    let ahead = slots_ahead format l.fn.bytes (Some l.at) in
    let passed = entries_ahead (reads_strictly (map_of l.initial.finder)) format (map_of l.initial.finder).addressing l.fn.bytes in
    AtRest (reads_strictly (map_of l.initial.finder)) format (map_of l.initial.finder).addressing
    l.fn.bytes l.fn.offset l.initial.place l.at
    × (l.finder ≡ l.initial.finder)
    × AreCounted l.initial.steps l.steps before ahead
    × (ahead ≤ before)
    × HasNotGrown l.initial.steps l.steps
    × ((k : Count)
    → HasRisen (count_of k l.initial.passed) (count_of k l.passed) (passed k l.initial.place)
    (passed k (Some l.at)))

abbrev pub decreases-slots : goal.decreases-slots
decreases-slots g l = length l.fn.bytes - l.at
