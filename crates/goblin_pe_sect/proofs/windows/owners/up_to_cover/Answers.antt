use Rattle.std.proofs.Common.{◌≡◌, Some, position}
use Rattle.goblin_pe_sect.specs.WindowStretches.{window_covers}
use Rattle.goblin_pe_sect.proofs.Stretches.{find-covered}
use Rattle.goblin_pe_sect.proofs.windows.owners.up_to_cover.Goals as goal

pub returns-in-Some : goal.returns-in-Some
returns-in-Some c =
    let at : position (window_covers c.args.first c.args.last) c.args.windows.now ≡ Some c.in-Some.place = cc (c.cover_place.ensures, c.in-Some.is) in
    λ rva low high. rw c.split_at.ensures.front (find-covered c.args.first c.args.last rva low high c.args.windows.now c.in-Some.place at)
