use Rattle.std.proofs.Common.{◌∙◌}
use Rattle.goblin_pe_sect.proofs.Stretches.{find-met}
use Rattle.goblin_pe_sect.proofs.windows.owners.nearby.Goals as goal

pub returns : goal.returns
returns c =
    λ rva low high. rw c.in_ok-near.ensures (find-met c.args.first c.args.last rva low high c.up_to_cover.result.now ∙ c.up_to_cover.ensures rva low high)
