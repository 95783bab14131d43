use Rattle.std.proofs.Common.{sym, ◌∙◌, arith}
use Rattle.goblin_base.proofs.SlotFootprints.{positions-none, stretch-is, stretch-none}
use Rattle.goblin_base.proofs.read.text_end.Goals as goal

pub returns-then-bytes-offset : goal.returns-then-bytes-offset
returns-then-bytes-offset c =
    let p = c.args.offset in
    positions-none p p (omega arith)
    ∙ sym (stretch-none c.args.bytes.now p (omega (arith, c.if-bytes-offset.true)))

pub returns : goal.returns
returns c =
    stretch-is c.args.bytes.now c.args.offset c.min.result c.before_nul.result.now c.before_nul.ensures c.min.ensures
