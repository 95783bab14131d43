use Rattle.std.proofs.Common.{List, Some, ap, sym, ◌∙◌, ℕ}
use Rattle.goblin_pe_head.specs.PeHeader.{header_value}
use Rattle.goblin_pe_head.proofs.ConsistentHeaders.{consistent_again}
use Rattle.goblin_pe_head.proofs.header.pe_header.Header.try_into_ctx.Goals as goal

pub returns-clause-itself : goal.returns-clause-itself
returns-clause-itself c =
    consistent_again c.args.endian c.args.bytes.now c.put.new.bytes c.as_slice-optional.result.now (header_value c.args.self)
    (c.in_ok-optional.ensures.made ∙ ap (λ (xs : List ℕ). Some xs) (sym c.as_slice-optional.ensures.value)) c.put.ensures.written
    c.put.ensures.dos c.put.ensures.coff c.in_ok-optional.ensures.again
