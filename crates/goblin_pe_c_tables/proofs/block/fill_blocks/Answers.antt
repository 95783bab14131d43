use Rattle.std.proofs.Common.{arith, refl, subst, Result, Some}
use Rattle.goblin_base.specs.declared.error.ErrorOf.{ErrorOf}
use Rattle.goblin_pe_sect.specs.declared.relocation.base.RelocationBlock.{RelocationBlock}
use Rattle.goblin_pe_sect.specs.BaseRelocations.{FindsItem, relocation_bytes}
use Rattle.goblin_pe_c_tables.proofs.BlockBatches.{blocks-end, blocks-fault, blocks-full, blocks-more, blocks-refused, blocks-start}
use Rattle.goblin_pe_c_tables.proofs.block.fill_blocks.Goals as goal

pub items-init : goal.items-init
items-init c = (blocks-start c.args.begin (relocation_bytes c.args.relocations.now) c.args.position.now c.args.records.now, refl)

pub items-preserved : goal.items-preserved
items-preserved c =
    let directory = relocation_bytes c.args.relocations.now in
    let found = subst (λ (r : Result RelocationBlock ErrorOf). FindsItem directory c.items.offset (Some r)) c.in-Some-Ok.field-0-is c.in-Some-Ok.ensures.found in
    (blocks-more c.items.invariant.0 c.in-Some-Ok.block c.block_record.result _ _ found refl c.block_record.ensures c.items-test.true (omega arith), c.items.invariant.1)

pub returns-in-Some-Err : goal.returns-in-Some-Err
returns-in-Some-Err c =
    let directory = relocation_bytes c.args.relocations.now in
    let found = subst (λ (r : Result RelocationBlock ErrorOf). FindsItem directory c.items.offset (Some r)) c.in-Some-Err.field-0-is c.in-Some-Err.ensures.found in
    blocks-fault c.items.invariant.0 c.in-Some-Err.error found c.if-count-eq0.true c.items-test.true _ c.items.invariant.1

pub returns-in-Some-Err-2 : goal.returns-in-Some-Err-2
returns-in-Some-Err-2 c =
    let directory = relocation_bytes c.args.relocations.now in
    let found = subst (λ (r : Result RelocationBlock ErrorOf). FindsItem directory c.items.offset (Some r)) c.in-Some-Err.field-0-is c.in-Some-Err.ensures.found in
    rw c.goes_on.ensures (blocks-refused c.items.invariant.0 c.in-Some-Err.error found c.if-count-eq0.false)

pub returns-in-None : goal.returns-in-None
returns-in-None c =
    rw c.ended.ensures (blocks-end c.items.invariant.0 c.in-None.ensures.found c.items-test.true)

pub returns : goal.returns
returns c =
    rw c.goes_on-2.ensures (blocks-full c.items.invariant.0 (omega (arith, c.items-test.false)))
