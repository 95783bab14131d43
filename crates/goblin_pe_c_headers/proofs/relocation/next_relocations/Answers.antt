use Rattle.std.proofs.Common.{arith, rules, subst, sym, IsSomeAnd}
use Rattle.goblin_base.specs.declared.endian.Endian.TheVariants.{Little}
use Rattle.goblin_base.proofs.RecordItems.{length-records_in}
use Rattle.goblin_pe_sect.specs.Relocations.{relocation_record, relocations_in}
use Rattle.goblin_pe_c_headers.specs.Onward.{GivesOnward}
use Rattle.goblin_pe_c_headers.proofs.relocation.next_relocations.Goals as goal

pub returns-clause-given : goal.returns-clause-given
returns-clause-given c =
    let table = c.in_ok-table.table.now in
    let count = length-records_in 10 (relocation_record Little) table in
    subst (λ read. IsSomeAnd read (λ all. GivesOnward all (record { position = c.args.cursor.now.index; records = c.args.records.now }) (record { position = c.fill_onward.new.position; records = c.fill_onward.new.records }) c.fill_onward.result))
    (sym c.in_ok-table.ensures.value)
    (c.fill_onward.ensures (relocations_in table) (omega (arith, count, c.in_ok-table.ensures.short)) (search rules))
