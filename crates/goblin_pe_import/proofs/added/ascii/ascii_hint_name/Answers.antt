use Rattle.std.proofs.Common.{◌≡◌, ◌++◌, ℕ, List, Some, arith, replicate, subst}
use Rattle.goblin_pe_import.specs.LookupReadings.{hint_name}
use Rattle.goblin_pe_import.proofs.added.AsciiEntries.{ascii_hint}
use Rattle.goblin_pe_import.proofs.added.ascii.ascii_hint_name.Goals as goal

pub returns : goal.returns
returns c strict =
    let hint = c.field_u16-hint.result in
    let name = c.in-Some.name.now in
    subst
    (λ (xs : List ℕ). (hint_name strict c.args.longest c.args.offset).value (xs ++ replicate c.args.part.zeros 0) ≡ Some (record { hint = hint; name = name }))
    c.stored-stored.ensures
    (ascii_hint c.stored-stored.result.now c.args.part.zeros c.args.offset hint name c.args.longest strict
    (omega (arith, c.if-stored-offset.false, c.if-stored-offset-lt-ASCII_ROOM.false)) c.field_u16-hint.ensures c.in-Some.ensures.value)
