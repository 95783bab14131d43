use Rattle.goblin_base.proofs.Readings.{twins_or_memory}
use Rattle.goblin_pe_import.proofs.laws.imports.twin_lookup.Goals as goal

pub returns : goal.returns
returns g c =
    twins_or_memory _ _ _ _ _ _ c.parse_with_opts-first.ensures
    c.parse_with_opts-second.ensures
