use Rattle.goblin_base.specs.declared.permissive.ParseMode.TheVariants.{Permissive, Strict}
use Rattle.goblin_pe.proofs.TableRuns.{answered_in_mode, are_in_modes}
use Rattle.goblin_pe.proofs.laws.modes.mode_tables.Goals as goal

pub returns : goal.returns
returns g c =
    are_in_modes _ _ _ _ _ _ _ _ _
    (answered_in_mode _ _ _ _ _ _ Strict c.args.opts.now _ c.args.sections.now
    c.args.file_alignment _ c.with_parse_mode-strictly.ensures c.read_tables-strict.ensures)
    (answered_in_mode _ _ _ _ _ _ Permissive c.args.opts.now _ c.args.sections.now
    c.args.file_alignment _ c.with_parse_mode-permissively.ensures
    c.read_tables-permissive.ensures)
