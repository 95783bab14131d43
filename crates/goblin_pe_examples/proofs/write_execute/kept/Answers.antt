use Rattle.std.proofs.Common.{rules}
use Rattle.std.proofs.lemmas.List.Elements.{filter_from_retain}
use Rattle.goblin_pe_examples.specs.Audits.{is_writable_code}
use Rattle.goblin_pe_examples.proofs.write_execute.kept.Goals as goal

pub returns : goal.returns
returns c = filter_from_retain _ is_writable_code (λ p x b q k. search rules) _ _ _ c.retain.ensures.filtered
