use Rattle.std.proofs.Common.{◌≡◌, ◌∙◌, ap, subst, sym, true}
use Rattle.goblin_base.specs.Reading.{Reads}
use Rattle.goblin_pe_sect.specs.declared.options.ParseOptions.{ParseOptions}
use Rattle.goblin_pe_sect.specs.Addresses.{MapOfAddresses, reads_strictly}
use Rattle.goblin_pe_import.specs.added.ImportCursors.{first_import}
use Rattle.goblin_pe.specs.added.Layouts.{layout_bytes, layout_map, layout_places}
use Rattle.goblin_pe.proofs.added.ImportStarts.{begin-reads}
use Rattle.goblin_pe.proofs.added.layout.Layout.imports_begin.Goals as goal

pub returns-in-Some : goal.returns-in-Some
returns-in-Some c =
    let l = c.args.self.now in
    let m = layout_map l in
    let asked : m.opts.parse_imports ≡ true = sym (ap (λ (o : ParseOptions). o.parse_imports) c.opts.ensures) ∙ c.if-opts.true in
    let first =
    subst
    (λ (k : MapOfAddresses). Reads (λ c. c) c.first.result (first_import (reads_strictly k) k.addressing c.in-Some.directory.virtual_address) (layout_bytes l))
    c.finder.ensures (c.first.ensures.first (layout_bytes l)) in
    begin-reads m (layout_places l) (layout_bytes l) c.in-Some.directory asked (sym c.directory.ensures ∙ c.in-Some.is) c.first.result first
