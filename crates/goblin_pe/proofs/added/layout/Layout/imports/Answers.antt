use Rattle.std.proofs.Common.{◌≡◌, ◌∙◌, ap, sym, true, false, inl, inr, None, ◌⊎◌, flat_map}
use Rattle.std.proofs.lemmas.Result.{err_from_is_err_and}
use Rattle.goblin_pe_sect.specs.declared.options.ParseOptions.{ParseOptions}
use Rattle.goblin_pe_sect.specs.Addresses.{reads_strictly}
use Rattle.goblin_pe_import.specs.{ImportReadings.numbered_data, Imports.numbered_imports}
use Rattle.goblin_pe.specs.added.Layouts.{layout_bytes, layout_map, layout_places}
use Rattle.goblin_pe.specs.Whole.{directory_at, entry_format, import_list, numbered_data_part}
use Rattle.goblin_pe.proofs.added.ImportStarts.{begin-cause, begin-value}
use Rattle.goblin_pe.proofs.added.WalkedParts.{unasked_mapped, list-refused, list-walked}
use Rattle.goblin_pe.proofs.added.layout.Layout.imports.Goals as goal
use Rattle.goblin_pe.proofs.added.layout.Layout.imports.Goals.{in_default-via-in-Some+else-opts, in_default-via-in_default}

pub returns-in_err-imports-in-Some-clause-walks : goal.returns-in_err-imports-in-Some-clause-walks
returns-in_err-imports-in-Some-clause-walks c =
    let m = layout_map c.args.self.now in
    let asked : m.opts.parse_imports ≡ true = sym (ap (λ (o : ParseOptions). o.parse_imports) c.opts-opts.ensures) ∙ c.if-opts.true in
    let e = err_from_is_err_and c.from_residual.result c.from_residual.ensures.1 in
    rw (e.1, e.2) (list-refused m.opts m.addressing (layout_places c.args.self.now) c.in-Some.directory asked (sym c.directory.ensures ∙ c.in-Some.is) (layout_bytes c.args.self.now) _ _ c.imports_in.ensures.walks c.in_err-imports-in-Some.was)

pub returns-in_ok-imports-in-Some-clause-walks : goal.returns-in_ok-imports-in-Some-clause-walks
returns-in_ok-imports-in-Some-clause-walks c =
    let m = layout_map c.args.self.now in
    let asked : m.opts.parse_imports ≡ true = sym (ap (λ (o : ParseOptions). o.parse_imports) c.opts-opts.ensures) ∙ c.if-opts.true in
    list-walked m.opts m.addressing (layout_places c.args.self.now) c.in-Some.directory asked (sym c.directory.ensures ∙ c.in-Some.is) (layout_bytes c.args.self.now) _ _ c.imports_in.ensures.walks c.in_ok-imports-in-Some.was

pub returns-in_default-clause-walks : goal.returns-in_default-clause-walks
unfolding import_list numbered_data_part
returns-in_default-clause-walks c =
    let m = layout_map c.args.self.now in
    let format = entry_format (layout_places c.args.self.now).magic in
    let none : (m.opts.parse_imports ≡ false) ⊎ (directory_at (layout_places c.args.self.now) 1 ≡ None) =
    elim c.in_default.branch [
      | in_default-via-in-Some+else-opts w ↦
          inl (sym (ap (λ (o : ParseOptions). o.parse_imports) c.opts-opts.ensures) ∙ w.if-opts.false)
      | in_default-via-in_default w ↦ inr (sym c.directory.ensures ∙ w.in_default.is)
    ] in
    unasked_mapped (λ x. x) (flat_map (numbered_imports format.width)) (reads_strictly m) m.opts.parse_imports
    (λ d. numbered_data (reads_strictly m) format m.addressing d.virtual_address)
    (directory_at (layout_places c.args.self.now) 1) (layout_bytes c.args.self.now) none

pub returns-in_err-imports-in-Some-clause-starts : goal.returns-in_err-imports-in-Some-clause-starts
returns-in_err-imports-in-Some-clause-starts c =
    let l = c.args.self.now in
    let m = layout_map l in
    let asked : m.opts.parse_imports ≡ true = sym (ap (λ (o : ParseOptions). o.parse_imports) c.opts-opts.ensures) ∙ c.if-opts.true in
    let there = sym c.directory.ensures ∙ c.in-Some.is in
    let e = err_from_is_err_and c.from_residual.result c.from_residual.ensures.1 in
    let refused = rw c.in_err-imports-in-Some.was at c.imports_in.ensures.first in
    rw (e.1, e.2) (begin-value m (layout_places l) (layout_bytes l) _ asked there ∙ refused.0, begin-cause m (layout_places l) (layout_bytes l) _ asked there _ refused.1)
