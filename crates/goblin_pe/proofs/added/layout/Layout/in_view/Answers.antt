use Rattle.std.proofs.{Common.◌≡◌, Common.◌∙◌, Common.arith, Common.rules, Common.sym, lemmas.Result.err_from_is_err_and}
use Rattle.goblin_pe_sect.specs.{Addresses.map_in, SectionTable.recorded_sections}
use Rattle.goblin_pe_sect.specs.Options.{front_of, is_strict}
use Rattle.goblin_pe.specs.Whole.{places_in, size_of_headers}
use Rattle.goblin_pe.specs.added.Layouts.{layout_map}
use Rattle.goblin_pe_head.specs.PeHeader.{header_value}
use Rattle.goblin_pe.proofs.added.SectionNames.{mapped_by_names, records_counted}
use Rattle.goblin_pe.proofs.added.layout.Layout.in_view.Goals as goal

pub returns-in_err-address_map : goal.returns-in_err-address_map
returns-in_err-address_map c =
    let e = err_from_is_err_and c.from_residual-in_err-address_map.result c.from_residual-in_err-address_map.ensures.1 in
    let counted = records_counted (is_strict c.args.opts.now.parse_mode) (header_value c.args.header.now) c.args.bytes.now _ c.in_ok-records.ensures.value in
    record {
      value = search rules;
      over = search rules;
      first = search rules;
      grown = rw (e.1, e.2) (λ _. omega (arith, c.in_err-address_map.ensures.grown, counted));
    }

pub returns : goal.returns
returns c =
    let view = c.args.view in
    let opts = c.args.opts.now in
    let parts = c.args.header.now.optional_header in
    let records = recorded_sections c.in_ok-records.records in
    let front = front_of view (size_of_headers parts) in
    let by : layout_map c.by.result ≡ map_in opts (record { sections = records; view = view; front = front }) (places_in parts).file_alignment =
    rw (← c.size_of_headers.ensures, ← c.front-front.ensures, ← c.of-places.ensures)
    (c.by.ensures.mapped ∙ sym c.in_ok-address_map.ensures.made) in
    record {
      value = search rules;
      over = record {
        over = search rules;
        by = search rules;
        placed = search rules;
        mapped = mapped_by_names opts view front _ records (places_in parts).file_alignment (layout_map c.by.result) c.in_ok-records.ensures.value by;
      };
      first = search rules;
      grown = tt {0};
    }
