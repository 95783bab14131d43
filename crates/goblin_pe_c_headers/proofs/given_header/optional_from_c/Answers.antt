use Rattle.std.proofs.Common.{◌≡◌, ◌∙◌, None, arith, length, map, refl, rules, sym}
use Rattle.std.proofs.lemmas.List.{ext_get_or, get_or-map, length-map}
use Rattle.goblin_pe_sect.specs.DataDirectories.{zero_directory}
use Rattle.goblin_pe_c_headers.specs.Written.{entry_from_c}
use Rattle.goblin_pe_c_headers.proofs.given_header.optional_from_c.Goals as goal

pub returns : goal.returns
returns c =
    let xs = c.args.image.now.directories in
    let items = c.map.ensures.items in
    let many : length xs ≡ 16 = search rules in
    let same : c.map.result ≡ map entry_from_c xs = ext_get_or None c.map.result (map entry_from_c xs) (omega (arith, items.long, many, length-map xs entry_from_c))
    (λ i within.
    (items.at i zero_directory None (omega (arith, within, items.long))).2.met ∙ sym (get_or-map entry_from_c xs i zero_directory None (omega (arith, within, items.long, many)))) in
    rw (c.if-not-image.false, same) refl
