use Rattle.std.proofs.Common.{◌∙◌, ap, arith, sym}
use Rattle.goblin_pe_sect.specs.Multiples.{least_multiple}
use Rattle.goblin_pe_sect.proofs.Multiples.{up}
use Rattle.goblin_pe_c_headers.proofs.memory.memory_length.Goals as goal

pub returns-then-maps_pages-clause-value : goal.returns-then-maps_pages-clause-value
returns-then-maps_pages-clause-value c =
    let pages = up 4096 c.memory_size-size.result (omega arith) ∙ ap (least_multiple 4096) c.memory_size-size.ensures.value in
    let whole = sym c.maps_pages.ensures ∙ c.if-maps_pages.true in
    rw whole pages
