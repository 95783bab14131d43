use Rattle.goblin_pe_sect.specs.Addresses.{map_of, reads_strictly}
use Rattle.goblin_pe_import.specs.Steps.{slots_ahead}
use Rattle.goblin_pe_import.proofs.LookupWalk.{kept-unlimited}
use Rattle.goblin_pe_import.proofs.import.kept.next_kept.Goals as goal

pub returns-clause-steps : goal.returns-clause-steps
returns-clause-steps g c =
    let given = c.next_kept_within.ensures in
    let m = map_of c.args.finder.now in
    kept-unlimited (reads_strictly m) g.T.Bitfield.format m.addressing c.args.bytes.now c.args.offset
    c.args.place c.next_kept_within.new.place c.next_kept_within.result c.next_kept_within.new.steps
    (slots_ahead g.T.Bitfield.format c.args.bytes.now c.args.place) (slots_ahead g.T.Bitfield.format c.args.bytes.now c.next_kept_within.new.place) given.steps given.counted given.ended given.after
