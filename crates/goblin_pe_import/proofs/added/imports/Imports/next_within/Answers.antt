use Rattle.std.proofs.Common.{ap}
use Rattle.goblin_pe_sect.specs.Addresses.{map_of}
use Rattle.goblin_pe_import.proofs.added.ImportFaults.{given-fault, within-given}
use Rattle.goblin_pe_import.proofs.added.imports.Imports.next_within.Goals as goal

pub returns : goal.returns
returns g c =
    let given = c.next_within.ensures in
    record {
      steps = within-given g.T.Bitfield.format c.args.self.now _ c.next_within.result given.steps;
      named = given.named;
      fault = given-fault g.T.Bitfield.format c.args.self.now.walk c.next_within.new.self
          c.next_within.result given.steps;
      over = (given.bytes, ap map_of given.finder);
      passed = given.passed;
      spent = given.spent;
      looked = given.looked;
      ended = given.ended;
      fewer = given.fewer;
    }
