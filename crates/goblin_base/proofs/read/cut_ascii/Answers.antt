use Rattle.goblin_base.proofs.AsciiCuts.{ascii_cut, ascii_front, ascii_whole}
use Rattle.goblin_base.proofs.read.cut_ascii.Goals as goal

pub from_utf8_unchecked-requires : goal.from_utf8_unchecked-requires
from_utf8_unchecked-requires c =
    ascii_front c.args.front.now c.args.limit c.args.run c.requires.within c.requires.ascii c.requires.stops
    c.cut_len-end.result c.cut_len-end.ensures

pub returns-clause-cut : goal.returns-clause-cut
returns-clause-cut c =
    rw c.from_utf8_unchecked.ensures
    (ascii_cut c.args.front.now c.args.limit c.args.run c.requires.within c.requires.ascii c.requires.stops
    c.cut_len-end.result c.cut_len-end.ensures c.requires.some)

pub returns-clause-whole : goal.returns-clause-whole
returns-clause-whole c few =
    rw c.from_utf8_unchecked.ensures
    (ascii_whole c.args.front.now c.args.limit c.args.run c.requires.within c.requires.ascii c.requires.stops
    c.cut_len-end.result c.cut_len-end.ensures few)
