-- The words so far, added up.
use Rattle.std.proofs.Common.{◌≡◌, ◌<◌}
use Rattle.goblin_pe.specs.added.Checksums.{sum_of_words}
use Rattle.goblin_pe.proofs.added.image_checksum.sum_of_words.Given as goal

abbrev pub invariant-words : goal.invariant-words
invariant-words l = (l.sum ≡ sum_of_words l.fn.bytes l.fn.field l.index) × (l.sum < 65536)
