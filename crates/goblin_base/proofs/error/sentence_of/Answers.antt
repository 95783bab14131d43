use Rattle.std.proofs.Common.{refl, append-nil}
use Rattle.goblin_base.proofs.error.sentence_of.Goals as goal

pub returns-in-RichBounds : goal.returns-in-RichBounds
returns-in-RichBounds c = rw (c.in-RichBounds.is, append-nil _) refl

pub returns-in-DirectoryCount : goal.returns-in-DirectoryCount
returns-in-DirectoryCount c = rw c.in-DirectoryCount.is refl

pub returns-in-NameRead : goal.returns-in-NameRead
returns-in-NameRead c = rw c.in-NameRead.is refl

pub returns-in-HintEntry : goal.returns-in-HintEntry
returns-in-HintEntry c = rw c.in-HintEntry.is refl
