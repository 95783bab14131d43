-- The result of a read of a file, in one definition: its value, if there is one; the causes that
-- are true if there is none; and the positions of the file that it reaches.
use Rattle.std.specs.Prelude.{◌≡◌, ◌<◌, ◌≤◌, ℕ, List, Option, Some, None, Result, length, All}
use Rattle.goblin_base.specs.Answers.{ErrorOf, Answers, AnswersOrMemory, IsMemory}
use Rattle.goblin_base.specs.Footprints.{Agree, Alike, AlikeOrMemory, Range}

-- The range is not empty, and does not run past the end of the file.
abbrev pub IsInFile : List ℕ → Range → Type 0
IsInFile bytes range = (range.0 < range.1) × (range.1 ≤ length bytes)

-- A read of a file. The value, the true causes and the positions reached are functions of the bytes
-- of the file. There are three laws. Files that agree on the positions reached in the first have
-- the same value. The positions reached lie in the file. No cause is Memory.
pub record Reading (A : Type 0) : Type 1 where
  pub value : List ℕ → Option A
  pub IsCause : List ℕ → ErrorOf → Type 0
  pub reaches : List ℕ → List Range
  pub is_local : (a b : List ℕ) → Agree (reaches a) a b → value a ≡ value b
  pub is_inside : (bytes : List ℕ) → All (IsInFile bytes) (reaches bytes)
  pub not_memory : (bytes : List ℕ) (e : ErrorOf) → IsCause bytes e → ¬ IsMemory e

-- A call that takes no memory returns the reading: its value, as `view` sees the result; or there
-- is no value, and the cause is true.
abbrev pub Reads : {X Y : Type 0} → (X → Y) → Result X ErrorOf → Reading Y → List ℕ → Type 0
Reads view result reading bytes =
    Answers view result (reading.value bytes) (reading.IsCause bytes)

-- A call that takes memory returns the reading, or is refused with Memory.
abbrev pub ReadsOrMemory : {X Y : Type 0} → (X → Y) → Result X ErrorOf
    → Reading Y → List ℕ → Type 0
ReadsOrMemory view result reading bytes =
    AnswersOrMemory view result (reading.value bytes) (reading.IsCause bytes)

-- The file is refused by this reading, and this cause is true.
abbrev pub IsRefused : {A : Type 0} → Reading A → List ℕ → ErrorOf → Type 0
IsRefused reading bytes e = (reading.value bytes ≡ None) × reading.IsCause bytes e

-- A reader on two files. Each answer is the reader's for its file. If the files agree on the
-- positions reached in the first, the values are the same, and the answers are alike.
pub record Twins {X Y : Type 0} (view : X → Y) (reading : Reading Y) (a b : List ℕ)
    (both : Result X ErrorOf × Result X ErrorOf) : Type 0 where
  pub first : Reads view both.0 reading a
  pub second : Reads view both.1 reading b
  pub same : Agree (reading.reaches a) a b → reading.value a ≡ reading.value b
  pub alike : Agree (reading.reaches a) a b → Alike view both.0 both.1

-- A reader that takes memory, on two files. Each answer is the reader's for its file. If the files
-- agree on the positions reached in the first, the values are the same, and the answers are alike.
pub record TwinsOrMemory {X Y : Type 0} (view : X → Y) (reading : Reading Y) (a b : List ℕ)
    (both : Result X ErrorOf × Result X ErrorOf) : Type 0 where
  pub first : ReadsOrMemory view both.0 reading a
  pub second : ReadsOrMemory view both.1 reading b
  pub same : Agree (reading.reaches a) a b → reading.value a ≡ reading.value b
  pub alike : Agree (reading.reaches a) a b → AlikeOrMemory view both.0 both.1

-- If the first reading has a value, the second has what `becomes` makes of that value. An example
-- is the same read in strict mode and in permissive mode. Only proofs use this definition;
-- contracts use `InModes`.
pub record RepeatsAs {A : Type 0} (becomes : A → A) (first second : Reading A) : Type 0 where
  pub kept : (bytes : List ℕ) (x : A) → first.value bytes ≡ Some x
      → second.value bytes ≡ Some (becomes x)

-- If the first reading has a value, the second has the same value. Only proofs use this definition.
abbrev pub Repeats : {A : Type 0} → Reading A → Reading A → Type 0
Repeats first second = RepeatsAs (λ x. x) first second

-- A reader that takes memory, in strict mode and in permissive mode. Each answer is that of its own
-- mode. If strict mode has a value, permissive mode has what `becomes` makes of that value.
pub record InModes {X Y : Type 0} (view : X → Y) (becomes : Y → Y)
    (strict permissive : Reading Y) (bytes : List ℕ)
    (both : Result X ErrorOf × Result X ErrorOf) : Type 0 where
  pub first : ReadsOrMemory view both.0 strict bytes
  pub second : ReadsOrMemory view both.1 permissive bytes
  pub repeats : (x : Y) → strict.value bytes ≡ Some x
      → permissive.value bytes ≡ Some (becomes x)
