-- What the words of the command line ask for.
use Rattle.std.specs.Prelude.{ℕ, List, [], ◌∷◌, Option, None, Some, codes, if◌then◌else◌, bytes_eq}
use Rattle.goblin_pe.specs.declared.options.ParseMode.{ParseMode}
use Rattle.goblin_pe.specs.declared.options.ParseMode.TheVariants.{Strict, Permissive}

-- the mode that the words ask for (the first word is the program's name); none after a wrong use
abbrev pub mode_of_words : List (List ℕ) → Option ParseMode
mode_of_words [] = Some Strict
mode_of_words (program ∷ []) = Some Strict
mode_of_words (program ∷ word ∷ []) =
    if bytes_eq word (codes "--permissive") then Some Permissive else None
mode_of_words _ = None
