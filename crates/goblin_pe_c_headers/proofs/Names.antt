-- Names in the bytes of a string table.
use Rattle.std.proofs.Common.{◌≡◌, ◌<◌, ◌≤◌, ℕ, suc, ◌+◌, Bool, true, false, cond, ◌&&◌, List, [], ◌∷◌, length, drop, refl, ap, sym, subst, ◌∙◌, arith, ◌==◌, nat_lt, not, Some, None, slice_index, slice_range}
use Rattle.std.specs.{List.prefix_len, Str.is_utf8}
use Rattle.std.proofs.{lemmas.Bool.false_from_ne_true, lemmas.Bool.Decides.nat_tests}
use Rattle.std.proofs.lemmas.List.{drop_all, drop_more}
use Rattle.std.proofs.lemmas.Str.{IsUtf8-between, IsUtf8-nil, IsUtf8-from_is_utf8, is_utf8-from_IsUtf8, IsCharBoundary-start}
use Rattle.goblin_base.specs.Bytes.{before_nul, stretch, text_of}
use Rattle.goblin_base.specs.Strtab.{is_border, is_in_piece, rest_at}
use Rattle.goblin_base.proofs.Pieces.{ends_before, rest_by_pieces}
use Rattle.goblin_pe_c_headers.specs.Symbols.{NamesOfText, name_in_piece}

-- what is left of a piece of a text is a text
rest_is_text : (table : List ℕ) (o : ℕ) (rest : List ℕ) → is_utf8 table ≡ true → rest_at table o ≡ Some rest → is_utf8 rest ≡ true
rest_is_text table o rest text is =
    let piece = rest_by_pieces table o rest is in
    let whole = IsUtf8-from_is_utf8 table text in
    subst (λ (xs : List ℕ). is_utf8 xs ≡ true) (sym piece.is)
    (is_utf8-from_IsUtf8 (slice_range table o piece.end) (IsUtf8-between table o piece.end whole piece.after piece.border (ends_before table piece.end piece.piece.ends)))

-- a byte that is no NUL comes before what follows it up to a NUL
first_kept : (b : ℕ) (rest : List ℕ) → (b == 0) ≡ false → before_nul (b ∷ rest) ≡ b ∷ before_nul rest
first_kept b rest other =
    let n = prefix_len (λ x. not (x == 0)) rest in
    let one : 1 + n ≡ suc n = omega arith in
    rw (other, one) refl

-- no text begins with a byte that continues a character
no_text : (b : ℕ) (rest : List ℕ) → 128 ≤ b → b < 192 → ¬ (is_utf8 (b ∷ rest) ≡ true)
no_text b rest high low text =
    let start = IsCharBoundary-start (b ∷ rest) (IsUtf8-from_is_utf8 (b ∷ rest) text) in
    let first : 192 ≤ b = start.1 (omega arith) high in
    omega (arith, first, low)

-- what begins inside a character is no text
inside_character : (table : List ℕ) (o : ℕ) → is_border table o ≡ false → o < length table → is_utf8 (stretch table o) ≡ false
inside_character table o inside lt =
    let high : 128 ≤ slice_index table o = grind (arith, nat_tests) in
    let low : slice_index table o < 192 = grind (arith, nat_tests) in
    let other : (slice_index table o == 0) ≡ false = grind (arith, nat_tests, high) in
    let is : stretch table o ≡ slice_index table o ∷ before_nul (drop (o + 1) table) = ap before_nul (drop_more table o 0 lt) ∙ first_kept (slice_index table o) (drop (o + 1) table) other in
    false_from_ne_true (is_utf8 (stretch table o)) (λ text. no_text (slice_index table o) (before_nul (drop (o + 1) table)) high low (subst (λ (xs : List ℕ). is_utf8 xs ≡ true) is text))

by_border : (inside border : Bool) (xs : List ℕ) → (inside ≡ true → border ≡ true → is_utf8 xs ≡ true) → (inside ≡ true → border ≡ false → is_utf8 xs ≡ false) → cond inside (text_of xs) None ≡ cond (inside && border) (Some xs) None
by_border false border xs holds fails = refl
by_border true true xs holds fails = rw (holds refl refl) refl
by_border true false xs holds fails = rw (fails refl refl) refl

-- a piece that can't be cut there goes on
goes_on : (table : List ℕ) (o : ℕ) → is_in_piece table o ≡ true → is_border table o ≡ false → o < length table
goes_on table o inside border = grind (arith, nat_tests)

-- a name that is not cut is the text of what is left of the piece
none_left : (table : List ℕ) → name_in_piece None table (length table) ≡ cond (is_in_piece table (length table)) (text_of (stretch table (length table))) None
none_left table =
    let itself : (length table == length table) ≡ true = grind (arith, nat_tests) in
    let none : is_utf8 [] ≡ true = is_utf8-from_IsUtf8 [] IsUtf8-nil in
    rw (itself, drop_all (length table) table (omega arith), none) refl

by_place : (table : List ℕ) (o : ℕ) (end before : Bool) → (o == length table) ≡ end → nat_lt o (length table) ≡ before → name_in_piece None table o ≡ cond (is_in_piece table o) (text_of (stretch table o)) None
by_place table o true before e b =
    let same : o ≡ length table = grind (arith, nat_tests, e) in
    subst (λ (n : ℕ). name_in_piece None table n ≡ cond (is_in_piece table n) (text_of (stretch table n)) None) (sym same) (none_left table)
by_place table o false true e b = rw (e, b) refl
by_place table o false false e b = rw (e, b) refl

whole_name : (table : List ℕ) (o : ℕ) → name_in_piece None table o ≡ cond (is_in_piece table o) (text_of (stretch table o)) None
whole_name table o = by_place table o (o == length table) (nat_lt o (length table)) refl refl

pub names_of_text : NamesOfText
names_of_text table o text =
    whole_name table o ∙ by_border (is_in_piece table o) (is_border table o) (stretch table o)
    (λ inside border. rest_is_text table o (stretch table o) text (rw (inside, border) refl))
    (λ inside border. inside_character table o border (goes_on table o inside border))
