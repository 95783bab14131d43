-- The first window that holds an address, among fewer windows.
use Rattle.std.proofs.Common.{◌≡◌, ℕ, zero, suc, ◌+◌, ◌-◌, ◌<◌, ◌≤◌, Bool, true, false, cond, not, List, [], ◌∷◌, ◌++◌, length, get_or, slice_get, take, drop, map, nat_lt, Option, Some, None, find, refl, ap, sym, ◌∙◌, arith, tests, rules, add-one, append_assoc, option_map, option_and_then}
use Rattle.std.specs.List.{filter, position, position_or_len, enumerate_from}
use Rattle.std.proofs.lemmas.List.{map-append, take-append-drop}
use Rattle.std.proofs.{lemmas.List.Quantifiers.position-Some, lemmas.Option.slice_get_past}
use Rattle.std.proofs.lemmas.Bool.Decides.{nat_tests}
use Rattle.goblin_pe_sect.specs.{Mapping.is_in_window, declared.options.Mapping.Mapping}
use Rattle.goblin_pe_sect.specs.{SectionTable.Section, declared.windows.bounds.Piece.Piece}
use Rattle.goblin_pe_sect.specs.declared.windows.owners.Owner.{Owner}
use Rattle.goblin_pe_sect.specs.declared.windows.owners.Window.{Window}
use Rattle.goblin_pe_sect.specs.WindowIndex.{begins_of, first_owner, owner_of_section, owners_of}
use Rattle.goblin_pe_sect.specs.WindowStretches.{window_holds, window_covers, window_meets, owner_among, piece_among, section_window_at, section_windows, FindTheSame, IsRising}

-- ---- what finds the same

kept_by : {X : Type 0} (p : X → Bool) (x : X) (ys zs : List X) (a b : Bool) → p x ≡ a → (a ≡ true → b ≡ true) → find p zs ≡ find p ys → find p (cond b (x ∷ zs) zs) ≡ cond a (Some x) (find p ys)
kept_by p x ys zs true true is only later = rw is refl
kept_by p x ys zs true false is only later = let wrong : false ≡ true = only refl in absurd (cc)
kept_by p x ys zs false true is only later = rw is later
kept_by p x ys zs false false is only later = later

-- elements that do not pass can be left out
find-filter : {X : Type 0} (p q : X → Bool) → ((x : X) → p x ≡ true → q x ≡ true) → (xs : List X) → find p (filter q xs) ≡ find p xs
find-filter p q only [] = refl
find-filter p q only (x ∷ xs) = kept_by p x xs (filter q xs) (p x) (q x) refl (only x) (find-filter p q only xs)

front_by : {X : Type 0} (x : X) (b : Bool) (few all : Option X) → few ≡ all → cond b (Some x) few ≡ cond b (Some x) all
front_by x true few all same = refl
front_by x false few all same = same

-- what comes after an element that passes can be left out
find-take : {X : Type 0} (p : X → Bool) (xs : List X) (k : ℕ) (d : X) → k < length xs → p (get_or xs k d) ≡ true → find p (take (suc k) xs) ≡ find p xs
find-take p [] k d within passes = absurd (omega arith)
find-take p (x ∷ xs) zero d within passes = rw passes refl
find-take p (x ∷ xs) (suc k) d within passes = front_by x (p x) (find p (take (suc k) xs)) (find p xs) (find-take p xs k d (omega arith) passes)

-- a window that holds all of a stretch holds each address of it, and one that holds an address of it meets it
covered : (first last rva : ℕ) → first ≤ rva → rva ≤ last → (w : Window) → window_covers first last w ≡ true → window_holds rva w ≡ true
covered first last rva low high w is = grind (arith, nat_tests)

met : (first last rva : ℕ) → first ≤ rva → rva ≤ last → (w : Window) → window_holds rva w ≡ true → window_meets first last w ≡ true
met first last rva low high w is = grind (arith, nat_tests)

pub find-covered : (first last rva : ℕ) → first ≤ rva → rva ≤ last → (windows : List Window) (place : ℕ) → position (window_covers first last) windows ≡ Some place → find (window_holds rva) (take (place + 1) windows) ≡ find (window_holds rva) windows
find-covered first last rva low high [] place is = absurd (cc)
find-covered first last rva low high (w ∷ ws) place is =
    let at = position-Some (window_covers first last) (w ∷ ws) place w is in
    ap (λ (n : ℕ). find (window_holds rva) (take n (w ∷ ws))) (add-one place) ∙ find-take (window_holds rva) (w ∷ ws) place w at.0 (covered first last rva low high (get_or (w ∷ ws) place w) at.1)

pub find-met : (first last rva : ℕ) → first ≤ rva → rva ≤ last → (windows : List Window) → find (window_holds rva) (filter (window_meets first last) windows) ≡ find (window_holds rva) windows
find-met first last rva low high windows = find-filter (window_holds rva) (window_meets first last) (met first last rva low high) windows

-- ---- halves of the pieces

pub map_same : {X Y : Type 0} (f g : X → Y) (d : X) (xs : List X) → ((i : ℕ) → i < length xs → f (get_or xs i d) ≡ g (get_or xs i d)) → map f xs ≡ map g xs
map_same f g d [] same = refl
map_same f g d (x ∷ xs) same =
    let head : f x ≡ g x = same 0 (omega arith) in
    let tail : map f xs ≡ map g xs = map_same f g d xs (λ i lt. same (suc i) (omega arith)) in
    cc

-- the pieces of both halves, among the windows near to the whole, are the pieces of the whole
pub halves : (windows near : List Window) (begins : List ℕ) (old : List Piece) (k : ℕ) → IsRising begins → FindTheSame (get_or begins 0 0) (get_or begins (length begins - 1) 0) near windows → old ++ map (piece_among near) (take k begins) ++ map (piece_among near) (drop k begins) ≡ old ++ map (piece_among windows) begins
halves windows near begins old k up agree =
    let f : ℕ → Piece = piece_among near in
    let joined : map f (take k begins) ++ map f (drop k begins) ≡ map f begins = sym (map-append f (take k begins) (drop k begins)) ∙ ap (map f) (take-append-drop k begins) in
    let same : map f begins ≡ map (piece_among windows) begins = map_same f (piece_among windows) 0 begins (λ i lt. ap (λ (found : Option Window). record { begin = get_or begins i 0; owner = option_map (λ (w : Window). w.owner) found }) (agree (get_or begins i 0) (up 0 i (omega arith) lt) (up i (length begins - 1) (omega arith) (omega arith)))) in
    append_assoc old (map f (take k begins)) (map f (drop k begins)) ∙ ap (λ (z : List Piece). old ++ z) (joined ∙ same)

-- where such pieces begin, and their owners
pub begins-among : (windows : List Window) (begins : List ℕ) → begins_of (map (piece_among windows) begins) ≡ begins
begins-among windows [] = refl
begins-among windows (b ∷ begins) = ap (λ (bs : List ℕ). b ∷ bs) (begins-among windows begins)

pub owners-among : (windows : List Window) (begins : List ℕ) → owners_of (map (piece_among windows) begins) ≡ map (owner_among windows) begins
owners-among windows [] = refl
owners-among windows (b ∷ begins) = ap (λ (os : List (Option Owner)). owner_among windows b ∷ os) (owners-among windows begins)

-- ---- the windows of a section table

next_from : (mapping : Mapping) (alignment n i : ℕ) (sections : List Section) (d : Section) → i < length sections → map (λ (r : ℕ × Section). section_window_at mapping alignment r.0 r.1) (enumerate_from n (take (suc i) sections)) ≡ map (λ (r : ℕ × Section). section_window_at mapping alignment r.0 r.1) (enumerate_from n (take i sections)) ++ section_window_at mapping alignment (n + i) (get_or sections i d) ∷ []
next_from mapping alignment n i [] d within = absurd (omega arith)
next_from mapping alignment n zero (s ∷ sections) d within =
    let same : n ≡ n + 0 = omega arith in
    ap (λ (k : ℕ). section_window_at mapping alignment k s ∷ []) same
next_from mapping alignment n (suc i) (s ∷ sections) d within =
    let place : n + 1 + i ≡ n + suc i = omega arith in
    let later = next_from mapping alignment (n + 1) i sections d (omega arith) in
    ap (λ (ws : List Window). section_window_at mapping alignment n s ∷ ws) (later ∙ ap (λ (k : ℕ). map (λ (r : ℕ × Section). section_window_at mapping alignment r.0 r.1) (enumerate_from (n + 1) (take i sections)) ++ section_window_at mapping alignment k (get_or sections i d) ∷ []) place)

-- the windows of one section more
pub next_window : (mapping : Mapping) (alignment i : ℕ) (sections : List Section) (d : Section) → i < length sections → section_windows mapping alignment (take (i + 1) sections) ≡ section_windows mapping alignment (take i sections) ++ section_window_at mapping alignment i (get_or sections i d) ∷ []
next_window mapping alignment i sections d within =
    let same : 0 + i ≡ i = omega arith in
    ap (λ (n : ℕ). section_windows mapping alignment (take n sections)) (add-one i) ∙ next_from mapping alignment 0 i sections d within ∙ ap (λ (k : ℕ). section_windows mapping alignment (take i sections) ++ section_window_at mapping alignment k (get_or sections i d) ∷ []) same

from_by : (mapping : Mapping) (alignment n j : ℕ) (s : Section) (sections : List Section) (b : Bool) (found : Option Window) → option_map (λ (w : Window). w.owner) found ≡ option_map (owner_of_section mapping (n + 1 + j)) (slice_get sections j) → option_map (λ (w : Window). w.owner) (cond b (Some (section_window_at mapping alignment n s)) found) ≡ option_map (owner_of_section mapping (n + cond (not b) (1 + j) 0)) (slice_get (s ∷ sections) (cond (not b) (1 + j) 0))
from_by mapping alignment n j s sections true found later =
    let same : n ≡ n + 0 = omega arith in
    ap (λ (i : ℕ). Some (owner_of_section mapping i s)) same
from_by mapping alignment n j s sections false found later =
    let next : 1 + j ≡ suc j = omega arith in
    let place : n + 1 + j ≡ n + suc j = omega arith in
    rw (next, ← place) later

from : (mapping : Mapping) (alignment rva n : ℕ) (sections : List Section) → option_map (λ (w : Window). w.owner) (find (window_holds rva) (map (λ (r : ℕ × Section). section_window_at mapping alignment r.0 r.1) (enumerate_from n sections))) ≡ option_map (owner_of_section mapping (n + position_or_len (is_in_window mapping.view alignment rva) sections)) (slice_get sections (position_or_len (is_in_window mapping.view alignment rva) sections))
from mapping alignment rva n [] = refl
from mapping alignment rva n (s ∷ sections) = from_by mapping alignment n (position_or_len (is_in_window mapping.view alignment rva) sections) s sections (is_in_window mapping.view alignment rva s) _ (from mapping alignment rva (n + 1) sections)

first_by : (mapping : Mapping) (sections : List Section) (i : ℕ) (b : Bool) → (b ≡ false → slice_get sections i ≡ None) → option_map (owner_of_section mapping i) (slice_get sections i) ≡ option_and_then (λ (i : ℕ). option_map (owner_of_section mapping i) (slice_get sections i)) (cond b (Some i) None)
first_by mapping sections i true none = refl
first_by mapping sections i false none = rw (none refl) refl

-- the first window that holds an address has what an index keeps of the first section whose window does
pub owner_among-sections : (mapping : Mapping) (alignment : ℕ) (sections : List Section) (rva : ℕ) → owner_among (section_windows mapping alignment sections) rva ≡ first_owner mapping sections alignment rva
owner_among-sections mapping alignment sections rva =
    let i : ℕ = position_or_len (is_in_window mapping.view alignment rva) sections in
    let start : 0 + i ≡ i = omega arith in
    let found = from mapping alignment rva 0 sections in
    let past : nat_lt i (length sections) ≡ false → slice_get sections i ≡ None = λ e. slice_get_past sections i (search (rules, tests)) in
    found ∙ ap (λ (j : ℕ). option_map (owner_of_section mapping j) (slice_get sections i)) start ∙ first_by mapping sections i (nat_lt i (length sections)) past

pub owners-sections : (mapping : Mapping) (alignment : ℕ) (sections : List Section) (begins : List ℕ) → map (owner_among (section_windows mapping alignment sections)) begins ≡ map (first_owner mapping sections alignment) begins
owners-sections mapping alignment sections begins = map_same _ _ 0 begins (λ i lt. owner_among-sections mapping alignment sections (get_or begins i 0))
