-- The pieces of windows that are apart and in rising order.
use Rattle.std.proofs.Common.{◌≡◌, ℕ, ◌+◌, ◌^◌, ◌<◌, ◌≤◌, true, false, List, [], ◌∷◌, ◌++◌, length, get_or, slice_get, take, map, Option, Some, None, find, refl, ap, sym, ◌∙◌, inl, inr, arith}
use Rattle.std.specs.{List.Sorted.IsStrictlyIncreasing, Option.option_or, Option.option_map}
use Rattle.std.proofs.{lemmas.Bool.cases_lt, lemmas.Bool.Decides.nat_tests}
use Rattle.std.proofs.{lemmas.List.Folds.find-append, lemmas.List.Elements.Contains-push}
use Rattle.std.proofs.lemmas.List.{map-append, take_all, length_push, get_or_push, get_or_append_left}
use Rattle.std.proofs.lemmas.Option.{slice_get_within, get_or_from_slice_get}
use Rattle.goblin_pe_sect.specs.Mapping.{read_size, window_end}
use Rattle.goblin_pe_sect.specs.WindowIndex.{AreNear, IsCut, first_owner}
use Rattle.goblin_pe_sect.specs.WindowStretches.{window_holds, owner_among, section_window_at, section_windows}
use Rattle.goblin_pe_sect.specs.{declared.options.Mapping.Mapping, SectionTable.Section}
use Rattle.goblin_pe_sect.specs.declared.windows.owners.Owner.{Owner}
use Rattle.goblin_pe_sect.specs.declared.windows.owners.Window.{Window}
use Rattle.goblin_pe_sect.proofs.Cuts.{HasCuts, cuts_empty, cuts_more, cuts_touching, all_borders, near_from}
use Rattle.goblin_pe_sect.proofs.Halving.{rising_at}
use Rattle.goblin_pe_sect.proofs.Stretches.{map_same, next_window, owners-sections}

-- ---- one window more

or_none : {X : Type 0} (o : Option X) → option_or o None ≡ o
or_none None = refl
or_none (Some x) = refl

-- a window that does not hold an address changes nothing
find-out : (windows : List Window) (w : Window) (rva : ℕ) → window_holds rva w ≡ false → find (window_holds rva) (windows ++ w ∷ []) ≡ find (window_holds rva) windows
find-out windows w rva out = rw (find-append (window_holds rva) windows (w ∷ []), out) (or_none _)

owner-out : (windows : List Window) (w : Window) (rva : ℕ) → window_holds rva w ≡ false → owner_among (windows ++ w ∷ []) rva ≡ owner_among windows rva
owner-out windows w rva out = ap (option_map (λ (w : Window). w.owner)) (find-out windows w rva out)

-- a window owns an address that it holds and none before it does
owner-new : (windows : List Window) (w : Window) (rva : ℕ) → find (window_holds rva) windows ≡ None → window_holds rva w ≡ true → owner_among (windows ++ w ∷ []) rva ≡ Some w.owner
owner-new windows w rva none holds = rw (find-append (window_holds rva) windows (w ∷ []), none, holds) refl

out_before : (rva : ℕ) (w : Window) → rva < w.begin → window_holds rva w ≡ false
out_before rva w before = grind (arith, nat_tests)

out_after : (rva : ℕ) (w : Window) → w.end ≤ rva → window_holds rva w ≡ false
out_after rva w after = grind (arith, nat_tests)

out_empty : (rva : ℕ) (w : Window) → w.end ≤ w.begin → window_holds rva w ≡ false
out_empty rva w empty = grind (arith, nat_tests)

in_begin : (w : Window) → w.begin < w.end → window_holds w.begin w ≡ true
in_begin w some = grind (arith, nat_tests)

-- ---- numbers that rise

rising_push : (xs : List ℕ) (x y : ℕ) → IsStrictlyIncreasing (xs ++ x ∷ []) → x < y → IsStrictlyIncreasing ((xs ++ x ∷ []) ++ y ∷ [])
rising_push xs x y up less k within =
    let points : List ℕ = xs ++ x ∷ [] in
    let long : length points ≡ length xs + 1 = length_push xs x in
    let more : length (points ++ y ∷ []) ≡ length points + 1 = length_push points y in
    let here : get_or (points ++ y ∷ []) k 0 ≡ get_or points k 0 = get_or_append_left points (y ∷ []) 0 k (omega arith) in
    elim (cases_lt (k + 1) (length points)) [
      | inl inside ↦
          let next : get_or (points ++ y ∷ []) (k + 1) 0 ≡ get_or points (k + 1) 0 = get_or_append_left points (y ∷ []) 0 (k + 1) inside in
          omega (arith, here, next, up k inside)
      | inr last ↦
          let end : get_or (points ++ y ∷ []) (k + 1) 0 ≡ y = get_or_push points y 0 (k + 1) (omega arith) in
          let at : get_or points k 0 ≡ x = get_or_push xs x 0 k (omega arith) in
          omega (arith, here, end, at)
    ]

below_last : (xs : List ℕ) (x : ℕ) → IsStrictlyIncreasing (xs ++ x ∷ []) → (k : ℕ) → k < length xs → get_or xs k 0 < x
below_last xs x up k within =
    let long : length (xs ++ x ∷ []) ≡ length xs + 1 = length_push xs x in
    let here : get_or (xs ++ x ∷ []) k 0 ≡ get_or xs k 0 = get_or_append_left xs (x ∷ []) 0 k within in
    let last : get_or (xs ++ x ∷ []) (length xs) 0 ≡ x = get_or_push xs x 0 (length xs) refl in
    omega (arith, here, last, rising_at (xs ++ x ∷ []) up k (length xs) within (omega arith))

-- ---- the pieces so far

-- The pieces of the first n sections' windows, without the last: that one begins at `end`, which no window passes.
pub record AreInOrder (mapping : Mapping) (alignment : ℕ) (sections : List Section) (begins : List ℕ) (owners : List (Option Owner)) (end n : ℕ) : Type 0 where
  pub cuts : HasCuts mapping.view sections alignment (begins ++ end ∷ []) n
  pub rising : IsStrictlyIncreasing (begins ++ end ∷ [])
  pub past : (rva : ℕ) → end ≤ rva → find (window_holds rva) (section_windows mapping alignment (take n sections)) ≡ None
  pub owned : owners ≡ map (owner_among (section_windows mapping alignment (take n sections))) begins

module _ (mapping : Mapping) (alignment : ℕ) (sections : List Section) (begins : List ℕ) (owners : List (Option Owner)) (end n : ℕ) (s : Section) (h : AreInOrder mapping alignment sections begins owners end n) (here : slice_get sections n ≡ Some s) where
  abbrev old : List Window
  old = section_windows mapping alignment (take n sections)

  abbrev all : List Window
  all = section_windows mapping alignment (take (n + 1) sections)

  abbrev pub one : Window
  one = section_window_at mapping alignment n s

  all-is : all ≡ old ++ one ∷ []
  all-is = next_window mapping alignment n sections s (slice_get_within sections n s here) ∙ ap (λ (t : Section). old ++ section_window_at mapping alignment n t ∷ []) (get_or_from_slice_get sections n s s here)

  owners-out : (xs : List ℕ) → ((k : ℕ) → k < length xs → window_holds (get_or xs k 0) one ≡ false) → map (owner_among old) xs ≡ map (owner_among all) xs
  owners-out xs out = rw all-is (map_same (owner_among old) (owner_among (old ++ one ∷ [])) 0 xs (λ k within. sym (owner-out old one (get_or xs k 0) (out k within))))

  -- a window that is empty
  pub in_order_empty : read_size mapping.view s alignment ≡ 0 → AreInOrder mapping alignment sections begins owners end (n + 1)
  in_order_empty empty = record {
    cuts = cuts_empty mapping.view sections alignment (begins ++ end ∷ []) n s h.cuts here empty;
    rising = h.rising;
    past = λ rva after. rw all-is (find-out old one rva (out_empty rva one (omega arith)) ∙ h.past rva after);
    owned = h.owned ∙ owners-out begins (λ k within. out_empty (get_or begins k 0) one (omega arith));
  }

  past_more : end ≤ s.virtual_address → 0 < read_size mapping.view s alignment → (rva : ℕ) → window_end mapping.view s alignment ≤ rva → find (window_holds rva) all ≡ None
  past_more apart some rva after =
      rw all-is (find-out old one rva (out_after rva one after) ∙ h.past rva (omega arith))

  owned_begins : end ≤ s.virtual_address → owners ≡ map (owner_among all) begins
  owned_begins apart = h.owned ∙ owners-out begins (λ k within. out_before (get_or begins k 0) one (omega (arith, below_last begins end h.rising k within)))

  owned_window : end ≤ s.virtual_address → 0 < read_size mapping.view s alignment → owner_among all s.virtual_address ≡ Some one.owner
  owned_window apart some = rw all-is (owner-new old one s.virtual_address (h.past s.virtual_address apart) (in_begin one (omega arith)))

  -- a window that begins where the last ends
  pub in_order_touching : end ≡ s.virtual_address → 0 < read_size mapping.view s alignment → read_size mapping.view s alignment ≤ 2 ^ 33 → AreInOrder mapping alignment sections (begins ++ s.virtual_address ∷ []) (owners ++ Some one.owner ∷ []) (window_end mapping.view s alignment) (n + 1)
  in_order_touching same some small =
      let points : List ℕ = begins ++ s.virtual_address ∷ [] in
      let cuts : HasCuts mapping.view sections alignment points n = rw (← same) h.cuts in
      let rising : IsStrictlyIncreasing points = rw (← same) h.rising in
      let apart : end ≤ s.virtual_address = omega arith in
      record {
        cuts = cuts_touching mapping.view sections alignment points n s cuts here some small (Contains-push begins s.virtual_address);
        rising = rising_push begins s.virtual_address (window_end mapping.view s alignment) rising (omega arith);
        past = past_more apart some;
        owned = rw (map-append (owner_among all) begins (s.virtual_address ∷ []), ← owned_begins apart, owned_window apart some) refl;
      }

  -- and one that begins after it
  pub in_order_apart : end < s.virtual_address → 0 < read_size mapping.view s alignment → read_size mapping.view s alignment ≤ 2 ^ 33 → AreInOrder mapping alignment sections ((begins ++ end ∷ []) ++ s.virtual_address ∷ []) ((owners ++ None ∷ []) ++ Some one.owner ∷ []) (window_end mapping.view s alignment) (n + 1)
  in_order_apart after some small =
      let points : List ℕ = begins ++ end ∷ [] in
      let apart : end ≤ s.virtual_address = omega arith in
      let between : owner_among all end ≡ None = rw all-is (owner-out old one end (out_before end one after) ∙ ap (option_map (λ (w : Window). w.owner)) (h.past end (omega arith))) in
      record {
        cuts = cuts_more mapping.view sections alignment points n s h.cuts here some small;
        rising = rising_push points s.virtual_address (window_end mapping.view s alignment) (rising_push begins end s.virtual_address h.rising after) (omega arith);
        past = past_more apart some;
        owned = rw (map-append (owner_among all) points (s.virtual_address ∷ []), map-append (owner_among all) begins (end ∷ []), ← owned_begins apart, between, owned_window apart some) refl;
      }

-- ---- all pieces

module _ (mapping : Mapping) (alignment : ℕ) (sections : List Section) (begins : List ℕ) (owners : List (Option Owner)) (end n : ℕ) (h : AreInOrder mapping alignment sections begins owners end n) (whole : n ≡ length sections) where
  pub near_in_order : AreNear mapping.view sections alignment
  near_in_order = near_from mapping.view sections alignment (begins ++ end ∷ []) (rw (← whole) h.cuts)

  pub cut_in_order : IsCut mapping.view sections alignment (begins ++ end ∷ [])
  cut_in_order = record {
    rising = h.rising;
    all = all_borders mapping.view sections alignment (begins ++ end ∷ []) (rw (← whole) h.cuts);
    only = h.cuts.only;
    few = omega (arith, h.cuts.few);
  }

  pub owners_in_order : owners ++ None ∷ [] ≡ map (first_owner mapping sections alignment) (begins ++ end ∷ [])
  owners_in_order =
      let windows : List Window = section_windows mapping alignment sections in
      let all : take n sections ≡ sections = take_all n sections (omega arith) in
      let last : owner_among windows end ≡ None = ap (option_map (λ (w : Window). w.owner)) (rw all at h.past end (omega arith)) in
      let front : owners ≡ map (owner_among windows) begins = rw all at h.owned in
      let joined : owners ++ None ∷ [] ≡ map (owner_among windows) (begins ++ end ∷ []) = rw (map-append (owner_among windows) begins (end ∷ []), ← front, last) refl in
      joined ∙ owners-sections mapping alignment sections (begins ++ end ∷ [])
