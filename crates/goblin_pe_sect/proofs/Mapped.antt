-- Bounds on what the windows of sections reach, and what the mapping of addresses means.
use Rattle.std.proofs.Common.{◌≡◌, ℕ, zero, suc, ◌+◌, ◌<◌, ◌≤◌, Bool, true, false, cond, ◌==◌, min, IsTrue, List, Option, Some, None, find, MatchOption, refl, ap, sym, subst, arith, rules, tests, option_map}
use Rattle.std.specs.{Int.is_power_of_two, List.position_or_len}
use Rattle.std.proofs.lemmas.Bool.Decides.{nat_tests}
use lib.Count.{ones}
use Rattle.goblin_pe_sect.specs.{declared.options.Mapping.Mapping, declared.options.View.View}
use Rattle.goblin_pe_sect.specs.{SectionTable.Section, Multiples.least_multiple}
use Rattle.goblin_pe_sect.specs.Mapping.{read_size, is_in_window, offset_in, file_offset, InWindow, IsFirstWindow, MapsTo, MapsNowhere, blocks_size, pages_size, raw_begin, window_end}
use Rattle.goblin_pe_sect.proofs.Multiples.{up_near}
use Rattle.goblin_base.proofs.First.{found_at_first, found_passes, fails_before, none_passes, first_is_found}

-- zero is no power of two
pub power_positive : (a : ℕ) → IsTrue (is_power_of_two a) → 0 < a
unfolding ones
power_positive zero h = absurd (cc h)
power_positive (suc a) h = omega arith

read-bounded : (b c : Bool) (x y z bound : ℕ) → y ≤ bound → cond b 0 (cond c (min x y) (min (min x y) z)) ≤ bound
read-bounded true c x y z bound h = omega arith
read-bounded false true x y z bound h = omega arith
read-bounded false false x y z bound h = omega arith

-- a section is read up to less than a page past its raw size
pub read_size_le : (view : View) (s : Section) (alignment : ℕ) → read_size view s alignment ≤ s.size_of_raw_data + 4095
unfolding read_size
read_size_le view s alignment =
    read-bounded (s.size_of_raw_data == 0) (s.virtual_size == 0) _ _ _ _ (omega (arith, up_near 4096 s.size_of_raw_data (omega arith)))

-- nor past its raw size in whole pages
pub window_below : (view : View) (s : Section) (alignment : ℕ) → window_end view s alignment ≤ s.virtual_address + least_multiple 4096 s.size_of_raw_data
unfolding read_size
window_below view s alignment =
    let most : read_size view s alignment ≤ least_multiple 4096 s.size_of_raw_data = read-bounded (s.size_of_raw_data == 0) (s.virtual_size == 0) _ _ _ _ (omega arith) in
    omega (arith, most)

pages-bounded : (b c : Bool) (x y z : ℕ) → cond b 0 (cond c (min x y) (min (min x y) z)) ≤ cond c y z
pages-bounded true true x y z = omega arith
pages-bounded true false x y z = omega arith
pages-bounded false true x y z = omega arith
pages-bounded false false x y z = omega arith

pages-by : (c : Bool) (x y : ℕ) → least_multiple 4096 (cond c x y) ≡ cond c (least_multiple 4096 x) (least_multiple 4096 y)
pages-by true x y = refl
pages-by false x y = refl

-- nor past its pages in memory
pub within_pages : (view : View) (s : Section) (alignment : ℕ) → read_size view s alignment ≤ pages_size s
unfolding read_size
within_pages view s alignment =
    omega (
      arith,
      pages-bounded (s.size_of_raw_data == 0) (s.virtual_size == 0) (blocks_size view alignment s.pointer_to_raw_data s.size_of_raw_data) (least_multiple 4096 s.size_of_raw_data) (least_multiple 4096 s.virtual_size),
      pages-by (s.virtual_size == 0) s.size_of_raw_data s.virtual_size,
    )

-- an address in a window lies between its start and its end
pub in_window : (view : View) (alignment rva : ℕ) (s : Section) → is_in_window view alignment rva s ≡ true → InWindow view alignment rva s
in_window view alignment rva s h = grind (arith, nat_tests)

-- a window that the test denies does not hold the address
pub not_in_window : (view : View) (alignment rva : ℕ) (s : Section) → is_in_window view alignment rva s ≡ false → ¬ InWindow view alignment rva s
not_in_window view alignment rva s fails holds = grind (arith, nat_tests)

-- the section that is found holds the address, and its window is the first
pub found_in_window : (view : View) (alignment rva : ℕ) (sections : List Section) (s : Section) → find (is_in_window view alignment rva) sections ≡ Some s → InWindow view alignment rva s
found_in_window view alignment rva sections s e = in_window view alignment rva s (found_passes (is_in_window view alignment rva) sections s e)

first_by : (mapping : Mapping) (sections : List Section) (alignment rva : ℕ) (found : Option Section) → find (is_in_window mapping.view alignment rva) sections ≡ found → MatchOption (option_map (λ s. offset_in mapping s rva) found) (MapsNowhere mapping.view sections alignment rva) (MapsTo mapping sections alignment rva)
first_by mapping sections alignment rva None e = λ k s at. not_in_window mapping.view alignment rva s (none_passes (is_in_window mapping.view alignment rva) sections e k s at)
first_by mapping sections alignment rva (Some s) e =
    let first : IsFirstWindow mapping.view sections alignment rva (position_or_len (is_in_window mapping.view alignment rva) sections) = record {
      section = s;
      is = found_at_first (is_in_window mapping.view alignment rva) sections s e;
      holds = found_in_window mapping.view alignment rva sections s e;
      least = λ k t lt at. not_in_window mapping.view alignment rva t (fails_before (is_in_window mapping.view alignment rva) sections k t lt at);
    } in
    (position_or_len (is_in_window mapping.view alignment rva) sections, first, refl)

pub file_offset-mapped : (mapping : Mapping) (sections : List Section) (alignment rva : ℕ) → IsTrue mapping.resolve_rva → IsTrue (is_power_of_two alignment) → file_offset mapping sections alignment rva ≡ option_map (λ s. offset_in mapping s rva) (find (is_in_window mapping.view alignment rva) sections)
unfolding file_offset
file_offset-mapped mapping sections alignment rva on even =
    let on' : mapping.resolve_rva ≡ true = search (rules, tests) in
    let even' : is_power_of_two alignment ≡ true = search (rules, tests) in
    rw (on', even') refl

-- the file offset of an address is that of the section with the least index among those whose windows hold it
pub file_offset_first : (mapping : Mapping) (sections : List Section) (alignment rva : ℕ) → IsTrue mapping.resolve_rva → IsTrue (is_power_of_two alignment) → MatchOption (file_offset mapping sections alignment rva) (MapsNowhere mapping.view sections alignment rva) (MapsTo mapping sections alignment rva)
file_offset_first mapping sections alignment rva on even =
    let Says : Option ℕ → Type 0 = λ o. MatchOption o (MapsNowhere mapping.view sections alignment rva) (MapsTo mapping sections alignment rva) in
    subst Says (sym (file_offset-mapped mapping sections alignment rva on even)) (first_by mapping sections alignment rva (find (is_in_window mapping.view alignment rva) sections) refl)

-- an address that is in a window by its words passes the test
pub window_test : (view : View) (alignment rva : ℕ) (s : Section) → InWindow view alignment rva s → is_in_window view alignment rva s ≡ true
window_test view alignment rva s holds = grind (arith, nat_tests)

-- and one that is not fails it
pub window_test_fails : (view : View) (alignment rva : ℕ) (s : Section) → ¬ InWindow view alignment rva s → is_in_window view alignment rva s ≡ false
window_test_fails view alignment rva s out = grind (arith, nat_tests)

-- the first section whose window holds the address is found
pub first_window-find : (view : View) (sections : List Section) (alignment rva index : ℕ) (first : IsFirstWindow view sections alignment rva index) → find (is_in_window view alignment rva) sections ≡ Some first.section
first_window-find view sections alignment rva index first =
    first_is_found (is_in_window view alignment rva) sections index first.section first.is (window_test view alignment rva first.section first.holds)
    (λ k s lt at. window_test_fails view alignment rva s (first.least k s lt at))

apart_by : (b even : Bool) (x y : Option ℕ) (first second : ℕ) → even ≡ true → (x ≡ y → first ≡ second) → cond b (cond even x None) (Some first) ≡ cond b (cond even y None) (Some second) → first ≡ second
apart_by true true x y first second is same e = same e
apart_by true false x y first second is same e = absurd (cc)
apart_by false even x y first second is same e = cc

-- addresses that one section maps to one offset are the same
pub file_offset_injective : (mapping : Mapping) (sections : List Section) (alignment first second index : ℕ) → IsTrue (is_power_of_two alignment) → IsFirstWindow mapping.view sections alignment first index → IsFirstWindow mapping.view sections alignment second index → file_offset mapping sections alignment first ≡ file_offset mapping sections alignment second → first ≡ second
unfolding file_offset
file_offset_injective mapping sections alignment first second index even x y e =
    let even' : is_power_of_two alignment ≡ true = search (rules, tests) in
    let one : x.section ≡ y.section = cc (x.is, y.is) in
    let pointer = ap (raw_begin mapping) one in
    let address = ap (λ (s : Section). s.virtual_address) one in
    let x_at = ap (option_map (λ s. offset_in mapping s first)) (first_window-find mapping.view sections alignment first index x) in
    let y_at = ap (option_map (λ s. offset_in mapping s second)) (first_window-find mapping.view sections alignment second index y) in
    apart_by mapping.resolve_rva (is_power_of_two alignment) _ _ first second even' (λ same.
    let offsets : offset_in mapping x.section first ≡ offset_in mapping y.section second = cc (x_at, y_at, same) in
    omega (arith, offsets, pointer, address, x.holds, y.holds)) e
