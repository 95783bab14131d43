-- An index whose pieces are cut at the windows of a section table answers as the table does.
use Rattle.std.proofs.Common.{◌≡◌, ℕ, zero, suc, ◌+◌, ◌-◌, ◌^◌, ◌<◌, ◌≤◌, Bool, true, false, cond, ◌&&◌, List, [], length, slice_index, slice_get, get_or, nat_le, nat_lt, Option, Some, None, find, map, refl, ap, sym, subst, ◌∙◌, inl, inr, arith, tests, rules}
use Rattle.std.specs.List.{slice_index_or, position, position_or_len, Contains}
use Rattle.std.specs.{List.Sorted.IsStrictlyIncreasing, Int.is_power_of_two}
use Rattle.std.specs.Option.{option_map, option_and_then, option_map_or}
use Rattle.std.proofs.lemmas.List.{get_or-map, get_or_past, get_or_default, length-map}
use Rattle.std.proofs.lemmas.List.Sums.{prefix_len_passes, prefix_len_stops, prefix_len-le-length}
use Rattle.std.proofs.{lemmas.List.Folds.find_at, lemmas.List.Quantifiers.position-Some}
use Rattle.std.proofs.{lemmas.Bool.cases_lt, lemmas.Bool.cases_Bool, lemmas.Option.slice_get_past}
use Rattle.std.proofs.{lemmas.Option.get_or_from_slice_get, lemmas.Bool.Decides.nat_tests}
use Rattle.goblin_pe_sect.specs.Mapping.{read_size, window_end, is_in_window, offset_in, file_offset}
use Rattle.goblin_pe_sect.specs.WindowIndex.{IsCut, IsIndex, Pieces, AreNear, reached, last_owner, located, owner_offset, first_owner, owner_of_section, owners_of}
use Rattle.goblin_pe_sect.specs.{declared.options.Mapping.Mapping, declared.options.View.View}
use Rattle.goblin_pe_sect.specs.SectionTable.{Section}
use Rattle.goblin_pe_sect.specs.declared.windows.bounds.Piece.{Piece}
use Rattle.goblin_pe_sect.specs.declared.windows.owners.Owner.{Owner}
use Rattle.goblin_base.proofs.First.{find_same}
use Rattle.goblin_pe_sect.proofs.{Halving.rising_at, Halving.rising_to, Mapped.in_window}

-- two intervals hold two numbers alike
interval_same : (v e b r : ℕ) → (v ≤ b → v ≤ r) → (v ≤ r → v ≤ b) → (b < e → r < e) → (r < e → b < e) → nat_le v b && nat_lt b e ≡ nat_le v r && nat_lt r e
interval_same v e b r low_to low_from high_to high_from = grind (arith, nat_tests)

-- a window that holds nothing
interval_none : (v e b r : ℕ) → e ≤ v → nat_le v b && nat_lt b e ≡ nat_le v r && nat_lt r e
interval_none v e b r empty = grind (arith, nat_tests)

-- the last cut at or before an address, and the next
record IsBetween (begins : List ℕ) (rva k : ℕ) : Type 0 where
  within : k < length begins
  before : slice_index begins k ≤ rva
  after : k + 1 < length begins → rva < slice_index begins (k + 1)

-- where a number of the cuts lies, by its value
at_or_before : (begins : List ℕ) → IsStrictlyIncreasing begins → (rva k : ℕ) → IsBetween begins rva k → (v : ℕ) → Contains begins v → v ≤ rva → v ≤ slice_index begins k
at_or_before begins up rva k h v has low =
    let i : ℕ = has.0 in
    let here : get_or begins i 0 ≡ v = get_or_default begins i 0 v has.1 ∙ has.2 in
    elim (cases_lt k i) [
      | inl later ↦ absurd (omega (arith, here, h.after (omega (arith, has.1)), rising_to begins up (k + 1) i (omega arith) has.1))
      | inr earlier ↦ omega (arith, here, rising_to begins up i k earlier h.within)
    ]

begins_after : (begins : List ℕ) → IsStrictlyIncreasing begins → (rva k : ℕ) → IsBetween begins rva k → (v : ℕ) → Contains begins v → slice_index begins k < v → (k + 1 < length begins) × (slice_index begins (k + 1) ≤ v) × (rva < v)
begins_after begins up rva k h v has high =
    let i : ℕ = has.0 in
    let here : get_or begins i 0 ≡ v = get_or_default begins i 0 v has.1 ∙ has.2 in
    elim (cases_lt k i) [
      | inl later ↦
          let next : k + 1 < length begins = omega (arith, has.1) in
          let at : get_or begins (k + 1) 0 ≤ get_or begins i 0 = rising_to begins up (k + 1) i (omega arith) has.1 in
          (next, omega (arith, here, at), omega (arith, here, at, h.after next))
      | inr earlier ↦ absurd (omega (arith, here, rising_to begins up i k earlier h.within))
    ]

-- a window holds an address as it holds the start of its piece
same_window : (view : View) (sections : List Section) (alignment : ℕ) (begins : List ℕ) → IsCut view sections alignment begins → (rva k : ℕ) → IsBetween begins rva k → (j : ℕ) (s : Section) → slice_get sections j ≡ Some s → is_in_window view alignment (slice_index begins k) s ≡ is_in_window view alignment rva s
same_window view sections alignment begins cut rva k h j s is =
    elim (cases_lt 0 (read_size view s alignment)) [
      | inl some ↦
          interval_same s.virtual_address (window_end view s alignment) (slice_index begins k) rva
          (λ low. omega (arith, h.before, low))
          (λ low. at_or_before begins cut.rising rva k h s.virtual_address (cut.all s.virtual_address (inr (j, s, is, some, inl refl))) low)
          (λ high. (begins_after begins cut.rising rva k h (window_end view s alignment) (cut.all (window_end view s alignment) (inr (j, s, is, some, inr refl))) high).2)
          (λ high. omega (arith, h.before, high))
      | inr none ↦ interval_none s.virtual_address (window_end view s alignment) (slice_index begins k) rva (omega arith)
    ]

-- every address lies in a piece
in_one_piece : (view : View) (sections : List Section) (alignment : ℕ) (begins : List ℕ) → IsCut view sections alignment begins → (rva : ℕ) → (0 < reached begins rva) × IsBetween begins rva (reached begins rva - 1)
in_one_piece view sections alignment begins cut rva =
    let n : ℕ = reached begins rva in
    let start : Contains begins 0 = cut.all 0 (inl refl) in
    let i : ℕ = start.0 in
    let here : get_or begins i 0 ≡ 0 = start.2 in
    let most : n ≤ length begins = prefix_len-le-length (λ b. nat_le b rva) begins in
    let stops : n < length begins → rva < get_or begins n 0 = λ lt. let test : nat_le (get_or begins n 0) rva ≡ false = prefix_len_stops (λ b. nat_le b rva) begins 0 lt in search (rules, tests) in
    elim (cases_lt 0 n) [
      | inl some ↦
          let passes : nat_le (get_or begins (n - 1) 0) rva ≡ true = prefix_len_passes (λ b. nat_le b rva) begins (n - 1) 0 (omega arith) in
          let next : n - 1 + 1 ≡ n = omega arith in (
            some,
            record {
              within = omega arith;
              before = search (rules, tests);
              after = λ lt. rw next (stops (omega (arith, lt)));
            },
          )
      | inr none ↦ absurd (omega (arith, here, stops (omega (arith, start.1)), rising_to begins cut.rising n i (omega arith) start.1))
    ]

section_answers : (mapping : Mapping) (rva i : ℕ) (o : Option Section) → option_map (owner_offset rva) (option_map (owner_of_section mapping i) o) ≡ option_map (λ s. offset_in mapping s rva) o
section_answers mapping rva i None = refl
section_answers mapping rva i (Some s) = refl

index_answers : (mapping : Mapping) (sections : List Section) (rva i : ℕ) (b : Bool) → (b ≡ false → slice_get sections i ≡ None) → option_map (owner_offset rva) (option_and_then (λ (i : ℕ). option_map (owner_of_section mapping i) (slice_get sections i)) (cond b (Some i) None)) ≡ option_map (λ s. offset_in mapping s rva) (slice_get sections i)
index_answers mapping sections rva i true none = section_answers mapping rva i (slice_get sections i)
index_answers mapping sections rva i false none = rw (none refl) refl

-- the owner answers as the first section does
owner_answers : (mapping : Mapping) (sections : List Section) (alignment begin rva : ℕ) → option_map (owner_offset rva) (first_owner mapping sections alignment begin) ≡ option_map (λ s. offset_in mapping s rva) (find (is_in_window mapping.view alignment begin) sections)
owner_answers mapping sections alignment begin rva =
    let i : ℕ = position_or_len (is_in_window mapping.view alignment begin) sections in
    let past : nat_lt i (length sections) ≡ false → slice_get sections i ≡ None = λ e. slice_get_past sections i (search (rules, tests)) in
    index_answers mapping sections rva i (nat_lt i (length sections)) past ∙ ap (option_map (λ s. offset_in mapping s rva)) (sym (find_at (is_in_window mapping.view alignment begin) sections))

pub last_owner_some : (owners : List (Option Owner)) (n : ℕ) → 0 < n → last_owner owners n ≡ slice_index_or owners (n - 1) None
last_owner_some owners zero some = absurd (omega arith)
last_owner_some owners (suc k) some = let same : k ≡ suc k - 1 = omega arith in ap (λ (j : ℕ). slice_index_or owners j None) same

-- pieces cut at the windows answer as the first section whose window holds the address
pub mapped_pieces : (mapping : Mapping) (sections : List Section) (alignment : ℕ) (begins : List ℕ) → IsCut mapping.view sections alignment begins → (rva : ℕ) → option_map (owner_offset rva) (last_owner (map (first_owner mapping sections alignment) begins) (reached begins rva)) ≡ option_map (λ s. offset_in mapping s rva) (find (is_in_window mapping.view alignment rva) sections)
mapped_pieces mapping sections alignment begins cut rva =
    let n : ℕ = reached begins rva in
    let place = in_one_piece mapping.view sections alignment begins cut rva in
    let answer : Option Owner → Option ℕ = option_map (owner_offset rva) in
    let owner : last_owner (map (first_owner mapping sections alignment) begins) n ≡ first_owner mapping sections alignment (slice_index begins (n - 1)) = last_owner_some (map (first_owner mapping sections alignment) begins) n place.0 ∙ get_or-map (first_owner mapping sections alignment) begins (n - 1) 0 None place.1.within in
    let same : find (is_in_window mapping.view alignment (slice_index begins (n - 1))) sections ≡ find (is_in_window mapping.view alignment rva) sections = find_same _ _ sections (same_window mapping.view sections alignment begins cut rva (n - 1) place.1) in
    ap answer owner ∙ owner_answers mapping sections alignment (slice_index begins (n - 1)) rva ∙ ap (option_map (λ s. offset_in mapping s rva)) same

-- an owner is that of a section whose window holds the address
record IsOwned (mapping : Mapping) (sections : List Section) (alignment begin : ℕ) (o : Owner) : Type 0 where
  place : ℕ
  section : Section
  is : slice_get sections place ≡ Some section
  holds : is_in_window mapping.view alignment begin section ≡ true
  address : o.address ≡ section.virtual_address

owned_by_section : (mapping : Mapping) (sections : List Section) (alignment begin : ℕ) (o : Owner) (i : ℕ) → position (is_in_window mapping.view alignment begin) sections ≡ Some i → (found : Option Section) → slice_get sections i ≡ found → option_map (owner_of_section mapping i) found ≡ Some o → IsOwned mapping sections alignment begin o
owned_by_section mapping sections alignment begin o i at None is e = absurd (cc)
owned_by_section mapping sections alignment begin o i at (Some s) is e =
    let passes : is_in_window mapping.view alignment begin (get_or sections i s) ≡ true = (position-Some (is_in_window mapping.view alignment begin) sections i s at).1 in
    let same : get_or sections i s ≡ s = get_or_from_slice_get sections i s s is in
    record {
      place = i;
      section = s;
      is = is;
      holds = rw same at passes;
      address = ap (λ (x : Option Owner). option_map_or (λ (o : Owner). o.address) x 0) (sym e);
    }

owned_by_index : (mapping : Mapping) (sections : List Section) (alignment begin : ℕ) (o : Owner) (at : Option ℕ) → position (is_in_window mapping.view alignment begin) sections ≡ at → option_and_then (λ (i : ℕ). option_map (owner_of_section mapping i) (slice_get sections i)) at ≡ Some o → IsOwned mapping sections alignment begin o
owned_by_index mapping sections alignment begin o None is e = absurd (cc)
owned_by_index mapping sections alignment begin o (Some i) is e = owned_by_section mapping sections alignment begin o i is (slice_get sections i) refl e

-- an owned piece of the index
owned_piece : (mapping : Mapping) (sections : List Section) (alignment : ℕ) (begins : List ℕ) → (k : ℕ) (o : Owner) → slice_index_or (map (first_owner mapping sections alignment) begins) k None ≡ Some o → (k < length begins) × IsOwned mapping sections alignment (slice_index begins k) o
owned_piece mapping sections alignment begins k o e =
    elim (cases_lt k (length begins)) [
      | inl within ↦ (within, owned_by_index mapping sections alignment (slice_index begins k) o _ refl (sym (get_or-map (first_owner mapping sections alignment) begins k 0 None within) ∙ e))
      | inr past ↦
          let none : slice_index_or (map (first_owner mapping sections alignment) begins) k None ≡ None = get_or_past _ k None (omega (arith, length-map begins (first_owner mapping sections alignment))) in
          absurd (cc)
    ]

pub index_is : (mapping : Mapping) (sections : List Section) (alignment : ℕ) (begins : List ℕ) → IsCut mapping.view sections alignment begins → AreNear mapping.view sections alignment → IsIndex true begins (map (first_owner mapping sections alignment) begins)
index_is mapping sections alignment begins cut near = record {
  rising = cut.rising;
  one_each = length-map begins (first_owner mapping sections alignment);
  low = λ k o e.
      let own = owned_piece mapping sections alignment begins k o e in
      omega (arith, own.1.address, in_window mapping.view alignment (slice_index begins k) own.1.section own.1.holds);
  high = λ k o e.
      let own = owned_piece mapping sections alignment begins k o e in
      let s : Section = own.1.section in
      let inside = in_window mapping.view alignment (slice_index begins k) s own.1.holds in
      let here : IsBetween begins (slice_index begins k) k = record { within = own.0; before = omega arith; after = λ lt. rising_at begins cut.rising k (k + 1) (omega arith) lt } in
      let next = begins_after begins cut.rising (slice_index begins k) k here (window_end mapping.view s alignment) (cut.all (window_end mapping.view s alignment) (inr (own.1.place, s, own.1.is, omega (arith, inside), inr refl))) inside.1 in
      (next.0, omega (arith, next.1, own.1.address, near own.1.place s own.1.is));
  unmapped = λ off. cc;
}

-- the three kinds of index answer as the section table does
pub located-direct : (mapping : Mapping) (sections : List Section) (alignment rva : ℕ) → mapping.resolve_rva ≡ false → located (record { resolves = false; begins = []; owners = [] }) rva ≡ file_offset mapping sections alignment rva
unfolding located file_offset
located-direct mapping sections alignment rva off = rw off refl

pub located-unaligned : (mapping : Mapping) (sections : List Section) (alignment rva : ℕ) → mapping.resolve_rva ≡ true → is_power_of_two alignment ≡ false → located (record { resolves = true; begins = []; owners = [] }) rva ≡ file_offset mapping sections alignment rva
unfolding located file_offset
located-unaligned mapping sections alignment rva on odd = rw (on, odd) refl

pub located-prepared : (mapping : Mapping) (sections : List Section) (alignment : ℕ) (begins : List ℕ) (owners : List (Option Owner)) → mapping.resolve_rva ≡ true → is_power_of_two alignment ≡ true → IsCut mapping.view sections alignment begins → owners ≡ map (first_owner mapping sections alignment) begins → (rva : ℕ) → located (record { resolves = true; begins = begins; owners = owners }) rva ≡ file_offset mapping sections alignment rva
unfolding located file_offset
located-prepared mapping sections alignment begins owners on even cut is rva = rw (on, even, is) (mapped_pieces mapping sections alignment begins cut rva)

-- ---- what an index answers by its pieces

-- the last piece that begins at or before an address holds it within reach of its owner's address
pub held : (resolves : Bool) (begins : List ℕ) (owners : List (Option Owner)) → IsIndex resolves begins owners → (rva n : ℕ) (o : Owner) → n ≡ reached begins rva → 0 < n → slice_index_or owners (n - 1) None ≡ Some o → (o.address ≤ rva) × (rva < o.address + 2 ^ 33)
held resolves begins owners h rva n o is some owned =
    let k : ℕ = n - 1 in
    let begun : nat_le (get_or begins k 0) rva ≡ true = prefix_len_passes (λ b. nat_le b rva) begins k 0 (omega (arith, is)) in
    let before : get_or begins k 0 ≤ rva = search (rules, tests) in
    let high = h.high k o owned in
    let next : n ≡ k + 1 = omega arith in
    let stops : nat_le (get_or begins (reached begins rva) 0) rva ≡ false = prefix_len_stops (λ b. nat_le b rva) begins 0 (omega (arith, is, high.0)) in
    let after : rva < get_or begins (reached begins rva) 0 = search (rules, tests) in
    let same : get_or begins (reached begins rva) 0 ≡ get_or begins (k + 1) 0 = ap (λ (j : ℕ). get_or begins j 0) (omega (arith, is)) in
    (omega (arith, h.low k o owned, before), omega (arith, high.1, after, same))

-- the last piece that begins at or before an address has its place among the owners
pub piece_within : (resolves : Bool) (begins : List ℕ) (owners : List (Option Owner)) (w : Pieces) → record { resolves = resolves; begins = begins; owners = owners } ≡ w → IsIndex resolves begins owners → (rva n : ℕ) → n ≡ reached w.begins rva → 0 < n → n - 1 < length owners
piece_within resolves begins owners w seen h rva n is some =
    let at : n ≡ reached begins rva = is ∙ ap (λ (v : Pieces). reached v.begins rva) (sym seen) in
    omega (arith, at, h.one_each, prefix_len-le-length {X = ℕ})

pub length-owners : (pieces : List Piece) → length (owners_of pieces) ≡ length pieces
length-owners pieces = length-map pieces (λ (p : Piece). p.owner)

-- the owner of a piece that was read
pub owner_read : (pieces : List Piece) (i : ℕ) (p : Piece) → i < length (owners_of pieces) → p ≡ get_or pieces i p → slice_index_or (owners_of pieces) i None ≡ p.owner
owner_read pieces i p within read =
    get_or-map (λ (p : Piece). p.owner) pieces i p None (omega (arith, within, length-owners pieces)) ∙ ap (λ (p : Piece). p.owner) (sym read)

-- and that of the last of n pieces
pub last_owner_read : (resolves : Bool) (begins : List ℕ) (pieces : List Piece) (w : Pieces) → record { resolves = resolves; begins = begins; owners = owners_of pieces } ≡ w → (n : ℕ) (p : Piece) → 0 < n → n - 1 < length (owners_of pieces) → p ≡ get_or pieces (n - 1) p → last_owner w.owners n ≡ p.owner
last_owner_read resolves begins pieces w seen n p some within read =
    ap (λ (v : Pieces). last_owner v.owners n) (sym seen) ∙ last_owner_some (owners_of pieces) n some ∙ owner_read pieces (n - 1) p within read

-- where it has an owner, the address lies within reach of the owner's, and has the offset that the index answers
pub piece_answers : (resolves : Bool) (begins : List ℕ) (owners : List (Option Owner)) (w : Pieces) → record { resolves = resolves; begins = begins; owners = owners } ≡ w → IsIndex resolves begins owners → (rva n : ℕ) → n ≡ reached w.begins rva → 0 < n → (o : Owner) → (n - 1 < length owners → slice_index_or owners (n - 1) None ≡ Some o) → (o.address ≤ rva) × (rva < o.address + 2 ^ 33) × (Some (owner_offset rva o) ≡ option_map (owner_offset rva) (last_owner w.owners n))
piece_answers resolves begins owners w seen h rva n is some o owned =
    let at : n ≡ reached begins rva = is ∙ ap (λ (v : Pieces). reached v.begins rva) (sym seen) in
    let here = owned (piece_within resolves begins owners w seen h rva n is some) in
    let near = held resolves begins owners h rva n o at some here in
    let answer : Some (owner_offset rva o) ≡ option_map (owner_offset rva) (last_owner owners n) = sym (ap (option_map (owner_offset rva)) (last_owner_some owners n some ∙ here)) in
    (near.0, near.1, answer ∙ ap (λ (v : Pieces). option_map (owner_offset rva) (last_owner v.owners n)) seen)

-- ---- what is found

module _ (resolves : Bool) (begins : List ℕ) (owners : List (Option Owner)) (w : Pieces) (seen : record { resolves = resolves; begins = begins; owners = owners } ≡ w) (rva n : ℕ) (is : n ≡ reached w.begins rva) where
  counted : n ≡ reached begins rva
  counted = is ∙ ap (λ (v : Pieces). reached v.begins rva) (sym seen)

  -- no piece begins at or before an address that is mapped
  pub located-none : resolves ≡ true → n ≡ 0 → None ≡ located w rva
  unfolding located
  located-none on none =
      let count : reached begins rva ≡ 0 = sym counted ∙ none in
      subst (λ (v : Pieces). None ≡ located v rva) seen (rw (on, count) refl)

  -- no address is mapped
  pub located-itself : resolves ≡ false → Some rva ≡ located w rva
  unfolding located
  located-itself off = subst (λ (v : Pieces). Some rva ≡ located v rva) seen (rw off refl)

  -- the last piece that begins at or before an address
  pub located-piece : IsIndex resolves begins owners → (n ≡ 0 → ⊥) → option_map (owner_offset rva) (last_owner w.owners n) ≡ located w rva
  unfolding located
  located-piece h some =
      subst (λ (v : Pieces). option_map (owner_offset rva) (last_owner v.owners n) ≡ located v rva) seen
      (elim (cases_Bool resolves) [
        | inl on ↦ rw (on, counted) refl
        | inr off ↦
            let empty : n ≡ 0 = rw (h.unmapped off) at counted in
            absurd (some empty)
      ])
