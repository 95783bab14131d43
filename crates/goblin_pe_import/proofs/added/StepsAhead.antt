-- The steps that a walk over imports takes.
use Rattle.std.proofs.Common.{◌≡◌, ◌⊎◌, ◌+◌, ℕ, suc, if◌then◌else◌, Bool, true, false, List, Option, Some, None, refl, sym, subst, ap, ◌∙◌, arith, inl, inr}
use Rattle.goblin_base.specs.Tables.{Format, ends_table}
use Rattle.goblin_base.proofs.SlotTables.{reads}
use Rattle.goblin_pe_import.specs.ImportEntries.{EntryValue}
use Rattle.goblin_pe_import.proofs.added.TestedPieces.{in_permissive, in_strict, summed-end, summed-first}
use Rattle.goblin_pe_import.specs.added.TestedTables.{in_next, pieces, sum_resumed, tested_slots}
use Rattle.goblin_pe_import.specs.Steps.{AreCounted, HasNotGrown, HasRefused, HasSteps, IsOut, slots_ahead}
use Rattle.goblin_pe_import.specs.added.StepsAhead.{later_ahead, pending_ahead, pieces_ahead, record_steps, walk_ahead}
use Rattle.goblin_pe_import.specs.ImportRecords.{address_table_rva, import_slots, is_last_record, lookup_offset, ImportDirectoryEntry}
use Rattle.goblin_pe_import.specs.added.ImportWalks.{is_skipped, no_imports, Walk}
use Rattle.goblin_pe_sect.specs.Addresses.{map_of, reads_strictly, Addressing}

-- ---- a record

pending-none : (strict : Bool) (format : Format EntryValue) (addressing : Addressing)
    (bytes : List ℕ) (tested : Option ℕ)
    → pending_ahead strict format addressing bytes tested None ≡ 0
pending-none true format addressing bytes tested = refl
pending-none false format addressing bytes tested = refl

module _ (strict : Bool) (format : Format EntryValue) (addressing : Addressing)
    (bytes : List ℕ) (tested : Option ℕ) (r : ImportDirectoryEntry) where
  abbrev steps : Option ℕ → ℕ
  steps from = record_steps strict format addressing bytes from r

  abbrev pieces_of : Option ℕ → ℕ
  pieces_of from = pieces_ahead strict format addressing bytes from (address_table_rva r)

  -- a piece was tested of its library's address table, and there is more of it
  pub steps-piece : (place : ℕ) → strict ≡ false
      → is_skipped strict format addressing bytes tested r
      ≡ is_skipped strict format addressing bytes (Some place) r
      → pieces_of tested ≡ suc (pieces_of (Some place)) → steps tested ≡ suc (steps (Some place))
  unfolding record_steps
  steps-piece place permissive same more = rw (same, permissive) (omega (arith, more))

  -- its library is skipped
  pub steps-left_out : strict ≡ false → is_skipped strict format addressing bytes tested r ≡ true
      → pieces_of tested ≡ 1 → steps tested ≡ 1
  unfolding record_steps
  steps-left_out permissive out one = rw (out, permissive) (omega (arith, one))

  -- it is walked over
  pub steps-entered : is_skipped strict format addressing bytes tested r ≡ false
      → (if strict then 1 else pieces_of tested) ≡ 1
      → steps tested
      ≡ suc (slots_ahead format bytes (lookup_offset addressing r)
      + pending_ahead strict format addressing bytes None (Some (address_table_rva r)))
  unfolding record_steps
  steps-entered kept one = rw (kept, one) (omega arith)

-- ---- a walk

-- nothing is ahead of one that has ended
pub ended-ahead : (format : Format EntryValue) (t : Walk) → t.at ≡ no_imports
    → walk_ahead format t ≡ 0
ended-ahead format t ended =
    let none = pending-none (reads_strictly (map_of t.finder)) format (map_of t.finder).addressing t.bytes.now None in
    rw ended (omega (arith, none))

module _ (format : Format EntryValue) (s : Walk) where
  abbrev strict : Bool
  strict = reads_strictly (map_of s.finder)

  abbrev places : Addressing
  places = (map_of s.finder).addressing

  abbrev later : Option ℕ → Option ℕ → Option ℕ → ℕ
  later = later_ahead strict format places s.bytes.now

  abbrev sum : Option ℕ → Option ℕ → ℕ
  sum = sum_resumed import_slots (record_steps strict format places s.bytes.now) s.bytes.now

  abbrev pending : Option ℕ → Option ℕ → ℕ
  pending = pending_ahead strict format places s.bytes.now

  -- there is no next record
  pub later-none : (tested left next : Option ℕ) → pending tested left ≡ 0 → next ≡ None
      → later tested left next ≡ 0
  later-none tested left next done is = rw is (omega (arith, done))

  pub later-few : (p : ℕ) (tested left : Option ℕ) (end : Option ImportDirectoryEntry)
      → reads import_slots s.bytes.now p ≡ end → ends_table is_last_record end ≡ true
      → pending tested left ≡ 0 → later tested left (Some p) ≡ 0
  later-few p tested left end r z done =
      let none =
      summed-end (record_steps strict format places s.bytes.now) s.bytes.now p (in_next strict tested) end r z
      in
      omega (arith, done, none)

  module _ (p : ℕ) (tested left : Option ℕ) (v : ImportDirectoryEntry)
      (r : reads import_slots s.bytes.now p ≡ Some v) (going : is_last_record v ≡ false)
      (done : pending tested left ≡ 0) where
    first : (from : Option ℕ)
        → sum (Some p) from ≡ record_steps strict format places s.bytes.now from v + sum (Some (p + 20)) None
    first from = summed-first (record_steps strict format places s.bytes.now) s.bytes.now p from v r going

    -- a piece was tested of its library's address table, and there is more of it
    pub library-piece : (place : ℕ) → strict ≡ false
        → record_steps strict format places s.bytes.now (in_next strict tested) v
        ≡ suc (record_steps strict format places s.bytes.now (Some place) v)
        → later tested left (Some p)
        ≡ suc (slots_ahead format s.bytes.now None + later (Some place) None (Some p))
    library-piece place permissive more =
        let none = pending-none strict format places s.bytes.now (Some place) in
        let at : sum (Some p) (in_next strict (Some place)) ≡ sum (Some p) (Some place) =
        ap (sum (Some p)) (in_permissive strict (Some place) permissive) in
        omega (arith, first (in_next strict tested), first (Some place), more, done, none, at)

    -- the walk goes on in the library of the record, or past it
    pub library-counted : (place rva : Option ℕ)
        → record_steps strict format places s.bytes.now (in_next strict tested) v
        ≡ suc (slots_ahead format s.bytes.now place + pending None rva)
        → later tested left (Some p)
        ≡ suc (slots_ahead format s.bytes.now place + later None rva (Some (p + 20)))
    library-counted place rva counted =
        omega (arith, first (in_next strict tested), counted, done)

    pub library-skipped : record_steps strict format places s.bytes.now (in_next strict tested) v ≡ 1
        → later tested left (Some p)
        ≡ suc (slots_ahead format s.bytes.now None + later None None (Some (p + 20)))
    library-skipped one =
        let none = pending-none strict format places s.bytes.now None in
        library-counted None None (omega (arith, one, none))

-- ---- what a limit has left

pub grown_then : (old now new : Option ℕ) → HasNotGrown old now → HasNotGrown now new
    → HasNotGrown old new
grown_then None now new h more = subst (λ (s : Option ℕ). HasNotGrown s new) h more
grown_then (Some a) None new h more = absurd h
grown_then (Some a) (Some b) None h more = absurd more
grown_then (Some a) (Some b) (Some d) h more = omega (arith, h, more)

-- more is counted
pub counted-then : (old now new : Option ℕ) (before x y rest : ℕ) → AreCounted old now before (x + rest)
    → AreCounted now new x y → AreCounted old new before (y + rest)
counted-then None now new before x y rest h more = subst (λ (s : Option ℕ). AreCounted s new x y) h more
counted-then (Some a) None new before x y rest h more = absurd h
counted-then (Some a) (Some b) None before x y rest h more = absurd more
counted-then (Some a) (Some b) (Some d) before x y rest h more = omega (arith, h, more)

-- or is refused
pub refused-then : (old now new : Option ℕ) (before x rest : ℕ) → HasNotGrown old now
    → AreCounted old now before (x + rest) → HasRefused now new x → HasRefused old new before
refused-then None now new before x rest grown h refused =
    subst (λ (s : Option ℕ). HasRefused s new x) h refused
refused-then (Some a) None new before x rest grown h refused = absurd h
refused-then (Some a) (Some b) None before x rest grown h refused = absurd refused
refused-then (Some a) (Some b) (Some d) before x rest grown h refused =
    (omega (arith, grown, refused.0), omega (arith, h, refused.1))

-- the same with nothing beside it
pub counted-over : (old now new : Option ℕ) (before x y : ℕ) → AreCounted old now before x
    → AreCounted now new x y → AreCounted old new before y
counted-over None now new before x y h more = subst (λ (s : Option ℕ). AreCounted s new x y) h more
counted-over (Some a) None new before x y h more = absurd h
counted-over (Some a) (Some b) None before x y h more = absurd more
counted-over (Some a) (Some b) (Some d) before x y h more = omega (arith, h, more)

pub refused-over : (old now new : Option ℕ) (before x : ℕ) → HasNotGrown old now
    → AreCounted old now before x → HasRefused now new x → HasRefused old new before
refused-over None now new before x grown h refused =
    subst (λ (s : Option ℕ). HasRefused s new x) h refused
refused-over (Some a) None new before x grown h refused = absurd h
refused-over (Some a) (Some b) None before x grown h refused = absurd refused
refused-over (Some a) (Some b) (Some d) before x grown h refused =
    (omega (arith, grown, refused.0), omega (arith, h, refused.1))

-- where a limit has steps left, a table's end is reached
pub place-ended : (place steps : Option ℕ) → (place ≡ None) ⊎ IsOut steps → HasSteps steps
    → place ≡ None
place-ended place steps (inl is) has = is
place-ended place None (inr out) has = absurd out
place-ended place (Some left) (inr out) has = absurd (omega (arith, out, has))
