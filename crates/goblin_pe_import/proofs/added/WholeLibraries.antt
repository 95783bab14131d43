-- What a permissive walk over libraries skips: those that are left out, and an end that strict mode refuses.
use Rattle.std.proofs.Common.{◌≡◌, ◌≤◌, ◌+◌, ℕ, zero, suc, Bool, true, false, not, ◌&&◌, if◌then◌else◌, cond, List, [], ◌∷◌, ◌++◌, length, Option, Some, None, IsSomeAnd, is_some, refl, ap, sym, subst, ◌∙◌, arith}
use Rattle.std.specs.List.{count_by}
use Rattle.std.proofs.lemmas.List.Sums.{sum_by-append}
use Rattle.goblin_base.specs.{Answers.all_of, Tables.Format}
use Rattle.goblin_base.specs.Tables.{concat_below, ends_table, join, slot_at, slot_place, stop}
use Rattle.goblin_base.proofs.Below.{least-before}
use Rattle.readings.specs.Walks.{end_items, items_at, table_walk}
use Rattle.readings.proofs.WalkValues.{all_of-append, all_of-until, joined-end}
use Rattle.goblin_pe_sect.specs.Addresses.{Addressing, MapOfAddresses, reads_strictly}
use Rattle.goblin_pe_import.specs.ImportEntries.{EntryValue}
use Rattle.goblin_pe_import.specs.ImportRecords.{ImportDirectoryEntry, import_slots, is_last_record}
use Rattle.goblin_pe_import.specs.Passed.{as_skipped, table_counts}
use Rattle.goblin_pe_import.specs.Passed.Count.{Skipped}
use Rattle.goblin_pe_import.specs.TableSums.{amount_of, sum_below, sum_of_slots}
use Rattle.goblin_pe_import.specs.added.{ImportWalks.ImportCursor, ImportWalks.is_skipped, TestedTables.counts_resumed}
use Rattle.goblin_pe_import.specs.added.Libraries.{AreLibrariesAt, LibraryValue, libraries_ahead, libraries_bytes, libraries_cursor, libraries_format, libraries_left, libraries_map, libraries_next, library_at, tested_at}
use Rattle.goblin_pe_import.specs.added.WholeReads.{SkipsLeftOut}
use Rattle.goblin_pe_import.specs.declared.added.library_walk.Libraries.{Libraries}

-- how many rows are left out
abbrev left_out : List LibraryValue → ℕ
left_out rows = count_by (λ x. x.is_left_out) rows

abbrev AreCounted : Option (List LibraryValue) → ℕ → Type 0
AreCounted all total = IsSomeAnd all (λ rows. left_out rows ≡ total)

joined : (xs ys : Option (List LibraryValue)) (a b : ℕ) → AreCounted xs a → AreCounted ys b
    → AreCounted (join xs ys) (a + b)
joined None ys a b h k = absurd h
joined (Some xs) None a b h k = absurd k
joined (Some xs) (Some ys) a b h k = omega (arith, h, k, sum_by-append (λ (x : LibraryValue). cond x.is_left_out 1 0) xs ys)

by-end : (end : Bool) (all : Option (List LibraryValue)) (total : ℕ) → AreCounted all total
    → SkipsLeftOut (total + (if end then 0 else 1)) (cond (not end) None all) all
by-end end None total h = absurd h
by-end true (Some rows) total h = omega (arith, h)
by-end false (Some rows) total h = omega (arith, h)

module _ (format : Format EntryValue) (addressing : Addressing) (bytes : List ℕ) (first : ℕ) where
  abbrev items : ℕ → ImportDirectoryEntry → List (Option LibraryValue)
  items p r = Some (library_at format addressing bytes first p None r) ∷ []

  abbrev counts : Option ℕ → ImportDirectoryEntry → ℕ
  counts tested r = if is_skipped false format addressing bytes tested r then as_skipped Skipped else 0

  abbrev next : Bool → Option ℕ → Option (List LibraryValue)
  next strict place = all_of (libraries_next strict format addressing bytes first place None)

  one : (place : ℕ) (slot : Option ImportDirectoryEntry) → ends_table is_last_record slot ≡ false
      → AreCounted (all_of (items_at items place slot)) (amount_of (counts None) slot)
  one place None going = absurd cc
  one place (Some r) going = omega arith

  module _ (p : ℕ) where
    abbrev n : ℕ
    n = stop import_slots bytes p

    abbrev slot : ℕ → Option ImportDirectoryEntry
    slot = slot_at import_slots bytes p

    abbrev rows : ℕ → List (Option LibraryValue)
    rows k = concat_below (λ i. items_at items (slot_place import_slots p i) (slot i)) k

    counted : (k : ℕ) → k ≤ n → AreCounted (all_of (rows k)) (sum_below (λ i. amount_of (counts None) (slot i)) k)
    unfolding stop sum_below
    counted zero below = refl
    counted (suc k) below =
        let going = least-before (λ i. ends_table is_last_record (slot i)) (length bytes) k (omega (arith, below)) in
        subst (λ (all : Option (List LibraryValue)). AreCounted all (sum_below (λ i. amount_of (counts None) (slot i)) (suc k)))
        (sym (all_of-append (rows k) (items_at items (slot_place import_slots p k) (slot k))))
        (joined (all_of (rows k)) (all_of (items_at items (slot_place import_slots p k) (slot k)))
        (sum_below (λ i. amount_of (counts None) (slot i)) k) (amount_of (counts None) (slot k)) (counted k (omega (arith, below)))
        (one (slot_place import_slots p k) (slot k) going))

    walked : (needs_end : Bool) → all_of (table_walk import_slots needs_end items bytes p)
        ≡ cond (needs_end && not (is_some (slot n))) None (all_of (rows n))
    unfolding table_walk
    walked needs_end =
        all_of-until (rows n ++ end_items needs_end (slot n)) ∙ all_of-append (rows n) (end_items needs_end (slot n))
        ∙ joined-end needs_end (slot n) (all_of (rows n))

  skipped : (place : Option ℕ)
      → SkipsLeftOut (counts_resumed import_slots counts Skipped bytes place None) (next true place) (next false place)
  unfolding libraries_next table_counts sum_of_slots
  skipped None = refl
  skipped (Some p) =
      rw (walked p true, walked p false)
      (by-end (is_some (slot p (n p))) (all_of (rows p (n p))) _ (counted p (n p) (omega arith)))

by-parts : (s t : Bool) (a b : Addressing) (f g : Format EntryValue) (xs ys : List ℕ) (c d : ImportCursor)
    → s ≡ true → t ≡ false → b ≡ a → g ≡ f → ys ≡ xs → d ≡ c → tested_at c ≡ None
    → SkipsLeftOut
    (counts_resumed import_slots (λ tested r. if is_skipped t g b ys tested r then as_skipped Skipped else 0) Skipped ys
    d.next_record (tested_at d))
    (all_of (libraries_next s f a xs c.first_record c.next_record (tested_at c)))
    (all_of (libraries_next t g b ys d.first_record d.next_record (tested_at d)))
by-parts s t a b f g xs ys c d strict permissive same format bytes at whole =
    rw (strict, permissive, same, format, bytes, at, whole) (skipped f a xs c.first_record c.next_record)

-- Two walks over libraries at a cursor, one in each mode.
pub rows-whole : (m k : MapOfAddresses) (format : Format EntryValue) (bytes : List ℕ) (c : ImportCursor)
    → reads_strictly m ≡ true → reads_strictly k ≡ false → k.addressing ≡ m.addressing → (first second : Libraries)
    → AreLibrariesAt m format bytes c first → AreLibrariesAt k format bytes c second → tested_at c ≡ None
    → SkipsLeftOut (libraries_ahead second Skipped) (all_of (libraries_left first)) (all_of (libraries_left second))
rows-whole m k format bytes c strict permissive same first second one other whole =
    let of_first = ap (λ (m : MapOfAddresses). m.addressing) one.0.map_is in
    let of_second = ap (λ (m : MapOfAddresses). m.addressing) other.0.map_is in
    by-parts (reads_strictly (libraries_map first)) (reads_strictly (libraries_map second)) (libraries_map first).addressing
    (libraries_map second).addressing (libraries_format first) (libraries_format second) (libraries_bytes first)
    (libraries_bytes second) (libraries_cursor first) (libraries_cursor second)
    (ap reads_strictly one.0.map_is ∙ strict) (ap reads_strictly other.0.map_is ∙ permissive)
    (of_second ∙ same ∙ sym of_first) (other.0.format_is ∙ sym one.0.format_is) (other.0.bytes_are ∙ sym one.0.bytes_are)
    (other.1 ∙ sym one.1) (ap tested_at one.1 ∙ whole)
