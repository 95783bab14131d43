-- A loop that fills records with the exports of a file from a position on.
use Rattle.std.proofs.Common.{◌≡◌, ◌⊎◌, ℕ, ◌+◌, ◌-◌, ◌<◌, ◌≤◌, List, [], length, drop, set, ap, refl, subst, sym, arith, ◌∙◌, inl, inr, max, min, nat_le, not, ◌==◌, Bool, true, false, None, Option, Some}
use Rattle.std.proofs.lemmas.Bool.{and_parts, cases_lt, leb-false, leb-true}
use Rattle.std.specs.Iterator.{YieldsFirstBy}
use Rattle.goblin_base.specs.Parts.{bytes_in}
use Rattle.goblin_pe_export.specs.declared.added.exports.Exports.{Exports}
use Rattle.goblin_pe_export.specs.declared.added.exports.WalkedExport.{WalkedExport}
use Rattle.goblin_pe_export.specs.ExportRecords.{name_pointers, ExportTables}
use Rattle.goblin_pe_export.specs.added.ExportWalks.{GivesExportBefore, exports_position, pointer_count, KeepsOver, NumberedExport, exports_at, exports_left, numbered_from, walked_export, walked_tables}
use Rattle.goblin_pe_export.proofs.added.ExportWalk.{from_end}
use Rattle.goblin_base.proofs.RecordItems.{length-records_in}
use Rattle.goblin_pe_sect.specs.Addresses.{MapOfAddresses, map_of}
use Rattle.goblin_pe.specs.added.Layouts.{IsExportWalk, walked_exports}
use Rattle.goblin_pe.specs.Whole.{IfRead, TablePlaces, export_part, part_map}
use Rattle.goblin_pe.specs.declared.whole.Part.{Part}
use Rattle.goblin_pe.specs.declared.whole.Part.TheVariants.{Absent, Refused}
use Rattle.goblin_pe.specs.declared.whole.Part.TheVariants as part
use Rattle.goblin_pe_c_tables.specs.Exports.{PeExport, export_for_c, export_model}
use Rattle.goblin_pe_c_tables.specs.Batches.{GivesExports, LooksAtPointers, SkipsTable, at_room, exports_in, exports_table}
use Rattle.goblin_pe_c_headers.specs.Onward.{Batch, FillsFrom, IsRefusedNext, unrefused}
use Rattle.goblin_pe_c_headers.specs.declared.batch.PeBatch.{PeBatch}
use Rattle.goblin_pe_c_headers.proofs.Batches.{AtItems, fills-by, items-cut, items-end, items-more, done-at_room, none-given}

-- nothing comes once no name pointer is left
none-left : (s : Exports) → pointer_count s ≤ exports_position s → exports_left s ≡ []
none-left s past =
    let count = length-records_in 4 name_pointers.value_of (bytes_in s.tables.name_pointers) in
    from_end _ _ (walked_tables s) (exports_position s) (omega (arith, count, past))

same-pointers : (s t : Exports) → KeepsOver s t → pointer_count t ≡ pointer_count s
same-pointers s t over =
    let count = λ (w : Exports). length-records_in 4 name_pointers.value_of (bytes_in w.tables.name_pointers) in
    let same = ap (λ (tables : ExportTables). length tables.export_name_pointer_table) over.1 in
    omega (arith, count s, count t, same)

-- what a walk still gives
abbrev to_come : Exports → List (Option NumberedExport)
to_come walk = unrefused (exports_left walk)

-- the records hold what has come so far, and the walk goes on
pub record AtExports (longest : Option ℕ) (start : Exports) (old : List PeExport) (end : ℕ) (now : Exports) (records : List PeExport) (count : ℕ) : Type 0 where
  pub at : AtItems (exports_table longest exports_left) to_come start start old now now records count
  pub over : KeepsOver start now
  pub further : exports_position start ≤ exports_position now
  pub within : exports_position now ≤ max (exports_position start) end

over-next : (start now next : Exports) → KeepsOver start now → KeepsOver now next → KeepsOver start next
over-next start now next h k = ((k.0.0 ∙ h.0.0, k.0.1 ∙ h.0.1), k.1 ∙ h.1)

module _ {longest : Option ℕ} {start : Exports} {old : List PeExport} {end : ℕ} {now : Exports} {records : List PeExport} {count : ℕ} (h : AtExports longest start old end now records count) where
  pub exports-more : (x : WalkedExport) (next : Exports) (r : PeExport)
      → YieldsFirstBy walked_export exports_left now (Some x) next → KeepsOver now next
      → exports_position now ≤ exports_position next → exports_position next ≤ max (exports_position start) end
      → count < length records → export_model r ≡ export_for_c longest (walked_export x)
      → AtExports longest start old end next (set records count r) (count + 1)
  exports-more x next r given over further below within says = record {
    at = items-more h.at (walked_export x) next next r (ap unrefused given) within says refl;
    over = over-next start now next h.over over;
    further = omega (arith, h.further, further);
    within = below;
  }

  -- what a batch has given that ends here
  abbrev pub AreGiven : Exports → Type 0
  AreGiven next =
      FillsFrom (exports_table longest exports_left) ((end < pointer_count start) × (end ≤ exports_position next)) (to_come start)
      (record { position = start; records = old }) (record { position = next; records = records }) count

  -- nothing more comes before the end
  pub exports-ended : (next : Exports) → count < length records → GivesExportBefore end now None next → AreGiven next
  exports-ended next within given =
      let pointers = same-pointers start now h.over in
      let kept = same-pointers now next given.0 in
      let stays : length old ≡ 0 → next ≡ start = λ none. absurd (let same = h.at.held.same in omega (arith, none, same, within)) in
      elim (cases_lt end (pointer_count start)) [
        | inl below ↦
            items-cut h.at next (below, omega (arith, given.2, pointers, below)) (ap (λ (items : List NumberedExport). Some (unrefused items)) given.1) stays
        | inr past ↦
            let none = none-left next (omega (arith, given.2, pointers, kept, past)) in
            items-end h.at next (ap unrefused (sym given.1 ∙ none)) (ap (λ (items : List NumberedExport). Some (unrefused items)) none) stays
      ]

  -- the batch is full, or the walk is through
  pub exports-through : (next : Exports) → GivesExportBefore end now None next
      → (length old ≤ count) ⊎ (min end (pointer_count start) ≤ exports_position next)
  exports-through next given =
      let pointers = same-pointers start now h.over in
      inr (omega (arith, given.2, pointers))

  pub exports-filled : length records ≤ count → (length old ≤ count) ⊎ (min end (pointer_count start) ≤ exports_position now)
  exports-filled full = inl (let same = h.at.held.same in omega (arith, same, full))

-- ---- in a file

at-over : (s t : Exports) (x : ℕ) → KeepsOver s t → exports_at t x ≡ exports_at s x
at-over s t x h =
    ap (λ (m : MapOfAddresses). numbered_from m.addressing t.bytes.now (walked_tables t) x) h.0.1
    ∙ ap (λ (b : List ℕ). numbered_from (map_of s.finder).addressing b (walked_tables t) x) h.0.0
    ∙ ap (λ (tables : ExportTables). numbered_from (map_of s.finder).addressing s.bytes.now tables x) h.1

module _ (m : MapOfAddresses) (places : TablePlaces) (bytes : List ℕ) (found : Part Exports)
    (read : (export_part m.opts m.addressing places).value bytes ≡ Some (part_map walked_exports found)) (x : ℕ) (old : List PeExport) where
  module _ (walk : Exports) (is_read : found ≡ part.Read walk) (walks : IfRead (IsExportWalk m bytes) found) where
    over : IsExportWalk m bytes walk
    over = subst (λ (p : Part Exports). IfRead (IsExportWalk m bytes) p) is_read walks

    from-there : (y : ℕ) → exports_at walk y ≡ numbered_from m.addressing bytes (walked_tables walk) y
    from-there y =
        ap (λ (n : MapOfAddresses). numbered_from n.addressing walk.bytes.now (walked_tables walk) y) over.0.1
        ∙ ap (λ (b : List ℕ). numbered_from m.addressing b (walked_tables walk) y) over.0.0

    pub exports-given : (before after : ℕ) (now next : Exports) (end count unmapped : ℕ) (is_done : Bool) (new : List PeExport) (longest : Option ℕ)
        → longest ≡ m.addressing.longest → exports_left now ≡ exports_at walk x → KeepsOver walk now → exports_position now ≡ x
        → end ≤ x + before → end ≤ pointer_count now → (end ≡ pointer_count now) ⊎ (end ≡ x + before)
        → FillsFrom (exports_table longest exports_left) ((end < pointer_count now) × (end ≤ exports_position next)) (to_come now)
        (record { position = now; records = old }) (record { position = next; records = new }) count
        → KeepsOver now next → exports_position now ≤ exports_position next → exports_position next ≤ max (exports_position now) end
        → (length old ≤ count) ⊎ (min end (pointer_count now) ≤ exports_position next)
        → after ≡ before - (exports_position next - x)
        → unmapped ≡ exports_position next - x - count → is_done ≡ nat_le (pointer_count now) (exports_position next)
        → GivesExports before after m places bytes (record { position = x; records = old }) (record { position = exports_position next; records = new })
        (at_room (length old) count unmapped is_done)
    exports-given before after now next end count unmapped is_done new longest up_to begun over_now at limit inside limited fills over_next further within through is nowhere ends =
        let left_is : exports_left now ≡ numbered_from m.addressing bytes (walked_tables walk) x = begun ∙ from-there x in
        let rest : numbered_from m.addressing bytes (walked_tables walk) (exports_position next) ≡ exports_left next =
        sym (at-over now next (exports_position next) over_next ∙ at-over walk now (exports_position next) over_now ∙ from-there (exports_position next)) in
        let value : (export_part m.opts m.addressing places).value bytes ≡ Some (part.Read (walked_exports walk)) =
        read ∙ ap (λ (p : Part Exports). Some (part_map walked_exports p)) is_read in
        let count_of = length-records_in 4 name_pointers.value_of (bytes_in walk.tables.name_pointers) in
        let pointers = same-pointers walk now over_now in
        let out : (end < pointer_count now) × (end ≤ exports_position next) → after ≡ 0 = λ cut. elim limited [
          | inl all ↦ absurd (omega (arith, cut.0, all))
          | inr run ↦ omega (arith, run, cut.1, is)
        ] in
        let given = fills-by export_model (export_for_c m.addressing.longest) (exports_table m.addressing.longest exports_left).from (exports_table m.addressing.longest (exports_in m bytes (part.Read (walked_exports walk)))).from
        ((end < pointer_count now) × (end ≤ exports_position next)) (after ≡ 0)
        (to_come now) (unrefused (numbered_from m.addressing bytes (walked_tables walk) x)) now next x (exports_position next) old new count
        (subst
        (λ (n : Option ℕ). FillsFrom (exports_table n exports_left) ((end < pointer_count now) × (end ≤ exports_position next)) (to_come now) (record { position = now; records = old }) (record { position = next; records = new }) count)
        up_to fills)
        (ap unrefused left_is) (ap (λ (items : List NumberedExport). Some (unrefused items)) rest) out (λ same. ap exports_position same ∙ at) in
        let ended : is_done ≡ true → drop count (unrefused (numbered_from m.addressing bytes (walked_tables walk) x)) ≡ [] = λ yes.
        let past : pointer_count now ≤ exports_position next = leb-true (pointer_count now) (exports_position next) (sym ends ∙ yes) in
        let none = none-left next (let kept = same-pointers now next over_next in omega (arith, kept, past)) in
        cc (sym given.later ∙ ap (λ (items : List NumberedExport). Some (unrefused items)) (rest ∙ none)) in
        let goes_on : is_done ≡ false → (length old ≤ count) ⊎ ((after ≡ 0) ⊎ IsRefusedNext (drop count (unrefused (numbered_from m.addressing bytes (walked_tables walk) x)))) = λ no.
        let not_all : exports_position next < pointer_count now = leb-false (pointer_count now) (exports_position next) (sym ends ∙ no) in
        elim through [
          | inl full ↦ inl full
          | inr past ↦ inr (inl (out (omega (arith, past, not_all), omega (arith, past, not_all))))
        ] in
        rw value (
          given,
          (
            done-at_room (length old) count is_done ended goes_on,
            record {
              further = omega (arith, at, further);
              within = omega (arith, within, at, inside, pointers, count_of);
              looked = omega (arith, is, limit, within, at, further);
              ended = λ done.
                  let both = and_parts is_done (not (length old == 0)) done in
                  let past = leb-true (pointer_count now) (exports_position next) (sym ends ∙ both.0) in
                  omega (arith, past, pointers, count_of);
              skipped = refl;
              unmapped = nowhere;
            },
          ),
        )

  pub exports-absent : (steps : ℕ) → found ≡ Absent
      → GivesExports steps steps m places bytes (record { position = x; records = old }) (record { position = x; records = old }) (at_room (length old) 0 0 true)
  exports-absent steps is =
      let looks : LooksAtPointers steps steps 0 x x (at_room (length old) 0 0 true) =
      (record { further = omega arith; within = omega arith; looked = refl; ended = λ done. omega arith; skipped = refl; unmapped = omega arith }) in
      rw (read ∙ ap (λ (p : Part Exports). Some (part_map walked_exports p)) is)
      (none-given (exports_table m.addressing.longest (exports_in m bytes Absent)) (steps ≡ 0) (λ left. LooksAtPointers steps steps 0 x x (at_room (length old) 0 0 true)) x old refl looks)

  pub exports-refused : (steps : ℕ) → found ≡ Refused → (new : Batch ℕ PeExport) (batch : PeBatch) → SkipsTable (record { position = x; records = old }) new batch
      → GivesExports steps steps m places bytes (record { position = x; records = old }) new batch
  exports-refused steps is new batch skips = rw (read ∙ ap (λ (p : Part Exports). Some (part_map walked_exports p)) is) (refl, skips)
