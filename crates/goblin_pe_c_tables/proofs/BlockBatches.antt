-- A loop that fills records with the blocks of a directory from an offset on.
use Rattle.std.proofs.Common.{◌≡◌, ◌≢◌, ℕ, ◌+◌, ◌-◌, ◌<◌, Bool, true, false, cond, nat_lt, ◌≤◌, List, [], ◌∷◌, ◌++◌, length, set, take, ap, refl, subst, sym, arith, ◌∙◌, inl, inr, zero, suc, MatchResult, sum_by, unwrap_or, Option, None, Some, Result, Ok, Err, length-take, option_map}
use Rattle.std.proofs.{lemmas.Bool.cases_lt, lemmas.List.Sums.sum_by_push}
use Rattle.goblin_base.specs.{declared.error.ErrorOf.ErrorOf, Reading.Reads}
use Rattle.goblin_pe_sect.specs.declared.relocation.base.RelocationBlock.{RelocationBlock}
use Rattle.goblin_pe_sect.specs.declared.relocation.base.RelocationData.{RelocationData}
use Rattle.goblin_pe_sect.specs.{Addresses.MapOfAddresses, Options.is_strict}
use Rattle.goblin_pe_sect.specs.AddressReadings.{relocation_data}
use Rattle.goblin_pe_sect.specs.declared.data_directories.DataDirectory.{DataDirectory}
use Rattle.goblin_pe_sect.specs.BaseRelocations.{Block, FindsItem, block_at, block_items, block_value, first_items, relocation_bytes, then_items}
use Rattle.goblin_pe.specs.Whole.{TablePlaces, directory_at, offset_in, part_at, part_map, part_of, relocation_part}
use Rattle.goblin_base.proofs.{Numbers.slice_at-some, RecordRoundTrip.length-slice}
use Rattle.goblin_base.proofs.InMemory.{no_zeros, part_inside, part_past}
use Rattle.goblin_base.specs.{declared.mapped.MappedEnd.MappedEnd, Parts.in_memory, Parts.stored}
use Rattle.goblin_pe.specs.declared.whole.Part.{Part}
use Rattle.goblin_pe.specs.declared.whole.Part.TheVariants.{Absent, Refused}
use Rattle.goblin_pe.specs.declared.whole.Part.TheVariants as part
use Rattle.goblin_pe_c_headers.specs.{declared.batch.PeBatch.PeBatch, Items.without_causes}
use Rattle.goblin_pe_c_tables.specs.declared.block.PeRelocationBlock.{PeRelocationBlock}
use Rattle.goblin_pe_c_headers.specs.Onward.{CountsRows, IsRefusedNext, values_before, Batch, batch_at, rows_given}
use Rattle.goblin_pe_c_tables.specs.Batches.{GivesBlocksIn, GivesBlocks, IsBlockCause, IsBlocksFault, SkipsTable, at_room, block_for_c, block_table, blocks_from, placed, blocks_begin}
use Rattle.goblin_pe_c_headers.proofs.Batches.{AtItems, items-end, items-fault, items-full, items-more, items-refused, items-start, items-stay, items-taken, items-then, done-end, done-full, done-refused, none-given}

-- why no block comes
tested-cause : (t : Bool) (items : ℕ → List (Result Block ErrorOf)) (p : ℕ) (r : Result Block ErrorOf) (e : ErrorOf)
    → cond t (then_items items p r) [] ≡ Err e ∷ [] → r ≡ Err e
tested-cause false items p r e is = absurd (cc is)
tested-cause true items p (Ok b) e is = absurd (cc is)
tested-cause true items p (Err f) e is = cc is

first-cause : (n : ℕ) (directory : List ℕ) (p : ℕ) (e : ErrorOf) → first_items n directory p ≡ Err e ∷ [] → block_at directory p ≡ Err e
unfolding first_items
first-cause zero directory p e is = absurd (cc is)
first-cause (suc n) directory p e is =
    tested-cause (nat_lt p (length directory)) (first_items n directory) p (block_at directory p) e is

block-cause : (directory : List ℕ) (p : ℕ) (e : ErrorOf) → FindsItem directory p (Some (Err e)) → block_at directory p ≡ Err e
block-cause directory p e is = first-cause (length directory - p) directory p e is

-- ---- the loop

-- how many bytes blocks take
abbrev size_of : List (ℕ × Block) → ℕ
size_of blocks = sum_by (λ (x : ℕ × Block). x.1.size) blocks

-- what comes of a directory that begins at an offset
module _ (begin : ℕ) (directory : List ℕ) (p : ℕ) where
  abbrev items : ℕ → List (Option (ℕ × Block))
  items x = blocks_from begin (part.Read directory) x

  block-then : (b : Block) (next : ℕ) → block_items directory p ≡ then_items (block_items directory) p (Ok b) → next ≡ p + b.size
      → items p ≡ Some (begin + p, b) ∷ items next
  unfolding placed
  block-then b next found is =
      ap (λ (xs : List (Result Block ErrorOf)). placed (begin + p) (without_causes xs)) found
      ∙ ap (λ (n : ℕ). Some (begin + p, b) ∷ placed n (without_causes (block_items directory (p + b.size)))) (let same : begin + p + b.size ≡ begin + (p + b.size) = omega arith in same)
      ∙ ap (λ (n : ℕ). Some (begin + p, b) ∷ items n) (sym is)

  block-none : FindsItem directory p None → items p ≡ []
  unfolding placed
  block-none none = ap (λ (xs : List (Result Block ErrorOf)). placed (begin + p) (without_causes xs)) none

  block-refused : (e : ErrorOf) → FindsItem directory p (Some (Err e)) → items p ≡ None ∷ []
  unfolding placed
  block-refused e is = ap (λ (xs : List (Result Block ErrorOf)). placed (begin + p) (without_causes xs)) is

-- the records hold the blocks up to an offset
pub record AtBlocks (begin : ℕ) (directory : List ℕ) (from : ℕ) (old : List PeRelocationBlock) (offset : ℕ) (records : List PeRelocationBlock) (count : ℕ) : Type 0 where
  pub at : AtItems (block_table begin (part.Read directory)) (blocks_from begin (part.Read directory)) from from old offset offset records count
  pub moved : offset ≡ from + size_of at.values

pub blocks-start : (begin : ℕ) (directory : List ℕ) (from : ℕ) (old : List PeRelocationBlock) → AtBlocks begin directory from old from old 0
unfolding items-start
blocks-start begin directory from old =
    record { at = items-start (block_table begin (part.Read directory)) (blocks_from begin (part.Read directory)) from from old refl; moved = omega arith }

module _ {begin : ℕ} {directory : List ℕ} {from : ℕ} {old : List PeRelocationBlock} {offset : ℕ} {records : List PeRelocationBlock} {count : ℕ} (h : AtBlocks begin directory from old offset records count) where
  pub blocks-more : (block : RelocationBlock) (r : PeRelocationBlock) (place next : ℕ) → FindsItem directory offset (Some (Ok block)) → place ≡ begin + offset → r ≡ block_for_c (place, block_value block)
      → count < length records → next ≡ offset + block.size → AtBlocks begin directory from old next (set records count r) (count + 1)
  unfolding items-more items-then
  blocks-more block r place next found here says within is =
      let b : ℕ × Block = (begin + offset, block_value block) in
      let pushed : size_of (h.at.values ++ b ∷ []) ≡ size_of h.at.values + block.size =
      sum_by_push (λ (x : ℕ × Block). x.1.size) h.at.values b in
      let moved = h.moved in
      record {
        at = items-more h.at b next next r (block-then begin directory offset (block_value block) next found is) within (says ∙ ap (λ (n : ℕ). block_for_c (n, block_value block)) here) refl;
        moved = omega (arith, pushed, moved, is);
      }

  -- how far the position has moved
  moves : offset ≡ from + size_of (take count (values_before (blocks_from begin (part.Read directory) from)))
  moves = h.moved ∙ ap (λ (values : List (ℕ × Block)). from + size_of values) (sym (items-taken h.at))

  abbrev AreGiven : Bool → Type 0
  AreGiven is_done =
      GivesBlocksIn begin (part.Read directory) (record { position = from; records = old }) (record { position = offset; records = records }) (rows_given count is_done)

  pub blocks-end : FindsItem directory offset None → count < length records → AreGiven true
  blocks-end none within =
      let no = block-none begin directory offset none in (
        items-end h.at offset no (ap (λ (items : List (Option (ℕ × Block))). Some items) no) (items-stay h.at),
        (done-end h.at no within, (moves, (refl, refl))),
      )

  pub blocks-full : length records ≤ count → AreGiven false
  blocks-full full = (items-full h.at full, (done-full h.at full, (moves, (refl, refl))))

  module _ (e : ErrorOf) (is : FindsItem directory offset (Some (Err e))) where
    pub blocks-refused : count ≢ 0 → AreGiven false
    blocks-refused some =
        let no = block-refused begin directory offset e is in
        (items-refused h.at no some, (done-refused h.at no, (moves, (refl, refl))))

    pub blocks-fault : count ≡ 0 → count < length records → (p : ℕ) → p ≡ from
        → IsRefusedNext (blocks_from begin (part.Read directory) from) × IsBlockCause from (part.Read directory) e × (0 < length old)
        × (batch_at p records ≡ batch_at from old)
    blocks-fault none within p same =
        let fault = items-fault h.at (block-refused begin directory offset e is) none within in (
          fault.0,
          subst (λ (x : ℕ). IsBlockCause x (part.Read directory) e) fault.2 (block-cause directory offset e is),
          fault.1,
          rw (same, fault.4) refl,
        )

-- ---- where a directory lies

-- what is read of a file alone is no longer than the file
stored-few : (end : Option MappedEnd) (bytes : List ℕ) → length (in_memory (option_map stored end) bytes) ≤ length bytes
stored-few None bytes = omega arith
stored-few (Some e) bytes =
    elim (cases_lt e.last (length bytes)) [
      | inl lt ↦
          omega (
            arith,
            lt,
            ap length (part_inside (stored e) bytes lt),
            ap length (no_zeros (take (e.last + 1) bytes)),
            length-take (e.last + 1) bytes,
          )
      | inr past ↦ omega (arith, ap length (part_past (stored e) bytes past))
    ]

module _ (m : MapOfAddresses) (bytes directory : List ℕ) where
  data-inside : (d : DataDirectory) (o : Option ℕ) → m.addressing.offset d.virtual_address ≡ o → (relocation_data m.addressing d).value bytes ≡ Some directory
      → unwrap_or (offset_in m.addressing (Some d)) 0 + length directory ≤ length bytes
  unfolding relocation_data
  data-inside d None lost is = absurd (cc (rw lost at is))
  data-inside d (Some o) found is =
      let end = m.addressing.end d.virtual_address in
      let part = in_memory (option_map stored end) bytes in
      let slice = slice_at-some part o d.size directory (rw found at is) in
      let long = ap (λ (xs : List ℕ). length xs) slice.value ∙ length-slice part o d.size slice.end in
      rw found (omega (arith, slice.end, long, stored-few end bytes))

  by-value : (strict : Bool) (d : DataDirectory) (v : Option (List ℕ)) → (relocation_data m.addressing d).value bytes ≡ v
      → part_of strict v ≡ Some (part.Read directory) → unwrap_or (offset_in m.addressing (Some d)) 0 + length directory ≤ length bytes
  by-value strict d (Some found) value is = data-inside d (m.addressing.offset d.virtual_address) refl (value ∙ cc is)
  by-value true d None value is = absurd (cc is)
  by-value false d None value is = absurd (cc is)

  part-inside : (strict : Bool) (d : Option DataDirectory) → (part_at strict (relocation_data m.addressing) d).value bytes ≡ Some (part.Read directory)
      → unwrap_or (offset_in m.addressing d) 0 + length directory ≤ length bytes
  part-inside strict None is = absurd (cc is)
  part-inside strict (Some d) is = by-value strict d ((relocation_data m.addressing d).value bytes) refl is

  -- the bytes of a directory that was read end in the file
  pub directory-inside : (places : TablePlaces) → (relocation_part m.opts m.addressing places).value bytes ≡ Some (part.Read directory)
      → blocks_begin m places + length directory ≤ length bytes
  unfolding relocation_part
  directory-inside places is = part-inside (is_strict m.opts.parse_mode) (directory_at places 5) is

-- ---- in a file

-- what a call has read that did not refuse
pub directory-read : (m : MapOfAddresses) (places : TablePlaces) (bytes : List ℕ) (result : Result (Part RelocationData) ErrorOf) (found : Part RelocationData)
    → result ≡ Ok found → Reads (part_map relocation_bytes) result (relocation_part m.opts m.addressing places) bytes
    → (relocation_part m.opts m.addressing places).value bytes ≡ Some (part_map relocation_bytes found)
directory-read m places bytes result found is read =
    subst (λ (r : Result (Part RelocationData) ErrorOf). Reads (part_map relocation_bytes) r (relocation_part m.opts m.addressing places) bytes) is read

module _ (m : MapOfAddresses) (places : TablePlaces) (bytes : List ℕ) (found : Part RelocationData)
    (read : (relocation_part m.opts m.addressing places).value bytes ≡ Some (part_map relocation_bytes found)) (old new : Batch ℕ PeRelocationBlock) where
  abbrev begin : ℕ
  begin = blocks_begin m places

  -- where the directory was read
  pub blocks-answered : (relocations : RelocationData) → found ≡ part.Read relocations → (begins : ℕ) → begins ≡ begin → (result : Result PeBatch ErrorOf)
      → MatchResult result (GivesBlocksIn begins (part.Read (relocation_bytes relocations)) old new)
      (λ e. IsRefusedNext (blocks_from begins (part.Read (relocation_bytes relocations)) old.position) × IsBlockCause old.position (part.Read (relocation_bytes relocations)) e
      × (0 < length old.records) × (new ≡ old))
      → MatchResult result (GivesBlocks m places bytes old new) (λ e. IsBlocksFault m places bytes old e × (new ≡ old))
  blocks-answered relocations is begins same (Ok batch) fills =
      rw (read ∙ ap (λ (p : Part RelocationData). Some (part_map relocation_bytes p)) is, sym same) fills
  blocks-answered relocations is begins same (Err e) fault =
      (rw (read ∙ ap (λ (p : Part RelocationData). Some (part_map relocation_bytes p)) is, sym same) (fault.2, fault.0, fault.1), fault.3)

-- where there are none
module _ (m : MapOfAddresses) (places : TablePlaces) (bytes : List ℕ) (x : ℕ) (old : List PeRelocationBlock) where
  pub blocks-absent : (found : Part RelocationData) → (relocation_part m.opts m.addressing places).value bytes ≡ Some (part_map relocation_bytes found)
      → found ≡ Absent
      → GivesBlocks m places bytes (record { position = x; records = old }) (record { position = x; records = old }) (at_room (length old) 0 0 true)
  blocks-absent found read is =
      let stays : x ≡ x + 0 = omega arith in
      rw (read ∙ ap (λ (p : Part RelocationData). Some (part_map relocation_bytes p)) is)
      (none-given (block_table (blocks_begin m places) Absent) ⊥ (λ left. (x ≡ x + size_of (take 0 (values_before left))) × CountsRows (at_room (length old) 0 0 true)) x old refl (stays, (refl, refl)))

  pub blocks-skipped : (found : Part RelocationData) → (relocation_part m.opts m.addressing places).value bytes ≡ Some (part_map relocation_bytes found)
      → found ≡ Refused → (new : Batch ℕ PeRelocationBlock) (batch : PeBatch) → SkipsTable (record { position = x; records = old }) new batch
      → GivesBlocks m places bytes (record { position = x; records = old }) new batch
  blocks-skipped found read is new batch skips = rw (read ∙ ap (λ (p : Part RelocationData). Some (part_map relocation_bytes p)) is) skips
