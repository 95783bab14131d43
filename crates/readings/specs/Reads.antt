-- How readings are put together. Each of these definitions proves the laws of a reading, so a
-- definition made of them needs no proof of the laws.
use Rattle.std.specs.Prelude.{◌≡◌, ℕ, Bool, true, false, List, [], ◌++◌, length, Option, Some, None}
use Rattle.std.specs.Prelude.{option_map, option_to_list, refl, ◌+◌, drop, slice_range}
use Rattle.std.proofs.Common.{ap, ◌∙◌, cond}
use Rattle.goblin_base.specs.{declared.endian.Endian.Endian, declared.error.CauseOf.CauseOf}
use Rattle.goblin_base.specs.declared.error.ErrorOf.{ErrorOf}
use Rattle.goblin_base.specs.{declared.error.ErrorOf.TheVariants.Malformed, Reading.Reading}
use Rattle.goblin_base.specs.{Strtab.IsStringTableFault, Values.IsValueFault}
use Rattle.goblin_base.specs.Answers as answers
use Rattle.goblin_base.specs.Answers.{FirstFault, IsFirstMissing, IsMemory}
use Rattle.goblin_base.specs.Answers.{IsSliceFault, IsTextFault, IsTextFaultWithin, all_at}
use Rattle.goblin_base.specs.Bytes as bytes_of
use Rattle.goblin_base.specs.Footprints.{counted_footprint, led_to, rest_footprint}
use Rattle.goblin_base.specs.Footprints.{slice_footprint, stretch_footprint}
use Rattle.goblin_base.specs.Parts as parts
use Rattle.goblin_base.specs.declared.mapped.MappedEnd.{MappedEnd}
use Rattle.goblin_base.specs.Parts.{between_footprint, in_memory, moved_by}
use Rattle.goblin_base.specs.Parts.{positions_in_file, search_footprint, slot_footprint_to}
use Rattle.goblin_base.specs.Parts.{text_footprint}
use Rattle.goblin_base.specs.Record as records
use Rattle.goblin_base.specs.Strtab as strings
use Rattle.goblin_base.specs.Tables as tables
use Rattle.goblin_base.specs.Tables.{Format, IsTableFault, SlotFormat, concat_below, kept_slots}
use Rattle.goblin_base.specs.Tables.{slot_table}
use Rattle.goblin_base.specs.Values as values
use Rattle.goblin_base.proofs.Below.{concat_below-agree}
use Rattle.goblin_base.proofs.CutTexts.{same-text_within, text_within-in, text_within-not_memory}
use Rattle.goblin_base.proofs.Footprints.{same-counted_table_if, same-number_at, same-record_at}
use Rattle.goblin_base.proofs.Footprints.{same-slice_at, same-text_at, agree-below, same-all_at}
use Rattle.goblin_base.proofs.InMemory.{agree-in_memory, in_memory-in}
use Rattle.goblin_base.proofs.Inside.{below-in, counted-in, led-in, none-in, rest-in, slice-in}
use Rattle.goblin_base.proofs.Inside.{stretch-in}
use Rattle.goblin_base.proofs.Parts.{agree-moved, agree-moved_slice, between-in, rest-moved-in}
use Rattle.goblin_base.proofs.Parts.{same-bytes_between, same-front_through, same-string_table}
use Rattle.goblin_base.proofs.Parts.{search-in, slice-moved-in, string_table-not_memory}
use Rattle.goblin_base.proofs.Picks.{checked-not_memory, pick-inside, pick-local, pick-not_memory}
use Rattle.goblin_base.proofs.Readings.{beside-inside, beside-local, malformed-not_memory}
use Rattle.goblin_base.proofs.Readings.{slice-not_memory, text-not_memory, then-inside}
use Rattle.goblin_base.proofs.Readings.{then-local, then-not_memory, value-local}
use Rattle.goblin_base.proofs.SlotsInMemory.{kept-local, table-inside, table-local}
use Rattle.goblin_base.proofs.SlotsInMemory.{table-not_memory}

-- ---- readings that reach nothing

-- a value that may be missing, the causes that are true if it is, and a proof that none is Memory
abbrev pub needs_by : {A : Type 0} → Option A → (IsCause : ErrorOf → Type 0)
    → ((e : ErrorOf) → IsCause e → ¬ IsMemory e) → Reading A
needs_by value IsCause not_memory = record {
  value = λ bytes. value;
  IsCause = λ bytes. IsCause;
  reaches = λ bytes. [];
  is_local = λ a b agree. refl;
  is_inside = none-in;
  not_memory = λ bytes. not_memory;
}

-- a value that may be missing, and the one cause that is true if it is
abbrev pub needs : {A : Type 0} → Option A → CauseOf → Reading A
needs value cause = needs_by value (λ e. e ≡ Malformed cause) (malformed-not_memory cause)

-- a value that is always there
abbrev pub given : {A : Type 0} → A → Reading A
given x = needs_by (Some x) (λ e. ⊥) (λ e h. absurd h)

-- a value that may be missing, without a cause: only for uses that are never refused because of it
abbrev pub taken : {A : Type 0} → Option A → Reading A
taken value = needs_by value (λ e. ⊥) (λ e h. absurd h)

-- how many bytes the file has; files that agree, even on nothing, have the same length
abbrev pub file_length : Reading ℕ
file_length = record {
  value = λ bytes. Some (length bytes);
  IsCause = λ bytes e. ⊥;
  reaches = λ bytes. [];
  is_local = λ a b agree. ap (λ (n : ℕ). Some n) agree.same_length;
  is_inside = none-in;
  not_memory = λ bytes e h. absurd h;
}

-- ---- readings at an offset

-- the number in the n bytes at p
abbrev pub number_at : Endian → ℕ → ℕ → Reading ℕ
number_at endian n p = record {
  value = λ bytes. bytes_of.number_at endian n bytes p;
  IsCause = λ bytes. IsSliceFault bytes p n;
  reaches = λ bytes. slice_footprint bytes p n;
  is_local = λ a b agree. same-number_at endian n a b p agree;
  is_inside = λ bytes. slice-in bytes p n;
  not_memory = λ bytes. slice-not_memory bytes p n;
}

-- the slice of the n bytes at p
abbrev pub slice_at : ℕ → ℕ → Reading (List ℕ)
slice_at p n = record {
  value = λ bytes. bytes_of.slice_at bytes p n;
  IsCause = λ bytes. IsSliceFault bytes p n;
  reaches = λ bytes. slice_footprint bytes p n;
  is_local = λ a b agree. same-slice_at a b p n agree;
  is_inside = λ bytes. slice-in bytes p n;
  not_memory = λ bytes. slice-not_memory bytes p n;
}

-- the record of `size` bytes at p
abbrev pub record_at : {R : Type 0} → ℕ → (List ℕ → R) → ℕ → Reading R
record_at size value p = record {
  value = λ bytes. records.record_at size value bytes p;
  IsCause = λ bytes. IsSliceFault bytes p size;
  reaches = λ bytes. slice_footprint bytes p size;
  is_local = λ a b agree. same-record_at size value a b p agree;
  is_inside = λ bytes. slice-in bytes p size;
  not_memory = λ bytes. slice-not_memory bytes p size;
}

-- the text at p
abbrev pub text_at : ℕ → Reading (List ℕ)
text_at p = record {
  value = λ bytes. bytes_of.text_at bytes p;
  IsCause = λ bytes. IsTextFault bytes p;
  reaches = λ bytes. stretch_footprint bytes p;
  is_local = λ a b agree. same-text_at a b p agree;
  is_inside = λ bytes. stretch-in bytes p;
  not_memory = λ bytes. text-not_memory bytes p;
}

-- The text at p, whole if there is no limit, else cut at the limit. A character has at most four
-- bytes, so with a limit no more is reached than the limit and four bytes.
abbrev pub text_within : Option ℕ → ℕ → Reading (List ℕ)
text_within longest p = record {
  value = λ bytes. bytes_of.text_within longest bytes p;
  IsCause = λ bytes. IsTextFaultWithin longest bytes p;
  reaches = λ bytes. text_footprint longest bytes p;
  is_local = same-text_within longest p;
  is_inside = text_within-in longest p;
  not_memory = text_within-not_memory longest p;
}

-- the string table of n bytes at p
abbrev pub string_table : ℕ → ℕ → Reading (List ℕ)
string_table p n = record {
  value = λ bytes. strings.string_table bytes p n;
  IsCause = λ bytes. IsStringTableFault bytes p n;
  reaches = λ bytes. slice_footprint bytes p n;
  is_local = λ a b agree. same-string_table a b p n agree;
  is_inside = λ bytes. slice-in bytes p n;
  not_memory = λ bytes. string_table-not_memory bytes p n;
}

-- the bytes from `begin` up to `end`; there may be none. The reading has no cause: add one with
-- `because`.
abbrev pub bytes_between : ℕ → ℕ → Reading (List ℕ)
bytes_between begin end = record {
  value = λ bytes. parts.bytes_between bytes begin end;
  IsCause = λ bytes e. ⊥;
  reaches = λ bytes. between_footprint bytes begin end;
  is_local = λ a b agree. same-bytes_between a b begin end agree;
  is_inside = λ bytes. between-in bytes begin end;
  not_memory = λ bytes e h. absurd h;
}

-- The least place at which the number in n bytes passes the test and `more` bytes follow, and all
-- bytes up to the end of the bytes that follow. The reading reaches these, or all bytes if there is
-- no such place. It has no cause: add one with `because`, or use `or_none`.
abbrev pub front_through : Endian → ℕ → ℕ → (ℕ → Bool) → Reading (ℕ × List ℕ)
front_through endian n more test = record {
  value = parts.front_through endian n more test;
  IsCause = λ bytes e. ⊥;
  reaches = λ bytes.
      search_footprint (n + more) (parts.least_place endian n more test bytes) bytes;
  is_local = same-front_through endian n more test;
  is_inside = search-in endian n more test;
  not_memory = λ bytes e h. absurd h;
}

-- The value of a type at p. The reading reaches all bytes from p on. `refusal` says which causes
-- are true if the type refuses the bytes from p on. None of them is Memory.
abbrev pub value_at : {Y : Type 0} → (Endian → List ℕ → Option (Y × ℕ))
    → (refusal : Endian → List ℕ → ErrorOf → Type 0) → Endian → ℕ → Reading Y
value_at value_of refusal endian p = record {
  value = λ bytes. values.value_at value_of endian bytes p;
  IsCause = λ bytes e. IsValueFault refusal endian bytes p e × (¬ IsMemory e);
  reaches = λ bytes. rest_footprint bytes p;
  is_local = λ a b agree. value-local value_of endian a b p agree;
  is_inside = λ bytes. rest-in bytes p;
  not_memory = λ bytes e h. h.1;
}

-- ---- one reading

-- what `f` makes of the value, or of its absence; the cause stays
abbrev pub turned : {A B : Type 0} → (Option A → Option B) → Reading A → Reading B
turned f r = record {
  value = λ bytes. f (r.value bytes);
  IsCause = r.IsCause;
  reaches = r.reaches;
  is_local = λ a b agree. ap f (r.is_local a b agree);
  is_inside = r.is_inside;
  not_memory = r.not_memory;
}

-- what `f` makes of the value
abbrev pub mapped : {A B : Type 0} → (A → B) → Reading A → Reading B
mapped f r = turned (option_map f) r

-- the value as an option: this reading always has a value
abbrev pub or_none : {A : Type 0} → Reading A → Reading (Option A)
or_none r = record (turned (λ x. Some x) r) {
  IsCause = λ bytes e. ⊥;
  not_memory = λ bytes e h. absurd h;
}

-- a reading, with this cause if it is refused
abbrev pub because : {A : Type 0} → CauseOf → Reading A → Reading A
because cause r = record r {
  IsCause = λ bytes e. e ≡ Malformed cause;
  not_memory = λ bytes. malformed-not_memory cause;
}

-- A reading, with a predicate that says which causes are true if it is refused. None of them is
-- Memory.
abbrev pub because_by : {A : Type 0} → (IsCause : List ℕ → ErrorOf → Type 0)
    → ((bytes : List ℕ) (e : ErrorOf) → IsCause bytes e → ¬ IsMemory e) → Reading A → Reading A
because_by IsCause not_memory r = record r { IsCause = IsCause; not_memory = not_memory }

-- What `f` makes of the value. If `f` makes nothing of it, the true causes are those for which
-- `IsRefused` holds of the value. None of them is Memory.
abbrev pub checked : {A B : Type 0} → (A → Option B) → (IsRefused : A → ErrorOf → Type 0)
    → ((x : A) (e : ErrorOf) → IsRefused x e → ¬ IsMemory e) → Reading A → Reading B
checked f IsRefused not_memory r = record {
  value = λ bytes. answers.◌>>=◌ (r.value bytes) f;
  IsCause = λ bytes. FirstFault (r.value bytes) (r.IsCause bytes) IsRefused;
  reaches = r.reaches;
  is_local = λ a b agree. ap (λ value. answers.◌>>=◌ value f) (r.is_local a b agree);
  is_inside = r.is_inside;
  not_memory = checked-not_memory r IsRefused not_memory;
}

abbrev pub in_its_place : {A : Type 0} → Bool → A → Option A → Option A
in_its_place strict d (Some x) = Some x
in_its_place true d None = None
in_its_place false d None = Some d

-- the value; if there is none, strict mode refuses, and permissive mode has d instead
abbrev pub or_else : {A : Type 0} → Bool → A → Reading A → Reading A
or_else strict d r = turned (in_its_place strict d) r

-- The item as a list. If there is none, strict mode refuses, and permissive mode leaves it out.
abbrev pub or_left_out : {A : Type 0} → Bool → Reading A → Reading (List A)
or_left_out strict r = turned (tables.or_left_out strict) r

-- ---- two readings

infixl 10 ◌>>=◌
-- a reading, and then a reading that depends on its value
abbrev pub ◌>>=◌ : {A B : Type 0} → Reading A → (A → Reading B) → Reading B
r >>= f = record {
  value = λ bytes. answers.◌>>=◌ (r.value bytes) (λ x. (f x).value bytes);
  IsCause = λ bytes. FirstFault (r.value bytes) (r.IsCause bytes) (λ x. (f x).IsCause bytes);
  reaches = λ bytes. r.reaches bytes ++ led_to (r.value bytes) (λ x. (f x).reaches bytes);
  is_local = then-local r f;
  is_inside = then-inside r f;
  not_memory = then-not_memory r f;
}

abbrev pub pair_of : {A B : Type 0} → Option A → Option B → Option (A × B)
pair_of None y = None
pair_of (Some x) None = None
pair_of (Some x) (Some y) = Some (x, y)

infixl 10 ◌beside◌
-- Two readings at known places. Each is read even if the other is refused. The cause is that of the
-- first if it is refused, else that of the second.
abbrev pub ◌beside◌ : {A B : Type 0} → Reading A → Reading B → Reading (A × B)
r beside s = record {
  value = λ bytes. pair_of (r.value bytes) (s.value bytes);
  IsCause = λ bytes. FirstFault (r.value bytes) (r.IsCause bytes) (λ x. s.IsCause bytes);
  reaches = λ bytes. r.reaches bytes ++ s.reaches bytes;
  is_local = beside-local r s pair_of;
  is_inside = beside-inside r s;
  not_memory = then-not_memory r (λ x. s);
}

-- the first reading if the test is true, the second if it is false
abbrev pub pick : {A : Type 0} → Bool → Reading A → Reading A → Reading A
pick test r s = record {
  value = λ bytes. cond test (r.value bytes) (s.value bytes);
  IsCause = λ bytes e. cond test (r.IsCause bytes e) (s.IsCause bytes e);
  reaches = λ bytes. cond test (r.reaches bytes) (s.reaches bytes);
  is_local = pick-local r s test;
  is_inside = pick-inside r s test;
  not_memory = pick-not_memory r s test;
}

-- ---- readings of a part of the bytes

-- a reading of the bytes from p on, as if they were the file
abbrev pub in_rest : {A : Type 0} → ℕ → Reading A → Reading A
in_rest p r = record {
  value = λ bytes. r.value (drop p bytes);
  IsCause = λ bytes. r.IsCause (drop p bytes);
  reaches = λ bytes. moved_by p (r.reaches (drop p bytes));
  is_local = λ a b agree.
      r.is_local (drop p a) (drop p b) (agree-moved p (r.reaches (drop p a)) a b agree);
  is_inside = λ bytes.
      rest-moved-in p bytes (r.reaches (drop p bytes)) (r.is_inside (drop p bytes));
  not_memory = λ bytes. r.not_memory (drop p bytes);
}

-- a reading of the bytes from `begin` up to `end`, or to the end of the file if that comes first,
-- as if they were the file
abbrev pub in_slice : {A : Type 0} → ℕ → ℕ → Reading A → Reading A
in_slice begin end r = record {
  value = λ bytes. r.value (slice_range bytes begin end);
  IsCause = λ bytes. r.IsCause (slice_range bytes begin end);
  reaches = λ bytes. moved_by begin (r.reaches (slice_range bytes begin end));
  is_local = λ a b agree.
      r.is_local (slice_range a begin end) (slice_range b begin end)
      (agree-moved_slice begin end (r.reaches (slice_range a begin end)) a b agree);
  is_inside = λ bytes.
      slice-moved-in begin end bytes (r.reaches (slice_range bytes begin end))
      (r.is_inside (slice_range bytes begin end));
  not_memory = λ bytes. r.not_memory (slice_range bytes begin end);
}

-- a reading of what is in memory up to an end, or of all bytes if there is none; positions are
-- those in the file
abbrev pub up_to : {A : Type 0} → Option MappedEnd → Reading A → Reading A
up_to end r = record {
  value = λ bytes. r.value (in_memory end bytes);
  IsCause = λ bytes. r.IsCause (in_memory end bytes);
  reaches = λ bytes. positions_in_file end (r.reaches (in_memory end bytes));
  is_local = λ a b agree.
      r.is_local (in_memory end a) (in_memory end b)
      (agree-in_memory end (r.reaches (in_memory end a)) a b agree);
  is_inside = λ bytes.
      in_memory-in end bytes (r.reaches (in_memory end bytes))
      (r.is_inside (in_memory end bytes));
  not_memory = λ bytes. r.not_memory (in_memory end bytes);
}

-- ---- lists of readings

-- n readings, one for each index: all are read, and the cause is that of the first that is refused
abbrev pub each : {A : Type 0} → (ℕ → Reading A) → ℕ → Reading (List A)
each read n = record {
  value = λ bytes. all_at (λ i. (read i).value bytes) n;
  IsCause = λ bytes.
      IsFirstMissing (λ i. (read i).value bytes) n (λ i. (read i).IsCause bytes);
  reaches = λ bytes. concat_below (λ i. (read i).reaches bytes) n;
  is_local = λ a b agree.
      same-all_at (λ i. (read i).value a) (λ i. (read i).value b) n
      (λ j below.
      (read j).is_local a b (agree-below (λ i. (read i).reaches a) n j a b below agree));
  is_inside = λ bytes.
      below-in bytes (λ i. (read i).reaches bytes) n (λ i. (read i).is_inside bytes);
  not_memory = λ bytes e h. (read h.0).not_memory bytes e h.4;
}

-- n readings, one for each index: those that are refused are left out, but what they reach counts
abbrev pub each_kept : {A : Type 0} → (ℕ → Reading A) → ℕ → Reading (List A)
each_kept read n = record {
  value = λ bytes. Some (concat_below (λ i. option_to_list ((read i).value bytes)) n);
  IsCause = λ bytes e. ⊥;
  reaches = λ bytes. concat_below (λ i. (read i).reaches bytes) n;
  is_local = λ a b agree.
      ap (λ xs. Some xs)
      (concat_below-agree (λ i. option_to_list ((read i).value a))
      (λ i. option_to_list ((read i).value b)) n
      (λ j below.
      ap option_to_list
      ((read j).is_local a b (agree-below (λ i. (read i).reaches a) n j a b below agree))));
  is_inside = λ bytes.
      below-in bytes (λ i. (read i).reaches bytes) n (λ i. (read i).is_inside bytes);
  not_memory = λ bytes e h. absurd h;
}

-- ---- tables of a given count

-- The entries of a table of `count` entries at a place, cut at the first incomplete entry. A table
-- without a place has no entries.
abbrev pub counted_if : {V : Type 0} → Format V → ℕ → Option ℕ → Reading (List V)
counted_if format count place = record {
  value = λ bytes. Some (tables.counted_table_if format count bytes place);
  IsCause = λ bytes e. ⊥;
  reaches = λ bytes. led_to place (counted_footprint format count bytes);
  is_local = λ a b agree.
      ap (λ xs. Some xs) (same-counted_table_if format count a b place agree);
  is_inside = λ bytes.
      led-in bytes place (counted_footprint format count bytes)
      (λ o. counted-in bytes format count o);
  not_memory = λ bytes e h. absurd h;
}

-- ---- tables of slots

-- A table of slots at o, which ends at its stop. The slots are read up to an end, and what their
-- entries lead to is read by `piece`. The value joins what `piece` reads for the entry
-- of each slot before the stop. The cause is that of the first entry that is refused. If no entry
-- is refused, but the end is needed and the slot of the stop is not in the file, the cause is that
-- of `missing` at the place of that slot. The reading reaches what each entry before the stop leads
-- to, and the slots up to and including the stop.
abbrev pub table : {V A : Type 0} → Option MappedEnd → SlotFormat V → Bool → (ℕ → Reading V)
    → (V → Reading (List A)) → ℕ → Reading (List A)
table end slots needs_end missing piece o = record {
  value = λ bytes.
      slot_table slots needs_end (λ v. (piece v).value bytes) (in_memory end bytes) o;
  IsCause = λ bytes.
      IsTableFault slots needs_end (λ v. (piece v).value bytes)
      (λ p. (missing p).IsCause (in_memory end bytes)) (λ v. (piece v).IsCause bytes)
      (in_memory end bytes) o;
  reaches = λ bytes. slot_footprint_to end slots (λ v. (piece v).reaches bytes) bytes o;
  is_local = λ a b agree. table-local end slots piece o a b agree needs_end;
  is_inside = table-inside end slots piece o;
  not_memory = table-not_memory end slots piece o needs_end missing;
}

abbrev pub with_slots : {A : Type 0} → List ℕ → Option A → Option (A × List ℕ)
with_slots kept None = None
with_slots kept (Some x) = Some (x, kept)

-- a table of slots, with the indexes of the slots whose entries are kept
abbrev pub table_with_slots : {V A : Type 0} → Option MappedEnd → SlotFormat V → Bool
    → (ℕ → Reading V) → (V → Reading (List A)) → ℕ → Reading (List A × List ℕ)
table_with_slots end slots needs_end missing piece o =
    let kept : List ℕ → List ℕ =
    λ bytes. kept_slots slots (λ v. (piece v).value bytes) (in_memory end bytes) o in
    let whole = table end slots needs_end missing piece o in
    record {
      value = λ bytes. with_slots (kept bytes) (whole.value bytes);
      IsCause = whole.IsCause;
      reaches = whole.reaches;
      is_local = λ a b agree.
          ap (with_slots (kept a)) (whole.is_local a b agree)
          ∙ ap (λ (again : List ℕ). with_slots again (whole.value b))
          (kept-local end slots piece o a b agree);
      is_inside = whole.is_inside;
      not_memory = whole.not_memory;
    }
