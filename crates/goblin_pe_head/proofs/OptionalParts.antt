-- What an optional header that is read is made of, in either width.
use Rattle.std.proofs.Common.{◌≡◌, ℕ, ◌+◌, ◌*◌, ◌≤◌, ◌⊎◌, Bool, true, false, cond, nat_eq, List, Option, Some, None, refl, sym, ap, ◌∙◌, subst, arith, inl, inr, eqb-true, option_map, slice_range}
use Rattle.goblin_base.specs.{declared.endian.Endian.TheVariants.Little, Record.record_at}
use Rattle.goblin_base.specs.Bytes.{number, number_at}
use Rattle.goblin_base.proofs.Numbers.{number-of_slice, number_at-some}
use Rattle.goblin_base.proofs.{Records.record_at-some, Steps.mapped, Steps.step}
use Rattle.readings.specs.Reads.{pair_of}
use Rattle.goblin_pe_sect.specs.declared.data_directories.DataDirectory.{DataDirectory}
use Rattle.goblin_pe_sect.specs.DirectoryReadings.{directories_at}
use Rattle.goblin_pe_head.specs.HeaderReadings.{FixedFields, entries_after, fields_with, fixed_fields, optional_header, size_of, standard_by, windows_by, with_entries}
use Rattle.goblin_pe_head.specs.OptionalHeader.{OptionalHeader, StandardFields, StandardFields32, StandardFields64, fields_size, standard_32_record, standard_64_record, standard_from_32, standard_from_64}
use Rattle.readings.proofs.Pairs.{both}

-- its parts, in the width that this magic gives, and its size
pub record IsOptionalOf (magic : ℕ) (bytes : List ℕ) (x : OptionalHeader × ℕ) : Type 0 where
  pub front : number_at Little 2 bytes 0 ≡ Some magic
  pub standard : (standard_by magic).value bytes ≡ Some x.0.standard_fields
  pub windows : (windows_by magic).value bytes ≡ Some x.0.windows_fields
  pub directories : (directories_at x.0.windows_fields.number_of_rva_and_sizes (fields_size magic)).value bytes ≡ Some x.0.data_directories.data_directories
  pub size : fields_size magic + 8 * x.0.windows_fields.number_of_rva_and_sizes ≡ x.1

pub of_optional : (magic : ℕ) (bytes : List ℕ) (x : OptionalHeader × ℕ) → IsOptionalOf magic bytes x → optional_header.value bytes ≡ Some x
unfolding optional_header fixed_fields
of_optional magic bytes x is = rw (is.front, is.standard, is.windows, is.directories, is.size) refl

pub pick : {A : Type 0} (b c : Bool) (x y : Option A) (z : A) → cond b x (cond c y None) ≡ Some z → ((b ≡ true) × (x ≡ Some z)) ⊎ ((c ≡ true) × (y ≡ Some z))
pick true c x y z e = inl (refl, e)
pick false true x y z e = inr (refl, e)
pick false false x y z e = absurd cc

pub optional_of : (bytes : List ℕ) (x : OptionalHeader × ℕ) → optional_header.value bytes ≡ Some x → IsOptionalOf 0x10B bytes x ⊎ IsOptionalOf 0x20B bytes x
unfolding optional_header fixed_fields standard_by
optional_of bytes x e =
    let first = step (number_at Little 2 bytes 0) _ x e in
    let magic = first.value in
    let second = step ((fixed_fields magic).value bytes) _ x first.then in
    let fields = mapped (pair_of ((standard_by magic).value bytes) ((windows_by magic).value bytes)) (fields_with magic) second.value second.is in
    let own = both ((standard_by magic).value bytes) ((windows_by magic).value bytes) fields.value fields.is in
    let f = fields_with magic fields.value in
    let made : FixedFields → List (Option (ℕ × DataDirectory)) → OptionalHeader × ℕ = λ f entries. (with_entries f entries, size_of f) in
    let then = subst (λ (f : FixedFields). option_map (made f) ((entries_after f).value bytes) ≡ Some x) (sym fields.made) second.then in
    let third = mapped ((entries_after f).value bytes) (made f) x then in
    let whole : IsOptionalOf magic bytes x = subst (IsOptionalOf magic bytes) third.made (record { front = first.is; standard = own.first; windows = own.second; directories = third.is; size = refl }) in
    let narrow = option_map standard_from_32 (record_at 28 (standard_32_record Little) bytes 0) in
    let wide = option_map standard_from_64 (record_at 24 (standard_64_record Little) bytes 0) in
    elim (pick (nat_eq magic 0x10B) (nat_eq magic 0x20B) narrow wide fields.value.0 own.first) [
      | inl is ↦ inl (subst (λ (m : ℕ). IsOptionalOf m bytes x) (eqb-true magic 0x10B is.0) whole)
      | inr is ↦ inr (subst (λ (m : ℕ). IsOptionalOf m bytes x) (eqb-true magic 0x20B is.0) whole)
    ]

-- the magic of the record is the number at the front
pub same_magic : (bytes : List ℕ) (size magic : ℕ) → 2 ≤ size → number_at Little 2 bytes 0 ≡ Some magic → number Little 2 (slice_range bytes 0 (0 + size)) 0 ≡ magic
same_magic bytes size magic le e = number-of_slice Little 2 bytes 0 size 0 le ∙ sym (number_at-some Little 2 bytes 0 magic e).value

pub magic_32 : (bytes : List ℕ) (x : OptionalHeader × ℕ) → IsOptionalOf 0x10B bytes x → x.0.standard_fields.magic ≡ 0x10B
unfolding standard_by standard_from_32
magic_32 bytes x is =
    let s = mapped (record_at 28 (standard_32_record Little) bytes 0) standard_from_32 x.0.standard_fields is.standard in
    ap (λ (f : StandardFields). f.magic) (sym s.made) ∙ ap (λ (f : StandardFields32). f.magic) (record_at-some 28 (standard_32_record Little) bytes 0 s.value s.is).is
    ∙ same_magic bytes 28 0x10B (omega arith) is.front

pub magic_64 : (bytes : List ℕ) (x : OptionalHeader × ℕ) → IsOptionalOf 0x20B bytes x → x.0.standard_fields.magic ≡ 0x20B
unfolding standard_by standard_from_64
magic_64 bytes x is =
    let s = mapped (record_at 24 (standard_64_record Little) bytes 0) standard_from_64 x.0.standard_fields is.standard in
    ap (λ (f : StandardFields). f.magic) (sym s.made) ∙ ap (λ (f : StandardFields64). f.magic) (record_at-some 24 (standard_64_record Little) bytes 0 s.value s.is).is
    ∙ same_magic bytes 24 0x20B (omega arith) is.front
