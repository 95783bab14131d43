-- The address table alone is that of the export data, where these are read.
use Rattle.std.proofs.Common.{◌≡◌, ℕ, Bool, true, false, if◌then◌else◌, nat_le, List, [], length, Option, Some, None, refl, sym, ap, subst, IfSome, option_map}
use Rattle.goblin_base.proofs.Steps.{same_value, step}
use Rattle.readings.specs.Reads.{◌>>=◌, or_none, pair_of}
use Rattle.goblin_base.specs.Parts.{in_memory}
use Rattle.goblin_pe_sect.specs.declared.data_directories.DataDirectory.{DataDirectory}
use Rattle.goblin_pe_sect.specs.{AddressReadings.counted_at, AddressReadings.name_at, Addresses.Addressing}
use Rattle.goblin_pe_export.specs.ExportRecords.{ExportAddressTableEntry, ExportDirectoryTable}
use Rattle.goblin_pe_export.specs.ExportRecords.{ExportTables, addresses, name_pointers, ordinals}
use Rattle.goblin_pe_export.specs.added.ExportAddresses.{RepeatsAddresses, address_tables, export_addresses, without_names}
use Rattle.goblin_pe_export.specs.ExportReadings.{export_data, export_record_at, export_tables, fitting, fitting_addresses}

-- the values that are left of those beside one another
kept : (a : Option (Option (List ℕ))) (b c : Option (List ℕ)) (x : Option (List ExportAddressTableEntry)) (t : ExportDirectoryTable) (tables : ExportTables)
    → option_map (λ parts. record { name = parts.0.0.0; export_directory_table = t; export_name_pointer_table = parts.0.0.1; export_ordinal_table = parts.0.1; export_address_table = parts.1 })
    (pair_of (pair_of (pair_of a b) c) x) ≡ Some tables
    → option_map (λ parts. record { name = parts.0; export_directory_table = t; export_name_pointer_table = []; export_ordinal_table = []; export_address_table = parts.1 }) (pair_of a x)
    ≡ Some (without_names tables)
kept None b c x t tables e = absurd cc
kept (Some a) None c x t tables e = absurd cc
kept (Some a) (Some b) None x t tables e = absurd cc
kept (Some a) (Some b) (Some c) None t tables e = absurd cc
kept (Some a) (Some b) (Some c) (Some x) t tables e =
    let whole : ExportTables = record { name = a; export_directory_table = t; export_name_pointer_table = b; export_ordinal_table = c; export_address_table = x } in
    ap (λ (tables : ExportTables). Some (without_names tables)) (same_value whole tables e)

-- a record that is read has both counts
both-fit : {T : Type 0} (a b : Bool) (t v : T)
    → option_map (λ both. both.1) (pair_of (if a then Some t else None) (if b then Some t else None)) ≡ Some v
    → (b ≡ true) × (t ≡ v)
both-fit true true t v e = (refl, same_value t v e)
both-fit true false t v e = absurd cc
both-fit false b t v e = absurd cc

module _ (addressing : Addressing) (d : DataDirectory) (bytes : List ℕ) where
  pub tables_kept : (t : ExportDirectoryTable) (tables : ExportTables) → (export_tables addressing d t).value bytes ≡ Some tables → (address_tables addressing d t).value bytes ≡ Some (without_names tables)
  unfolding export_tables address_tables
  tables_kept t tables e =
      kept ((or_none (name_at addressing t.name_rva)).value bytes) ((counted_at name_pointers t.number_of_name_pointers addressing t.name_pointer_rva).value bytes)
      ((counted_at ordinals t.number_of_name_pointers addressing t.ordinal_table_rva).value bytes) ((counted_at (addresses d) t.address_table_entries addressing t.export_address_table_rva).value bytes)
      t tables e

  from : (p : ℕ) (t : ExportDirectoryTable) (tables : ExportTables) → addressing.offset d.virtual_address ≡ Some p → (export_record_at p).value (in_memory (addressing.end d.virtual_address) bytes) ≡ Some t
      → nat_le t.address_table_entries (length bytes) ≡ true → (address_tables addressing d t).value bytes ≡ Some tables → (export_addresses addressing d).value bytes ≡ Some tables
  unfolding export_addresses
  from p t tables place own fits is =
      let rest : (fitting_addresses t >>= address_tables addressing d).value bytes ≡ Some tables = rw fits is in
      rw (place, own) rest

  -- what is read of a record whose count fits, without the names
  pub addresses_read : (part : List ℕ) (place : Option ℕ) (p : ℕ) (t u : ExportDirectoryTable) (tables : ExportTables) → part ≡ in_memory (addressing.end d.virtual_address) bytes → place ≡ addressing.offset d.virtual_address → place ≡ Some p
      → (export_record_at p).value part ≡ Some t → (fitting_addresses t).value bytes ≡ Some u → u ≡ t → (export_tables addressing d t).value bytes ≡ Some tables → (export_addresses addressing d).value bytes ≡ Some (without_names tables)
  unfolding export_addresses
  addresses_read part place p t u tables in_part at is own fits same read =
      let rest : (fitting_addresses t >>= address_tables addressing d).value bytes ≡ Some (without_names tables) = rw (fits, same) (tables_kept t tables read) in
      rw (← at, ← in_part, is, own) rest

  repeated : (tables : ExportTables) → (export_data addressing d).value bytes ≡ Some tables → (export_addresses addressing d).value bytes ≡ Some (without_names tables)
  unfolding export_data
  repeated tables e =
      let place = step (addressing.offset d.virtual_address) _ tables e in
      let own = step ((export_record_at place.value).value (in_memory (addressing.end d.virtual_address) bytes)) _ tables place.then in
      let fit = step ((fitting own.value).value bytes) (λ t. (export_tables addressing d t).value bytes) tables own.then in
      let test = both-fit _ (nat_le own.value.address_table_entries (length bytes)) own.value fit.value fit.is in
      let there : (export_tables addressing d own.value).value bytes ≡ Some tables = subst (λ (t : ExportDirectoryTable). (export_tables addressing d t).value bytes ≡ Some tables) (sym test.1) fit.then in
      from place.value own.value (without_names tables) place.is own.is test.0 (tables_kept own.value tables there)

  where_some : (o : Option ExportTables) (Holds : ExportTables → Type 0) → ((x : ExportTables) → o ≡ Some x → Holds x) → IfSome o Holds
  where_some None Holds each = tt
  where_some (Some x) Holds each = each x refl

  pub repeats_addresses : RepeatsAddresses addressing d bytes
  repeats_addresses =
      where_some ((export_data addressing d).value bytes) (λ tables. (export_addresses addressing d).value bytes ≡ Some (without_names tables)) repeated
