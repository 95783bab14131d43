-- The reader of an optional header reads no more bytes than there are.
use Rattle.std.proofs.Common.{◌≡◌, ℕ, ◌+◌, ◌*◌, ◌≤◌, ◌&&◌, Bool, true, false, cond, nat_eq, nat_lt}
use Rattle.std.proofs.Common.{nat_le, List, length, Option, Some, None, refl}
use Rattle.std.specs.Prelude.{IfSome, option_map, slice_range}
use Rattle.std.proofs.lemmas.Bool.{leb-true}
use Rattle.goblin_base.specs.{declared.endian.Endian.TheVariants.Little, Answers.◌>>=◌}
use Rattle.goblin_base.specs.{Bytes.number_at, Record.record_at}
use Rattle.readings.specs.Reads.{pair_of}
use Rattle.goblin_pe_sect.specs.DirectoryReadings.{directories_at}
use Rattle.goblin_pe_sect.proofs.EntriesWithin.{directories-within}
use Rattle.goblin_pe_head.specs.HeaderReadings.{fields_with, fixed_fields, optional_header}
use Rattle.goblin_pe_head.specs.HeaderReadings.{standard_by, windows_by}
use Rattle.goblin_pe_head.specs.OptionalHeader.{fields_size, windows_record}

bind-within : {A B : Type 0} (o : Option A) (f : A → Option B) (P : A → Type 0) (Q : B → Type 0)
    → IfSome o P → ((x : A) → P x → IfSome (f x) Q) → IfSome (o >>= f) Q
bind-within None f P Q h step = tt
bind-within (Some x) f P Q h step = step x h

made-within : {A B : Type 0} (o : Option A) (f : A → B) (P : Type 0) (Q : B → Type 0)
    → IfSome o (λ _. P) → ((x : A) → P → Q (f x)) → IfSome (option_map f o) Q
made-within None f P Q h made = tt
made-within (Some x) f P Q h made = made x h

-- what is made of two values stays within the bytes if the second does
both-within : {A B C : Type 0} (x : Option A) (y : Option B) (f : A × B → C) (P : Type 0)
    (Q : C → Type 0)
    → IfSome y (λ _. P) → ((both : A × B) → P → Q (f both)) → IfSome (option_map f (pair_of x y)) Q
both-within None y f P Q h made = tt
both-within (Some a) None f P Q h made = tt
both-within (Some a) (Some b) f P Q h made = made (a, b) h

record-within : {R : Type 0} (size : ℕ) (value : List ℕ → R) (bytes : List ℕ) (p : ℕ)
    → IfSome (record_at size value bytes p) (λ _. p + size ≤ length bytes)
record-within {R} size value bytes p =
    whole_record (nat_lt p (length bytes)) (nat_le (p + size) (length bytes))
    (slice_range bytes p (p + size)) (leb-true _ _)
  where
    whole_record : (start end : Bool) (own : List ℕ) → (end ≡ true → p + size ≤ length bytes)
        → IfSome {T = R} (option_map value (cond (start && end) (Some own) None))
        (λ _. p + size ≤ length bytes)
    whole_record true true own h = h refl
    whole_record true false own h = tt
    whole_record false end own h = tt

-- the fields of either width end within the bytes
either-within : {A : Type 0} (n : ℕ) (b c : Bool) (x y : Option A) → IfSome x (λ _. 96 ≤ n)
    → IfSome y (λ _. 112 ≤ n) → IfSome {T = A} (cond b x (cond c y None)) (λ _. cond b 96 112 ≤ n)
either-within n true c x y narrow wide = narrow
either-within n false true x y narrow wide = wide
either-within n false false x y narrow wide = tt

windows-within : (magic : ℕ) (bytes : List ℕ)
    → IfSome ((windows_by magic).value bytes) (λ _. fields_size magic ≤ length bytes)
unfolding windows_by
windows-within magic bytes =
    either-within (length bytes) (nat_eq magic 0x10B) (nat_eq magic 0x20B)
    (record_at 68 (windows_record 4 Little) bytes 28)
    (record_at 88 (windows_record 8 Little) bytes 24)
    (record-within 68 (windows_record 4 Little) bytes 28)
    (record-within 88 (windows_record 8 Little) bytes 24)

fixed-within : (magic : ℕ) (bytes : List ℕ)
    → IfSome ((fixed_fields magic).value bytes) (λ f. f.size ≤ length bytes)
unfolding fixed_fields
fixed-within magic bytes =
    both-within ((standard_by magic).value bytes) ((windows_by magic).value bytes)
    (fields_with magic) (fields_size magic ≤ length bytes) (λ f. f.size ≤ length bytes)
    (windows-within magic bytes) (λ _ h. h)

anything : {A : Type 0} (o : Option A) → IfSome o (λ _. Unit {0})
anything None = tt
anything (Some x) = tt

-- an optional header has no more bytes than there are
pub optional_header-within : (bytes : List ℕ)
    → IfSome (optional_header.value bytes) (λ x. x.1 ≤ length bytes)
unfolding optional_header
optional_header-within bytes =
    bind-within (number_at Little 2 bytes 0) _ (λ _. Unit {0}) (λ x. x.1 ≤ length bytes)
    (anything (number_at Little 2 bytes 0))
    (λ magic _. bind-within ((fixed_fields magic).value bytes) _ (λ f. f.size ≤ length bytes)
    (λ x. x.1 ≤ length bytes) (fixed-within magic bytes)
    (λ f le.
    let count = f.windows_fields.number_of_rva_and_sizes in
    made-within ((directories_at count f.size).value bytes) _ (f.size + 8 * count ≤ length bytes)
    (λ x. x.1 ≤ length bytes) (directories-within count bytes f.size le) (λ _ h. h)))
