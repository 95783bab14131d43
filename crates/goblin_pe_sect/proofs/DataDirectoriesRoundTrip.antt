-- Directories that were read are written as they stood, with zeros after the last, and one that was written is read again.
use Rattle.std.proofs.Common.{◌≡◌, ℕ, zero, suc, ◌+◌, ◌-◌, ◌*◌, ◌<◌, ◌≤◌, true, false, List, ◌++◌, length, drop, map, Option, Some, None, refl, sym, ap, ◌∙◌, arith, Bool, cond, take, replicate, ◌==◌, ◌&&◌, slice_range, option_map}
use Rattle.std.specs.List.{range_with_len}
use Rattle.std.proofs.lemmas.Bool.{eqb-true}
use Rattle.std.proofs.lemmas.List.{drop-drop, replicate-append-replicate}
use Rattle.goblin_base.specs.declared.endian.Endian.TheVariants.{Little}
use Rattle.goblin_base.specs.Bytes.{IsBytes, number_bytes, slice_at}
use Rattle.goblin_base.specs.Record.{WritesBack, encoding, FieldsFit, ReadsBack}
use Rattle.goblin_base.proofs.RecordRoundTrip.{front_more, writes_back, reads_back}
use Rattle.goblin_base.proofs.{Numbers.slice_at-inside, Writing.encoding_append}
use Rattle.goblin_pe_sect.specs.DataDirectories.{DataDirectory, directory_fields, directory_or_zeros, directory_record, entries_fields, entry_ending, zero_directory}
use Rattle.goblin_pe_sect.specs.DirectoryReadings.{EntriesWriteBack}
use Rattle.goblin_pe_sect.proofs.DirectoryReadings.{directories_read}
use Rattle.goblin_pe_sect.proofs.Entries.{directory_entry_at, directory_entry_at-below, directory_entry_at-past}

-- a directory that was read is written as it stood
pub directory_back : WritesBack 8 directory_record directory_fields
directory_back = writes_back 8 directory_record directory_fields refl (λ endian own h. refl)

pub directory_again : (d : DataDirectory) → FieldsFit (directory_fields d) → ReadsBack 8 directory_record directory_fields d
directory_again d fit = reads_back 8 directory_record directory_fields d refl (omega arith) fit (λ endian own. refl) (λ endian own e. grind (arith, e))

pub ruleset round_trip = (directory_back, directory_again)

zeros : encoding Little (directory_fields zero_directory) ≡ replicate 8 0
unfolding number_bytes
zeros = refl

abbrev directory : ℕ → ℕ → DataDirectory
directory address size = record { virtual_address = address; size = size }

zeros_by_tests : (b c : Bool) (end : ℕ) (d : DataDirectory) → (b ≡ true → d.virtual_address ≡ 0) → (c ≡ true → d.size ≡ 0) → directory_or_zeros (cond (b && c) None (Some (end, d))) ≡ d
zeros_by_tests true true end d address size = ap (λ (x : ℕ). directory x 0) (sym (address refl)) ∙ ap (directory d.virtual_address) (sym (size refl))
zeros_by_tests true false end d address size = refl
zeros_by_tests false c end d address size = refl

-- an entry gives its directory, also one of zeros
directory_or_zeros-entry_ending : (end : ℕ) (d : DataDirectory) → directory_or_zeros (entry_ending end d) ≡ d
directory_or_zeros-entry_ending end d = zeros_by_tests (d.virtual_address == 0) (d.size == 0) end d (eqb-true d.virtual_address 0) (eqb-true d.size 0)

own_bytes : (bytes : List ℕ) (p : ℕ) → IsBytes bytes → p + 8 ≤ length bytes → encoding Little (directory_fields (directory_record Little (slice_range bytes p (p + 8)))) ≡ slice_range bytes p (p + 8)
own_bytes bytes p h room =
    let own = slice_range bytes p (p + 8) in
    let here = slice_at-inside bytes p 8 (omega arith) room in
    let there = ap (option_map (directory_record Little)) here in
    let back : slice_at bytes p 8 ≡ Some (encoding Little (directory_fields (directory_record Little own))) = directory_back Little bytes p (directory_record Little own) h there in
    cc (here, back)

-- the bytes of n entries from index a on
abbrev bytes_of : ℕ → List ℕ → ℕ → ℕ → ℕ → List ℕ
bytes_of count bytes p a n = encoding Little (entries_fields (map (directory_entry_at count bytes p) (range_with_len a n)))

bytes_of-more : (count : ℕ) (bytes : List ℕ) (p a n : ℕ) → bytes_of count bytes p a (suc n) ≡ encoding Little (directory_fields (directory_or_zeros (directory_entry_at count bytes p a))) ++ bytes_of count bytes p (a + 1) n
bytes_of-more count bytes p a n =
    encoding_append Little (directory_fields (directory_or_zeros (directory_entry_at count bytes p a))) (entries_fields (map (directory_entry_at count bytes p) (range_with_len (a + 1) n)))

-- the others are zeros
bytes_of-past : (count : ℕ) (bytes : List ℕ) (p a n : ℕ) → count ≤ a → bytes_of count bytes p a n ≡ replicate (8 * n) 0
bytes_of-past count bytes p a zero most = refl
bytes_of-past count bytes p a (suc n) most =
    let first : encoding Little (directory_fields (directory_or_zeros (directory_entry_at count bytes p a))) ≡ replicate 8 0 =
    ap (λ e. encoding Little (directory_fields (directory_or_zeros e))) (directory_entry_at-past count bytes p a most) ∙ zeros in
    let rest = bytes_of-past count bytes p (a + 1) n (omega arith) in
    let long : 8 * suc n ≡ 8 + 8 * n = omega arith in
    bytes_of-more count bytes p a n ∙ ap (λ (xs : List ℕ). xs ++ bytes_of count bytes p (a + 1) n) first ∙ ap (λ (xs : List ℕ). replicate 8 0 ++ xs) rest
    ∙ replicate-append-replicate 8 (8 * n) 0 ∙ ap (λ (k : ℕ). replicate k 0) (sym long)

-- those below the count are written as their bytes, and then come the zeros
bytes_of-all : (count : ℕ) (bytes : List ℕ) (p a n k : ℕ) → IsBytes bytes → a + k ≡ count → k ≤ n → (0 < k → p + 8 * count ≤ length bytes)
    → bytes_of count bytes p a n ≡ take (8 * k) (drop (p + 8 * a) bytes) ++ replicate (8 * (n - k)) 0
bytes_of-all count bytes p a n zero h all le room =
    let none : n ≡ n - 0 = omega arith in
    bytes_of-past count bytes p a n (omega (arith, all)) ∙ ap (λ (m : ℕ). replicate (8 * m) 0) none
bytes_of-all count bytes p a zero (suc k) h all le room = absurd (omega (arith, le))
bytes_of-all count bytes p a (suc n) (suc k) h all le room =
    let at = p + 8 * a in
    let zeros = replicate (8 * (suc n - suc k)) 0 in
    let left : n - k ≡ suc n - suc k = omega arith in
    let whole : p + 8 * count ≤ length bytes = room (omega arith) in
    let width : at + 8 - at ≡ 8 = omega arith in
    let first : encoding Little (directory_fields (directory_or_zeros (directory_entry_at count bytes p a))) ≡ take 8 (drop at bytes) =
    ap (λ e. encoding Little (directory_fields (directory_or_zeros e))) (directory_entry_at-below count bytes p a (omega (arith, all)))
    ∙ ap (λ d. encoding Little (directory_fields d)) (directory_or_zeros-entry_ending (at + 8) (directory_record Little (slice_range bytes at (at + 8))))
    ∙ own_bytes bytes at h (omega (arith, all, whole)) ∙ ap (λ (k : ℕ). take k (drop at bytes)) width in
    let rest = bytes_of-all count bytes p (a + 1) n k h (omega (arith, all)) (omega (arith, le)) (λ _. whole) in
    let next : p + 8 * (a + 1) ≡ at + 8 = omega arith in
    let long : 8 + 8 * k ≡ 8 * suc k = omega arith in
    bytes_of-more count bytes p a n ∙ ap (λ (xs : List ℕ). xs ++ bytes_of count bytes p (a + 1) n) first ∙ ap (λ (xs : List ℕ). take 8 (drop at bytes) ++ xs) (rest ∙ ap (λ (m : ℕ). take (8 * k) (drop (p + 8 * (a + 1)) bytes) ++ replicate (8 * m) 0) left)
    ∙ front_more (drop at bytes) 8 (8 * k) (take (8 * k) (drop (p + 8 * (a + 1)) bytes)) zeros (ap (λ (q : ℕ). take (8 * k) (drop q bytes)) next ∙ ap (take (8 * k)) (sym (drop-drop 8 at bytes)))
    ∙ ap (λ (w : ℕ). take w (drop at bytes) ++ zeros) long

pub entries_back : EntriesWriteBack
entries_back count bytes p entries h read =
    let are = directories_read count bytes p entries read in
    let start : p + 8 * 0 ≡ p = omega arith in
    let width : 8 * count ≡ p + 8 * count - p = omega arith in
    ap (λ (es : List (Option (ℕ × DataDirectory))). encoding Little (entries_fields es)) (sym are.are)
    ∙ bytes_of-all count bytes p 0 16 count h (omega arith) are.few are.room
    ∙ ap (λ (q : ℕ). take (8 * count) (drop q bytes) ++ replicate (8 * (16 - count)) 0) start
    ∙ ap (λ (w : ℕ). take w (drop p bytes) ++ replicate (8 * (16 - count)) 0) width
