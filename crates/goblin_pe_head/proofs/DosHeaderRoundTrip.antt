-- A DOS header that was read is written as it stood, and one that was written is read again.
use Rattle.std.proofs.Common.{◌∷◌, refl, ◌≡◌, ℕ, zero, suc, ◌+◌, ◌≤◌, List, length, map, take, take_all, drop, slice_index, sym, ap, ◌∙◌, add-one, arith, drop-cons}
use Rattle.std.specs.List.{range_with_len}
use Rattle.goblin_base.specs.declared.endian.Endian.{Endian}
use Rattle.goblin_base.specs.Record.{WritesBack, FieldsFit, ReadsBack}
use Rattle.goblin_base.proofs.RecordRoundTrip.{writes_back, reads_back}
use Rattle.goblin_pe_head.specs.DosHeader.{DosHeader, dos_fields, dos_record}

pub dos_back : WritesBack 64 dos_record dos_fields
dos_back = writes_back 64 dos_record dos_fields refl (λ endian own bytes. refl)

same_rest : (a : ℕ) (xs ys : List ℕ) → xs ≡ ys → a ∷ xs ≡ a ∷ ys
same_rest a xs ys e = cc

items_from : (xs : List ℕ) (n i : ℕ) → i + n ≤ length xs → map (λ j. slice_index xs j) (range_with_len i n) ≡ take n (drop i xs)
items_from xs zero i le = refl
items_from xs (suc n) i le =
    let next : drop i xs ≡ slice_index xs i ∷ drop (i + 1) xs = drop-cons xs i 0 (omega arith) ∙ ap (λ (k : ℕ). slice_index xs i ∷ drop k xs) (sym (add-one i)) in
    same_rest (slice_index xs i) _ _ (items_from xs n (i + 1) (omega arith)) ∙ sym (ap (take (suc n)) next)

-- all items of a list
items : (xs : List ℕ) (n : ℕ) → length xs ≡ n → map (λ j. slice_index xs j) (range_with_len 0 n) ≡ xs
items xs n long = items_from xs n 0 (omega arith) ∙ take_all n xs (omega arith)

dos_same : (endian : Endian) (own : List ℕ) (h : DosHeader) → length h.reserved ≡ 4 → length h.reserved2 ≡ 10 → dos_fields (dos_record endian own) ≡ dos_fields h → dos_record endian own ≡ h
dos_same endian own h four ten e = grind (arith, e, items h.reserved 4 four, items h.reserved2 10 ten)

pub dos_again : (h : DosHeader) → length h.reserved ≡ 4 → length h.reserved2 ≡ 10 → FieldsFit (dos_fields h) → ReadsBack 64 dos_record dos_fields h
dos_again h four ten fit = reads_back 64 dos_record dos_fields h refl (omega arith) fit (λ endian own. refl) (λ endian own e. dos_same endian own h four ten e)
