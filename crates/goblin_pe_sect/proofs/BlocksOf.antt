-- The items of a base relocation directory are the one longest list of blocks at its front.
use Rattle.std.proofs.Common.{◌≡◌, ℕ, zero, suc, ◌+◌, ◌-◌, ◌<◌, ◌≤◌, false, List, [], ◌∷◌, ◌++◌, length, map, min, nat_lt, Some, Result, Ok, Err, refl, ap, sym, subst, ◌∙◌, inl, inr, arith, tests, rules, flat_map, slice_range}
use Rattle.std.proofs.lemmas.Bool.{cases_lt}
use Rattle.goblin_base.specs.declared.endian.Endian.TheVariants.{Little}
use Rattle.goblin_base.specs.{declared.error.ErrorOf.ErrorOf, Record.encoding}
use Rattle.goblin_base.specs.Bytes.{IsBytes, number, slice_at}
use Rattle.goblin_base.proofs.RecordRoundTrip.{Slot, encoding-fields_from, fields_from, slots_width, slice_then}
use Rattle.goblin_base.proofs.RecordRoundTrip.Slot.{octets_slot, uint_slot}
use Rattle.goblin_base.proofs.Numbers.{number-of_slice, slice_at-inside}
use Rattle.goblin_pe_sect.specs.BaseRelocations.{AreBlocks, AreBlocksOf, Block, IsBlockAt, block_at, block_fields, first_items, then_items, with_head}
use Rattle.goblin_pe_sect.proofs.BlockItems.{at_from_read, inside, first_items-past}

-- ---- to what is read

head_with_words : (directory head : List ℕ) (q n rva : ℕ) (words : List ℕ) → number Little 4 head 4 ≡ n → number Little 4 head 0 ≡ rva → 8 ≤ n → slice_at directory q (n - 8) ≡ Some words → with_head directory q (Some head) ≡ Ok (record { rva = rva; size = n; words = words })
head_with_words directory head q n rva words size_is rva_is large second =
    let test : nat_lt n 8 ≡ false = search (rules, tests) in
    rw (size_is, test, second, rva_is, size_is) refl

read_from_at : (directory : List ℕ) (p : ℕ) (b : Block) → IsBlockAt directory p b → block_at directory p ≡ Ok b
unfolding block_at
read_from_at directory p b h =
    let room : p + 8 < length directory = elim (cases_lt 8 b.size) [ inl more ↦ omega (arith, more, h.within) | inr most ↦ h.after (omega (arith, most, h.large)) ] in
    let head = slice_range directory p (p + 8) in
    let here : p + 0 ≡ p = omega arith in
    let to : p + 8 + (b.size - 8) ≡ p + b.size = omega (arith, h.large) in
    let first : slice_at directory p 8 ≡ Some head = slice_at-inside directory p 8 (omega (arith, room)) (omega (arith, room)) in
    let rva : number Little 4 head 0 ≡ b.rva = number-of_slice Little 4 directory p 8 0 (omega arith) ∙ ap (number Little 4 directory) here ∙ h.rva in
    let size : number Little 4 head 4 ≡ b.size = number-of_slice Little 4 directory p 8 4 (omega arith) ∙ h.size in
    let own : slice_range directory (p + 8) (p + 8 + (b.size - 8)) ≡ b.words = ap (slice_range directory (p + 8)) to ∙ h.words in
    let words : slice_at directory (p + 8) (b.size - 8) ≡ Some b.words = slice_at-inside directory (p + 8) (b.size - 8) room (omega (arith, h.within, h.large)) ∙ ap (λ (xs : List ℕ). Some xs) own in
    ap (with_head directory (p + 8)) first ∙ head_with_words directory head (p + 8) b.size b.rva b.words size rva h.large words

-- ---- the longest list

abbrev IsFirstOf : List ℕ → ℕ → List Block → Type 0
IsFirstOf directory p blocks = (others : List Block) (to : ℕ) → AreBlocks directory p others to → (more : List Block) × (blocks ≡ others ++ more)

none_first : (directory : List ℕ) (p : ℕ) → ((b : Block) → IsBlockAt directory p b → ⊥) → IsFirstOf directory p []
none_first directory p never [] to stand = ([], refl)
none_first directory p never (b ∷ others) to stand = absurd (never b stand.0)

more_first : (directory : List ℕ) (p : ℕ) (b : Block) (blocks : List Block) → block_at directory p ≡ Ok b → IsFirstOf directory (p + b.size) blocks → IsFirstOf directory p (b ∷ blocks)
more_first directory p b blocks is later [] to stand = (b ∷ blocks, refl)
more_first directory p b blocks is later (c ∷ others) to stand =
    let read = read_from_at directory p c stand.0 in
    let same : c ≡ b = cc (read, is) in
    let rest = later others to (subst (λ (d : Block). AreBlocks directory (p + d.size) others to) same stand.1) in
    (rest.0, ap (λ (xs : List Block). b ∷ xs) rest.1 ∙ ap (λ (d : Block). d ∷ (others ++ rest.0)) (sym same))

-- ---- all items

record Stand (directory : List ℕ) (p : ℕ) (items : List (Result Block ErrorOf)) : Type 0 where
  blocks : List Block
  end : ℕ
  errors : List ErrorOf
  are : items ≡ map (λ b. Ok b) blocks ++ map (λ e. Err e) errors
  one : length errors ≡ min 1 (length directory - end)
  stand : AreBlocks directory p blocks end
  longest : IsFirstOf directory p blocks

nothing_left : (n : ℕ) (directory : List ℕ) (p : ℕ) → length directory ≤ p → Stand directory p (first_items n directory p)
nothing_left n directory p done = record {
  blocks = [];
  end = p;
  errors = [];
  are = first_items-past directory n p done;
  one = omega (arith, done);
  stand = refl;
  longest = none_first directory p (λ b h. omega (arith, done, h.within, h.large));
}

one_more_block : (n : ℕ) (directory : List ℕ) (p : ℕ) → p < length directory → ((next : ℕ) → p + 8 ≤ next → Stand directory next (first_items n directory next)) → (r : Result Block ErrorOf) → block_at directory p ≡ r → Stand directory p (then_items (first_items n directory) p r)
one_more_block n directory p lt later (Ok b) is =
    let h = at_from_read directory p b is in
    let others = later (p + b.size) (omega (arith, h.large)) in
    record {
      blocks = b ∷ others.blocks;
      end = others.end;
      errors = others.errors;
      are = ap (λ (items : List (Result Block ErrorOf)). Ok b ∷ items) others.are;
      one = others.one;
      stand = (h, others.stand);
      longest = more_first directory p b others.blocks is others.longest;
    }
one_more_block n directory p lt later (Err e) is = record {
  blocks = [];
  end = p;
  errors = e ∷ [];
  are = refl;
  one = omega (arith, lt);
  stand = refl;
  longest = none_first directory p (λ b h. let read = read_from_at directory p b h in cc);
}

all_stand : (n : ℕ) (directory : List ℕ) (p : ℕ) → length directory - p ≤ n → Stand directory p (first_items n directory p)
all_stand zero directory p few = nothing_left zero directory p (omega (arith, few))
all_stand (suc n) directory p few =
    elim (cases_lt p (length directory)) [
      | inl lt ↦
          let Is : List (Result Block ErrorOf) → Type 0 = Stand directory p in
          subst Is (sym (inside directory n p lt)) (one_more_block n directory p lt (λ next further. all_stand n directory next (omega (arith, few, further))) (block_at directory p) refl)
      | inr done ↦ nothing_left (suc n) directory p done
    ]

-- ---- encodings

abbrev slots : Block → List Slot
slots b = uint_slot 4 ∷ uint_slot 4 ∷ octets_slot (b.size - 8) ∷ []

encoding-block : (directory : List ℕ) (p : ℕ) (b : Block) → IsBytes directory → IsBlockAt directory p b → encoding Little (block_fields b) ≡ slice_range directory p (p + b.size)
encoding-block directory p b bytes h =
    let from : p + 4 + 4 ≡ p + 8 = omega arith in
    let to : p + 8 + (b.size - 8) ≡ p + b.size = omega (arith, h.large) in
    let own : slice_range directory (p + 4 + 4) (p + 4 + 4 + (b.size - 8)) ≡ b.words = ap (λ (q : ℕ). slice_range directory q (q + (b.size - 8))) from ∙ ap (slice_range directory (p + 8)) to ∙ h.words in
    let fields : fields_from Little (slots b) directory p ≡ block_fields b = rw (own, h.rva, h.size) refl in
    let width : slots_width (slots b) ≡ b.size = omega (arith, h.large) in
    ap (encoding Little) (sym fields) ∙ encoding-fields_from Little (slots b) directory p bytes (omega (arith, width, h.within)) ∙ ap (λ (n : ℕ). slice_range directory p (p + n)) width

ends_past : (directory : List ℕ) (p : ℕ) (blocks : List Block) (end : ℕ) → AreBlocks directory p blocks end → p ≤ end
ends_past directory p [] end stand = omega (arith, stand)
ends_past directory p (b ∷ blocks) end stand = omega (arith, ends_past directory (p + b.size) blocks end stand.1)

encoding-blocks : (directory : List ℕ) (p : ℕ) (blocks : List Block) (end : ℕ) → IsBytes directory → AreBlocks directory p blocks end → flat_map (λ b. encoding Little (block_fields b)) blocks ≡ slice_range directory p end
encoding-blocks directory p [] end bytes stand =
    let none : end - p ≡ 0 = omega (arith, stand) in
    rw none refl
encoding-blocks directory p (b ∷ blocks) end bytes stand =
    let first = encoding-block directory p b bytes stand.0 in
    let rest = encoding-blocks directory (p + b.size) blocks end bytes stand.1 in
    let to : p + b.size + (end - (p + b.size)) ≡ end = omega (arith, ends_past directory (p + b.size) blocks end stand.1) in
    let whole : p + (b.size + (end - (p + b.size))) ≡ end = omega (arith, ends_past directory (p + b.size) blocks end stand.1) in
    let joined : slice_range directory p (p + b.size) ++ slice_range directory (p + b.size) end ≡ slice_range directory p end = ap (λ (q : ℕ). slice_range directory p (p + b.size) ++ slice_range directory (p + b.size) q) (sym to) ∙ slice_then directory p b.size (end - (p + b.size)) ∙ ap (slice_range directory p) whole in
    rw (first, rest) joined

pub blocks_of : (directory : List ℕ) → AreBlocksOf directory (first_items (length directory - 0) directory 0)
blocks_of directory =
    let all = all_stand (length directory - 0) directory 0 (omega arith) in
    record {
      blocks = all.blocks;
      end = all.end;
      errors = all.errors;
      are = all.are;
      one = all.one;
      stand = all.stand;
      longest = all.longest;
      encoded = λ bytes. encoding-blocks directory 0 all.blocks all.end bytes all.stand;
    }
