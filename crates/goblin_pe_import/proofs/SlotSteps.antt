-- The slots before the stop of a table, and what a budget of steps has left.
use Rattle.std.proofs.Common.{◌≡◌, ◌≤◌, ◌+◌, ℕ, zero, suc, true, false, List, Option, Some, None, refl, ap, ◌∙◌, arith}
use Rattle.goblin_base.specs.Tables.{SlotFormat, ends_table, slot_at, stop}
use Rattle.goblin_base.proofs.SlotTables.{reads}
use Rattle.goblin_pe_import.specs.TableSums.{amount_of, sum_below, sum_of_slots}
use Rattle.goblin_pe_import.specs.Steps.{AreCounted, HasNotGrown, HasRefused, HasSteps, spent}
use Rattle.readings.proofs.Walks.{here, shifted, stop-first, stop-next}

-- a table that ends at once amounts to nothing
pub sum-here : {V : Type 0} (slots : SlotFormat V) (amount : V → ℕ) (bytes : List ℕ) (o : ℕ)
    → 1 ≤ slots.entry.width → (end : Option V) → reads slots bytes o ≡ end
    → ends_table slots.is_last end ≡ true → sum_of_slots slots amount bytes o ≡ 0
unfolding sum_of_slots sum_below
sum-here slots amount bytes o wide end r e =
    ap (sum_below (λ i. amount_of amount (slot_at slots bytes o i))) (stop-first slots bytes o wide end r e)

module _ {V : Type 0} (slots : SlotFormat V) (bytes : List ℕ) (o : ℕ)
    (wide : 1 ≤ slots.entry.width) (v : V) (r : reads slots bytes o ≡ Some v)
    (going : slots.is_last v ≡ false) where
  abbrev next : ℕ
  next = o + slots.entry.width

  first-below : (f g : ℕ → ℕ) (a : ℕ) → f 0 ≡ a → ((i : ℕ) → f (suc i) ≡ g i) → (n : ℕ)
      → sum_below f (suc n) ≡ a + sum_below g n
  unfolding sum_below
  first-below f g a is same zero = omega (arith, is)
  first-below f g a is same (suc n) = omega (arith, first-below f g a is same n, same n)

  -- the amount of the first slot comes to that of the others
  pub sum-first : (amount : V → ℕ)
      → sum_of_slots slots amount bytes o ≡ amount v + sum_of_slots slots amount bytes next
  unfolding sum_of_slots
  sum-first amount =
      ap (sum_below (λ i. amount_of amount (slot_at slots bytes o i)))
      (stop-next slots bytes o wide v r going)
      ∙ first-below (λ i. amount_of amount (slot_at slots bytes o i))
      (λ i. amount_of amount (slot_at slots bytes next i)) (amount v)
      (ap (amount_of amount) (here slots bytes o wide v r going))
      (λ i. ap (λ (p : ℕ). amount_of amount (reads slots bytes p)) (shifted slots bytes o wide v r going i))
      (stop slots bytes next)

pub counted-start : (steps : Option ℕ) (n : ℕ) → AreCounted steps steps n n
counted-start None n = refl
counted-start (Some a) n = refl

-- it has not grown
pub grown_none : (steps : Option ℕ) → HasNotGrown steps steps
grown_none None = refl
grown_none (Some a) = omega arith

pub grown_spent : (old now : Option ℕ) (n : ℕ) → HasNotGrown old now → HasNotGrown old (spent now n)
grown_spent None now n h = rw h refl
grown_spent (Some a) None n h = absurd h
grown_spent (Some a) (Some b) n h = omega (arith, h)

-- one step more
pub counted-one : (old now : Option ℕ) (before ahead after : ℕ) → HasSteps now → ahead ≡ suc after
    → AreCounted old now before ahead → AreCounted old (spent now 1) before after
counted-one None now before ahead after has one h = rw h refl
counted-one (Some a) None before ahead after has one h = absurd h
counted-one (Some a) (Some b) before ahead after has one h = omega (arith, has, one, h)

-- the look that is refused
pub refused-one : (old now : Option ℕ) (before ahead : ℕ) → HasSteps now → HasNotGrown old now
    → AreCounted old now before ahead → HasRefused old (spent now 1) before
refused-one None now before ahead has grown h = rw h refl
refused-one (Some a) None before ahead has grown h = absurd h
refused-one (Some a) (Some b) before ahead has grown h =
    (omega (arith, has, grown), omega (arith, has, h))
