-- The laws of readings, once for each way to put them together; and what they give for two files.
use Rattle.std.proofs.Common.{◌≡◌, ◌<◌, ◌+◌, ◌-◌, ◌++◌, ℕ, nat_lt, length, drop, List, Option, Some, None, Result, ap, subst, sym, ◌∙◌, arith, option_map, slice_range}
use Rattle.std.proofs.lemmas.Bool.{ltb-true}
use Rattle.std.specs.declared.alloc.AllocError.{AllocError}
use Rattle.goblin_base.specs.{declared.endian.Endian.Endian, declared.error.CauseOf.CauseOf}
use Rattle.goblin_base.specs.{declared.error.ErrorOf.ErrorOf, Values.value_at}
use Rattle.goblin_base.specs.Answers.{BadMagic, BufferTooShort, Malformed, Memory, Read, ◌>>=◌, FirstFault, IsMemory, IsSliceFault, IsNoText, IsOffsetFault, IsTextFault}
use Rattle.goblin_base.specs.Footprints.{Agree, led_to, rest_footprint}
use Rattle.goblin_base.specs.Reading.{Reading, Reads, ReadsOrMemory, Twins, TwinsOrMemory}
use Rattle.goblin_base.proofs.Footprints.{agree-left, agree-right, alike_answers, alike_or_memory_answers, same-led, same-within, same_if}
use Rattle.goblin_base.proofs.Numbers.{rest_is_drop}
use Rattle.goblin_base.proofs.Inside.{AreInside, both-in, led-in}

-- ---- a read, and one that depends on its value

module _ {A B : Type 0} (r : Reading A) (f : A → Reading B) where
  pub then-local : (a b : List ℕ)
      → Agree (r.reaches a ++ led_to (r.value a) (λ x. (f x).reaches a)) a b
      → (r.value a >>= (λ x. (f x).value a)) ≡ (r.value b >>= (λ x. (f x).value b))
  then-local a b h =
      same-led (r.value a) (r.value b) (λ x. (f x).value a) (λ x. (f x).value b)
      (λ x. (f x).reaches a) a b
      (r.is_local a b (agree-left (r.reaches a) _ a b h))
      (λ x is agree. (f x).is_local a b agree)
      (agree-right (r.reaches a) _ a b h)

  pub then-inside : (bytes : List ℕ)
      → AreInside bytes (r.reaches bytes ++ led_to (r.value bytes) (λ x. (f x).reaches bytes))
  then-inside bytes =
      both-in bytes (r.reaches bytes) _ (r.is_inside bytes)
      (led-in bytes (r.value bytes) (λ x. (f x).reaches bytes) (λ x. (f x).is_inside bytes))

pub first_no_memory : {A : Type 0} (value : Option A) (IsCause : ErrorOf → Type 0)
    (Later : A → ErrorOf → Type 0) (e : ErrorOf) → (IsCause e → ¬ IsMemory e)
    → ((x : A) → Later x e → ¬ IsMemory e) → FirstFault value IsCause Later e → ¬ IsMemory e
first_no_memory None IsCause Later e one rest h = one h
first_no_memory (Some x) IsCause Later e one rest h = rest x h

pub then-not_memory : {A B : Type 0} (r : Reading A) (f : A → Reading B) (bytes : List ℕ)
    (e : ErrorOf)
    → FirstFault (r.value bytes) (r.IsCause bytes) (λ x. (f x).IsCause bytes) e → ¬ IsMemory e
then-not_memory r f bytes e =
    first_no_memory (r.value bytes) (r.IsCause bytes) (λ x. (f x).IsCause bytes) e
    (r.not_memory bytes e) (λ x. (f x).not_memory bytes e)

-- ---- causes of single reads

pub malformed-not_memory : (cause : CauseOf) (e : ErrorOf) → e ≡ Malformed cause → ¬ IsMemory e
malformed-not_memory cause e is memory =
    let same : IsMemory (Malformed cause) = subst IsMemory is memory in absurd same

-- a predicate that is true of no Memory; for a word by cases it computes that
pub by_cases-not_memory : (IsCause : ErrorOf → Type 0) → ((m : AllocError) → ¬ IsCause (Memory m))
    → (e : ErrorOf) → IsCause e → ¬ IsMemory e
by_cases-not_memory IsCause none (Memory m) h = absurd (none m h)
by_cases-not_memory IsCause none (Malformed c) h = λ m. m
by_cases-not_memory IsCause none (BadMagic k) h = λ m. m
by_cases-not_memory IsCause none (BufferTooShort k what) h = λ m. m
by_cases-not_memory IsCause none (Read fault) h = λ m. m

pub slice-not_memory : (bytes : List ℕ) (p n : ℕ) (e : ErrorOf)
    → IsSliceFault bytes p n e → ¬ IsMemory e
slice-not_memory bytes p n = by_cases-not_memory (IsSliceFault bytes p n) (λ m h. h)

pub text-not_memory : (bytes : List ℕ) (p : ℕ) (e : ErrorOf)
    → IsTextFault bytes p e → ¬ IsMemory e
text-not_memory bytes p = by_cases-not_memory (IsTextFault bytes p) (λ m h. h)

pub offset-not_memory : (bytes : List ℕ) (p : ℕ) (e : ErrorOf)
    → IsOffsetFault bytes p e → ¬ IsMemory e
offset-not_memory bytes p = by_cases-not_memory (IsOffsetFault bytes p) (λ m h. h)

pub no_text-not_memory : (bytes : List ℕ) (e : ErrorOf) → IsNoText bytes e → ¬ IsMemory e
no_text-not_memory bytes = by_cases-not_memory (IsNoText bytes) (λ m h. h)

-- ---- a typed value, which may depend on all bytes that follow

same_rest : (a b : List ℕ) (p : ℕ) → p < length a → Agree (rest_footprint a p) a b
    → drop p a ≡ drop p b
same_rest a b p lt h =
    let end : p + (length a - p) ≡ length a = omega (arith, lt) in
    sym (rest_is_drop a p)
    ∙ subst (λ (k : ℕ). slice_range a p k ≡ slice_range b p k) end
    (same-within p (length a) a b p (length a - p) h (omega arith) (omega (arith, end)) (omega (arith, end)))
    ∙ ap (slice_range b p) h.same_length ∙ rest_is_drop b p

pub value-local : {Y : Type 0} (value_of : Endian → List ℕ → Option (Y × ℕ)) (endian : Endian)
    (a b : List ℕ) (p : ℕ) → Agree (rest_footprint a p) a b
    → value_at value_of endian a p ≡ value_at value_of endian b p
value-local {Y} value_of endian a b p h =
    let value : List ℕ → Option Y = λ own. option_map (λ (x : Y × ℕ). x.0) (value_of endian own) in
    same_if (nat_lt p (length a)) (nat_lt p (length b)) _ _ None (ap (nat_lt p) h.same_length)
    (λ lt. ap value (same_rest a b p (ltb-true p (length a) lt) h))

-- ---- two reads beside each other

pub beside-local : {A B C : Type 0} (r : Reading A) (s : Reading B)
    (both : Option A → Option B → C) (a b : List ℕ) → Agree (r.reaches a ++ s.reaches a) a b
    → both (r.value a) (s.value a) ≡ both (r.value b) (s.value b)
beside-local r s both a b h =
    ap (λ x. both x (s.value a))
    (r.is_local a b (agree-left (r.reaches a) (s.reaches a) a b h))
    ∙ ap (both (r.value b)) (s.is_local a b (agree-right (r.reaches a) (s.reaches a) a b h))

pub beside-inside : {A B : Type 0} (r : Reading A) (s : Reading B) (bytes : List ℕ)
    → AreInside bytes (r.reaches bytes ++ s.reaches bytes)
beside-inside r s bytes =
    both-in bytes (r.reaches bytes) (s.reaches bytes) (r.is_inside bytes) (s.is_inside bytes)

-- ---- two files

pub twins : {X Y : Type 0} (view : X → Y) (reading : Reading Y) (a b : List ℕ)
    (r q : Result X ErrorOf) → Reads view r reading a → Reads view q reading b
    → Twins view reading a b (r, q)
twins view reading a b r q h k = record {
  first = h;
  second = k;
  same = reading.is_local a b;
  alike = λ agree.
      alike_answers view r q (reading.value a) (reading.value b) (reading.IsCause a)
      (reading.IsCause b) h k (reading.is_local a b agree);
}

pub twins_or_memory : {X Y : Type 0} (view : X → Y) (reading : Reading Y) (a b : List ℕ)
    (r q : Result X ErrorOf) → ReadsOrMemory view r reading a
    → ReadsOrMemory view q reading b → TwinsOrMemory view reading a b (r, q)
twins_or_memory view reading a b r q h k = record {
  first = h;
  second = k;
  same = reading.is_local a b;
  alike = λ agree.
      alike_or_memory_answers view r q (reading.value a) (reading.value b)
      (reading.IsCause a) (reading.IsCause b) h k (reading.is_local a b agree);
}
