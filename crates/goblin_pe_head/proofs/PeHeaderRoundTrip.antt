-- A header that was read is written as its bytes, with the missing directories after them, and is read again.
use Rattle.std.proofs.Common.{◌≡◌, ℕ, ◌+◌, ◌-◌, ◌<◌, ◌≤◌, ◌&&◌, Bool, true, false, cond, nat_le, List, [], ◌∷◌, ◌++◌, take, drop, length, Option, Some, None, refl, sym, ap, ◌∙◌, subst, arith, ◌*◌, nat_lt, append_assoc, inl, inr, ◌==◌, option_map, slice_range, option_and_then, append-nil, length-drop}
use Rattle.std.proofs.lemmas.Bool.{and_parts, eqb-true, leb-true, le-leb}
use Rattle.std.proofs.lemmas.Option.{cond_some}
use Rattle.goblin_base.specs.{declared.endian.Endian.TheVariants.Little, Answers.◌>>=◌}
use Rattle.goblin_base.specs.{Parts.bytes_between, Record.encoding, Record.record_at, Record.uint}
use Rattle.goblin_base.specs.Bytes.{IsBytes, number_at, number_bytes, overwritten, replaced, slice_at}
use Rattle.goblin_base.proofs.RecordRoundTrip.{bytes_after, front_more, number_bytes-number, slice-is}
use Rattle.goblin_base.proofs.Numbers.{number_at-some, slice_at-some}
use Rattle.goblin_base.proofs.Steps.{mapped, same_value, step}
use Rattle.goblin_base.proofs.Fronts.{HaveFront, front-drop, front_then, number-front, record-front, slice-front}
use Rattle.readings.specs.Reads.{pair_of}
use Rattle.goblin_pe_sect.proofs.EntriesFront.{directories-front}
use Rattle.goblin_pe_head.specs.CoffHeader.{CoffHeader, coff_fields, coff_header}
use Rattle.goblin_pe_head.specs.DosHeader.{DosHeader, dos_fields, dos_record}
use Rattle.goblin_pe_head.specs.OptionalHeader.{OptionalHeader, standard_32_record, standard_64_record, standard_from_32, standard_from_64, windows_record}
use Rattle.goblin_pe_head.specs.{DosStub.default_stub, RichHeader.rich_at, RichHeader.rich_in}
use Rattle.goblin_pe_head.specs.HeaderLaws.{DosWritesBack, HeaderWritesBack, end_after, filling, filling_after, optional_size, HeaderReadsBack, header_end, OptionalWritesBack}
use Rattle.goblin_pe_head.specs.HeaderReadings.{SignedParts, coff_parts, dos_header, dos_signature, header_of, optional_at, optional_header, parts_at, pe_header, pe_signature, signed_record, standard_by, stub_in, that_is, windows_by}
use Rattle.goblin_pe_head.specs.PeHeader.{PeHeader, header_bytes, header_parts, written_part}
use Rattle.readings.proofs.Pairs.{both, strict_in_its_place}
use Rattle.goblin_pe_head.proofs.{CoffHeaderRoundTrip.coff_back, DosHeaderRoundTrip.dos_back}
use Rattle.goblin_pe_head.proofs.OptionalHeaderRoundTrip.{optional_back}
use Rattle.goblin_pe_head.proofs.OptionalParts.{IsOptionalOf, of_optional, optional_of}

-- the parts of a header that was read
pub record IsHeaderOf (strict : Bool) (bytes : List ℕ) (h : PeHeader) : Type 0 where
  pub dos : dos_header.value bytes ≡ Some h.dos_header
  pub stub : (stub_in strict h.dos_header.pe_pointer).value bytes ≡ Some h.dos_stub
  pub rich : (rich_at h.dos_header.pe_pointer).value bytes ≡ Some h.rich_header
  pub signature : number_at Little 4 bytes h.dos_header.pe_pointer ≡ Some h.signature
  pub coff : record_at 20 (coff_header Little) bytes (h.dos_header.pe_pointer + 4) ≡ Some h.coff_header
  pub optional : (optional_at h.coff_header.size_of_optional_header (h.dos_header.pe_pointer + 24)).value bytes ≡ Some h.optional_header

-- the parts from a signature on
record AreSigned (bytes : List ℕ) (p : ℕ) (parts : SignedParts) : Type 0 where
  pub signature : number_at Little 4 bytes p ≡ Some parts.signature
  pub coff : record_at 20 (coff_header Little) bytes (p + 4) ≡ Some parts.coff_header
  pub optional : (optional_at parts.coff_header.size_of_optional_header (p + 24)).value bytes ≡ Some parts.optional_header

abbrev parts_with : ℕ → CoffHeader × Option OptionalHeader → SignedParts
parts_with signature both = record { signature = signature; coff_header = both.0; optional_header = both.1 }

signed_parts : (bytes : List ℕ) (p : ℕ) (parts : SignedParts) → (parts_at p).value bytes ≡ Some parts → AreSigned bytes p parts
unfolding parts_at
signed_parts bytes p parts e =
    let all = mapped (pair_of (number_at Little 4 bytes p) ((coff_parts p).value bytes)) _ parts e in
    let own = both (number_at Little 4 bytes p) ((coff_parts p).value bytes) all.value all.is in
    let coff = step (record_at 20 (coff_header Little) bytes (p + 4)) _ all.value.1 own.second in
    let optional = mapped ((optional_at coff.value.size_of_optional_header (p + 24)).value bytes) (λ optional. (coff.value, optional)) all.value.1 coff.then in
    let whole : AreSigned bytes p (parts_with all.value.0 (coff.value, optional.value)) = record { signature = own.first; coff = coff.is; optional = optional.is } in
    subst (AreSigned bytes p) (ap (parts_with all.value.0) optional.made ∙ all.made) whole

pub parts_of : (strict : Bool) (bytes : List ℕ) (h : PeHeader) → (pe_header strict).value bytes ≡ Some h → IsHeaderOf strict bytes h
unfolding pe_header
parts_of strict bytes h e =
    let dos = step (dos_header.value bytes) _ h e in
    let p = dos.value.pe_pointer in
    let stub = (stub_in strict p).value bytes in
    let rich = (rich_at p).value bytes in
    let parts = (parts_at p).value bytes in
    let all = mapped (pair_of stub (pair_of rich parts)) (λ all. header_of dos.value all.0 all.1.0 all.1.1) h dos.then in
    let front = both stub (pair_of rich parts) all.value all.is in
    let back = both rich parts all.value.1 front.second in
    let own = signed_parts bytes p all.value.1.1 back.second in
    let whole : IsHeaderOf strict bytes (header_of dos.value all.value.0 all.value.1.0 all.value.1.1) =
    record { dos = dos.is; stub = front.first; rich = back.first; signature = own.signature; coff = own.coff; optional = own.optional } in
    subst (IsHeaderOf strict bytes) all.made whole

pub of_parts : (strict : Bool) (bytes : List ℕ) (h : PeHeader) → IsHeaderOf strict bytes h → (pe_header strict).value bytes ≡ Some h
unfolding pe_header parts_at
of_parts strict bytes h is = rw (is.dos, is.stub, is.rich, is.signature, is.coff, is.optional) refl

-- the stub in strict mode
pub strict_stub : (bytes : List ℕ) (h : PeHeader) → IsHeaderOf true bytes h → bytes_between bytes 64 h.dos_header.pe_pointer ≡ Some h.dos_stub
unfolding stub_in
strict_stub bytes h is = sym (strict_in_its_place default_stub (bytes_between bytes 64 h.dos_header.pe_pointer)) ∙ is.stub

-- what a DOS header that was read is made of
pub record IsDosOf (bytes : List ℕ) (h : DosHeader) : Type 0 where
  pub magic : number_at Little 2 bytes 0 ≡ Some 0x5A4D
  pub own : record_at 64 (dos_record Little) bytes 0 ≡ Some h
  pub signature : number_at Little 4 bytes h.pe_pointer ≡ Some 0x4550

-- a number that is the one that is wanted
wanted : (number : Option ℕ) (n found : ℕ) → (number >>= that_is n) ≡ Some found → number ≡ Some n
wanted number n found e =
    let own = step number (that_is n) found e in
    let test = cond_some (own.value == n) own.value found own.then in
    own.is ∙ ap (λ (x : ℕ). Some x) (eqb-true own.value n test.0)

pub dos_of : (bytes : List ℕ) (h : DosHeader) → dos_header.value bytes ≡ Some h → IsDosOf bytes h
unfolding dos_header
dos_of bytes h e =
    let all = mapped (pair_of (dos_signature.value bytes) (signed_record.value bytes)) (λ both. both.1) h e in
    let own = both (dos_signature.value bytes) (signed_record.value bytes) all.value all.is in
    let header = step (record_at 64 (dos_record Little) bytes 0) _ all.value.1 own.second in
    let signature = mapped ((pe_signature header.value.pe_pointer).value bytes) (λ signature. header.value) all.value.1 header.then in
    let same : header.value ≡ h = signature.made ∙ all.made in
    record {
      magic = wanted (number_at Little 2 bytes 0) 0x5A4D all.value.0 own.first;
      own = header.is ∙ ap (λ (x : DosHeader). Some x) same;
      signature = ap (λ (x : DosHeader). number_at Little 4 bytes x.pe_pointer) (sym same)
          ∙ wanted (number_at Little 4 bytes header.value.pe_pointer) 0x4550 signature.value signature.is;
    }

pub of_dos : (bytes : List ℕ) (h : DosHeader) → IsDosOf bytes h → dos_header.value bytes ≡ Some h
unfolding dos_header
of_dos bytes h is = rw (is.magic, is.own, is.signature) refl

-- an optional header that is there ends within the file, and is written as its bytes
record IsOptionalPart (bytes : List ℕ) (p : ℕ) (optional : Option OptionalHeader) : Type 0 where
  pub end : end_after p optional ≤ length bytes
  pub own : List ℕ
  pub is : written_part Little optional ≡ Some own
  pub written : take (p + 24) bytes ++ (own ++ []) ≡ take (end_after p optional) bytes ++ filling_after optional

part : (bytes : List ℕ) (p : ℕ) (none : Bool) (optional : Option OptionalHeader) → IsBytes bytes → p + 24 ≤ length bytes
    → cond none (Some None) (option_map (λ (header : OptionalHeader × ℕ). Some header.0) (optional_header.value (drop (p + 24) bytes))) ≡ Some optional
    → IsOptionalPart bytes p optional
unfolding OptionalWritesBack
part bytes p true optional h room e = subst (IsOptionalPart bytes p) (same_value None optional e) (record { end = room; own = []; is = refl; written = refl })
part bytes p false optional h room e =
    let at = p + 24 in
    let found = mapped (optional_header.value (drop at bytes)) (λ (header : OptionalHeader × ℕ). Some header.0) optional e in
    let header = found.value.0 in
    let n = found.value.1 in
    let back = optional_back (drop at bytes) header n (bytes_after bytes at h) found.is in
    let long = length-drop at bytes in
    let place : at + n ≡ at + optional_size header = ap (λ (k : ℕ). at + k) back.0 in
    let here : IsOptionalPart bytes p (Some header) = record {
      end = omega (arith, back.0, back.1, long, room);
      own = take n (drop at bytes) ++ filling header;
      is = back.2;
      written = ap (λ (xs : List ℕ). take at bytes ++ xs) (append-nil (take n (drop at bytes) ++ filling header))
          ∙ front_more bytes at n (take n (drop at bytes)) (filling header) refl
          ∙ ap (λ (k : ℕ). take k bytes ++ filling header) place;
    } in
    subst (IsOptionalPart bytes p) found.made here

pub dos_file : DosWritesBack
unfolding DosWritesBack
dos_file file h fits e = dos_back Little file 0 h fits (dos_of file h e).own

-- how the parts before the optional header lie in the file
pub record IsLaid (bytes : List ℕ) (h : PeHeader) : Type 0 where
  pub stub_end : 64 ≤ h.dos_header.pe_pointer
  pub end : h.dos_header.pe_pointer + 24 ≤ length bytes
  pub dos : encoding Little (dos_fields h.dos_header) ≡ take 64 bytes
  pub stub : h.dos_stub ≡ take (h.dos_header.pe_pointer - 64) (drop 64 bytes)
  pub signature : encoding Little (uint 4 h.signature ∷ []) ≡ take 4 (drop h.dos_header.pe_pointer bytes)
  pub coff : encoding Little (coff_fields h.coff_header) ≡ take 20 (drop (h.dos_header.pe_pointer + 4) bytes)

pub laid : (bytes : List ℕ) (h : PeHeader) → IsBytes bytes → IsHeaderOf true bytes h → IsLaid bytes h
laid bytes h fits is =
    let p = h.dos_header.pe_pointer in
    let dos = slice_at-some bytes 0 64 (encoding Little (dos_fields h.dos_header)) (dos_back Little bytes 0 h.dos_header fits (dos_of bytes h.dos_header is.dos).own) in
    let stub = cond_some (nat_le 64 p && nat_le p (length bytes)) (slice_range bytes 64 p) h.dos_stub (strict_stub bytes h is) in
    let tests = and_parts (nat_le 64 p) (nat_le p (length bytes)) stub.0 in
    let signature = number_at-some Little 4 bytes p h.signature is.signature in
    let coff = slice_at-some bytes (p + 4) 20 (encoding Little (coff_fields h.coff_header)) (coff_back Little bytes (p + 4) h.coff_header fits is.coff) in
    record {
      stub_end = leb-true 64 p tests.0;
      end = omega (arith, coff.end);
      dos = dos.value ∙ slice-is bytes 0 64;
      stub = sym stub.1;
      signature = append-nil (number_bytes Little 4 h.signature) ∙ ap (number_bytes Little 4) signature.value ∙ number_bytes-number Little 4 bytes p fits signature.end ∙ slice-is bytes p 4;
      coff = coff.value ∙ slice-is bytes (p + 4) 20;
    }

in_front : (bytes : List ℕ) (h : PeHeader) (optional : List ℕ) → IsLaid bytes h → header_parts Little h optional ≡ take (h.dos_header.pe_pointer + 24) bytes ++ (optional ++ [])
unfolding header_parts
in_front bytes h optional is =
    let p = h.dos_header.pe_pointer in
    let dos = encoding Little (dos_fields h.dos_header) in
    let signature = encoding Little (uint 4 h.signature ∷ []) in
    let coff = encoding Little (coff_fields h.coff_header) in
    let rest = optional ++ [] in
    let at_signature : 64 + (p - 64) ≡ p = omega (arith, is.stub_end) in
    let at_coff : p + 4 + 20 ≡ p + 24 = omega arith in
    ap (λ (xs : List ℕ). xs ++ (h.dos_stub ++ (signature ++ (coff ++ rest)))) is.dos
    ∙ front_more bytes 64 (p - 64) h.dos_stub (signature ++ (coff ++ rest)) is.stub
    ∙ ap (λ (k : ℕ). take k bytes ++ (signature ++ (coff ++ rest))) at_signature
    ∙ front_more bytes p 4 signature (coff ++ rest) is.signature
    ∙ front_more bytes (p + 4) 20 coff rest is.coff
    ∙ ap (λ (k : ℕ). take k bytes ++ rest) at_coff

pub header_back : HeaderWritesBack
unfolding HeaderWritesBack header_bytes optional_at
header_back file h fits e =
    let is = parts_of true file h e in
    let lies = laid file h fits is in
    let p = h.dos_header.pe_pointer in
    let last = part file p (h.coff_header.size_of_optional_header == 0) h.optional_header fits lies.end is.optional in
    (last.end, ap (option_map (header_parts Little h)) last.is ∙ ap (λ (xs : List ℕ). Some xs) (in_front file h last.own lies ∙ last.written))

-- ---- a header depends on the bytes up to its end alone, so it is read again

dos-front : (n : ℕ) (h : DosHeader) (a b : List ℕ) → HaveFront n a b → 64 ≤ n → h.pe_pointer + 4 ≤ n → dos_header.value a ≡ Some h → dos_header.value b ≡ Some h
dos-front n h a b front low high e =
    let is = dos_of a h e in
    of_dos b h (record {
      magic = number-front n Little 2 0 0x5A4D a b front (omega (arith, low)) is.magic;
      own = record-front n 64 (dos_record Little) 0 h a b front (omega arith) low is.own;
      signature = number-front n Little 4 h.pe_pointer 0x4550 a b front high is.signature;
    })

stretch-front : (n p : ℕ) (a b : List ℕ) → HaveFront n a b → 64 ≤ p → p ≤ n → slice_range a 64 p ≡ slice_range b 64 p
stretch-front n p a b front low high =
    let place : 64 + (p - 64) ≡ p = omega (arith, low) in
    subst (λ (k : ℕ). slice_range a 64 k ≡ slice_range b 64 k) place (slice-front n 64 (p - 64) a b front (omega (arith, low, high)))

stub-front : (n p : ℕ) (stub : List ℕ) (a b : List ℕ) → HaveFront n a b → p ≤ n → bytes_between a 64 p ≡ Some stub → bytes_between b 64 p ≡ Some stub
stub-front n p stub a b front high e =
    let found = cond_some (nat_le 64 p && nat_le p (length a)) (slice_range a 64 p) stub e in
    let tests = and_parts (nat_le 64 p) (nat_le p (length a)) found.0 in
    let room : nat_le p (length b) ≡ true = le-leb _ _ (omega (arith, high, front.in_b)) in
    let same = stretch-front n p a b front (leb-true 64 p tests.0) high in
    rw (tests.0, room) (ap (λ (xs : List ℕ). Some xs) (sym same ∙ found.1))

rich-front : (n p : ℕ) (a b : List ℕ) → HaveFront n a b → 64 ≤ p → p ≤ n → (rich_at p).value a ≡ (rich_at p).value b
unfolding rich_at
rich-front n p a b front low high =
    ap (λ (stretch : List ℕ). cond (nat_lt p 68) (Some None) (rich_in.value stretch)) (stretch-front n p a b front low high)

-- what is made of a record is also made of it in other bytes with the same front
mapped-front : {R S : Type 0} (n size p : ℕ) (value : List ℕ → R) (f : R → S) (y : S) (a b : List ℕ) → HaveFront n a b → 0 < size → p + size ≤ n
    → option_map f (record_at size value a p) ≡ Some y → option_map f (record_at size value b p) ≡ Some y
mapped-front {S = S} n size p value f y a b front some le e =
    let own = mapped (record_at size value a p) f y e in
    rw (record-front n size value p own.value a b front some le own.is) (ap (λ (y : S). Some y) own.made)

narrow-front : (n : ℕ) (x : OptionalHeader × ℕ) (a b : List ℕ) → HaveFront n a b → x.1 ≤ n → IsOptionalOf 0x10B a x → IsOptionalOf 0x10B b x
unfolding standard_by windows_by
narrow-front n x a b front le is =
    let end : 96 + 8 * x.0.windows_fields.number_of_rva_and_sizes ≡ x.1 = is.size in
    record {
      front = number-front n Little 2 0 0x10B a b front (omega (arith, end, le)) is.front;
      standard = mapped-front n 28 0 (standard_32_record Little) standard_from_32 x.0.standard_fields a b front (omega arith) (omega (arith, end, le)) is.standard;
      windows = record-front n 68 (windows_record 4 Little) 28 x.0.windows_fields a b front (omega arith) (omega (arith, end, le)) is.windows;
      directories = directories-front n x.0.windows_fields.number_of_rva_and_sizes 96 x.0.data_directories.data_directories a b front (omega (arith, end, le)) is.directories;
      size = is.size;
    }

wide-front : (n : ℕ) (x : OptionalHeader × ℕ) (a b : List ℕ) → HaveFront n a b → x.1 ≤ n → IsOptionalOf 0x20B a x → IsOptionalOf 0x20B b x
unfolding standard_by windows_by
wide-front n x a b front le is =
    let end : 112 + 8 * x.0.windows_fields.number_of_rva_and_sizes ≡ x.1 = is.size in
    record {
      front = number-front n Little 2 0 0x20B a b front (omega (arith, end, le)) is.front;
      standard = mapped-front n 24 0 (standard_64_record Little) standard_from_64 x.0.standard_fields a b front (omega arith) (omega (arith, end, le)) is.standard;
      windows = record-front n 88 (windows_record 8 Little) 24 x.0.windows_fields a b front (omega arith) (omega (arith, end, le)) is.windows;
      directories = directories-front n x.0.windows_fields.number_of_rva_and_sizes 112 x.0.data_directories.data_directories a b front (omega (arith, end, le)) is.directories;
      size = is.size;
    }

optional_header-front : (n : ℕ) (x : OptionalHeader × ℕ) (a b : List ℕ) → HaveFront n a b → x.1 ≤ n → optional_header.value a ≡ Some x → optional_header.value b ≡ Some x
optional_header-front n x a b front le e = elim (optional_of a x e) [
  | inl is ↦ of_optional 0x10B b x (narrow-front n x a b front le is)
  | inr is ↦ of_optional 0x20B b x (wide-front n x a b front le is)
]

optional-front : (n p : ℕ) (none : Bool) (optional : Option OptionalHeader) (a b : List ℕ) → IsBytes a → HaveFront n a b → end_after p optional ≤ n
    → cond none (Some None) (option_map (λ (header : OptionalHeader × ℕ). Some header.0) (optional_header.value (drop (p + 24) a))) ≡ Some optional
    → cond none (Some None) (option_map (λ (header : OptionalHeader × ℕ). Some header.0) (optional_header.value (drop (p + 24) b))) ≡ Some optional
unfolding OptionalWritesBack
optional-front n p true optional a b fits front le e = e
optional-front n p false optional a b fits front le e =
    let at = p + 24 in
    let found = mapped (optional_header.value (drop at a)) (λ (header : OptionalHeader × ℕ). Some header.0) optional e in
    let h = found.value.0 in
    let k = found.value.1 in
    let size = (optional_back (drop at a) h k (bytes_after a at fits) found.is).0 in
    let end : end_after p (Some h) ≤ n = subst (λ (o : Option OptionalHeader). end_after p o ≤ n) (sym found.made) le in
    let after = front-drop n at a b front (omega (arith, end)) in
    let there = optional_header-front (n - at) found.value (drop at a) (drop at b) after (omega (arith, size, end)) found.is in
    rw there (ap (λ (o : Option OptionalHeader). Some o) found.made)

least_end : (p : ℕ) (optional : Option OptionalHeader) → p + 24 ≤ end_after p optional
least_end p None = omega arith
least_end p (Some h) = omega arith

-- a header depends on the bytes up to its end alone
pub header-front : (a b : List ℕ) (h : PeHeader) → IsBytes a → (pe_header true).value a ≡ Some h → HaveFront (header_end h) a b → (pe_header true).value b ≡ Some h
unfolding optional_at stub_in
header-front a b h fits e front =
    let is = parts_of true a h e in
    let lies = laid a h fits is in
    let n = header_end h in
    let p = h.dos_header.pe_pointer in
    let low = lies.stub_end in
    let high : p + 24 ≤ n = least_end p h.optional_header in
    of_parts true b h (record {
      dos = dos-front n h.dos_header a b front (omega (arith, low, high)) (omega (arith, high)) is.dos;
      stub = strict_in_its_place default_stub (bytes_between b 64 p) ∙ stub-front n p h.dos_stub a b front (omega (arith, high)) (strict_stub a h is);
      rich = sym (rich-front n p a b front low (omega (arith, high))) ∙ is.rich;
      signature = number-front n Little 4 p h.signature a b front (omega (arith, high)) is.signature;
      coff = record-front n 20 (coff_header Little) (p + 4) h.coff_header a b front (omega arith) (omega (arith, high)) is.coff;
      optional = optional-front n p (h.coff_header.size_of_optional_header == 0) h.optional_header a b fits front (omega arith) is.optional;
    })

pub header_again : HeaderReadsBack
unfolding HeaderReadsBack HeaderWritesBack
header_again file old new h fits e written =
    let back = header_back file h fits e in
    let n = header_end h in
    let zeros = filling_after h.optional_header in
    let xs = take n file ++ zeros in
    let over : overwritten old 0 xs ≡ Some new = sym (ap (option_and_then (overwritten old 0)) back.1) ∙ written in
    let made = mapped (slice_at old 0 (length xs)) (λ _. replaced old 0 xs) new over in
    let rest = drop (0 + length xs) old in
    let is : take n file ++ (zeros ++ rest) ≡ new = sym (append_assoc (take n file) zeros rest) ∙ made.made in
    subst (λ (bytes : List ℕ). (pe_header true).value bytes ≡ Some h) is (header-front file (take n file ++ (zeros ++ rest)) h fits e (front_then n file (zeros ++ rest) back.0))
