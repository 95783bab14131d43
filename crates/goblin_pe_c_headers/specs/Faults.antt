-- Refusals as numbers.
use Rattle.std.specs.Prelude.{◌≡◌, ◌⊎◌, ℕ, ◌-◌, ◌%◌, ◌^◌, ◌==◌, nat_lt, List, [], ◌∷◌, codes, drop}
use Rattle.std.specs.Prelude.{length, if◌then◌else◌, Option, Some, None, Result, Ok, Err, slice_get}
use Rattle.std.specs.Prelude.{option_map, ⊤, bytes_eq}
use Rattle.std.specs.Option.{option_or}
use Rattle.goblin_base.specs.ErrorText.{cause_text, fault_text, magic_text, memory_text, short_text}
use Rattle.goblin_base.specs.{declared.error.CauseOf.CauseOf, declared.error.ReadFault.ReadFault}
use Rattle.goblin_base.specs.declared.error.ErrorOf.{ErrorOf}
use Rattle.goblin_base.specs.declared.error.ErrorOf.TheVariants.{Malformed, BadMagic}
use Rattle.goblin_base.specs.declared.error.ErrorOf.TheVariants.{BufferTooShort, Read, Memory}
use Rattle.goblin_base.specs.declared.error.ReadFault.TheVariants.{BadOffset, TooBig, BadInput}
use Rattle.goblin_base.specs.declared.error.CauseOf.TheVariants as cause
use Rattle.goblin_pe_c_headers.specs.declared.fault.PeFault.{PeFault}
use Rattle.goblin_pe_c_headers.specs.Options.{PeOptions, are_known}

abbrev pub fault : ℕ → ℕ → ℕ → ℕ → PeFault
fault status cause first second = record {
  status = status;
  cause = cause;
  first = first;
  second = second;
}

-- the number of what a file is too short for
abbrev pub word_number : List ℕ → ℕ
word_number what =
    if bytes_eq what (codes "sections") then 1
    else if bytes_eq what (codes "name pointers") then 2
    else if bytes_eq what (codes "address table entries") then 3
    else 0

abbrev pub no_fault : PeFault
no_fault = fault 0 0 0 0

abbrev pub fault_of : ErrorOf → PeFault
fault_of (Malformed (cause.Message text)) = fault 1 1 0 0
fault_of (Malformed cause.NoDosSignature) = fault 1 2 0 0
fault_of (Malformed (cause.DosMagic magic)) = fault 1 3 magic 0
fault_of (Malformed cause.NoPePointer) = fault 1 4 0 0
fault_of (Malformed (cause.NoPeSignature offset)) = fault 1 5 offset 0
fault_of (Malformed (cause.PeMagic magic)) = fault 1 6 magic 0
fault_of (Malformed (cause.StubBeforeStart offset)) = fault 1 7 offset 0
fault_of (Malformed (cause.StubPastEnd length end)) = fault 1 8 length end
fault_of (Malformed cause.NoDans) = fault 1 9 0 0
fault_of (Malformed (cause.RichBounds begin end)) = fault 1 10 begin end
fault_of (Malformed (cause.StrippedSize size)) = fault 1 11 size 0
fault_of (Malformed cause.CoffLength) = fault 1 12 0 0
fault_of (Malformed (cause.DirectoryIndex index)) = fault 1 13 index 0
fault_of (Malformed (cause.DirectoryCount count)) = fault 1 14 count 0
fault_of (Malformed cause.NameText) = fault 1 15 0 0
fault_of (Malformed cause.NameBase64) = fault 1 16 0 0
fault_of (Malformed cause.NameDecimal) = fault 1 17 0 0
fault_of (Malformed (cause.NameOffset offset)) = fault 1 18 offset 0
fault_of (Malformed (cause.SymbolName offset)) = fault 1 19 offset 0
fault_of (Malformed (cause.StringTable offset length)) = fault 1 20 offset length
fault_of (Malformed cause.FieldTooWide) = fault 1 21 0 0
fault_of (Malformed (cause.Unmapped rva)) = fault 1 22 rva 0
fault_of (Malformed (cause.NameRead offset)) = fault 1 23 offset 0
fault_of (Malformed (cause.HintEntry offset)) = fault 1 24 offset 0
fault_of (Malformed (cause.LookupEnd offset)) = fault 1 25 offset 0
fault_of (Malformed (cause.ImportRecordEnd offset)) = fault 1 26 offset 0
fault_of (Malformed (cause.ExportTable offset)) = fault 1 27 offset 0
fault_of (Malformed cause.Forwarder) = fault 1 28 0 0
fault_of (Malformed cause.ForwarderOrdinal) = fault 1 29 0 0
fault_of (Malformed (cause.RelocRange offset size)) = fault 1 30 offset size
fault_of (Malformed (cause.BlockSize size)) = fault 1 31 size 0
fault_of (Malformed (cause.BlockRange begin size)) = fault 1 32 begin size
fault_of (Malformed cause.Overflow) = fault 1 33 0 0
fault_of (Malformed (cause.SlotCount entries slots)) = fault 1 34 entries slots
fault_of (BadMagic magic) = fault 2 0 magic 0
fault_of (BufferTooShort count what) = fault 3 (word_number what.now) count 0
fault_of (Read BadOffset) = fault 4 1 0 0
fault_of (Read TooBig) = fault 4 2 0 0
fault_of (Read BadInput) = fault 4 3 0 0
fault_of (Memory e) = fault 5 0 0 0

-- the numbers of what a call returns
abbrev pub status_of : {A : Type 0} → Result A ErrorOf → PeFault
status_of (Ok x) = no_fault
status_of (Err e) = fault_of e

-- why a call with these options is refused before it begins; no fault if they are known
abbrev pub options_fault : PeOptions → PeFault
options_fault o = if are_known o then no_fault else fault 6 0 o.mapping 0

-- why a call for images alone is refused, by the kind of its record
abbrev pub kind_fault : ℕ → PeFault
kind_fault kind = if kind == 1 then no_fault else fault 8 0 kind 0

-- both, for a call that looks at both
abbrev pub image_fault : ℕ → PeOptions → PeFault
image_fault kind o = if kind == 1 then options_fault o else kind_fault kind

-- The causes from number 2 on, in the order of their numbers, with these numbers of their own.
-- Number 1 is a message of the caller's, which has no numbers.
abbrev pub causes : ℕ → ℕ → List CauseOf
causes first second =
    cause.NoDosSignature ∷ cause.DosMagic (first % 2 ^ 16) ∷ cause.NoPePointer
    ∷ cause.NoPeSignature first ∷ cause.PeMagic (first % 2 ^ 32)
    ∷ cause.StubBeforeStart (first % 2 ^ 32) ∷ cause.StubPastEnd first second ∷ cause.NoDans
    ∷ cause.RichBounds first second ∷ cause.StrippedSize (first % 2 ^ 32) ∷ cause.CoffLength
    ∷ cause.DirectoryIndex first ∷ cause.DirectoryCount first ∷ cause.NameText ∷ cause.NameBase64
    ∷ cause.NameDecimal ∷ cause.NameOffset first ∷ cause.SymbolName (first % 2 ^ 32)
    ∷ cause.StringTable first second ∷ cause.FieldTooWide ∷ cause.Unmapped first
    ∷ cause.NameRead first ∷ cause.HintEntry first ∷ cause.LookupEnd first
    ∷ cause.ImportRecordEnd first ∷ cause.ExportTable first ∷ cause.Forwarder
    ∷ cause.ForwarderOrdinal ∷ cause.RelocRange first (second % 2 ^ 32)
    ∷ cause.BlockSize (first % 2 ^ 32) ∷ cause.BlockRange first second ∷ cause.Overflow
    ∷ cause.SlotCount first second ∷ []

abbrev pub cause_of : PeFault → Option CauseOf
cause_of fault =
    if nat_lt fault.cause 2
    then None
    else slice_get (causes fault.first fault.second) (fault.cause - 2)

abbrev pub word_of : ℕ → Option (List ℕ)
word_of number =
    if number == 0 then Some (codes "entries")
    else if number == 1 then Some (codes "sections")
    else if number == 2 then Some (codes "name pointers")
    else if number == 3 then Some (codes "address table entries")
    else None

abbrev pub read_fault_of : ℕ → Option ReadFault
read_fault_of number =
    if number == 1 then Some BadOffset
    else if number == 2 then Some TooBig
    else if number == 3 then Some BadInput
    else None

-- the text of a fault of a call, which is not of the file
abbrev pub call_text : ℕ → Option (List ℕ)
call_text status =
    if status == 6
    then Some (codes "the options have an unknown mapping, or reserved bytes that are not zero")
    else if status == 7 then Some (codes "no steps are left")
    else if status == 8
    then Some (codes "the record is not of an image, but of an object or a TE file")
    else None

abbrev pub file_text : PeFault → Option (List ℕ)
file_text fault =
    if fault.status == 1 then option_map cause_text (cause_of fault)
    else if fault.status == 2 then Some (magic_text fault.first)
    else if fault.status == 3 then option_map (short_text fault.first) (word_of fault.cause)
    else if fault.status == 4 then option_map fault_text (read_fault_of fault.cause)
    else if fault.status == 5 then Some memory_text
    else None

abbrev pub refusal_text : PeFault → Option (List ℕ)
refusal_text f = option_or (call_text f.status) (file_text f)

-- a refusal that its numbers describe fully: it has no message of the caller's, and no text without
-- a number
abbrev pub IsNumbered : ErrorOf → Type 0
IsNumbered (Malformed (cause.Message text)) = ⊥
IsNumbered (BufferTooShort count what) = word_of (word_number what.now) ≡ Some what.now
IsNumbered e = ⊤

-- the whole text, or one that was cut and ends in three dots; no text where there is none
abbrev pub IsKept : Option (List ℕ) → List ℕ → Type 0
IsKept None text = text ≡ []
IsKept (Some whole) text = (text ≡ whole) ⊎ (drop (length text - 3) text ≡ codes "...")

-- the text of the refusal with these numbers, no text where they are of no refusal
abbrev pub IsTextOf : PeFault → List ℕ → Type 0
IsTextOf fault text = IsKept (refusal_text fault) text
