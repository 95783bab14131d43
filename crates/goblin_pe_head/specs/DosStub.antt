-- The DOS stub, between the DOS header and the PE signature.
use Rattle.std.specs.Prelude.{◌≡◌, ◌<◌, ◌≤◌, ℕ, List, [], ◌∷◌, ◌++◌, length, codes, replicate}
use Rattle.goblin_base.specs.declared.error.ErrorOf.{ErrorOf}
use Rattle.goblin_base.specs.declared.error.ErrorOf.TheVariants.{Malformed}
use Rattle.goblin_base.specs.declared.error.CauseOf.TheVariants.{StubBeforeStart, StubPastEnd}
use Rattle.goblin_pe_head.specs.declared.header.stub.DosStub.{DosStub}

-- Source: PE Format, "MS-DOS Stub (Image Only)".

-- the program that most linkers put there: fourteen bytes of code, the message that it prints,
-- which ends at the dollar sign, and seven zeros
unfoldable pub default_stub : List ℕ
default_stub =
    (14 ∷ 31 ∷ 186 ∷ 14 ∷ 0 ∷ 180 ∷ 9 ∷ 205 ∷ 33 ∷ 184 ∷ 1 ∷ 76 ∷ 205 ∷ 33 ∷ [])
    ++ codes "This program cannot be run in DOS mode."
    ++ (13 ∷ 13 ∷ 10 ∷ 36 ∷ [])
    ++ replicate 7 0

-- the bytes of a stub
abbrev pub stub_bytes : DosStub → List ℕ
stub_bytes stub = stub.bytes.now

-- which cause is true of a file that has no stub: the signature lies within the DOS header, or
-- after it and past the end
abbrev pub IsStubFault : List ℕ → ℕ → ErrorOf → Type 0
IsStubFault bytes p (Malformed (StubBeforeStart pointer)) = (pointer ≡ p) × (p < 64)
IsStubFault bytes p (Malformed (StubPastEnd len end)) =
    (len ≡ length bytes) × (end ≡ p) × (64 ≤ p) × (length bytes < p)
IsStubFault bytes p e = ⊥
