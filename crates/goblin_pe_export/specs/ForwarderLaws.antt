-- The reader of a forwarder reads no more bytes than there are.
use Rattle.std.proofs.Common.{ℕ, ◌+◌, ◌≤◌, List, length, Option, Some, None}
use Rattle.std.specs.Prelude.{IfSome, min}
use Rattle.std.proofs.Math.Nat.{min-le_right}
use Rattle.goblin_base.specs.{declared.endian.Endian.Endian, Answers.◌>>=◌, Bytes.text_at}
use Rattle.goblin_pe_export.specs.Forwarders.{Forwarder, forwarder_in, forwarder_of}

min_within : (n len : ℕ) (forwarder : Option Forwarder)
    → IfSome {T = Forwarder × ℕ} (forwarder >>= (λ f. Some (f, min n len))) (λ x. x.1 ≤ len)
min_within n len None = tt
min_within n len (Some f) = min-le_right n len

length_within : (len : ℕ) (text : Option (List ℕ))
    → IfSome {T = Forwarder × ℕ}
    (text >>= (λ t. forwarder_of t >>= (λ f. Some (f, min (length t + 1) len)))) (λ x. x.1 ≤ len)
length_within len None = tt
length_within len (Some t) = min_within (length t + 1) len (forwarder_of t)

pub forwarder_in-within : (endian : Endian) (bytes : List ℕ)
    → IfSome (forwarder_in endian bytes) (λ x. x.1 ≤ length bytes)
forwarder_in-within endian bytes = length_within (length bytes) (text_at bytes 0)
