-- The Rich header. It lies in the stretch of a file between the DOS header and the PE signature;
-- offsets count from the front of that stretch.
use Rattle.std.specs.Prelude.{if◌then◌else◌, slice_range, nat_lt, length, Option, Bool, ◌==◌, ◌&&◌}
use Rattle.std.specs.Prelude.{List, Some, None, ◌≡◌, ◌≢◌, ◌<◌, ◌≤◌, ◌+◌, ◌-◌, ◌*◌, ◌/◌, ◌%◌, not, ℕ}
use Rattle.std.specs.{List.find, List.range_with_len, Option.unwrap_or, Int.Bits.bit_xor}
use Rattle.goblin_base.specs.declared.endian.Endian.TheVariants.{Little}
use Rattle.goblin_base.specs.declared.error.ErrorOf.{ErrorOf}
use Rattle.goblin_base.specs.{declared.error.ReadFault.TheVariants.TooBig, Bytes.number}
use Rattle.goblin_base.specs.{Parts.least_place, Reading.Reading}
use Rattle.goblin_base.specs.declared.error.ErrorOf.TheVariants.{Malformed, Read}
use Rattle.goblin_base.specs.declared.error.CauseOf.TheVariants.{RichBounds, NoDans}
use Rattle.goblin_base.proofs.Picks.{by_cases-not_memory}
use Rattle.readings.specs.Reads.{◌>>=◌, because, checked, front_through, given, in_slice, or_none}
use Rattle.readings.specs.Reads.{pick}
use Rattle.goblin_pe_head.specs.declared.header.rich.RichHeader.{RichHeader}

-- Source: no document of Microsoft's; the layout is what linkers write.

-- a Rich header, with its data as a list
pub record Rich : Type 0 where
  pub key : ℕ
  pub bytes : List ℕ
  pub padding_size : ℕ
  pub start_offset : ℕ
  pub end_offset : ℕ

-- the value of a Rich header that borrows its data
abbrev pub rich_value : RichHeader → Rich
rich_value r =
    record {
      key = r.key;
      bytes = r.bytes.now;
      padding_size = r.padding_size;
      start_offset = r.start_offset;
      end_offset = r.end_offset;
    }

-- the padding is no longer than the data, as the entries after it require
abbrev pub PaddingFits : RichHeader → Type 0
PaddingFits r = r.padding_size ≤ length r.bytes.now

-- the least number below n that passes a test
abbrev pub least_below : ℕ → (ℕ → Bool) → Option ℕ
least_below n test = find test (range_with_len 0 n)

-- the word at p
abbrev pub word_at : List ℕ → ℕ → ℕ
word_at bytes p = number Little 4 bytes p

-- the word is the marker `Rich`
abbrev pub is_rich : ℕ → Bool
is_rich word = word == 0x68636952

-- the word is the marker `DanS` under the key: its exclusive or with the key is the marker
abbrev pub is_dans : ℕ → ℕ → Bool
is_dans key word = bit_xor word key == 0x536E6144

-- the least offset of the marker `Rich` with a key of four bytes after it
abbrev pub marker_place : List ℕ → Option ℕ
marker_place stretch = least_place Little 4 4 is_rich stretch

-- the least offset of a word that is `DanS` under the key, wherever the other marker is
abbrev pub dans_place : ℕ → List ℕ → Option ℕ
dans_place key stretch = least_place Little 4 0 (is_dans key) stretch

-- the index of the first word that is not the key
unfoldable pub other_place : ℕ → List ℕ → Option ℕ
other_place key bytes = least_below (length bytes / 4) (λ k. not (word_at bytes (4 * k) == key))

-- how many words at the front are the key; all, if there is no other word
unfoldable pub leading_words : ℕ → List ℕ → ℕ
leading_words key bytes = unwrap_or (other_place key bytes) (length bytes / 4)

-- the Rich header with its markers at j and i, if the data between them is at least one word, and
-- whole words
abbrev pub rich_between : List ℕ → ℕ → ℕ → ℕ → Option (Option Rich)
rich_between stretch key j i =
    if nat_lt (j + 4) i && ((i - j - 4) % 4 == 0) then Some (Some (record {
      key = key;
      bytes = slice_range stretch (j + 4) i;
      padding_size = 4 * leading_words key (slice_range stretch (j + 4) i);
      start_offset = 64 + j;
      end_offset = 64 + i;
    })) else None

-- which cause is true of markers at j and i with no Rich header between them: its data would be
-- empty, or not a whole number of words
abbrev pub IsBetweenFault : ℕ → ℕ → ErrorOf → Type 0
IsBetweenFault j i (Malformed (RichBounds start end)) = (start ≡ j + 4) × (end ≡ i) × (i ≤ j + 4)
IsBetweenFault j i (Read TooBig) = (j + 4 < i) × ((i - j - 4) % 4 ≢ 0)
IsBetweenFault j i e = ⊥

-- ---- its place and its contents

-- the least place of the marker `Rich` with a key of four bytes after it, and the bytes through the
-- key
abbrev pub marker : Reading (ℕ × List ℕ)
marker = front_through Little 4 4 is_rich

-- the least place of a word that is `DanS` under the key, wherever the other marker is, and the
-- bytes through that word
abbrev pub dans : ℕ → Reading (ℕ × List ℕ)
dans key = because NoDans (front_through Little 4 0 (is_dans key))

-- the Rich header whose marker `Rich` is at `end`, from the bytes through the key
abbrev pub rich_with : List ℕ → ℕ → ℕ → Reading (Option Rich)
rich_with front key end =
    checked (λ start. rich_between front key start.0 end) (λ start. IsBetweenFault start.0 end)
    (λ start. by_cases-not_memory (IsBetweenFault start.0 end) (λ m h. h)) (dans key)

-- the Rich header whose marker `Rich` is here, or none without the marker
abbrev pub rich_before : Option (ℕ × List ℕ) → Reading (Option Rich)
rich_before None = given None
rich_before (Some end) = rich_with end.1 (word_at end.1 (end.0 + 4)) end.0

-- the Rich header of a stretch, if there is one
unfoldable pub rich_in : Reading (Option Rich)
rich_in = or_none marker >>= rich_before

-- the Rich header before a PE signature at p, if there is one: it lies in the stretch from 64 to p,
-- which must have at least four bytes
unfoldable pub rich_at : ℕ → Reading (Option Rich)
rich_at p = pick (nat_lt p 68) (given None) (in_slice 64 p rich_in)
