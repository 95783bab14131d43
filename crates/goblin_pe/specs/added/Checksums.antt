-- The checksum of an image, as its optional header gives it. PE Format names the field, and leaves
-- the algorithm to the Windows library IMAGEHLP. That library adds the field, too, and subtracts it
-- again. The result differs if the other words add up to 0xFFFF and the field is not 0.
use Rattle.std.specs.Prelude.{ℕ, zero, suc, ◌+◌, ◌*◌, ◌/◌, ◌%◌, ◌^◌, ◌&&◌, nat_le, nat_lt}
use Rattle.std.specs.Prelude.{if◌then◌else◌, List, length, slice_index_or}

-- the byte at an offset, which counts as 0 in the four bytes of the field, and past the end
abbrev pub summed_byte : List ℕ → ℕ → ℕ → ℕ
summed_byte bytes field i =
    if nat_le field i && nat_lt i (field + 4) then 0 else slice_index_or bytes i 0

-- the little-endian word of two bytes at an index, which counts words
abbrev pub summed_word : List ℕ → ℕ → ℕ → ℕ
summed_word bytes field i =
    summed_byte bytes field (2 * i) + 256 * summed_byte bytes field (2 * i + 1)

-- the low 16 bits of a sum, with its carry added
abbrev pub with_carry : ℕ → ℕ
with_carry sum = sum % 65536 + sum / 65536

-- the sum of the first n words in 16 bits, with each carry added
unfoldable pub sum_of_words : List ℕ → ℕ → ℕ → ℕ
sum_of_words bytes field zero = 0
sum_of_words bytes field (suc n) =
    with_carry (sum_of_words bytes field n + summed_word bytes field n)

-- the checksum of a file whose field lies at an offset: the sum of all words plus the length, in 32
-- bits; the last word may be cut
abbrev pub image_checksum : List ℕ → ℕ → ℕ
image_checksum bytes field =
    (sum_of_words bytes field ((length bytes + 1) / 2) + length bytes) % 2 ^ 32
