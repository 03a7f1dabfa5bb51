-- Memory: a finite map from addresses to bytes with rights. An address that it lacks is in no page.
use Rattle.std.specs.Prelude.{ℕ, zero, suc, ◌+◌, ◌-◌, ◌*◌, ◌/◌, ◌%◌, ◌^◌, Bool, true, false, not, ◌&&◌, nat_le, nat_lt, List, [], ◌∷◌, map, Option, Some, None}
use Rattle.std.specs.List.{list_all, range_with_len}
use Rattle.std.specs.Ordering.{nat_cmp}
use Rattle.std.specs.FinMap as finite
use Rattle.guest_words.specs.declared.image.Rights.{Rights}
use Rattle.guest_words.specs.declared.image.Cell.{Cell}
use Rattle.guest_words.specs.declared.limits.TheConstants.{PAGE}

abbrev pub Space : Type 0
Space = finite.FinMap nat_cmp Cell

-- a byte has a right; one in no page has none
abbrev pub has_right : (Rights → Bool) → Option Cell → Bool
has_right right None = false
has_right right (Some cell) = right cell.rights

-- each of so many bytes from an address on has a right
unfoldable pub each_has : (Rights → Bool) → Space → ℕ → ℕ → Bool
each_has right m from size =
    list_all (λ address. has_right right (finite.get m address)) (range_with_len from size)

-- a range has a right where each byte has it; a range that passes 2^64 lacks it
abbrev pub range_has : (Rights → Bool) → Space → ℕ → ℕ → Bool
range_has right m from size = nat_le (from + size) (2 ^ 64) && each_has right m from size

abbrev pub can_read : Space → ℕ → ℕ → Bool
can_read m from size = range_has (λ rights. rights.read) m from size

abbrev pub can_write : Space → ℕ → ℕ → Bool
can_write m from size = range_has (λ rights. rights.write) m from size

abbrev pub can_execute : Space → ℕ → ℕ → Bool
can_execute m from size = range_has (λ rights. rights.exec) m from size

-- the byte of a cell; one in no page reads as 0
abbrev pub byte_of : Option Cell → ℕ
byte_of None = 0
byte_of (Some cell) = cell.byte

-- so many bytes from an address on
unfoldable pub bytes_at : Space → ℕ → ℕ → List ℕ
bytes_at m from size = map (λ address. byte_of (finite.get m address)) (range_with_len from size)

-- the number that bytes spell, the least significant first
abbrev pub number_of : List ℕ → ℕ
number_of [] = 0
number_of (byte ∷ bytes) = byte + 256 * number_of bytes

-- the number at an address
abbrev pub number_at : Space → ℕ → ℕ → ℕ
number_at m from width = number_of (bytes_at m from width)

-- the low bytes of a number, the least significant first
unfoldable pub low_bytes : ℕ → ℕ → List ℕ
low_bytes zero value = []
low_bytes (suc width) value = (value % 256) ∷ low_bytes width (value / 256)

-- the map with another byte in a cell, if there is one
abbrev pub with_cell : Space → ℕ → ℕ → Option Cell → Space
with_cell m address byte None = m
with_cell m address byte (Some cell) =
    finite.insert m address (record { byte = byte; rights = cell.rights })

-- memory with another byte at an address; a byte in no page stays out
unfoldable pub with_byte : Space → ℕ → ℕ → Space
with_byte m address byte = with_cell m address byte (finite.get m address)

-- memory with these bytes from an address on
unfoldable pub with_bytes : Space → ℕ → List ℕ → Space
with_bytes m from [] = m
with_bytes m from (byte ∷ bytes) = with_bytes (with_byte m from byte) (from + 1) bytes

-- memory with the low bytes of a number at an address
abbrev pub with_number : Space → ℕ → ℕ → ℕ → Space
with_number m from width value = with_bytes m from (low_bytes width value)

-- how many pages so many bytes take
abbrev pub pages_in : ℕ → ℕ
pages_in size = (size + (PAGE - 1)) / PAGE

-- the least multiple of a page's size that is no less
abbrev pub page_up : ℕ → ℕ
page_up n = pages_in n * PAGE

abbrev pub zero_cell : Rights → Cell
zero_cell rights = record { byte = 0; rights = rights }

-- memory with so many zeros from an address on, with these rights
unfoldable pub with_zeros : Space → ℕ → ℕ → Rights → Space
with_zeros m from zero rights = m
with_zeros m from (suc size) rights =
    finite.insert (with_zeros m (from + 1) size rights) from (zero_cell rights)

-- memory without so many bytes from an address on
unfoldable pub without : Space → ℕ → ℕ → Space
without m from size =
    finite.retain_keys m (λ address. not (nat_le from address && nat_lt address (from + size)))
