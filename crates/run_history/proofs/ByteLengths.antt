-- How many bytes are read from memory, and how many a number is stored as.
use Rattle.std.proofs.Common.{◌≡◌, ℕ, zero, suc, ◌+◌, length, refl, ap}
use Rattle.guest_words.specs.Space.{Space, bytes_at, low_bytes}

pub length-bytes_at : (m : Space) (from size : ℕ) → length (bytes_at m from size) ≡ size
unfolding bytes_at
length-bytes_at m from zero = refl
length-bytes_at m from (suc size) = ap suc (length-bytes_at m (from + 1) size)

pub length-low_bytes : (width value : ℕ) → length (low_bytes width value) ≡ width
unfolding low_bytes
length-low_bytes zero value = refl
length-low_bytes (suc width) value = ap suc (length-low_bytes width _)
