-- Pages in buffers, as the map from addresses that they make.
use Rattle.std.specs.Prelude.{◌≡◌, ℕ, ◌+◌, ◌-◌, ◌*◌, ◌%◌, ◌^◌, ◌<◌, ◌≤◌, ◌&&◌, nat_le, nat_lt, Bool, List, [], ◌∷◌, ◌++◌, length, take, drop, replicate, Option, Some, None, slice_index, slice_index_or}
use Rattle.std.specs.List.{All, AllPairs}
use Rattle.std.specs.FinMap as map
use Rattle.guest_words.specs.declared.image.Rights.{Rights}
use Rattle.guest_words.specs.declared.image.Cell.{Cell}
use Rattle.guest_words.specs.declared.limits.TheConstants.{PAGE}
use Rattle.guest_words.specs.Space.{Space}
use Rattle.guest_words.specs.Cells.{run_of}
use Rattle.guest_pages.specs.declared.page_buffer.PageBuffer.{PageBuffer}

-- the first address past a buffer
abbrev pub end_of : PageBuffer → ℕ
end_of buffer = buffer.from + length buffer.bytes.items

-- an address lies in a buffer
abbrev pub holds : ℕ → PageBuffer → Bool
holds address buffer = nat_le buffer.from address && nat_lt address (end_of buffer)

-- the byte at an address of a buffer, with its rights
abbrev pub cell_in : ℕ → Option PageBuffer → Option Cell
cell_in address None = None
cell_in address (Some buffer) =
    Some (record {
      byte = slice_index buffer.bytes.items (address - buffer.from);
      rights = buffer.rights;
    })

-- the bytes of all buffers, each with its address and rights
abbrev pub listed : List PageBuffer → List (ℕ × Cell)
listed [] = []
listed (buffer ∷ buffers) = run_of buffer.from buffer.rights buffer.bytes.items ++ listed buffers

unfoldable pub cells_of : List PageBuffer → Space
cells_of buffers = map.from_entries (listed buffers)

-- a buffer has one page, which ends below 2^64
pub record IsPageBuffer (buffer : PageBuffer) : Type 0 where
  pub aligned : buffer.from % PAGE ≡ 0
  pub whole : length buffer.bytes.items ≡ PAGE
  pub below : end_of buffer < 2 ^ 64

-- buffers ascend by address, and no two have the same page
pub record AreSorted (buffers : List PageBuffer) : Type 0 where
  pub each : All IsPageBuffer buffers
  pub apart : AllPairs (λ a b. end_of a ≤ b.from) buffers

-- so many of the first buffers lie side by side, page after page
pub record AreAdjacent (buffers : List PageBuffer) (count : ℕ) : Type 0 where
  pub starts :
      (k : ℕ) (d : PageBuffer)
      → k < count
      → (slice_index_or buffers k d).from ≡ (slice_index_or buffers 0 d).from + k * PAGE

-- so many buffers begin before an address
pub record IsCountBefore (buffers : List PageBuffer) (address count : ℕ) : Type 0 where
  pub within : count ≤ length buffers
  pub before : (k : ℕ) (d : PageBuffer) → k < count → (slice_index_or buffers k d).from < address
  pub after :
      (k : ℕ) (d : PageBuffer)
      → count ≤ k
      → k < length buffers
      → address ≤ (slice_index_or buffers k d).from

-- the buffer at an index has an address
pub record IsHolder (buffers : List PageBuffer) (address index : ℕ) : Type 0 where
  pub within : index < length buffers
  pub from : (d : PageBuffer) → (slice_index_or buffers index d).from ≤ address
  pub upto : (d : PageBuffer) → address < end_of (slice_index_or buffers index d)

-- bytes with others at an index
abbrev pub placed : List ℕ → ℕ → List ℕ → List ℕ
placed bytes at new = take at bytes ++ new ++ drop (at + length new) bytes

-- a buffer with bytes at an address, all of them within it
pub record IsPut (old new : PageBuffer) (address : ℕ) (put : List ℕ) : Type 0 where
  pub from : new.from ≡ old.from
  pub rights : new.rights ≡ old.rights
  pub low : old.from ≤ address
  pub fits : address + length put ≤ end_of old
  pub bytes : new.bytes.items ≡ placed old.bytes.items (address - old.from) put

-- so many buffers of zeros, page after page from an address on, all with these rights
pub record AreZeros (from count : ℕ) (rights : Rights) (buffers : List PageBuffer) : Type 0 where
  pub long : length buffers ≡ count
  pub starts :
      (k : ℕ) (d : PageBuffer) → k < count → (slice_index_or buffers k d).from ≡ from + k * PAGE
  pub rights_of :
      (k : ℕ) (d : PageBuffer) → k < count → (slice_index_or buffers k d).rights ≡ rights
  pub zeros :
      (k : ℕ) (d : PageBuffer)
      → k < count
      → (slice_index_or buffers k d).bytes.items ≡ replicate PAGE 0

-- a buffer that has what another has
pub record IsAlike (old new : PageBuffer) : Type 0 where
  pub from : new.from ≡ old.from
  pub rights : new.rights ≡ old.rights
  pub bytes : new.bytes.items ≡ old.bytes.items

-- buffers alike, one by one
pub record AreAlike (old new : List PageBuffer) : Type 0 where
  pub long : length new ≡ length old
  pub each :
      (k : ℕ) (d : PageBuffer)
      → k < length old
      → IsAlike (slice_index_or old k d) (slice_index_or new k d)
