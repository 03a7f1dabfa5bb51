-- Memory at the start, built in two steps: pages of zeros, then the bytes of the loads.
use Rattle.std.specs.Prelude.{◌≡◌, ℕ, ◌+◌, ◌/◌, ◌&&◌, ◌==◌, nat_le, nat_lt, if◌then◌else◌, List, [], ◌∷◌, Option, Some, None, find}
use Rattle.std.specs.Option.{option_or}
use Rattle.std.specs.FinMap.{get}
use Rattle.guest_words.specs.declared.image.Rights.{Rights}
use Rattle.guest_words.specs.declared.image.Cell.{Cell}
use Rattle.guest_words.specs.declared.image.Load.{Load}
use Rattle.guest_words.specs.declared.limits.TheConstants.{PAGE}
use Rattle.guest_words.specs.Space.{Space, zero_cell, with_bytes}
use Rattle.guest_words.specs.Start.{is_in_pages}

-- the second memory has what the first has, and these cells at all other addresses
abbrev pub Brings : (ℕ → Option Cell) → Space → Space → Type 0
Brings cells old new = (address : ℕ) → get new address ≡ option_or (get old address) (cells address)

-- what a page of zeros has at an address
abbrev pub zero_in : ℕ → Rights → ℕ → Option Cell
zero_in page rights address = if page == address / PAGE then Some (zero_cell rights) else None

-- what so many pages of zeros have at an address
abbrev pub zeros_in : ℕ → ℕ → Rights → ℕ → Option Cell
zeros_in page count rights address =
    if nat_le page (address / PAGE) && nat_lt (address / PAGE) (page + count)
    then Some (zero_cell rights) else None

abbrev pub blank_of : ℕ → Option Load → Option Cell
blank_of address None = None
blank_of address (Some load) = Some (zero_cell load.rights)

-- what the pages of loads have at an address before their bytes are stored
abbrev pub blank_in : List Load → ℕ → Option Cell
blank_in loads address = blank_of address (find (is_in_pages address) loads)

-- memory with the bytes of the loads stored, those of the first load last
unfoldable pub with_loads : List Load → Space → Space
with_loads [] m = m
with_loads (load ∷ loads) m = with_bytes (with_loads loads m) load.address load.bytes
