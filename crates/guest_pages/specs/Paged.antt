-- What contracts see of pages, and a page that comes and goes.
use Rattle.std.specs.Prelude.{ℕ, ◌+◌, false, List, [], ◌∷◌, Option, Some, None}
use Rattle.std.specs.FinMap as map
use Rattle.guest_words.specs.declared.image.Rights.{Rights}
use Rattle.guest_words.specs.declared.image.Cell.{Cell}
use Rattle.guest_words.specs.declared.image.Page.{Page}
use Rattle.guest_words.specs.declared.limits.TheConstants.{PAGE}
use Rattle.guest_words.specs.Space.{Space, bytes_at}

-- the bytes of all pages, and how many pages can come back without memory
pub record Paged : Type 0 where
  pub space : Space
  pub spare : ℕ

-- the rights of a byte; one in no page has none
abbrev pub rights_of : Option Cell → Rights
rights_of None = record { read = false; write = false; exec = false }
rights_of (Some cell) = cell.rights

-- the page that begins at an address
abbrev pub page_at : Space → ℕ → Page
page_at m from =
    record { from = from; rights = rights_of (map.get m from); bytes = bytes_at m from PAGE }

-- memory with these bytes from an address on, all with the same rights
unfoldable pub with_run : Space → ℕ → Rights → List ℕ → Space
with_run m from rights [] = m
with_run m from rights (byte ∷ bytes) =
    map.insert (with_run m (from + 1) rights bytes) from (record { byte = byte; rights = rights })

-- memory with a page
abbrev pub with_page : Space → Page → Space
with_page m page = with_run m page.from page.rights page.bytes
