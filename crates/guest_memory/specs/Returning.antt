-- Notes put back into memory.
use Rattle.std.specs.Prelude.{ℕ, ◌+◌, ◌-◌, ◌*◌, ◌%◌, ◌^◌, Bool, true, not, ◌&&◌, ◌==◌, nat_le, nat_lt, if◌then◌else◌, length}
use Rattle.std.specs.FinMap as map
use Rattle.guest_words.specs.declared.image.Rights.{Rights}
use Rattle.guest_words.specs.declared.image.Page.{Page}
use Rattle.guest_words.specs.declared.limits.TheConstants.{PAGE, HEAP_BYTES}
use Rattle.guest_words.specs.Space.{Space, with_number, without}
use Rattle.guest_words.specs.Widths.{bytes_in}
use Rattle.guest_pages.specs.Paged.{with_page}
use Rattle.undo_log.specs.declared.note.Note.{Note}
use Rattle.undo_log.specs.declared.note.Note.TheVariants.{Bytes, Made, Gone, Break}
use Rattle.guest_memory.specs.Kept.{AddressSpace}

-- rights that a page of memory can have
abbrev pub are_guarded : Rights → Bool
are_guarded rights = if rights.write then rights.read && not rights.exec else true

-- a page can come back where none is, if it is a whole page with such rights
abbrev pub can_return : Space → Page → Bool
can_return m page =
    (page.from % PAGE == 0)
    && nat_lt (page.from + PAGE) (2 ^ 64)
    && (length page.bytes == PAGE)
    && are_guarded page.rights
    && not (map.contains_key m page.from)

-- memory without those of so many pages that are there
abbrev pub dropped : Space → ℕ → ℕ → Space
dropped m from count = if from % PAGE == 0 then without m from (PAGE * count) else m

abbrev pub is_in_heap : AddressSpace → ℕ → Bool
is_in_heap memory to = nat_le memory.low to && nat_le to (memory.low + HEAP_BYTES)

-- memory with a note put back into it; what can't come back is passed over
abbrev pub put_back : AddressSpace → Note → AddressSpace
put_back memory (Bytes address width old) =
    record memory { space = with_number memory.space address (bytes_in width) old }
put_back memory (Made from count) = record memory { space = dropped memory.space from count }
put_back memory (Gone page) =
    if can_return memory.space page
    then record memory { space = with_page memory.space page; spare = memory.spare - 1 } else memory
put_back memory (Break old) =
    if is_in_heap memory old then record memory { brk = old } else memory
