-- Calls: the request of a hart, and its reply. Call numbers and error numbers are those of Linux
-- for RISC-V; the number is in x17, arguments are in x10 to x15. The rules are this project's own.
use Rattle.std.specs.Prelude.{ℕ, ◌+◌, ◌*◌, ◌%◌, ℤ, pos, Bool, false, not, ◌&&◌, ◌||◌, ◌==◌, nat_lt, nat_le, if◌then◌else◌, min, Option, Some, None, bit_and, bit_or}
use Rattle.guest_words.specs.declared.image.Rights.{Rights}
use Rattle.guest_words.specs.declared.hart.Hart.{Hart}
use Rattle.guest_words.specs.declared.call.Request.{Request}
use Rattle.guest_words.specs.declared.call.Request.TheVariants.{Read, Write, Close, Exit, ExitGroup, Wait, Wake, Clone, Break, Map, Unmap, Yield, Tid, Unknown}
use Rattle.guest_words.specs.declared.call.Facts.{Facts}
use Rattle.guest_words.specs.declared.call.Reply.{Reply}
use Rattle.guest_words.specs.declared.call.Reply.TheVariants as reply
use Rattle.guest_words.specs.declared.limits.TheConstants.{PAGE, TRANSFER, HEAP_BYTES, MAP_FROM, MAP_END, MAP_PAGES}
use Rattle.guest_words.specs.declared.linux.TheConstants.{CLOSE, READ, WRITE, EXIT, EXIT_GROUP, FUTEX, SCHED_YIELD, GETTID, BRK, MUNMAP, CLONE, MMAP, EBADF, EAGAIN, ENOMEM, EFAULT, EINVAL, ENOSYS, FUTEX_WAIT, FUTEX_WAKE, FUTEX_PRIVATE, CLONE_VM, CLONE_THREAD, CLONE_SETTLS, CLONE_PARENT_SETTID, CLONE_CHILD_CLEARTID, CLONE_KNOWN, PROT_READ, PROT_WRITE, MAP_OWN, MAP_HINTS}
use Rattle.guest_words.specs.declared.abi.TheConstants.{A0, A1, A2, A3, A4, A7}
use Rattle.guest_words.specs.Word.{low_32}
use Rattle.guest_words.specs.Space.{pages_in}
use Rattle.guest_words.specs.Harts.{reg}

-- a futex call by its op, of which the private flag counts for nothing
abbrev pub futex_of : ℕ → ℕ → ℕ → ℕ → Request
futex_of place op value timeout =
    if bit_or op FUTEX_PRIVATE == FUTEX_WAIT + FUTEX_PRIVATE then Wait place value timeout
    else if bit_or op FUTEX_PRIVATE == FUTEX_WAKE + FUTEX_PRIVATE then Wake place value
    else Unknown

-- the request of a call number, with the arguments
abbrev pub request_numbered : ℕ → ℕ → ℕ → ℕ → ℕ → ℕ → Request
request_numbered number a b c d e =
    if number == CLOSE then Close a
    else if number == READ then Read a b c
    else if number == WRITE then Write a b c
    else if number == EXIT then Exit a
    else if number == EXIT_GROUP then ExitGroup a
    else if number == FUTEX then futex_of a b c d
    else if number == SCHED_YIELD then Yield
    else if number == GETTID then Tid
    else if number == BRK then Break a
    else if number == MUNMAP then Unmap a b
    else if number == CLONE then Clone a b c d e
    else if number == MMAP then Map b c d
    else Unknown

-- the request of a hart at an ECALL
unfoldable pub request_of : Hart → Request
request_of hart =
    request_numbered (reg hart A7)
    (reg hart A0) (reg hart A1) (reg hart A2) (reg hart A3) (reg hart A4)

-- one read or write is cut to so many bytes
abbrev pub cut : ℕ → ℕ
cut size = min size TRANSFER

-- flags of clone
abbrev pub has_flag : ℕ → ℕ → Bool
has_flag flags flag = not (bit_and flags flag == 0)

abbrev pub sets_tls : ℕ → Bool
sets_tls flags = has_flag flags CLONE_SETTLS

abbrev pub sets_parent_tid : ℕ → Bool
sets_parent_tid flags = has_flag flags CLONE_PARENT_SETTID

abbrev pub clears_child_tid : ℕ → Bool
clears_child_tid flags = has_flag flags CLONE_CHILD_CLEARTID

-- no flag is set but those that are known
abbrev pub are_known : ℕ → Bool
are_known flags = bit_or flags CLONE_KNOWN == CLONE_KNOWN

-- a new hart is to be made for these flags: all are known, VM and THREAD are set
abbrev pub makes_hart : ℕ → Bool
makes_hart flags = are_known flags && has_flag flags CLONE_VM && has_flag flags CLONE_THREAD

abbrev pub reply_of_close : Facts → Reply
reply_of_close facts = if facts.usable then reply.Port 0 else reply.Value EBADF

-- a read or a write, by whether its descriptor is usable and its range is reached
abbrev pub reply_of_transfer : ℕ → Bool → Bool → Reply
reply_of_transfer size usable reached =
    if not usable then reply.Value EBADF
    else (if size == 0 then reply.Value (pos 0)
    else (if not reached then reply.Value EFAULT
    else reply.Port (cut size)))

abbrev pub reply_of_exit : ℕ → Facts → Reply
reply_of_exit code facts = if facts.other_live then reply.Gone else reply.End (code % 256)

abbrev pub reply_of_wait : ℕ → ℕ → ℕ → Facts → Reply
reply_of_wait place value timeout facts =
    if not (place % 4 == 0) then reply.Value EINVAL
    else if not (timeout == 0) then reply.Value EINVAL
    else if not facts.readable then reply.Value EFAULT
    else if not (facts.word == low_32 value) then reply.Value EAGAIN
    else if facts.frames then reply.Blocked
    else reply.Queue

abbrev pub reply_of_wake : ℕ → ℕ → Reply
reply_of_wake place value =
    if not (place % 4 == 0) then reply.Value EINVAL else reply.Rouse (low_32 value)

abbrev pub child_in : Option ℕ → Reply
child_in None = reply.Value EAGAIN
child_in (Some slot) = reply.Child slot

abbrev pub reply_of_clone : ℕ → Facts → Reply
reply_of_clone flags facts =
    if makes_hart flags then child_in facts.free_slot else reply.Value EINVAL

-- a break outside the heap stays where it is
abbrev pub reply_of_break : ℕ → Facts → Reply
reply_of_break to facts =
    reply.Break
    (if nat_lt to facts.low || nat_lt (facts.low + HEAP_BYTES) to then facts.brk else to)

-- memory of the program's own is asked for, and no exec: of the other flags two count for nothing
abbrev pub is_map_known : ℕ → ℕ → Bool
is_map_known prot flags =
    nat_le prot (PROT_READ + PROT_WRITE) && (bit_or flags MAP_HINTS == MAP_OWN + MAP_HINTS)

-- write brings read
abbrev pub mapped_rights : ℕ → Rights
mapped_rights prot = record {
  read = not (prot == 0);
  write = has_flag prot PROT_WRITE;
  exec = false;
}

abbrev pub mapped_at : ℕ → ℕ → Option ℕ → Reply
mapped_at count prot None = reply.Value ENOMEM
mapped_at count prot (Some place) = reply.Map place count (mapped_rights prot)

abbrev pub reply_of_map : ℕ → ℕ → ℕ → Facts → Reply
reply_of_map length prot flags facts =
    if (length == 0) || not (is_map_known prot flags) then reply.Value EINVAL
    else if nat_lt MAP_PAGES (facts.mapped + pages_in length) then reply.Value ENOMEM
    else mapped_at (pages_in length) prot facts.place

-- so many pages from a place on lie in the area of mapped pages
abbrev pub is_in_area : ℕ → ℕ → Bool
is_in_area place count = nat_le MAP_FROM place && nat_le (place + PAGE * count) MAP_END

abbrev pub reply_of_unmap : ℕ → ℕ → Reply
reply_of_unmap place length =
    if not (place % PAGE == 0) || (length == 0) || not (is_in_area place (pages_in length))
    then reply.Value EINVAL
    else reply.Unmap place (pages_in length)

-- the reply to each call, its rules in order
unfoldable pub reply_of : Request → Facts → Reply
reply_of (Read fd place size) facts = reply_of_transfer size facts.usable facts.writable
reply_of (Write fd place size) facts = reply_of_transfer size facts.usable facts.readable
reply_of (Close fd) facts = reply_of_close facts
reply_of (Exit code) facts = reply_of_exit code facts
reply_of (ExitGroup code) facts = reply.End (code % 256)
reply_of (Wait place value timeout) facts = reply_of_wait place value timeout facts
reply_of (Wake place value) facts = reply_of_wake place value
reply_of (Clone flags stack parent tls child) facts = reply_of_clone flags facts
reply_of (Break to) facts = reply_of_break to facts
reply_of (Map length prot flags) facts = reply_of_map length prot flags facts
reply_of (Unmap place length) facts = reply_of_unmap place length
reply_of Yield facts = reply.Value (pos 0)
reply_of Tid facts = reply.Value (pos facts.tid)
reply_of Unknown facts = reply.Value ENOSYS
