-- What contracts see of the executable state.
use Rattle.std.specs.Prelude.{◌≡◌, ℕ, ◌+◌, ◌-◌, ◌<◌, List, length}
use Rattle.std.specs.List.{All}
use Rattle.guest_words.specs.declared.hart.Hart.{Hart}
use Rattle.guest_words.specs.declared.hart.HartState.TheVariants.{Waiting}
use Rattle.guest_words.specs.declared.hart.Waiter.{Waiter}
use Rattle.guest_words.specs.declared.limits.TheConstants.{HEAP_BYTES}
use Rattle.guest_words.specs.Space.{page_up}
use Rattle.guest_words.specs.State.{State}
use Rattle.guest_memory.specs.Kept.{AddressSpace}
use Rattle.guest_pages.specs.Stretch.{IsFree}
use Rattle.std.specs.Prelude.{slice_index_or}

-- a state, and how many pages can come back to it without memory
pub record Live : Type 0 where
  pub state : State
  pub spare : ℕ

-- its memory
abbrev pub space_of : Live → AddressSpace
space_of live =
    record {
      space = live.state.memory;
      low = live.state.low;
      brk = live.state.brk;
      spare = live.spare;
    }

-- a state with another memory
abbrev pub with_space : State → AddressSpace → State
with_space s memory = record s { memory = memory.space; brk = memory.brk }

-- no page of the heap is there behind its break
abbrev pub IsHeapClear : AddressSpace → Type 0
IsHeapClear memory =
    IsFree memory.space (page_up memory.brk) (memory.low + HEAP_BYTES - page_up memory.brk)

-- the hart of a waiter waits where the waiting list says
abbrev pub WaitsAt : Waiter → List Hart → Type 0
WaitsAt waiter harts =
    (d : Hart)
    → (waiter.slot < length harts)
    × ((slice_index_or harts waiter.slot d).state ≡ Waiting waiter.place)

abbrev pub Waits : List Waiter → List Hart → Type 0
Waits waiting harts = All (λ waiter. WaitsAt waiter harts) waiting
