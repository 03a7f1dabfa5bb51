-- The start of a run: memory, the first hart, and the empty slots.
use Rattle.std.specs.Prelude.{ℕ, zero, suc, ◌+◌, ◌-◌, ◌/◌, max, Bool, true, false, ◌&&◌, nat_lt, nat_le, if◌then◌else◌, List, [], ◌∷◌, length, Option, Some, None, slice_index, slice_set, replicate, find}
use Rattle.std.specs.FinMap as map
use Rattle.guest_words.specs.declared.image.Cell.{Cell}
use Rattle.guest_words.specs.declared.image.Load.{Load}
use Rattle.guest_words.specs.declared.image.Image.{Image}
use Rattle.guest_words.specs.declared.point.Point.{Point}
use Rattle.guest_words.specs.declared.hart.Hart.{Hart}
use Rattle.guest_words.specs.declared.hart.HartState.TheVariants.{Ready, Empty}
use Rattle.guest_words.specs.declared.hart.Slot.{Slot}
use Rattle.guest_words.specs.declared.abi.TheConstants.{SP as STACK_REGISTER}
use Rattle.guest_words.specs.declared.limits.TheConstants.{PAGE, STACK_FROM, STACK_END, STACK_POINTER}
use Rattle.guest_words.specs.Image.{pages_of, contains}
use Rattle.guest_words.specs.Space.{Space, page_up}
use Rattle.guest_words.specs.State.{State}

-- an address lies in a page of a load
abbrev pub is_in_pages : ℕ → Load → Bool
is_in_pages address load = contains (pages_of load) (address / PAGE)

-- an address is that of a byte which a load brings from the file
abbrev pub is_in_bytes : ℕ → Load → Bool
is_in_bytes address load =
    nat_le load.address address && nat_lt address (load.address + length load.bytes)

-- the byte that the file puts at an address, or 0
abbrev pub filled : ℕ → Option Load → ℕ
filled address None = 0
filled address (Some load) = slice_index load.bytes (address - load.address)

abbrev pub loaded_cell : List Load → ℕ → Option Load → Option Cell
loaded_cell loads address None = None
loaded_cell loads address (Some load) =
    Some (record {
      byte = filled address (find (is_in_bytes address) loads);
      rights = load.rights;
    })

-- the stack: 1 MiB of zeros with read and write
abbrev pub is_in_stack : ℕ → Bool
is_in_stack address = nat_le STACK_FROM address && nat_lt address STACK_END

abbrev pub stack_cell : Cell
stack_cell = record { byte = 0; rights = record { read = true; write = true; exec = false } }

-- the byte at an address at the start, if a page has it
abbrev pub cell_at : List Load → ℕ → Option Cell
cell_at loads address =
    if is_in_stack address then Some stack_cell
    else loaded_cell loads address (find (is_in_pages address) loads)

abbrev pub with_entry : Space → ℕ → Option Cell → Space
with_entry m address None = m
with_entry m address (Some cell) = map.insert m address cell

-- the map of a function over the addresses below a bound
unfoldable pub gathered : (ℕ → Option Cell) → ℕ → Space
gathered cells zero = map.empty
gathered cells (suc n) = with_entry (gathered cells n) n (cells n)

-- memory at the start; no page lies past the stack
unfoldable pub memory_of : List Load → Space
memory_of loads = gathered (cell_at loads) STACK_END

abbrev pub empty_hart : Hart
empty_hart =
    record {
      pc = 0;
      regs = replicate 32 0;
      arrived = false;
      reservation = None;
      state = Empty;
      tid = 0;
      clear = 0;
    }

-- the first hart: tid 1, at the entry, with the stack pointer in x2
abbrev pub first_hart : ℕ → Hart
first_hart entry =
    record empty_hart {
      pc = entry;
      regs = slice_set (replicate 32 0) STACK_REGISTER STACK_POINTER;
      state = Ready;
      tid = 1;
    }

abbrev pub slot_of : Hart → Slot
slot_of hart = record { hart = hart; frames = [] }

-- the first hart is in slot 0, all others are empty
abbrev pub start_slots : ℕ → ℕ → List Slot
start_slots entry harts = slot_of (first_hart entry) ∷ replicate (harts - 1) (slot_of empty_hart)

-- the heap begins at the first page behind all loads
abbrev pub low_break : List Load → ℕ
low_break [] = 0
low_break (load ∷ loads) = max (page_up (load.address + load.size)) (low_break loads)

abbrev pub start_of : Image → List Point → ℕ → ℕ → ℕ → State
start_of image points harts ports budget =
    record {
      memory = memory_of image.loads;
      low = low_break image.loads;
      brk = low_break image.loads;
      slots = start_slots image.entry harts;
      waiting = [];
      next_tid = 2;
      records = [];
      steps = 0;
      ending = None;
      points = points;
      ports = ports;
      budget = budget;
    }
