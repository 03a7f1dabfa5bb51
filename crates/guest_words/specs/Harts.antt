-- Harts: registers, reservations, and the frames of rescue points.
-- Registers: ISA manual, RV64I, 'Programmers' Model'; reservations: 'A' extension.
use Rattle.std.specs.Prelude.{ℕ, ◌+◌, Bool, true, false, ◌&&◌, ◌||◌, ◌==◌, nat_lt, if◌then◌else◌, List, [], ◌∷◌, ◌++◌, Option, Some, None, slice_index, slice_set}
use Rattle.guest_words.specs.declared.point.Ret.{Ret}
use Rattle.guest_words.specs.declared.point.Ret.TheVariants.{Code, Void}
use Rattle.guest_words.specs.declared.point.PointRef.{PointRef}
use Rattle.guest_words.specs.declared.hart.HartState.{HartState}
use Rattle.guest_words.specs.declared.hart.HartState.TheVariants.{Ready, Waiting, Gone, Empty}
use Rattle.guest_words.specs.declared.hart.Reserved.{Reserved}
use Rattle.guest_words.specs.declared.hart.Hart.{Hart}
use Rattle.guest_words.specs.declared.hart.Frame.{Frame}
use Rattle.guest_words.specs.declared.hart.Slot.{Slot}
use Rattle.guest_words.specs.declared.width.Width.{Width}
use Rattle.guest_words.specs.declared.abi.TheConstants.{RA, SP, A0}
use Rattle.guest_words.specs.Word.{wrap}
use Rattle.guest_words.specs.Widths.{bytes_in}

-- the value of a register; x0 reads as 0
abbrev pub reg : Hart → ℕ → ℕ
reg hart r = if r == 0 then 0 else slice_index hart.regs r

-- a register gets a value; a write to x0 is lost
abbrev pub with_reg : Hart → ℕ → ℕ → Hart
with_reg hart r value = if r == 0 then hart else record hart { regs = slice_set hart.regs r value }

-- the hart goes on behind an instruction that is no jump and link
abbrev pub past : Hart → Hart
past hart = record hart { pc = wrap (hart.pc + 4); arrived = false }

abbrev pub is_ready : HartState → Bool
is_ready Ready = true
is_ready _ = false

abbrev pub is_waiting : HartState → Bool
is_waiting (Waiting place) = true
is_waiting _ = false

-- a slot can take a new hart: none is there, or one that has exited
abbrev pub is_free : HartState → Bool
is_free Empty = true
is_free (Gone code) = true
is_free _ = false

-- a reservation has a byte among so many from an address on
abbrev pub reaches : Reserved → ℕ → ℕ → Bool
reaches r from size =
    nat_lt 0 size && nat_lt r.address (from + size) && nat_lt from (r.address + bytes_in r.width)

-- what stays of a reservation when so many bytes from an address on are stored
abbrev pub kept_reservation : ℕ → ℕ → Option Reserved → Option Reserved
kept_reservation from size None = None
kept_reservation from size (Some r) = if reaches r from size then None else Some r

-- the hart after a store, by any hart, of so many bytes from an address on
abbrev pub touched : ℕ → ℕ → Hart → Hart
touched from size hart =
    record hart { reservation = kept_reservation from size hart.reservation }

-- the hart without its reservation
abbrev pub unreserved : Hart → Hart
unreserved hart = record hart { reservation = None }

-- the reservation is for just this address and width
abbrev pub is_for : ℕ → Width → Option Reserved → Bool
is_for address width None = false
is_for address width (Some r) =
    (r.address == address) && (bytes_in r.width == bytes_in width)

abbrev pub holds : Hart → ℕ → Width → Bool
holds hart address width = is_for address width hart.reservation

-- the call under a frame is over: the stack is above its entry, or it has returned
abbrev pub is_over : Hart → Frame → Bool
is_over hart frame =
    nat_lt frame.sp (reg hart SP) || ((hart.pc == frame.ra) && (reg hart SP == frame.sp))

-- a frame over those inside it that stay
abbrev pub kept_below : Hart → Frame → List Frame → List Frame
kept_below hart frame [] = if is_over hart frame then [] else frame ∷ []
kept_below hart frame (inner ∷ rest) = frame ∷ inner ∷ rest

-- the frames that stay, the innermost last: one that isn't over, and all that it is inside of
unfoldable pub close_frames : Hart → List Frame → List Frame
close_frames hart [] = []
close_frames hart (frame ∷ frames) = kept_below hart frame (close_frames hart frames)

-- the frame that opens where a hart enters a point
abbrev pub frame_of : Hart → PointRef → Frame
frame_of hart point = record { point = point; ra = reg hart RA; sp = reg hart SP }

-- the slot with a frame opened
abbrev pub opened : PointRef → Slot → Slot
opened point slot =
    record {
      hart = record slot.hart { arrived = false };
      frames = slot.frames ++ frame_of slot.hart point ∷ [];
    }

-- x10 as a point returns it
abbrev pub with_ret : Ret → Hart → Hart
with_ret (Code value) hart = with_reg hart A0 value
with_ret Void hart = hart

-- the hart made to return from a call at once: to this address, with this answer
abbrev pub returned : ℕ → Ret → Hart → Hart
returned ra ret hart = with_ret ret (record hart { pc = ra; arrived = false })
