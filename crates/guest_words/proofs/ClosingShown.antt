-- Frames close where a call is over, and else stay.
use Rattle.std.proofs.Common.{◌≡◌, ℕ, [], ◌∷◌, refl, replicate, slice_set}
use Rattle.guest_words.specs.declared.hart.Hart.{Hart}
use Rattle.guest_words.specs.declared.hart.Frame.{Frame}
use Rattle.guest_words.specs.Harts.{close_frames}
use Rattle.guest_words.specs.Start.{first_hart}

-- a hart at an address with this stack pointer
abbrev hart_at : ℕ → ℕ → Hart
hart_at pc sp = record (first_hart pc) { regs = slice_set (replicate 32 0) 2 sp }

-- a frame of a point at 0x10010, with a return address and a stack pointer
abbrev frame : ℕ → ℕ → Frame
frame ra sp = record { point = record { entry = 0x10010 }; ra = ra; sp = sp }

-- in the middle of the call nothing closes
pub stays-inside : close_frames (hart_at 0x10014 0x2000) (frame 0x10004 0x2000 ∷ []) ≡ frame 0x10004 0x2000 ∷ []
unfolding close_frames
stays-inside = refl

-- the return address alone doesn't close: the stack is still below
pub stays-with_deeper_stack : close_frames (hart_at 0x10004 0x1ff0) (frame 0x10004 0x2000 ∷ []) ≡ frame 0x10004 0x2000 ∷ []
unfolding close_frames
stays-with_deeper_stack = refl

pub closes-on_return : close_frames (hart_at 0x10004 0x2000) (frame 0x10004 0x2000 ∷ []) ≡ []
unfolding close_frames
closes-on_return = refl

-- a stack above the entry's closes wherever the hart is
pub closes-on_unwinding : close_frames (hart_at 0x10300 0x2010) (frame 0x10004 0x2000 ∷ []) ≡ []
unfolding close_frames
closes-on_unwinding = refl

-- a tail call leaves two frames with one return address, and the return closes both
pub closes-tail_call : close_frames (hart_at 0x10004 0x2000) (frame 0x10004 0x2000 ∷ frame 0x10004 0x2000 ∷ []) ≡ []
unfolding close_frames
closes-tail_call = refl

-- the inner call alone is over
pub closes-inner_alone : close_frames (hart_at 0x10024 0x1ff0) (frame 0x10004 0x2000 ∷ frame 0x10024 0x1ff0 ∷ []) ≡ frame 0x10004 0x2000 ∷ []
unfolding close_frames
closes-inner_alone = refl

-- a frame stays while one inside it stays, though its own test holds
pub stays-under_inner : close_frames (hart_at 0x10004 0x2000) (frame 0x10004 0x2000 ∷ frame 0x10024 0x3000 ∷ []) ≡ frame 0x10004 0x2000 ∷ frame 0x10024 0x3000 ∷ []
unfolding close_frames
stays-under_inner = refl
