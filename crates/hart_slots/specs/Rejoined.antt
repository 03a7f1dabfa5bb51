-- Harts and their frames, put together and taken apart.
use Rattle.std.specs.Prelude.{◌-◌, List, [], ◌∷◌, take, length, Option, Some, None}
use Rattle.guest_words.specs.declared.hart.Frame.{Frame}
use Rattle.guest_words.specs.declared.hart.Hart.{Hart}
use Rattle.guest_words.specs.declared.hart.Slot.{Slot}

-- the harts of slots
abbrev pub hart_of : Slot → Hart
hart_of slot = slot.hart

-- slots with these harts, and with the frames that they have
abbrev pub rejoined : List Hart → List Slot → List Slot
rejoined (hart ∷ harts) (slot ∷ slots) = record slot { hart = hart } ∷ rejoined harts slots
rejoined _ _ = []

-- the slot without its innermost frame
abbrev pub reopened : Slot → Slot
reopened slot = record slot { frames = take (length slot.frames - 1) slot.frames }

-- the open frames of a slot, the innermost last; none where no slot is
abbrev pub frames_of : Option Slot → List Frame
frames_of None = []
frames_of (Some slot) = slot.frames

-- the last of some frames
abbrev pub last_of : List Frame → Option Frame
last_of [] = None
last_of (frame ∷ []) = Some frame
last_of (frame ∷ (inner ∷ rest)) = last_of (inner ∷ rest)

-- the innermost frame of a slot
abbrev pub top_of : Option Slot → Option Frame
top_of slot = last_of (frames_of slot)

-- harts, each with its frames
abbrev pub joined : List Hart → List (List Frame) → List Slot
joined (hart ∷ harts) (frames ∷ rest) = record { hart = hart; frames = frames } ∷ joined harts rest
joined _ _ = []
