-- Changes and tests of a hart or of its frames alone.
use Rattle.std.specs.Prelude.{Bool, ◌||◌, List, if◌then◌else◌}
use Rattle.guest_words.specs.declared.hart.Frame.{Frame}
use Rattle.guest_words.specs.declared.hart.Hart.{Hart}
use Rattle.guest_words.specs.declared.hart.HartState.{HartState}
use Rattle.guest_words.specs.declared.hart.Slot.{Slot}
use Rattle.guest_words.specs.Harts.{is_ready, is_waiting}
use Rattle.guest_words.specs.CallChanges.{ready}

-- a change of the frames in a slot alone
abbrev pub on_frames : (List Frame → List Frame) → Slot → Slot
on_frames f slot = record slot { frames = f slot.frames }

-- the hart made ready, if it is marked
abbrev pub ready_where : Bool → Hart → Hart
ready_where marked hart = if marked then ready hart else hart

-- a hart is ready or waits
abbrev pub is_live_state : HartState → Bool
is_live_state state = is_ready state || is_waiting state
