use Rattle.hart_slots.proofs.LastFrame.{last-read}
use Rattle.hart_slots.proofs.frames.innermost.Goals as goal

pub returns-in-len1-up : goal.returns-in-len1-up
returns-in-len1-up c = record { value = last-read c.args.frames.now _ c.in-len1-up.len_at_least }
