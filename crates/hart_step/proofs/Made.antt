-- An act that stores nothing, as an act with memory.
use Rattle.std.proofs.Common.{sym}
use Rattle.guest_words.specs.declared.hart.Hart.{Hart}
use Rattle.guest_words.specs.declared.act.Act.{Act}
use Rattle.guest_memory.specs.Kept.{AddressSpace}
use Rattle.hart_step.specs.declared.before.Before.{Before}
use Rattle.hart_step.specs.declared.did.Did.{Did}
use Rattle.hart_step.specs.InPlace.{parts, IsDone, IsMade}

pub made_of_done : (act : Act) (old new : Hart) (m : AddressSpace) (before : Before) (said : Did) → IsDone act old new said → IsMade act (parts old m before) (parts new m before) said
made_of_done act old new m before said done =
    record { answer = done.answer; hart = done.hart; memory = sym (done.memory m); before = sym (done.before m before); back = λ stored. absurd (done.quiet stored) }
