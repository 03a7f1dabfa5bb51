use Rattle.std.proofs.Common.{◌&&◌, ◌∙◌, sym, ap}
use Rattle.guest_words.specs.HartAct.{hart_act}
use Rattle.hart_step.specs.Legs.{is_call}
use Rattle.hart_step.specs.Stops.{can_want}
use Rattle.hart_step.proofs.Calling.{wants_call}
use Rattle.hart_step.proofs.guest.Guest.wants_memory.Goals as goal

pub returns-then-can_want : goal.returns-then-can_want
returns-then-can_want c =
    let g = c.args.self.now in
    let hart = c.args.hart.now in
    let calls = is_call (hart_act g.memory.space g.points c.args.frames hart) in
    let asked = ap (can_want c.args.noted) (sym c.ask.ensures.value) ∙ sym c.can_want.ensures.value ∙ c.if-can_want.true in
    record { value = c.is_at_call.ensures.value ∙ sym (wants_call c.args.noted g.memory.space g.points c.args.frames hart ∙ ap (λ b. b && calls) asked) }

pub returns-else-can_want : goal.returns-else-can_want
returns-else-can_want c =
    let g = c.args.self.now in
    let hart = c.args.hart.now in
    let calls = is_call (hart_act g.memory.space g.points c.args.frames hart) in
    let asked = ap (can_want c.args.noted) (sym c.ask.ensures.value) ∙ sym c.can_want.ensures.value ∙ c.if-can_want.false in
    record { value = c.if-can_want.false ∙ sym (wants_call c.args.noted g.memory.space g.points c.args.frames hart ∙ ap (λ b. b && calls) asked) }
