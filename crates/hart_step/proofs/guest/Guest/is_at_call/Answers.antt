use Rattle.std.proofs.Common.{◌≡◌, ◌∙◌, true, false, Some, None, sym, ap, subst}
use Rattle.guest_words.specs.declared.inst.Inst.{Inst}
use Rattle.guest_words.specs.Effects.{class_of}
use Rattle.guest_words.specs.HartAct.{hart_act}
use Rattle.hart_step.specs.Ground.{Ground}
use Rattle.hart_step.specs.Legs.{is_call}
use Rattle.hart_step.proofs.Calling.{call_arrived, call_at, call_none}
use Rattle.hart_step.proofs.guest.Guest.is_at_call.Goals as goal

pub returns-in-Some : goal.returns-in-Some
returns-in-Some c =
    let g = c.self.inside in
    record {
      value = subst (λ (x : Ground). false ≡ is_call (hart_act x.memory.space x.points c.args.frames c.args.hart.now)) c.self.view_is
          (call_arrived g.memory.space g.points c.args.frames c.args.hart.now c.in-Some.field-0 (sym c.arrival.ensures.value ∙ c.in-Some.is));
    }

pub returns-in-Call : goal.returns-in-Call
returns-in-Call c =
    let g = c.self.inside in
    record {
      value = subst (λ (x : Ground). true ≡ is_call (hart_act x.memory.space x.points c.args.frames c.args.hart.now)) c.self.view_is
          (call_at g.memory.space g.points c.args.frames c.args.hart.now c.in-Some-inst_at.inst (sym c.arrival.ensures.value ∙ c.in-None.is)
          (sym c.inst_at.ensures.value ∙ c.in-Some-inst_at.is) (sym c.class.ensures ∙ c.in-Call.is));
    }

pub returns-in_default : goal.returns-in_default
returns-in_default c =
    let g = c.self.inside in
    record {
      value = subst (λ (x : Ground). false ≡ is_call (hart_act x.memory.space x.points c.args.frames c.args.hart.now)) c.self.view_is
          (call_none g.memory.space g.points c.args.frames c.args.hart.now (λ inst at kind.
          let same : Some inst ≡ Some c.in-Some-inst_at.inst = sym at ∙ sym c.inst_at.ensures.value ∙ c.in-Some-inst_at.is in
          let one : inst ≡ c.in-Some-inst_at.inst = cc same in
          c.in_default.not-Call (c.class.ensures ∙ ap (λ (i : Inst). class_of i.op) (sym one) ∙ kind)));
    }

pub returns-in-None-inst_at : goal.returns-in-None-inst_at
returns-in-None-inst_at c =
    let g = c.self.inside in
    record {
      value = subst (λ (x : Ground). false ≡ is_call (hart_act x.memory.space x.points c.args.frames c.args.hart.now)) c.self.view_is
          (call_none g.memory.space g.points c.args.frames c.args.hart.now (λ inst at kind.
          let never : Some inst ≡ None = sym at ∙ sym c.inst_at.ensures.value ∙ c.in-None-inst_at.is in
          absurd (cc never)));
    }
