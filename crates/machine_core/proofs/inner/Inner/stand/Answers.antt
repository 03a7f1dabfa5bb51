use Rattle.std.proofs.Common.{◌<◌, length, option_map, slice_get, ap, sym, ◌∙◌, subst}
use Rattle.std.specs.Option.{option_copied}
use Rattle.guest_words.specs.Endings.{is_budget_spent, is_stuck}
use Rattle.hart_slots.specs.Rejoined.{hart_of}
use Rattle.run_history.proofs.Entries.{legal-Budget, legal-Stuck}
use Rattle.machine_core.specs.Inner.{Inner}
use Rattle.machine_core.proofs.Turning.{no_slot}
use Rattle.machine_core.proofs.inner.Inner.stand.Goals as goal

pub end-requires : goal.end-requires
end-requires g c =
    let spent = ap (λ (x : Inner). is_budget_spent x.live.state) (sym c.self.view_is) ∙ sym c.is_budget_spent.ensures.value ∙ c.if-is_budget_spent.true in
    record { legal = legal-Budget c.args.self.now.live.state c.requires.can.going spent }

pub returns-then-is_budget_spent-clause-steps : goal.returns-then-is_budget_spent-clause-steps
returns-then-is_budget_spent-clause-steps g c = c.in_ok-end.ensures.plain c.requires.can.none

pub end-requires-then-is_stuck : goal.end-requires-then-is_stuck
end-requires-then-is_stuck g c =
    let fresh = ap (λ (x : Inner). is_budget_spent x.live.state) (sym c.self.view_is) ∙ sym c.is_budget_spent.ensures.value ∙ c.if-is_budget_spent.false in
    let stuck = ap (λ (x : Inner). is_stuck x.live.state) (sym c.self.view_is) ∙ sym c.is_stuck.ensures.value ∙ c.if-is_stuck.true in
    record { legal = legal-Stuck c.args.self.now.live.state c.requires.can.going fresh stuck }

pub returns-then-is_stuck-clause-steps : goal.returns-then-is_stuck-clause-steps
returns-then-is_stuck-clause-steps g c = c.in_ok-end-2.ensures.plain c.requires.can.none

pub unreachable-requires : goal.unreachable-requires
unreachable-requires g c =
    let own = c.hart-hart.ensures.value in
    let within = subst (λ (x : Inner). x.hart < length x.live.state.slots) (sym c.self.view_is) c.requires.can.within in
    no_slot c.self.inside.engine.state.slots c.self.inside.calls.hart within
    (sym (ap option_copied c.in-None.is) ∙ c.hart.ensures.value ∙ ap (λ h. option_map hart_of (slice_get c.self.inside.engine.state.slots h)) own)
