use Rattle.std.proofs.Common.{◌≡◌, Some, option_map, slice_get, refl, ap, sym, ◌∙◌, eq-eqb}
use Rattle.guest_words.specs.declared.hart.Hart.{Hart}
use Rattle.guest_words.specs.declared.ending.Ending.TheVariants as ending
use Rattle.guest_words.specs.Endings.{stands_at}
use Rattle.guest_words.specs.Act.{act_of}
use Rattle.hart_slots.specs.Rejoined.{hart_of}
use Rattle.run_history.specs.declared.entry.Entry.{Ended}
use Rattle.run_history.specs.Legal.{legal}
use Rattle.run_history.proofs.Entries.{legal-Fault}
use Rattle.run_history.proofs.Quietness.{alone_quiet}
use Rattle.run_history.proofs.Under.{may_under}
use Rattle.machine_core.specs.declared.stepped.Stepped.TheVariants.{Ended as Over}
use Rattle.machine_core.specs.Inner.{Inner}
use Rattle.machine_core.proofs.Turning.{fault_act, hart_is, ready_slot, stepped_fault}
use Rattle.std.proofs.Common.{length}
use Rattle.machine_core.proofs.inner.Inner.end_by_fault.Goals as goal

pub end-requires : goal.end-requires
end-requires g c =
    let w = c.args.self.now in
    let s = w.live.state in
    let own = c.hart-hart.ensures.value ∙ ap (λ (x : Inner). x.hart) c.self.view_is in
    let slot = ready_slot s w.hart c.requires.going.under.ready in
    let found : Some c.in-Some.now.now ≡ option_map hart_of (slice_get s.slots w.hart) = c.in-Some.ensures.value ∙ (λ i. option_map hart_of (slice_get (c.self.view_is i).live.state.slots (own i))) in
    let pc = ap (λ (x : Hart). x.pc) (hart_is (slice_get s.slots w.hart) slot.0 c.in-Some.now.now slot.1 found) in
    let quiet = alone_quiet s w.hart c.requires.going.under.alone (c.requires.going.framed ∙ ap length c.requires.can.none) in
    let there = legal-Fault s w.hart slot.0.hart.pc c.args.name (may_under s w.hart c.requires.going.under c.requires.left) (fault_act (act_of s w.hart) c.args.name c.requires.act)
    (ap (stands_at slot.0.hart.pc) slot.1 ∙ eq-eqb slot.0.hart.pc slot.0.hart.pc refl) quiet in
    record { legal = (λ i. legal s (Ended (ending.Fault (own i) (record { name = c.args.name; pc = pc i })))) ∙ there }

pub returns-clause-value : goal.returns-clause-value
returns-clause-value g c =
    let w = c.args.self.now in
    let s = w.live.state in
    let own = c.hart-hart.ensures.value ∙ ap (λ (x : Inner). x.hart) c.self.view_is in
    let slot = ready_slot s w.hart c.requires.going.under.ready in
    let found : Some c.in-Some.now.now ≡ option_map hart_of (slice_get s.slots w.hart) = c.in-Some.ensures.value ∙ (λ i. option_map hart_of (slice_get (c.self.view_is i).live.state.slots (own i))) in
    let pc = ap (λ (x : Hart). x.pc) (hart_is (slice_get s.slots w.hart) slot.0 c.in-Some.now.now slot.1 found) in
    stepped_fault s w.hart c.requires.left c.requires.going.under.ready c.args.name slot.0 slot.1 c.requires.act
    ∙ (λ i. Some (Over (ending.Fault (sym own i) (record { name = c.args.name; pc = sym pc i }))))

pub returns-clause-steps : goal.returns-clause-steps
returns-clause-steps g c = c.in_ok-end.ensures.plain c.requires.can.none
