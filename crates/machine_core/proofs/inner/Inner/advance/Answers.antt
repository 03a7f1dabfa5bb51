use Rattle.std.proofs.Common.{◌≡◌, ◌+◌, ◌<◌, ◌≤◌, ◌++◌, true, false, not, length, max, refl, ap, sym, ◌∙◌, subst, arith}
use Rattle.std.proofs.lemmas.Bool.{and_from}
use Rattle.guest_words.specs.Act.{act_of}
use Rattle.guest_words.specs.Endings.{is_budget_spent}
use Rattle.guest_words.specs.State.{State, frames_at}
use Rattle.edge_ports.specs.Seen.{Seen}
use Rattle.run_history.specs.After.{next, ran}
use Rattle.run_history.specs.LastEntry.{with_acts}
use Rattle.run_history.specs.Legal.{can_run, is_ordinary}
use Rattle.run_history.proofs.RunSteps.{can_run-one, ran-none, ran-one}
use Rattle.hart_step.specs.Noted.{notes_for}
use Rattle.open_calls.specs.Nest.{Stack}
use Rattle.machine_core.specs.Inner.{Inner, IsGoing, inner_of}
use Rattle.machine_core.specs.OpenSteps.{StaysOpen}
use Rattle.machine_core.specs.Under.{Goes}
use Rattle.machine_core.proofs.Asking.{acts_goes, acts_hold, acts_records}
use Rattle.machine_core.proofs.Holding.{Puts}
use Rattle.machine_core.proofs.Making.{made, sees_ordinary}
use Rattle.machine_core.proofs.inner.Inner.advance.Given as given
use Rattle.machine_core.proofs.inner.Inner.advance.Goals as goal

abbrev w : (g : given.Over) (c : goal.After-put_run g) → Inner
w g c = inner_of c.self.inside.engine c.self.inside.calls c.self.inside.log c.self.inside.abandoned

abbrev v : (g : given.Over) (c : goal.After-put_run g) → Inner
v g c = inner_of c.advance.new.self c.put_run.new.self c.advance.new.log c.self.inside.abandoned

puts_it : (g : given.Over) (c : goal.After-put_run g) → Puts (with_acts c.self.inside.calls.hart 1) (w g c) (v g c) c.self.inside.log c.advance.new.log
puts_it g c =
    let notes = c.in_ok-advance.ensures.notes in
    made c.self.inside.engine c.advance.new.self c.self.inside.calls c.make_room.new.calls c.close_to.new.self c.put_run.new.self c.self.inside.log c.advance.new.log c.self.inside.abandoned
    c.hart-hart.result c.close_to.new.self.hart c.frame_count.result (λ k es. with_acts k 1 es) notes.more
    c.make_room.ensures.nest c.make_room.ensures.hart c.hart-hart.ensures.value (ap (λ (x : Stack). x.hart) c.close_to.ensures.same ∙ c.make_room.ensures.hart) c.frame_count.ensures.value c.close_to.ensures.same
    c.put_run.ensures.nest c.put_run.ensures.hart (notes.behind ∙ ap (λ ns. ns ++ notes.more) c.make_room.ensures.same) (λ some. notes.lead refl) notes.spare

going : (g : given.Over) (c : goal.After-put_run g) → IsGoing (w g c)
going g c = c.self.invariant.called (subst (λ (x : Inner). 0 < length x.nest.outers) (sym c.self.view_is) c.requires.called)

fresh : (g : given.Over) (c : goal.After-put_run g) → is_budget_spent (w g c).live.state ≡ false
fresh g c = ap (λ (x : Inner). is_budget_spent x.live.state) c.self.view_is ∙ c.requires.left

ordinary : (g : given.Over) (c : goal.After-put_run g) → is_ordinary (act_of (w g c).live.state (w g c).hart) ≡ true
ordinary g c = ap (λ (x : Inner). is_ordinary (act_of x.live.state x.hart)) c.self.view_is ∙ c.requires.ordinary

goes : (g : given.Over) (c : goal.After-put_run g) → can_run (w g c).live.state (w g c).hart 1 ≡ true
goes g c = can_run-one (w g c).live.state (w g c).hart (and_from _ _ (and_from _ _ (ap not (fresh g c)) (going g c).under.ready) (ordinary g c))

to : (g : given.Over) (c : goal.After-put_run g) → (v g c).live.state ≡ ran (w g c).live.state (w g c).hart 1
to g c =
    let s = c.self.inside.engine.state in
    let own = c.hart-hart.ensures.value in
    let seen = sees_ordinary (act_of s c.hart-hart.result) c.in_ok-advance.field-0 c.in_ok-advance.ensures.value (ap (λ h. is_ordinary (act_of s h)) own ∙ ordinary g c) in
    c.in_ok-advance.ensures.after seen ∙ ap (next s) own ∙ sym (ran-one s c.self.inside.calls.hart)

stays : (g : given.Over) (c : goal.After-put_run g) → StaysOpen (w g c).live.state (w g c).hart 1
stays g c = λ fewer less.
    let zero : fewer ≡ 0 = omega (arith, less) in
    ap (λ n. frames_at (ran (w g c).live.state (w g c).hart n) (w g c).hart) zero ∙ ap (λ (s : State). frames_at s (w g c).hart) (ran-none (w g c).live.state (w g c).hart)

few : (g : given.Over) (c : goal.After-put_run g) → length (v g c).notes ≤ length (w g c).notes + max (notes_for (w g c).live.state (w g c).hart) 1
few g c =
    let more = c.advance.ensures.few in
    let same = ap length c.make_room.ensures.same in
    let own = ap (notes_for c.self.inside.engine.state) c.hart-hart.ensures.value in
    omega (arith, more, same, own)

pub invariant_of-self-2 : goal.invariant_of-self-2
invariant_of-self-2 g c =
    acts_hold g.K.Origin.state g.K.Origin.devices (w g c) (v g c) c.self.inside.log c.advance.new.log c.self.invariant (going g c) (fresh g c) 1 (omega arith) (goes g c) (to g c) (puts_it g c)

pub returns-clause-ok : goal.returns-clause-ok
returns-clause-ok g c =
    subst (λ (x : Inner). (d : Seen) → Goes g.K.Origin.state x d (v g c) d) c.self.view_is
    (acts_goes g.K.Origin.state g.K.Origin.devices (w g c) (v g c) c.self.inside.log c.advance.new.log c.self.invariant (going g c) (fresh g c) 1 (omega arith) (goes g c) (to g c) (puts_it g c) (stays g c) (few g c))

pub returns-clause-records : goal.returns-clause-records
returns-clause-records g c =
    subst (λ (x : Inner). (v g c).live.state.records ≡ x.live.state.records) c.self.view_is
    (acts_records g.K.Origin.state g.K.Origin.devices (w g c) (v g c) c.self.inside.log c.advance.new.log c.self.invariant (going g c) (fresh g c) 1 (omega arith) (goes g c) (to g c) (puts_it g c))
