use Rattle.std.proofs.Common.{◌≡◌, ◌<◌, ◌≤◌, ◌∷◌, ◌++◌, [], false, drop, length, take, Some, refl, ap, sym, ◌∙◌, subst, arith}
use Rattle.guest_words.specs.Endings.{is_budget_spent}
use Rattle.edge_ports.specs.Seen.{Seen}
use Rattle.guest_memory.specs.Returning.{put_back}
use Rattle.undo_log.specs.Noted.{Noted}
use Rattle.undo_log.specs.Undo.{undone}
use Rattle.std.proofs.lemmas.List.{append-nil, length-take}
use Rattle.run_history.specs.declared.entry.Entry.TheViews as entry
use Rattle.run_history.specs.After.{rescued_from}
use Rattle.run_history.specs.Ahead.{ahead}
use Rattle.run_history.specs.Faults.{fault_of}
use Rattle.hart_step.specs.Live.{space_of}
use Rattle.open_calls.specs.Nest.{Level, Nest}
use Rattle.open_calls.specs.Stacked.{brought_back}
use Rattle.machine_core.specs.Inner.{Inner, IsGoing, IsUnderSame, inner_of, opened_in, whole_in}
use Rattle.machine_core.specs.OpenSteps.{Erases}
use Rattle.machine_core.proofs.Fails.{back_space, back_spare, before, can_return, erases, fails_fewer, fails_hold, fails_nearer, fails_records, fails_under, gone_room, kept_count, left_log}
use Rattle.machine_core.proofs.Holding.{Puts}
use Rattle.machine_core.proofs.Making.{made}
use Rattle.machine_core.proofs.inner.Inner.fail.Given as given
use Rattle.machine_core.proofs.inner.Inner.fail.Goals as goal

abbrev w : (g : given.Over) (c : goal.After-take_back-arg-3-1 g) → Inner
w g c = inner_of c.self.inside.engine c.self.inside.calls c.self.inside.log c.self.inside.abandoned

abbrev o : (g : given.Over) (c : goal.After-take_back-arg-3-1 g) → Level
o g c = record { entries = c.take_back-inside.new.self.nest.entries; mark = c.take_back-inside.result.mark; point = c.take_back-inside.result.point; kept = c.take_back-inside.result.kept }

going : (g : given.Over) (c : goal.After-take_back-arg-3-1 g) → IsGoing (w g c)
going g c = c.self.invariant.called (subst (λ (x : Inner). 0 < length x.nest.outers) (sym c.self.view_is) c.requires.called)

fresh : (g : given.Over) (c : goal.After-take_back-arg-3-1 g) → is_budget_spent (w g c).live.state ≡ false
fresh g c = ap (λ (x : Inner). is_budget_spent x.live.state) c.self.view_is ∙ c.requires.left

due : (g : given.Over) (c : goal.After-take_back-arg-3-1 g) → fault_of (w g c).live.state (w g c).hart ≡ Some c.args.fault
due g c = ap (λ (x : Inner). fault_of x.live.state x.hart) c.self.view_is ∙ c.requires.fault

innermost : (g : given.Over) (c : goal.After-take_back-arg-3-1 g) → (w g c).nest.outers ≡ o g c ∷ c.take_back-inside.new.self.nest.outers
innermost g c = ap (λ (n : Nest). n.outers) c.take_back-inside.ensures.was

pub take_back-requires-clause-count : goal.take_back-requires-clause-count
take_back-requires-clause-count g c =
    kept_count g.K.Origin.state g.K.Origin.devices (w g c) (w g c) c.self.inside.log c.self.inside.log c.self.invariant (going g c) (fresh g c) c.args.fault (due g c) (o g c) c.take_back-inside.new.self.nest.outers (innermost g c)

pub take_back-requires-clause-returns : goal.take_back-requires-clause-returns
take_back-requires-clause-returns g c =
    can_return g.K.Origin.state g.K.Origin.devices (w g c) (w g c) c.self.inside.log c.self.inside.log c.self.invariant (going g c) (fresh g c) c.args.fault (due g c) (o g c) c.take_back-inside.new.self.nest.outers (innermost g c)

pub take_back-requires-clause-room : goal.take_back-requires-clause-room
take_back-requires-clause-room g c =
    gone_room g.K.Origin.state g.K.Origin.devices (w g c) (w g c) c.self.inside.log c.self.inside.log c.self.invariant (going g c) (fresh g c) c.args.fault (due g c) (o g c) c.take_back-inside.new.self.nest.outers (innermost g c)

abbrev w-now : (g : given.Over) (c : goal.After-append g) → Inner
w-now g c = inner_of c.self.inside.engine c.self.inside.calls c.self.inside.log c.self.inside.abandoned

abbrev o-now : (g : given.Over) (c : goal.After-append g) → Level
o-now g c = record { entries = c.take_back-inside.new.self.nest.entries; mark = c.take_back-inside.result.mark; point = c.take_back-inside.result.point; kept = c.take_back-inside.result.kept }

going-now : (g : given.Over) (c : goal.After-append g) → IsGoing (w-now g c)
going-now g c = c.self.invariant.called (subst (λ (x : Inner). 0 < length x.nest.outers) (sym c.self.view_is) c.requires.called)

fresh-now : (g : given.Over) (c : goal.After-append g) → is_budget_spent (w-now g c).live.state ≡ false
fresh-now g c = ap (λ (x : Inner). is_budget_spent x.live.state) c.self.view_is ∙ c.requires.left

due-now : (g : given.Over) (c : goal.After-append g) → fault_of (w-now g c).live.state (w-now g c).hart ≡ Some c.args.fault
due-now g c = ap (λ (x : Inner). fault_of x.live.state x.hart) c.self.view_is ∙ c.requires.fault

innermost-now : (g : given.Over) (c : goal.After-append g) → (w-now g c).nest.outers ≡ o-now g c ∷ c.take_back-inside.new.self.nest.outers
innermost-now g c = ap (λ (n : Nest). n.outers) c.take_back-inside.ensures.was

abbrev v : (g : given.Over) (c : goal.After-append g) → Inner
v g c = inner_of c.take_back.new.self c.append.new.self c.take_back.new.log c.self.inside.abandoned

live : (g : given.Over) (c : goal.After-append g)
    → (v g c).live.state ≡ rescued_from (brought_back (w-now g c).live.state (w-now g c).hart (o-now g c).kept (undone put_back (drop (o-now g c).mark c.self.inside.log.notes) (space_of (w-now g c).live))) (w-now g c).hart (o-now g c).point c.args.fault (w-now g c).live.state
live g c =
    let s = c.self.inside.engine.state in
    let k = c.take_back-inside.result in
    c.take_back.ensures.after ∙ (λ i. rescued_from (brought_back s (c.hart-hart.ensures.value i) k.kept (undone put_back (drop k.mark c.self.inside.log.notes) (space_of c.self.inside.engine))) (c.hart-hart.ensures.value i) k.point c.args.fault s)

spare : (g : given.Over) (c : goal.After-append g) → (v g c).live.spare ≡ (undone put_back (drop (o-now g c).mark c.self.inside.log.notes) (space_of (w-now g c).live)).spare
spare g c = c.take_back.ensures.spare

abbrev from : (g : given.Over) (c : goal.After-append g) → Inner
from g c = before g.K.Origin.state g.K.Origin.devices (w-now g c) (v g c) c.self.inside.log c.take_back.new.log c.self.invariant (going-now g c) (fresh-now g c) c.args.fault (due-now g c) (o-now g c) c.take_back-inside.new.self.nest.outers (innermost-now g c)

abbrev from_log : (g : given.Over) (c : goal.After-append g) → Noted
from_log g c = left_log g.K.Origin.state g.K.Origin.devices (w-now g c) (v g c) c.self.inside.log c.take_back.new.log c.self.invariant (going-now g c) (fresh-now g c) c.args.fault (due-now g c) (o-now g c) c.take_back-inside.new.self.nest.outers (innermost-now g c)

puts_it : (g : given.Over) (c : goal.After-append g) → Puts (λ es. es ++ entry.Rescued (w-now g c).hart (o-now g c).point c.args.fault (w-now g c).nest.entries ∷ []) (from g c) (v g c) (from_log g c) c.take_back.new.log
puts_it g c =
    let t = c.take_back-inside.new.self in
    let inside = c.into_inside.ensures.list ∙ sym (ap (λ (n : Nest). n.entries) c.take_back-inside.ensures.was) in
    let back = back_space g.K.Origin.state g.K.Origin.devices (w-now g c) (v g c) c.self.inside.log c.take_back.new.log c.self.invariant (going-now g c) (fresh-now g c) c.args.fault (due-now g c) (o-now g c) t.nest.outers (innermost-now g c) (live g c) (spare g c) in
    let left = back_spare g.K.Origin.state g.K.Origin.devices (w-now g c) (v g c) c.self.inside.log c.take_back.new.log c.self.invariant (going-now g c) (fresh-now g c) c.args.fault (due-now g c) (o-now g c) t.nest.outers (innermost-now g c) (live g c) (spare g c) in
    let puts = made (from g c).live c.take_back.new.self (record t { hart = c.self.inside.calls.hart }) t c.close_to.new.self c.append.new.self (from_log g c) c.take_back.new.log c.self.inside.abandoned
    c.hart-hart.result c.hart-hart.result c.frame_count.result (λ h es. es ++ entry.Rescued h (o-now g c).point c.args.fault (w-now g c).nest.entries ∷ []) []
    refl c.take_back-inside.ensures.hart c.hart-hart.ensures.value c.hart-hart.ensures.value c.frame_count.ensures.value c.close_to.ensures.same
    (c.append.ensures.nest ∙ (λ i. record {
      outers = c.close_to.new.self.nest.outers;
      entries = c.close_to.new.self.nest.entries ++ entry.Rescued c.hart-hart.result (o-now g c).point c.args.fault (inside i) ∷ [];
    }))
    c.append.ensures.hart (c.take_back.ensures.notes ∙ sym (append-nil (take (o-now g c).mark c.self.inside.log.notes))) (λ some. back) left in
    record {
      notes = puts.notes;
      behind = puts.behind;
      undoes = puts.undoes;
      gone = puts.gone;
      nest = puts.nest;
      hart = puts.hart;
      kept = puts.kept;
    }

pub invariant_of-self : goal.invariant_of-self
invariant_of-self g c =
    fails_hold g.K.Origin.state g.K.Origin.devices (w-now g c) (v g c) c.self.inside.log c.take_back.new.log c.self.invariant (going-now g c) (fresh-now g c) c.args.fault (due-now g c) (o-now g c) c.take_back-inside.new.self.nest.outers (innermost-now g c) (live g c) (spare g c) (puts_it g c)

pub returns-clause-erases : goal.returns-clause-erases
returns-clause-erases g c =
    subst (λ (x : Inner). (d : Seen) → Erases g.K.Origin.state c.args.fault (opened_in x d) (whole_in (v g c) d)) c.self.view_is
    (erases g.K.Origin.state g.K.Origin.devices (w-now g c) (v g c) c.self.inside.log c.take_back.new.log c.self.invariant (going-now g c) (fresh-now g c) c.args.fault (due-now g c) (o-now g c) c.take_back-inside.new.self.nest.outers (innermost-now g c) (live g c) (spare g c) (puts_it g c))

pub returns-clause-under : goal.returns-clause-under
returns-clause-under g c =
    subst (λ (x : Inner). IsUnderSame x (v g c)) c.self.view_is
    (fails_under g.K.Origin.state g.K.Origin.devices (w-now g c) (v g c) c.self.inside.log c.take_back.new.log c.self.invariant (going-now g c) (fresh-now g c) c.args.fault (due-now g c) (o-now g c) c.take_back-inside.new.self.nest.outers (innermost-now g c) (live g c) (spare g c) (puts_it g c))

pub returns-clause-fewer : goal.returns-clause-fewer
returns-clause-fewer g c =
    subst (λ (x : Inner). length (v g c).nest.outers ≤ length x.nest.outers) c.self.view_is
    (fails_fewer g.K.Origin.state g.K.Origin.devices (w-now g c) (v g c) c.self.inside.log c.take_back.new.log c.self.invariant (going-now g c) (fresh-now g c) c.args.fault (due-now g c) (o-now g c) c.take_back-inside.new.self.nest.outers (innermost-now g c) (live g c) (spare g c) (puts_it g c))

pub returns-clause-few : goal.returns-clause-few
returns-clause-few g c =
    let cut = ap length c.take_back.ensures.notes in
    let less = length-take c.take_back-inside.result.mark c.self.inside.log.notes in
    let old = ap (λ (x : Inner). length x.notes) c.self.view_is in
    omega (arith, cut, less, old)

pub returns-clause-records : goal.returns-clause-records
returns-clause-records g c =
    subst (λ (x : Inner). (v g c).live.state.records ≡ x.live.state.records) c.self.view_is
    (fails_records g.K.Origin.state g.K.Origin.devices (w-now g c) (v g c) c.self.inside.log c.take_back.new.log c.self.invariant (going-now g c) (fresh-now g c) c.args.fault (due-now g c) (o-now g c) c.take_back-inside.new.self.nest.outers (innermost-now g c) (live g c) (spare g c))

pub returns-clause-nearer : goal.returns-clause-nearer
returns-clause-nearer g c =
    subst (λ (x : Inner). ahead (v g c).live.state x.hart < ahead x.live.state x.hart) c.self.view_is
    (fails_nearer g.K.Origin.state g.K.Origin.devices (w-now g c) (v g c) c.self.inside.log c.take_back.new.log c.self.invariant (going-now g c) (fresh-now g c) c.args.fault (due-now g c) (o-now g c) c.take_back-inside.new.self.nest.outers (innermost-now g c) (live g c) (spare g c))
