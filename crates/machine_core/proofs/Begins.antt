-- The beginning of a call, as the machine is seen.
use Rattle.std.proofs.Common.{◌≡◌, ℕ, [], Some, ap, sym, ◌∙◌, arith}
use Rattle.guest_words.specs.declared.point.PointRef.{PointRef}
use Rattle.guest_words.specs.State.{frames_at}
use Rattle.edge_ports.specs.Seen.{Seen}
use Rattle.run_history.specs.declared.entry.Entry.{Entered}
use Rattle.run_history.specs.Legal.{legal}
use Rattle.open_calls.specs.Nest.{lowest_from}
use Rattle.machine_core.specs.declared.stepped.Stepped.TheVariants.{Arrived}
use Rattle.machine_core.specs.Inner.{Inner, machine_in, opened_in, whole_in}
use Rattle.machine_core.specs.Machine.{Machine}
use Rattle.machine_core.specs.OpenSteps.{HasBegun}
use Rattle.machine_core.specs.QuietSteps.{stepped_of, with_entry}
use Rattle.machine_core.specs.Turns.{Begun}

pub has_begun : (w v : Inner) (m : Machine) (d : Seen) (h : ℕ) (point : PointRef) → Begun w v → machine_in w d ≡ m → w.hart ≡ h → w.nest.outers ≡ [] → stepped_of m.state h ≡ Some (Arrived point) → HasBegun h point m (opened_in v d)
has_begun w v m d h point b is at none stood =
    let there : Some (Arrived b.point) ≡ Some (Arrived point) = sym b.stood ∙ (λ i. stepped_of (is i).state (at i)) ∙ stood in
    let same : b.point ≡ point = cc in
    let enters = b.enters d in
    let one = b.one in
    let hart = b.under.hart ∙ at in
    record {
      legal = (λ i. legal (sym is i).state (Entered (sym at i) (sym same i))) ∙ enters.legal;
      same = (λ i. record (whole_in v d) { abandoned = sym b.going.kept i }) ∙ enters.same ∙ (λ i. with_entry (is i) (Entered (at i) (same i)));
      hart = hart;
      outermost = b.under.outermost (omega (arith, one)) ∙ (λ i. lowest_from (none i) w.nest.entries) ∙ ap (λ (x : Machine). x.history) is;
      none = b.none;
      one = ap (frames_at v.live.state) (sym hart) ∙ b.going.framed ∙ one;
      goes = record { under = b.going.under; framed = b.going.framed; some = omega (arith, one) };
    }
