use Rattle.std.proofs.Common.{◌≡◌, true, ap}
use Rattle.std.proofs.lemmas.Bool.{both_ways}
use Rattle.guest_words.specs.Harts.{is_ready}
use Rattle.hart_workers.proofs.Beginning.{begun}
use Rattle.hart_workers.proofs.stretch.Stretch.begin.Goals as goal
use Rattle.hart_workers.proofs.stretch.Stretch.begin.Goals.{in-Ready, in_default}

pub invariant_of-result : goal.invariant_of-result
invariant_of-result g c =
    let base = c.stretch_base-base.result in
    let ready : is_ready base.state ≡ true = elim c.match-matches.branch [
      | in-Ready w ↦ ap is_ready w.in-Ready.is
      | in_default w ↦ absurd (both_ways c.match-matches.matches w.matches-is c.if-not-matches.false)
    ] in
    begun g.K.Origin.state c.args.text.now base c.requires.text ready c.if-base-ne0.false
