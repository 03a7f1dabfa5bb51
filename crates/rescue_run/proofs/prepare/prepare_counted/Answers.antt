use Rattle.std.proofs.Common.{◌≡◌, ◌==◌, Err, false, sym, subst, arith}
use Rattle.std.proofs.lemmas.Bool.Decides.{nat_tests}
use Rattle.rescue_run.specs.Prepares.{PreparesCounted}
use Rattle.rescue_run.specs.declared.refusal.Refusal.{Refusal}
use Rattle.rescue_run.proofs.Preparing.{counted_other}
use Rattle.rescue_run.proofs.prepare.prepare_counted.Goals as goal

pub returns-else-named-handed-clause-prepares : goal.returns-else-named-handed-clause-prepares
returns-else-named-handed-clause-prepares g c =
    let named = c.named_ports-named.result in
    let other : (named == c.args.handed) ≡ false = grind (arith, nat_tests, c.if-named-handed.false) in
    let s = g.F.Shelf.seen c.args.shelf.now in
    subst (λ (r : Refusal). PreparesCounted c.args.command c.args.handed s s (Err r)) (sym c.of.ensures.value)
    (counted_other c.args.command c.args.handed s named c.named_ports-named.ensures.value other)
