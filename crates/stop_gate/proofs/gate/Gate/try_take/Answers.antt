use Rattle.std.proofs.Common.{rules, ap, sym, arith, ◌∙◌, ◌∷◌, Some}
use Rattle.atomic_table.specs.Table.{rest}
use Rattle.stop_gate.specs.Places.{has_turn}
use Rattle.stop_gate.specs.Views.{turning}
use Rattle.stop_gate.proofs.PlaceFacts.{weight}
use Rattle.stop_gate.proofs.TurnSteps.{takes_turn}
use Rattle.stop_gate.proofs.gate.Gate.try_take.Goals as goal

pub fetch_or-word-requires : goal.fetch_or-word-requires
fetch_or-word-requires g c = let at = c.pass.invariant.0 in
    (search rules, search rules, takes_turn g.C.Held _ _ _ _ (ap (λ a. weight (has_turn a)) at) (ap (λ a. weight (has_turn (turning a))) at))

pub exchange-requires : goal.exchange-requires
exchange-requires g c = let t = c.fetch_or-word.ensures.2.even (omega (arith, c.if-word-eq1.false)) in let e = ap (λ m. m.1) t.after in
    (search rules, (Some t.value, e ∙ ap (λ cs. (0, Some t.value) ∷ cs) (sym (ap rest e))))
