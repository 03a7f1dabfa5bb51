use Rattle.std.proofs.Common.{rules, ap, sym, ◌∙◌, ◌∷◌, Some}
use Rattle.atomic_table.specs.Table.{rest}
use Rattle.stop_gate.specs.Places.{has_turn}
use Rattle.stop_gate.specs.Views.{turning}
use Rattle.stop_gate.proofs.PlaceFacts.{weight}
use Rattle.stop_gate.proofs.TurnSteps.{takes_turn}
use Rattle.stop_gate.proofs.gate.Gate.take_alone.Goals as goal

pub fetch_or-requires : goal.fetch_or-requires
fetch_or-requires g c = let at = c.pass.invariant.0 in
    (search rules, search rules, takes_turn g.C.Held _ _ _ _ (ap (λ a. weight (has_turn a)) at) (ap (λ a. weight (has_turn (turning a))) at))

pub exchange-requires : goal.exchange-requires
exchange-requires g c = let took = c.fetch_or.ensures.2 in let t = took.even (took.alone c.pass.invariant.0) in let e = ap (λ m. m.1) t.after in
    (search rules, (Some t.value, e ∙ ap (λ cs. (0, Some t.value) ∷ cs) (sym (ap rest e))))
