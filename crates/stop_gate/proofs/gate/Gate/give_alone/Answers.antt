use Rattle.std.proofs.Common.{rules, ap, sym, subst, ℕ, ◌∙◌, ◌∷◌, ◌≤◌, IsTrue, Some}
use Rattle.atomic_table.specs.Table.{rest}
use Rattle.stop_gate.specs.declared.view.View.{View}
use Rattle.stop_gate.specs.Places.{has_turn}
use Rattle.stop_gate.specs.Steps.{StepOnTurn, MovesIn}
use Rattle.stop_gate.proofs.TurnSteps.{gives_turn}
use Rattle.stop_gate.proofs.gate.Gate.give_alone.Goals as goal

pub swap-requires : goal.swap-requires
swap-requires g c =
    let is = c.turn.invariant in
    let e = c.exchange.ensures.3 in
    let v = ap (λ m. m.0) e in
    let known = v ∙ ap (λ p. p.view) c.turn.view_is in
    let word = c.word_of-word.ensures in (
      search rules,
      search rules,
      gives_turn g.C.Held _ _ _ _ _ c.args.held (ap (λ u. has_turn u.at) v ∙ ap has_turn is.0) (ap (λ m. m.1) e ∙ ap (λ cs. (0, Some c.args.held) ∷ rest cs) is.1)
          word.home (sym word.length) (sym word.over)
          (subst (λ u. u.taken ≤ g.C.Held.length c.args.held) (sym known) c.requires.length)
          (subst (λ u. IsTrue u.over → IsTrue (g.C.Held.over c.args.held)) (sym known) c.requires.over)
          (c.requires.origin ∙ sym c.requires.gate.1 ∙ sym (ap (λ u. u.origin) known)),
    )

pub returns-clause-step : goal.returns-clause-step
returns-clause-step g c =
    let e = c.exchange.ensures.3 in
    let holds = ap (λ m. m.1) e ∙ ap (λ cs. (0, Some c.args.held) ∷ rest cs) c.turn.invariant.1 in
    let view = ap (λ m. m.0) e ∙ ap (λ p. p.view) c.turn.view_is in
    let word = c.word_of-word.ensures.value in
    let P : ℕ × View _ → Type 0 = λ z. StepOnTurn g.C.Held (λ _. z.0) (MovesIn c.args.held) z.1 c.swap.new.seat.me.0 in
    subst P (λ i. (word i, view i)) (c.swap.ensures.2.step c.args.held holds)
