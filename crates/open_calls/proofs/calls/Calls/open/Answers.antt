use Rattle.std.proofs.Common.{◌++◌, ◌∷◌, [], length, ap, sym, ◌∙◌, subst, arith}
use Rattle.run_history.specs.HistoryView.{HistoryView}
use Rattle.open_calls.specs.declared.outer.Outer.{Outer}
use Rattle.open_calls.specs.Nest.{Stack, opened}
use Rattle.open_calls.specs.Rooms.{turned, Rooms, nest_of}
use Rattle.open_calls.proofs.Filling.{depth, open_rooms, opened_nest}
use Rattle.open_calls.proofs.calls.Calls.open.Goals as goal

pub push_reserved-requires : goal.push_reserved-requires
push_reserved-requires c =
    let few = c.requires.few in
    let v = ap (λ (s : Stack). length s.nest.outers) c.self.view_is in
    let d = depth c.self.inside.outers.items in
    let whole = c.self.inside.outers.ok.0 in
    let places = c.self.invariant.1 in
    omega (arith, few, v, d, whole, places)

pub invariant_of-self : goal.invariant_of-self
invariant_of-self c =
    let o : Outer = record { entries = c.replace-entries.result; mark = c.args.mark; point = c.args.point; kept = c.args.kept } in
    let acts = c.one_less-self-inside.result in
    let places = c.self.invariant.1 in
    let capacity = c.push_reserved.ensures.capacity in (
      subst (λ os. Rooms acts c.replace-entries.new.dest (turned os)) (sym c.push_reserved.ensures.items)
          (subst (λ (p : HistoryView). Rooms acts p (turned (c.self.inside.outers.items ++ o ∷ []))) (sym c.replace-entries.ensures.after)
          (open_rooms c.self.inside.acts acts c.self.inside.top c.args.list o c.self.inside.outers.items c.self.invariant.0 c.one_less-self-inside.ensures.less c.one_less-self-inside.ensures.few c.replace-entries.ensures.value c.requires.fresh)),
      omega (arith, places, capacity),
      c.self.invariant.2,
    )

pub returns-clause-nest : goal.returns-clause-nest
returns-clause-nest c =
    let o : Outer = record { entries = c.replace-entries.result; mark = c.args.mark; point = c.args.point; kept = c.args.kept } in
    ap (λ (p : HistoryView). nest_of p c.push_reserved.new.self.items) c.replace-entries.ensures.after
    ∙ opened_nest c.self.inside.top c.args.list o c.self.inside.outers.items c.push_reserved.new.self.items c.push_reserved.ensures.items c.replace-entries.ensures.value c.requires.fresh
    ∙ ap (λ (s : Stack). opened c.args.point c.args.kept c.args.mark s.nest) c.self.view_is
