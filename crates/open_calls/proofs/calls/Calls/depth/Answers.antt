use Rattle.std.proofs.Common.{length, ap, arith}
use Rattle.open_calls.specs.Nest.{Stack}
use Rattle.open_calls.proofs.Filling.{depth}
use Rattle.open_calls.proofs.calls.Calls.depth.Goals as goal

pub returns : goal.returns
returns c = record {
  value =
      let l = c.len.ensures in let whole = c.self.inside.outers.ok.0 in
      let d = depth c.self.inside.outers.items in let v = ap (λ (s : Stack). length s.nest.outers) c.self.view_is in
      omega (arith, l, whole, d, v);
}
