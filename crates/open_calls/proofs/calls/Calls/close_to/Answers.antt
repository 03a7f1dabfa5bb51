use Rattle.std.proofs.Common.{◌≤◌, length, sym, ◌∙◌, arith}
use Rattle.open_calls.proofs.Nests.{closed_few}
use Rattle.open_calls.proofs.calls.Calls.close_to.Goals as goal

pub returns : goal.returns
returns c =
    let k = c.loop-self.invariant in
    let few : length c.loop-self.self.nest.outers ≤ c.args.keep = let a = c.depth.ensures.value in let b = c.loop-self-test.false in omega (arith, a, b) in
    let nest = sym (closed_few c.args.self.now.hart c.args.keep c.loop-self.self.nest few) ∙ k.nest in
    record { same = λ i. record { hart = k.hart i; nest = nest i; acts = k.acts i } }
