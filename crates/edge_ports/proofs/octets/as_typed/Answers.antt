use Rattle.std.proofs.Common.{◌≡◌, ◌<◌, get_or, subst, sym}
use Rattle.std.proofs.lemmas.Grind.{get_or_default_zero}
use Rattle.edge_ports.proofs.octets.as_typed.Goals as goal

pub returns : goal.returns
returns c = record {
  below = λ k d within. subst (λ n. n < 256) (sym (get_or_default_zero c.args.items.now k d within)) (c.type_inv.items k).fits;
}
