use Rattle.std.proofs.Common.{◌∙◌, ◌≤◌, length, [], ◌∷◌, ◌++◌, ap, sym, subst, arith}
use Rattle.guest_words.specs.Image.{IsLoadList}
use Rattle.plain_machine.proofs.LoadShown.{short_load, one_load}
use Rattle.rescue_audit.proofs.tests.image.Goals as goal

pub returns : goal.returns
returns c =
    let bytes = c.of.result in
    let list = c.of.ensures.list in
    let long = c.in_ok-to_vec.ensures.len in
    let few = c.requires.few in
    record {
      loads = subst IsLoadList
          (sym (c.of-2.ensures.list ∙ c.in_ok-push.ensures.items ∙ ap (λ xs. xs ++ short_load bytes ∷ []) c.new-loads.ensures.items))
          (one_load bytes (subst (λ xs. length xs ≤ 64) (sym list) (omega (arith, long, few))));
    }
