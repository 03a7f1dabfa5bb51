use Rattle.std.proofs.Common.{◌≡◌, ◌≤◌, ◌-◌, ◌++◌, ◌∙◌, List, length, take, replicate, ap, min, arith}
use Rattle.guest_words.specs.declared.hart.Hart.{Hart}
use Rattle.guest_words.specs.Start.{empty_hart}
use Rattle.guest_atomics.proofs.EmptyHarts.{kept-empty}
use Rattle.guest_atomics.proofs.harts.Harts.keep.Goals as goal

pub returns : goal.returns
returns c =
    let harts : List Hart = c.self.inside.items.items in
    let end = c.min-end.result in
    let items : c.in_ok-from_slice.field-0.items ≡ take end harts =
    c.in_ok-from_slice.ensures.items ∙ ap (take end) c.deref.ensures.value in
    let behind : min c.self.inside.used (length harts) ≤ end = omega arith in
    let left : c.len-2.result ≡ length harts = omega arith in
    record {
      ok = ap (λ hs. hs ++ replicate (c.len-2.result - end) empty_hart) items
          ∙ ap (λ n. take end harts ++ replicate (n - end) empty_hart) left
          ∙ kept-empty c.self.inside.used end harts c.self.invariant.empty behind ∙ c.self.view_is;
    }
