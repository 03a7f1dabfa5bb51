use Rattle.std.proofs.Common.{◌≡◌, ◌+◌, ◌≤◌, ◌<◌, suc, drop, length, take, Some, ap, sym, ◌∙◌, slice_get, arith}
use Rattle.std.proofs.lemmas.Bool.Decides.{nat_tests}
use Rattle.std.proofs.lemmas.Option.{slice_get-get_or}
use Rattle.open_calls.specs.Nest.{Stack, notes_in}
use Rattle.open_calls.proofs.Filling.{depth}
use Rattle.open_calls.proofs.Reading.{end_by, end_none, notes_at}
use Rattle.open_calls.proofs.calls.Calls.notes.Goals as goal

pub unreachable-requires : goal.unreachable-requires
unreachable-requires c =
    let l = ap length c.deref.ensures.value in
    let d = depth c.self.inside.outers.items in
    let v = ap (λ (s : Stack). length s.nest.outers) c.self.view_is in
    let some = c.requires.open in
    let lookup = c.in_default.ensures.lookup.0 in
    let past : length c.deref.result.now ≤ c.args.frame = grind (arith, nat_tests, lookup) in
    absurd (omega (arith, past, l, d, v, some))

pub returns-in-Some-get : goal.returns-in-Some-get
returns-in-Some-get c =
    let os = c.self.inside.outers.items in
    let k = c.args.frame in
    let ns = c.args.log.now.notes in
    let o = c.in-Some.outer.now in
    let p = c.in-Some-get.next.now in
    let lookup = c.in-Some.ensures.lookup.0 in
    let within : k < length c.deref.result.now = grind (arith, nat_tests, lookup) in
    let is : slice_get os k ≡ Some o =
    ap (λ xs. slice_get xs k) (sym c.deref.ensures.value) ∙ slice_get-get_or c.deref.result.now k o within ∙ ap Some (sym c.in-Some.ensures.lookup.1) in
    let next_lookup = c.in-Some-get.ensures.lookup.0 in
    let next_within : k + 1 < length c.deref-2.result.now = grind (arith, nat_tests, next_lookup) in
    let more : suc k ≡ k + 1 = omega arith in
    let next : slice_get os (suc k) ≡ Some p =
    ap (slice_get os) more ∙ ap (λ xs. slice_get xs (k + 1)) (sym c.deref-2.ensures.value) ∙ slice_get-get_or c.deref-2.result.now (k + 1) p next_within ∙ ap Some (sym c.in-Some-get.ensures.lookup.1) in
    record {
      value = c.between.ensures.value
          ∙ ap (λ q. drop o.mark (take (end_by q (length ns)) ns)) (sym next)
          ∙ sym (notes_at c.self.inside.top os k ns o is)
          ∙ ap (λ (s : Stack). notes_in k ns s.nest) c.self.view_is;
    }

pub returns-in-None : goal.returns-in-None
returns-in-None c =
    let os = c.self.inside.outers.items in
    let k = c.args.frame in
    let ns = c.args.log.now.notes in
    let o = c.in-Some.outer.now in
    let lookup = c.in-Some.ensures.lookup.0 in
    let within : k < length c.deref.result.now = grind (arith, nat_tests, lookup) in
    let is : slice_get os k ≡ Some o =
    ap (λ xs. slice_get xs k) (sym c.deref.ensures.value) ∙ slice_get-get_or c.deref.result.now k o within ∙ ap Some (sym c.in-Some.ensures.lookup.1) in
    let next_lookup = c.in-None.ensures.lookup.0 in
    let next_past : length c.deref-2.result.now ≤ k + 1 = grind (arith, nat_tests, next_lookup) in
    let long = ap length c.deref-2.ensures.value in
    record {
      value = c.between-in-None.ensures.value
          ∙ ap (λ n. drop o.mark (take n ns)) (c.length.ensures.value ∙ sym (end_none os (suc k) (length ns) (omega (arith, next_past, long))))
          ∙ sym (notes_at c.self.inside.top os k ns o is)
          ∙ ap (λ (s : Stack). notes_in k ns s.nest) c.self.view_is;
    }
