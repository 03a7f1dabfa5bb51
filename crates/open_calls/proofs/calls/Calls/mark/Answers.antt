use Rattle.std.proofs.Common.{◌≡◌, ◌+◌, ◌-◌, ◌<◌, List, [], ◌∷◌, ◌++◌, get_or, length, take, ap, sym, ◌∙◌, subst, arith}
use Rattle.std.proofs.lemmas.List.{nil_from_length, take_all, take_more}
use Rattle.open_calls.specs.declared.outer.Outer.{Outer}
use Rattle.open_calls.specs.Nest.{Stack, mark_in, newest_mark}
use Rattle.open_calls.specs.Rooms.{levels, turned}
use Rattle.open_calls.proofs.Filling.{turned-push}
use Rattle.open_calls.proofs.calls.Calls.mark.Goals as goal

last_mark : (os : List Outer) (o : Outer) → 0 < length os → o ≡ get_or os (length os - 1) o → o.mark ≡ newest_mark (levels (turned os))
last_mark os o some is =
    let before = take (length os - 1) os in
    let parts : os ≡ before ++ o ∷ [] =
    sym (take_all (length os - 1 + 1) os (omega (arith, some)))
    ∙ take_more os (length os - 1) o (omega (arith, some))
    ∙ ap (λ p. before ++ p ∷ []) (sym is) in
    sym (ap (λ ps. newest_mark (levels (turned ps))) parts ∙ ap (λ ps. newest_mark (levels ps)) (turned-push before o))

pub returns-in-Some : goal.returns-in-Some
returns-in-Some c =
    let o = c.in-Some.outer.now in
    let P : List Outer → Type 0 = λ os. o.mark ≡ newest_mark (levels (turned os)) in
    record {
      value = subst P c.deref.ensures.value (last_mark c.deref.result.now o c.in-Some.ensures.item.3.0 c.in-Some.ensures.item.1)
          ∙ ap (λ (s : Stack). mark_in s.nest) c.self.view_is;
    }

pub returns-in-None : goal.returns-in-None
returns-in-None c =
    let none = c.in-None.ensures.item.3 in
    let empty = sym c.deref.ensures.value ∙ nil_from_length c.deref.result.now (omega (arith, none)) in
    record {
      value = sym (ap (λ os. newest_mark (levels (turned os))) empty) ∙ ap (λ (s : Stack). mark_in s.nest) c.self.view_is;
    }
