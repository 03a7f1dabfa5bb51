use Rattle.std.proofs.Common.{length, slice_get, ap, sym, ◌∙◌}
use Rattle.open_calls.specs.Nest.{Stack, lowest}
use Rattle.open_calls.proofs.Reading.{lowest_by, lowest_first}
use Rattle.open_calls.proofs.calls.Calls.length.Goals as goal

pub returns-in-Some : goal.returns-in-Some
returns-in-Some c = record {
  value = ap length
      (c.items.ensures.list ∙ ap (lowest_by c.self.inside.top) (c.in-Some.ensures.value ∙ ap (λ os. slice_get os 0) c.deref.ensures.value)
      ∙ sym (lowest_first c.self.inside.top c.self.inside.outers.items) ∙ ap (λ (s : Stack). lowest s.nest) c.self.view_is);
}

pub returns-in-None : goal.returns-in-None
returns-in-None c = record {
  value = ap length
      (c.items-in-None.ensures.list ∙ ap (lowest_by c.self.inside.top) (c.in-None.ensures.value ∙ ap (λ os. slice_get os 0) c.deref.ensures.value)
      ∙ sym (lowest_first c.self.inside.top c.self.inside.outers.items) ∙ ap (λ (s : Stack). lowest s.nest) c.self.view_is);
}
