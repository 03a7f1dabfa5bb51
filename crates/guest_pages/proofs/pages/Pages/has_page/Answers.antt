use Rattle.std.proofs.Common.{◌≡◌, ℕ, Some, None, IsSome, is_some, List, sym, subst}
use Rattle.std.specs.Bool.{OnTrue, OnFalse}
use Rattle.std.specs.FinMap.{get}
use Rattle.std.specs.List.{find}
use Rattle.std.specs.Option.{IfSome, IfNone}
use Rattle.guest_pages.specs.declared.page_buffer.PageBuffer.{PageBuffer}
use Rattle.guest_pages.specs.Buffers.{holds, IsHolder}
use Rattle.guest_pages.specs.Paged.{Paged}
use Rattle.guest_pages.specs.Stretch.{IsFree}
use Rattle.guest_pages.proofs.Moving.{held_there, page_free}
use Rattle.guest_pages.proofs.pages.Pages.has_page.Goals as goal

pub returns-clause-there : goal.returns-clause-there
returns-clause-there c =
    let buffers = c.self.inside.buffers.items in
    let q = c.args.from in
    let there = λ (i : ℕ) (holder : IsHolder c.as_slice.result.now q i).
    subst (λ (p : Paged). IsSome (get p.space q)) c.self.view_is
    (held_there buffers i q c.self.invariant.0 (subst (λ (bs : List PageBuffer). IsHolder bs q i) c.as_slice.ensures.value holder)) in
    subst (λ b. OnTrue b (IsSome (get c.args.self.now.space q))) (sym c.is_some.ensures)
    (elim c.index_of.result as (λ o. IfSome o (IsHolder c.as_slice.result.now q) → OnTrue (is_some o) (IsSome (get c.args.self.now.space q))) [
      | Some i ↦ λ holder. there i holder
      | None ↦ λ _. tt
    ] c.index_of.ensures.found)

pub returns-clause-free : goal.returns-clause-free
returns-clause-free c =
    let buffers = c.self.inside.buffers.items in
    let q = c.args.from in
    let free = λ (none : find (holds q) c.as_slice.result.now ≡ None).
    subst (λ (p : Paged). IsFree p.space q 4096) c.self.view_is
    (page_free buffers q c.self.invariant.0 (subst (λ (bs : List PageBuffer). find (holds q) bs ≡ None) c.as_slice.ensures.value none) c.requires.aligned) in
    subst (λ b. OnFalse b (IsFree c.args.self.now.space q 4096)) (sym c.is_some.ensures)
    (elim c.index_of.result as (λ o. IfNone o (find (holds q) c.as_slice.result.now ≡ None) → OnFalse (is_some o) (IsFree c.args.self.now.space q 4096)) [
      | Some i ↦ λ _. tt
      | None ↦ λ none. free none
    ] c.index_of.ensures.none)
