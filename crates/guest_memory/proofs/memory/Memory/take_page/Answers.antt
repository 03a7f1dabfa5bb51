use Rattle.std.proofs.Common.{◌≡◌, ◌∙◌, ◌+◌, sym, ap, subst}
use Rattle.guest_words.specs.declared.image.Page.{Page}
use Rattle.guest_words.specs.Space.{without}
use Rattle.guest_pages.specs.Paged.{Paged}
use Rattle.guest_memory.specs.Kept.{AddressSpace, IsGuarded}
use Rattle.guest_pages.specs.Stretch.{IsPageOf}
use Rattle.undo_log.specs.declared.note.Note.TheVariants.{Gone}
use Rattle.guest_memory.specs.Changes.{IsPageAt}
use Rattle.guest_memory.specs.Returning.{put_back}
use Rattle.guest_memory.specs.Text.{SameText, HasNoText}
use Rattle.guest_memory.proofs.Rights.{guarded-without, guarded_rights}
use Rattle.guest_memory.proofs.Undoing.{taken_back}
use Rattle.guest_memory.proofs.TextLaws.{same_text-without, page_lacks_text}
use Rattle.guest_memory.proofs.memory.Memory.take_page.Goals as goal

pub invariant_of-self : goal.invariant_of-self
invariant_of-self c = record {
  guarded = subst (λ (p : Paged). IsGuarded p.space) (sym c.take_page.ensures.gone) (guarded-without c.self.inside.pages.space c.args.from 4096 c.self.invariant.guarded);
  heap = c.self.invariant.heap;
}

pub returns-clause-text : goal.returns-clause-text
returns-clause-text c none =
    let old = c.self.inside.pages in
    let page = c.take_page.result in
    let from : page.from ≡ c.args.from = ap (λ (p : Page). p.from) c.take_page.ensures.page in
    let lacks = subst (λ q. HasNoText old.space q 4096) from (page_lacks_text old.space page c.take_page.ensures.whole none) in
    let P : AddressSpace → Type 0 = λ a. SameText a.space c.take_page.new.self.space in
    subst P c.self.view_is (subst (λ (p : Paged). SameText old.space p.space) (sym c.take_page.ensures.gone) (same_text-without old.space c.args.from 4096 lacks))

pub returns-clause-back : goal.returns-clause-back
returns-clause-back c =
    let inside = c.self.inside in
    let old = inside.pages in
    let from = c.args.from in
    let before : AddressSpace = record { space = old.space; low = inside.low; brk = inside.brk; spare = old.spare } in
    let now : Paged → AddressSpace = λ p. record { space = p.space; low = inside.low; brk = inside.brk; spare = p.spare } in
    let is : IsPageAt old.space from = record {
      aligned = c.requires.aligned;
      below = c.take_page.ensures.below;
      page = subst (IsPageOf old.space) c.take_page.ensures.page c.take_page.ensures.whole;
      guarded = guarded_rights old.space c.self.invariant.guarded from;
    } in
    ap (λ (p : Paged). put_back (now p) (Gone c.take_page.result)) c.take_page.ensures.gone
    ∙ ap (λ (page : Page). put_back (record before { space = without old.space from 4096; spare = old.spare + 1 }) (Gone page)) c.take_page.ensures.page
    ∙ taken_back before from is
    ∙ c.self.view_is
