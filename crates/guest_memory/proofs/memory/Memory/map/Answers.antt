use Rattle.std.proofs.Common.{◌≡◌, ◌∙◌, ◌*◌, ap, sym, subst, refl, Ok, Err}
use Rattle.std.specs.Result.{OnOk, OnErr}
use Rattle.guest_words.specs.Space.{with_zeros}
use Rattle.guest_pages.specs.Paged.{Paged}
use Rattle.guest_pages.specs.Stretch.{IsFree}
use Rattle.guest_memory.specs.Kept.{AddressSpace, IsGuarded}
use Rattle.guest_memory.specs.Returning.{dropped}
use Rattle.guest_memory.specs.Text.{SameText}
use Rattle.guest_memory.proofs.Rights.{guarded-with_zeros}
use Rattle.guest_memory.proofs.Undoing.{dropped_back}
use Rattle.guest_memory.proofs.TextLaws.{same_text-with_zeros}
use Rattle.guest_memory.proofs.memory.Memory.map.Goals as goal

pub invariant_of-self : goal.invariant_of-self
invariant_of-self c =
    let old = c.self.inside.pages in
    let new = c.add.new.self in
    let size = 4096 * c.args.count in
    let guarded = c.self.invariant.guarded in
    record {
      guarded = elim c.add.result as (λ r. OnOk r (new ≡ record old { space = with_zeros old.space c.args.from size c.args.rights }) → OnErr r (new ≡ old) → IsGuarded new.space) [
        | Ok _ ↦ λ made _. subst (λ (p : Paged). IsGuarded p.space) (sym made) (guarded-with_zeros old.space c.args.from size c.args.rights guarded c.requires.readable c.requires.sealed)
        | Err _ ↦ λ _ same. subst (λ (p : Paged). IsGuarded p.space) (sym same) guarded
      ] c.add.ensures.ok c.add.ensures.err;
      heap = c.self.invariant.heap;
    }

pub returns-clause-text : goal.returns-clause-text
returns-clause-text c none =
    let old = c.self.inside.pages in
    let new = c.add.new.self in
    let size = 4096 * c.args.count in
    let P : AddressSpace → Type 0 = λ a. SameText a.space new.space in
    let free = subst (λ (a : AddressSpace). IsFree a.space c.args.from size) (sym c.self.view_is) c.requires.free in
    subst P c.self.view_is (elim c.add.result as (λ r. OnOk r (new ≡ record old { space = with_zeros old.space c.args.from size c.args.rights }) → OnErr r (new ≡ old) → SameText old.space new.space) [
      | Ok _ ↦ λ made _. subst (λ (p : Paged). SameText old.space p.space) (sym made) (same_text-with_zeros old.space c.args.from size c.args.rights free none)
      | Err _ ↦ λ _ same. subst (λ (p : Paged). SameText old.space p.space) (sym same) (λ pc. refl)
    ] c.add.ensures.ok c.add.ensures.err)

pub returns-clause-back : goal.returns-clause-back
returns-clause-back c =
    let inside = c.self.inside in
    let old = inside.pages in
    let new = c.add.new.self in
    let from = c.args.from in
    let count = c.args.count in
    let free = subst (λ (a : AddressSpace). IsFree a.space from (4096 * count)) (sym c.self.view_is) c.requires.free in
    let back : Paged → AddressSpace = λ p. record { space = dropped p.space from count; low = inside.low; brk = inside.brk; spare = p.spare } in
    let P : AddressSpace → Type 0 = λ a. OnOk c.add.result (back new ≡ a) in
    subst P c.self.view_is (elim c.add.result as (λ r. OnOk r (new ≡ record old { space = with_zeros old.space from (4096 * count) c.args.rights })
    → OnOk r (back new ≡ record { space = old.space; low = inside.low; brk = inside.brk; spare = old.spare })) [
      | Ok _ ↦ λ made.
          ap back made
          ∙ ap (λ m. record { space = m; low = inside.low; brk = inside.brk; spare = old.spare }) (dropped_back old.space from count c.args.rights c.requires.aligned free)
      | Err _ ↦ λ _. tt
    ] c.add.ensures.ok)
