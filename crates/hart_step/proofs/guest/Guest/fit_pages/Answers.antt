use Rattle.std.proofs.Common.{◌≡◌, ℕ, ◌-◌, ap, sym, ◌∙◌, subst, arith}
use Rattle.guest_words.specs.CallChanges.{heap_rights}
use Rattle.guest_words.specs.Space.{Space, with_zeros, without}
use Rattle.hart_step.specs.Ground.{Ground}
use Rattle.hart_step.proofs.Engines.{fitted_down, fitted_same, fitted_up, kept_spare, whole_pages}
use Rattle.hart_step.proofs.guest.Guest.fit_pages.Goals as goal

-- what is said of memory with a space, of the same space by another name
named_so : (new old : Ground) (a b : Space) → a ≡ b → new ≡ record old { memory = record old.memory { space = a; spare = new.memory.spare } }
    → new ≡ record old { memory = record old.memory { space = b; spare = new.memory.spare } }
named_so new old a b same is = subst (λ (n : Space). new ≡ record old { memory = record old.memory { space = n; spare = new.memory.spare } }) same is

pub returns-then-old-new-clause-ok : goal.returns-then-old-new-clause-ok
returns-then-old-new-clause-ok c =
    let ground = c.args.self.now in
    let m = ground.memory.space in
    let old = c.args.old in
    let new = c.args.new in
    let up = c.if-old-new.true in
    let first = c.requires.old in
    let last = c.requires.new in
    let all = whole_pages (new - old) (omega (arith, up, first, last)) in
    named_so c.map.new.self ground _ _ (ap (λ (n : ℕ). with_zeros m old n heap_rights) all ∙ sym (fitted_up m old new (omega (arith, up)))) (kept_spare c.map.new.self ground _ c.in_ok-map.ensures.ok)

pub returns-then-new-old-clause-ok : goal.returns-then-new-old-clause-ok
returns-then-new-old-clause-ok c =
    let ground = c.args.self.now in
    let m = ground.memory.space in
    let old = c.args.old in
    let new = c.args.new in
    let down = c.if-new-old.true in
    let first = c.requires.old in
    let last = c.requires.new in
    let all = whole_pages (old - new) (omega (arith, down, first, last)) in
    named_so c.unmap.new.self ground _ _ (ap (without m new) all ∙ sym (fitted_down m old new (omega (arith, down)))) c.unmap.ensures.value

pub returns-else-new-old-clause-ok : goal.returns-else-new-old-clause-ok
returns-else-new-old-clause-ok c =
    let ground = c.args.self.now in
    let below = c.if-old-new.false in
    let above = c.if-new-old.false in
    ap (λ (n : Space). record ground { memory = record ground.memory { space = n } })
    (sym (fitted_same ground.memory.space c.args.old c.args.new (omega (arith, below, above))))
