use Rattle.std.proofs.Common.{◌≡◌, ℕ, ◌+◌, ◌-◌, ◌*◌, ◌/◌, ◌≤◌, ◌∙◌, true, sym, ap, subst, arith}
use Rattle.guest_words.specs.Space.{Space, without}
use Rattle.guest_pages.specs.Stretch.{IsFree}
use Rattle.guest_memory.specs.Kept.{AddressSpace}
use Rattle.guest_memory.specs.Text.{SameText}
use Rattle.guest_memory.proofs.Noted.{notes_both, notes_none}
use Rattle.guest_memory.proofs.Ranges.{without_before, without_none, without_previous}
use Rattle.guest_memory.proofs.TextLaws.{same_text-without}
use Rattle.guest_memory.proofs.memory.Memory.take_pages.Goals as goal

pub loop-page-init : goal.loop-page-init
loop-page-init c =
    let old = c.args.self.now in
    let count = c.args.count in
    let end = c.args.from + 4096 * count in
    let zero : 4096 * (count - count) ≡ 0 = omega arith in
    record {
      few_left = omega arith;
      gone = sym (ap (λ n. record old { space = without old.space end n }) zero ∙ ap (λ m. record old { space = m }) (without_none old.space end));
      notes = notes_none true c.args.log.now.notes old;
      few = omega arith;
      room = omega arith;
    }

pub loop-page-preserved : goal.loop-page-preserved
loop-page-preserved c =
    let old = c.args.self.now in
    let from = c.args.from in
    let count = c.args.count in
    let now = c.loop-page.self in
    let left = c.loop-page.left in
    let end = from + 4096 * left in
    let more = 4096 * (count - left) in
    let page = c.in-Some.page in
    let new = c.take_noted.new.self in
    let held = c.loop-page.invariant in
    let last = c.in-Some.ensures.found in
    let whole = c.requires.aligned in
    let low = last.low in
    let high = last.high in
    let start = last.aligned in
    let few_left = held.few_left in
    let room = held.room in
    let one = c.take_noted.ensures.room in
    let few = held.few in
    let one_more = c.take_noted.ensures.few in
    let spare : new.spare ≡ now.spare + 1 = ap (λ (x : AddressSpace). x.spare) c.take_noted.ensures.gone in
    let free : IsFree now.space (page + 4096) (end - (page + 4096)) = λ a l h. last.last a l (omega (arith, l, h)) in
    let here : page ≡ from + 4096 * ((page - from) / 4096) = omega (arith, whole, low, start) in
    let size : end + more - page ≡ 4096 * (count - (page - from) / 4096) = omega (arith, here, few_left, high) in
    record {
      few_left = omega (arith, here, few_left, high);
      gone = c.take_noted.ensures.gone
          ∙ ap (λ n. record now { space = without now.space page 4096; spare = n }) (sym spare)
          ∙ ap (λ (x : AddressSpace). record x { space = without x.space page 4096; spare = new.spare }) held.gone
          ∙ ap (λ m. record old { space = m; spare = new.spare })
          (without_previous old.space page 4096 end more (omega (arith, here, high)) (subst (λ (x : AddressSpace). IsFree x.space (page + 4096) (end - (page + 4096))) held.gone free)
          ∙ ap (without old.space page) size
          ∙ ap (λ q. without old.space q (4096 * (count - (page - from) / 4096))) here);
      notes = notes_both true c.args.log.now.notes c.loop-page.log.notes c.take_noted.new.log.notes old now new held.notes c.take_noted.ensures.notes;
      few = omega (arith, few, one_more, here, few_left, high);
      room = omega (arith, room, one, here, few_left, high);
    }

-- nothing is left of the range
all_taken : (m : Space) (from count left : ℕ) → left ≤ count → IsFree (without m (from + 4096 * left) (4096 * (count - left))) from (4096 * left)
    → without m (from + 4096 * left) (4096 * (count - left)) ≡ without m from (4096 * count)
all_taken m from count left few free =
    let size : from + 4096 * left + 4096 * (count - left) - from ≡ 4096 * count = omega (arith, few) in
    let gone = without m (from + 4096 * left) (4096 * (count - left)) in
    without_before m from (from + 4096 * left) (4096 * (count - left)) (omega arith) (λ a low high. free a low (omega (arith, low, high))) ∙ ap (without m from) size

pub returns-clause-gone : goal.returns-clause-gone
returns-clause-gone c =
    let old = c.args.self.now in
    let left = c.loop-page.left in
    let held = c.loop-page.invariant in
    let free = subst (λ (x : AddressSpace). IsFree x.space c.args.from (4096 * left)) held.gone c.in_default.ensures.none in
    held.gone
    ∙ ap (λ m. record old { space = m; spare = c.loop-page.self.spare }) (all_taken old.space c.args.from c.args.count left held.few_left free)

pub returns-clause-text : goal.returns-clause-text
returns-clause-text c none =
    let old = c.args.self.now in
    let left = c.loop-page.left in
    let held = c.loop-page.invariant in
    let free = subst (λ (x : AddressSpace). IsFree x.space c.args.from (4096 * left)) held.gone c.in_default.ensures.none in
    let all = all_taken old.space c.args.from c.args.count left held.few_left free in
    subst (λ m. SameText old.space m) (sym (ap (λ (x : AddressSpace). x.space) held.gone ∙ all)) (same_text-without old.space c.args.from (4096 * c.args.count) none)
