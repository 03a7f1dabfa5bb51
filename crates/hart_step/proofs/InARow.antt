-- Acts in a row, one more.
use Rattle.std.proofs.Common.{◌≡◌, ℕ, suc, ◌+◌, Bool, true, false, not, ◌&&◌, List, refl, sym, ap, ◌∙◌, arith, Option}
use Rattle.guest_words.specs.declared.point.Point.{Point}
use Rattle.guest_words.specs.declared.hart.Frame.{Frame}
use Rattle.hart_step.specs.InARow.{Lone, act_at, after_act, is_next, after_acts, all_go, closes, stays_open}

pub after_none : (points : List Point) (frames : ℕ) (s : Lone) → s ≡ after_acts points frames 0 s
unfolding after_acts
after_none points frames s = refl

pub go_none : (points : List Point) (frames : ℕ) (s : Lone) → all_go points frames 0 s ≡ true
unfolding all_go
go_none points frames s = refl

pub open_none : (points : List Point) (frames : ℕ) (top : Option Frame) (s : Lone) → stays_open points frames top 0 s ≡ true
unfolding stays_open
open_none points frames top s = refl

and_both : (a b : Bool) → a ≡ true → b ≡ true → (a && b) ≡ true
and_both a b first second = ap (λ x. x && b) first ∙ second

pub go_more : (points : List Point) (frames n : ℕ) (s now : Lone) → now ≡ after_acts points frames n s → all_go points frames n s ≡ true
    → is_next (act_at points frames now) ≡ true → all_go points frames (n + 1) s ≡ true
unfolding all_go
go_more points frames n s now so_far going goes =
    let one : n + 1 ≡ suc n = omega arith in
    ap (λ k. all_go points frames k s) one
    ∙ and_both _ _ going (ap (λ (t : Lone). is_next (act_at points frames t)) (sym so_far) ∙ goes)

pub open_more : (points : List Point) (frames : ℕ) (top : Option Frame) (n : ℕ) (s next : Lone) → next ≡ after_acts points frames (n + 1) s → stays_open points frames top n s ≡ true
    → closes top next.hart ≡ false → stays_open points frames top (n + 1) s ≡ true
unfolding stays_open
open_more points frames top n s next now so_far over =
    let one : n + 1 ≡ suc n = omega arith in
    ap (λ k. stays_open points frames top k s) one
    ∙ and_both _ _ so_far (ap (λ k. not (closes top (after_acts points frames k s).hart)) (sym one) ∙ ap (λ (t : Lone). not (closes top t.hart)) (sym now) ∙ ap not over)

-- the state after one act more
pub step_more : (points : List Point) (frames n : ℕ) (s now next : Lone) → now ≡ after_acts points frames n s → next ≡ after_act (act_at points frames now) now
    → next ≡ after_acts points frames (n + 1) s
unfolding after_acts
step_more points frames n s now next so_far step =
    let one : suc n ≡ n + 1 = omega arith in
    step ∙ ap (λ (t : Lone). after_act (act_at points frames t) t) so_far ∙ ap (λ k. after_acts points frames k s) one
