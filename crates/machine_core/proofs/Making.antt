-- How a step puts what it did to the open calls: room is made, calls close by the frames that are
-- left, and entries and notes go behind.
use Rattle.std.proofs.Common.{◌≡◌, ℕ, ◌+◌, ◌<◌, ◌≤◌, Bool, true, false, not, ◌||◌, nat_lt, List, ◌++◌, length, length-append, Option, Some, None, Ok, Err, OnOk, OnErr, refl, ap, sym, ◌∙◌, subst, arith}
use Rattle.std.specs.declared.result.Result.{Result}
use Rattle.edge_ports.specs.Seen.{Seen}
use Rattle.guest_words.specs.Act.{StateAct, Ordinary, Fault, Request, Arrival, End, Absent}
use Rattle.guest_words.specs.Endings.{is_budget_spent}
use Rattle.undo_log.specs.Noted.{Noted}
use Rattle.run_history.specs.After.{ran}
use Rattle.run_history.specs.Legal.{is_ordinary, is_ready_at}
use Rattle.run_history.proofs.RunSteps.{ran-none}
use Rattle.hart_step.specs.declared.next_act.NextAct.{NextAct}
use Rattle.hart_step.specs.Sees.{is_ordinary_act, named}
use Rattle.hart_step.specs.Stops.{is_held}
use Rattle.std.proofs.lemmas.Bool.Decides.{nat_tests}
use Rattle.std.proofs.lemmas.List.{append-nil, nil_from_length}
use Rattle.guest_words.specs.State.{State, frames_at}
use Rattle.guest_memory.specs.Kept.{AddressSpace}
use Rattle.guest_memory.specs.Noting.{Notes}
use Rattle.guest_memory.specs.Returning.{put_back}
use Rattle.undo_log.specs.declared.note.Note.{Note}
use Rattle.undo_log.specs.Undo.{undone, gone_in}
use Rattle.run_history.specs.declared.entry.Entry.{Entry}
use Rattle.hart_step.specs.Live.{Live, space_of}
use Rattle.open_calls.specs.Nest.{Nest, Stack, closed_to}
use Rattle.machine_core.specs.Inner.{Holds, Inner, inner_of}
use Rattle.hart_step.specs.Returns.{CanReturn}
use Rattle.open_calls.specs.Stacked.{Stacked}
use Rattle.machine_core.proofs.Holding.{Puts}

-- a step that took none left the log and the room for pages
pub unnoted : (before after : List Note) (old new : AddressSpace) → Notes false before after old new → (after ≡ before) × (new.spare ≡ old.spare)
unnoted before after old new x =
    let none = x.none refl in
    let same = ap gone_in none in
    let spare = x.spare in
    (x.behind ∙ ap (λ ns. before ++ ns) none ∙ append-nil before, omega (arith, same, spare))

-- and so did one that made no act
pub unmade : (noted : Bool) (before after : List Note) (old new : AddressSpace) (n : ℕ) → Notes noted before after old new → n ≡ 0 → length after ≤ length before + n → (after ≡ before) × (new.spare ≡ old.spare)
unmade noted before after old new n x zero few =
    let long = ap length x.behind ∙ length-append before x.more in
    let none = nil_from_length x.more (omega (arith, long, zero, few)) in
    let same = ap gone_in none in
    let spare = x.spare in
    (x.behind ∙ ap (λ ns. before ++ ns) none ∙ append-nil before, omega (arith, same, spare))

pub some_calls : (depth : ℕ) (n : Nest) → depth ≡ length n.outers → 0 < length n.outers → nat_lt 0 depth ≡ true
some_calls depth n is some = grind (arith, nat_tests, is, some)

module _ (old new : Live) (calls room closed put : Stack) (p q : Noted) (abandoned : Bool) (own key keep : ℕ) (g : ℕ → List Entry → List Entry) (ns : List Note) where
  pub made : room.nest ≡ calls.nest → room.hart ≡ calls.hart → own ≡ calls.hart → key ≡ calls.hart → keep ≡ frames_at new.state own
      → closed ≡ record room { nest = closed_to room.hart keep room.nest } → put.nest ≡ record closed.nest { entries = g key closed.nest.entries }
      → put.hart ≡ closed.hart → q.notes ≡ p.notes ++ ns → (0 < length calls.nest.outers → undone put_back ns (space_of new) ≡ space_of old) → new.spare ≡ old.spare + gone_in ns
      → Puts (g calls.hart) (inner_of old calls p abandoned) (inner_of new put q abandoned) p q
  made nest hart at is left close puts_is same behind undoes gone =
      let frames : keep ≡ frames_at new.state calls.hart = left ∙ ap (frames_at new.state) at in
      let closed_is : closed.nest ≡ closed_to calls.hart (frames_at new.state calls.hart) calls.nest =
      ap (λ (x : Stack). x.nest) close ∙ (λ i. closed_to (hart i) (frames i) (nest i)) in
      record {
        notes = ns;
        behind = behind;
        undoes = undoes;
        gone = gone;
        nest = puts_is ∙ (λ i. record { outers = (closed_is i).outers; entries = g (is i) (closed_is i).entries });
        hart = same ∙ ap (λ (x : Stack). x.hart) close ∙ hart;
        kept = refl;
      }

-- acts that weren't made changed nothing
pub still : (old new : Live) (h n : ℕ) → n ≡ 0 → new.state ≡ ran old.state h n → new.spare ≡ old.spare → new ≡ old
still old new h n none to left =
    let same : new.state ≡ old.state = to ∙ ap (ran old.state h) none ∙ ran-none old.state h in
    λ i. record { state = same i; spare = left i }

pub on_err : {A E : Type 0} (r : Result A E) (P Q : Type 0) → (P → Q) → OnErr r P → OnErr r Q
on_err (Ok x) P Q f p = tt
on_err (Err e) P Q f p = f p

pub on_ok : {A E : Type 0} (r : Result A E) (P Q : Type 0) → (P → Q) → OnOk r P → OnOk r Q
on_ok (Ok x) P Q f p = f p
on_ok (Err e) P Q f p = tt

-- the same with another log that has the same notes
pub holds_log : (start : State) (told : Seen) (w : Inner) (p q : Noted) → Holds start told w p → q.notes ≡ p.notes → Holds start told w q
holds_log start told w p q k same = record {
  starts = k.starts;
  stacked = subst (λ ns. Stacked CanReturn start w.hart w.nest.outers w.nest.entries ns w.live.state (space_of w.live)) (sym same) k.stacked;
  gone = let all = ap gone_in same in let gone = k.gone in omega (arith, all, gone);
  calm = k.calm;
  called = k.called;
}

-- a hart that is held isn't ready, or the budget is spent
pub not_held : (s : State) (h : ℕ) → is_ready_at s h ≡ true → is_budget_spent s ≡ false → is_held s h ≡ true → ⊥
not_held s h ready fresh held = let is : is_held s h ≡ false = (λ i. not (ready i) || fresh i) in cc

abbrev pub ordinary_named : Option NextAct → Bool
ordinary_named None = false
ordinary_named (Some x) = is_ordinary_act x

-- an act that is seen as ordinary is
pub sees_ordinary : (a : StateAct) (x : NextAct) → named a ≡ Some x → is_ordinary a ≡ true → is_ordinary_act x ≡ true
sees_ordinary (Ordinary t) x e is = ap ordinary_named (sym e)
sees_ordinary (Fault name) x e is = cc
sees_ordinary (Request w port asked place) x e is = cc
sees_ordinary (Arrival p) x e is = cc
sees_ordinary (End code) x e is = cc
sees_ordinary Absent x e is = cc

-- parts that are as they were
pub same_inner : (old new : Live) (calls room : Stack) (p q : Noted) (abandoned : Bool) → room.nest ≡ calls.nest → room.hart ≡ calls.hart → q.notes ≡ p.notes → new ≡ old
    → inner_of new room q abandoned ≡ inner_of old calls p abandoned
same_inner old new calls room p q abandoned nest hart notes live =
    λ i. record { hart = hart i; nest = nest i; notes = notes i; live = live i; abandoned = abandoned }

-- a row in which no act was made leaves all parts as they were
pub unmoved : (noted : Bool) (old new : Live) (calls room : Stack) (p made q : Noted) (abandoned : Bool) (own n : ℕ) → room.nest ≡ calls.nest → room.hart ≡ calls.hart → made.notes ≡ p.notes → n ≡ 0 → new.state ≡ ran old.state own n
    → Notes noted made.notes q.notes (space_of old) (space_of new) → length q.notes ≤ length made.notes + n → (inner_of new room q abandoned ≡ inner_of old calls p abandoned) × (q.notes ≡ p.notes)
unmoved noted old new calls room p made q abandoned own n nest hart same none to notes few =
    let left = unmade noted made.notes q.notes (space_of old) (space_of new) n notes none few in
    let live = still old new own n none to left.1 in
    (same_inner old new calls room p q abandoned nest hart (left.0 ∙ same) live, left.0 ∙ same)
