-- What a machine keeps of its run, over what is put to its history.
use Rattle.std.proofs.Common.{◌≡◌, ℕ, ◌+◌, ◌<◌, ◌≤◌, true, List, [], ◌∷◌, ◌++◌, length, ap, sym, ◌∙◌, subst, arith}
use Rattle.guest_words.specs.State.{State, frames_at}
use Rattle.edge_ports.specs.Seen.{Seen}
use Rattle.guest_memory.specs.Kept.{AddressSpace}
use Rattle.guest_memory.specs.Returning.{put_back}
use Rattle.undo_log.specs.declared.note.Note.{Note}
use Rattle.undo_log.specs.Noted.{Noted}
use Rattle.undo_log.specs.Undo.{undone, gone_in}
use Rattle.run_history.specs.declared.entry.Entry.{Entry}
use Rattle.run_history.specs.After.{after, ran, state_after}
use Rattle.run_history.specs.LastEntry.{with_acts}
use Rattle.run_history.specs.Legal.{can_run, is_alone, is_of, legal, may_act}
use Rattle.run_history.specs.Quiet.{is_quiet}
use Rattle.run_history.specs.Run.{is_run}
use Rattle.run_history.specs.Under.{IsUnder}
use Rattle.run_history.proofs.Quietness.{alone_quiet}
use Rattle.run_history.proofs.StepsAfter.{within_run}
use Rattle.hart_step.specs.Live.{space_of}
use Rattle.hart_step.specs.Returns.{CanReturn}
use Rattle.open_calls.specs.Nest.{Level, Nest, closed_to, closing, flat, lowest}
use Rattle.open_calls.specs.Stacked.{Stacked}
use Rattle.open_calls.proofs.Nests.{depth_closed, depth_less, flat_closed, flat_push}
use Rattle.open_calls.proofs.Stacks.{acts, closes_to, flat_run, pushes}
use Rattle.machine_core.specs.Inner.{Holds, Inner, IsGoing, IsUnderSame}
use Rattle.machine_core.proofs.Gone.{gone_in-append}
use Rattle.machine_core.proofs.Nesting.{flat_acts, lowest_closed, lowest_under}

abbrev outers_of : Nest → List Level
outers_of n = n.outers

-- entries and notes are put behind those of the calls that stay open; the notes lead back
pub record Puts (put : List Entry → List Entry) (w v : Inner) (p q : Noted) : Type 0 where
  pub notes : List Note
  pub behind : q.notes ≡ p.notes ++ notes
  pub undoes : 0 < length w.nest.outers → undone put_back notes (space_of v.live) ≡ space_of w.live
  pub gone : v.live.spare ≡ w.live.spare + gone_in notes
  pub nest : let n = closed_to w.hart (frames_at v.live.state w.hart) w.nest in v.nest ≡ record n { entries = put n.entries }
  pub hart : v.hart ≡ w.hart
  pub kept : v.abandoned ≡ w.abandoned

-- the whole history is a run that gives the state
module _ (start : State) (told : Seen) (w : Inner) (p : Noted) (k : Holds start told w p) where
  pub run_so_far : (is_run start (flat w.hart w.nest) ≡ true) × (state_after start (flat w.hart w.nest) ≡ w.live.state)
  run_so_far = flat_run CanReturn start w.hart w.nest.outers w.nest.entries p.notes w.live.state (space_of w.live) k.stacked

  pub within : w.live.state.steps ≤ w.live.state.budget
  within = subst (λ (s : State). s.steps ≤ s.budget) run_so_far.1 (within_run start (flat w.hart w.nest) run_so_far.0 k.starts.steps)

-- the same hart and outermost call
pub puts_under : (put : List Entry → List Entry) (w v : Inner) (p q : Noted) → Puts put w v p q → IsUnderSame w v
puts_under put w v p q x =
    let c = closed_to w.hart (frames_at v.live.state w.hart) w.nest in
    let low = ap (λ (n : Nest). lowest n) x.nest in
    let depth = ap (λ (n : Nest). length n.outers) x.nest in record {
      hart = x.hart;
      outermost = λ some.
          let left : 0 < length c.outers = omega (arith, some, depth) in
          low ∙ lowest_under c.outers (put c.entries) c.entries left ∙ lowest_closed w.hart (frames_at v.live.state w.hart) w.nest.outers w.nest.entries left;
    }

-- no more are open
pub puts_fewer : (put : List Entry → List Entry) (w v : Inner) (p q : Noted) → Puts put w v p q → length v.nest.outers ≤ length w.nest.outers
puts_fewer put w v p q x =
    let depth = ap (λ (n : Nest). length n.outers) x.nest in
    let less = depth_less w.hart (frames_at v.live.state w.hart) w.nest.outers w.nest.entries in
    omega (arith, depth, less)

-- with no call open none opens
closed_none : (h keep : ℕ) (n : Nest) → n.outers ≡ [] → (closed_to h keep n).outers ≡ []
closed_none h keep n none = ap (λ os. outers_of (closing h keep os n.entries)) none

pub puts_none : (put : List Entry → List Entry) (w v : Inner) (p q : Noted) → Puts put w v p q → w.nest.outers ≡ [] → v.nest.outers ≡ []
puts_none put w v p q x none = ap outers_of x.nest ∙ closed_none w.hart (frames_at v.live.state w.hart) w.nest none

-- what is put is behind the whole history
pub puts_push : (more : List Entry) (w v : Inner) (p q : Noted) → Puts (λ es. es ++ more) w v p q → flat v.hart v.nest ≡ flat w.hart w.nest ++ more
puts_push more w v p q x =
    let c = closed_to w.hart (frames_at v.live.state w.hart) w.nest in
    (λ i. flat (x.hart i) (x.nest i)) ∙ flat_push w.hart c.outers c.entries more
    ∙ ap (λ es. es ++ more) (flat_closed w.hart (frames_at v.live.state w.hart) w.nest.outers w.nest.entries)

pub puts_acts : (n : ℕ) (w v : Inner) (p q : Noted) → Puts (with_acts w.hart n) w v p q → flat v.hart v.nest ≡ with_acts w.hart n (flat w.hart w.nest)
puts_acts n w v p q x =
    let c = closed_to w.hart (frames_at v.live.state w.hart) w.nest in
    (λ i. flat (x.hart i) (x.nest i)) ∙ flat_acts w.hart n c.outers c.entries
    ∙ ap (with_acts w.hart n) (flat_closed w.hart (frames_at v.live.state w.hart) w.nest.outers w.nest.entries)

-- how entries are added to open calls: from a state with some memory to another
abbrev pub Adds : State → ℕ → (List Entry → List Entry) → State → AddressSpace → State → AddressSpace → Type 0
Adds start h put s m t n =
    (os : List Level) (es : List Entry) (ns more : List Note) → Stacked CanReturn start h os es ns s m → length os ≤ frames_at t h → (0 < length os → undone put_back more n ≡ m)
    → Stacked CanReturn start h os (put es) (ns ++ more) t n

-- what is kept, by where it leads
pub puts : (start : State) (told : Seen) (w v : Inner) (p q : Noted) (put : List Entry → List Entry) (t : State) → Holds start told w p → IsGoing w → v.live.state ≡ t
    → frames_at t w.hart ≤ frames_at w.live.state w.hart → (0 < frames_at t w.hart → IsUnder t w.hart) → is_alone t w.hart ≡ true
    → Adds start w.hart put w.live.state (space_of w.live) t (space_of v.live) → Puts put w v p q → Holds start told v q
puts start told w v p q put t k g to fewer under alone adds x =
    let h = w.hart in
    let n = w.nest in
    let keep = frames_at v.live.state h in
    let c = closed_to h keep n in
    let level = g.framed in
    let same : keep ≡ frames_at t h = ap (λ (z : State). frames_at z h) to in
    let depth : length c.outers ≡ keep = depth_closed h keep n.outers n.entries (omega (arith, fewer, same, level)) in
    let length_v : length v.nest.outers ≡ length c.outers = ap (λ (m : Nest). length m.outers) x.nest in
    let stacked = adds c.outers c.entries p.notes x.notes (closes_to CanReturn start h keep n.outers n.entries p.notes w.live.state (space_of w.live) k.stacked) (omega (arith, depth, same))
    (λ some. x.undoes (omega (arith, some, depth, same, fewer, level))) in
    let all = ap gone_in x.behind ∙ gone_in-append p.notes x.notes in
    let before = k.gone in
    let spare = x.gone in
    let own : frames_at v.live.state v.hart ≡ keep = ap (λ (i : ℕ). frames_at v.live.state i) x.hart in
    record {
      starts = k.starts;
      stacked = subst (λ (y : ℕ × Nest × List Note × State). Stacked CanReturn start y.0 y.1.outers y.1.entries y.2 y.3 (space_of v.live)) (λ i. (sym x.hart i, sym x.nest i, sym x.behind i, sym to i)) stacked;
      gone = omega (arith, all, before, spare);
      calm = λ outers going kept.
          let empty : length v.nest.outers ≡ 0 = ap length outers in
          subst (λ (z : State). is_quiet z ≡ true) (sym to) (alone_quiet t h alone (omega (arith, empty, length_v, depth, same)));
      called = λ some. record {
        under = subst (λ (y : State × ℕ). IsUnder y.0 y.1) (λ i. (sym to i, sym x.hart i)) (under (omega (arith, some, length_v, depth, same)));
        framed = own ∙ sym depth ∙ sym length_v;
        kept = x.kept ∙ g.kept;
      };
    }

-- so many acts, and an entry, are added

pub adds_acts : (start : State) (h n : ℕ) (s : State) (m : AddressSpace) (to : AddressSpace) → 0 < n → may_act s h ≡ true → can_run s h n ≡ true → Adds start h (with_acts h n) s m (ran s h n) to
adds_acts start h n s m to some may goes os es ns more is deep undoes = acts CanReturn start h os n es ns more s m to is some may goes deep undoes

pub adds_entry : (start : State) (h : ℕ) (e : Entry) (s : State) (m : AddressSpace) (to : AddressSpace) → is_of h e ≡ true → legal s e ≡ true → Adds start h (λ es. es ++ e ∷ []) s m (after s e) to
adds_entry start h e s m to own ok os es ns more is deep undoes = pushes CanReturn start h os es ns more e s m to is own ok deep undoes
