-- The end of a run, and a machine that isn't to go on: the entries of all open calls are plain ones.
use Rattle.std.proofs.Common.{◌≡◌, ℕ, Bool, true, false, nat_lt, if◌then◌else◌, List, [], ◌∷◌, ◌++◌, length, None, Some, refl, ap, sym, ◌∙◌, subst, arith}
use Rattle.std.proofs.lemmas.Bool.Decides.{nat_tests}
use Rattle.guest_words.specs.declared.ending.Ending.{Ending}
use Rattle.guest_words.specs.State.{State}
use Rattle.edge_ports.specs.Seen.{Seen}
use Rattle.undo_log.specs.Noted.{Noted}
use Rattle.undo_log.specs.Undo.{gone_in}
use Rattle.run_history.specs.declared.entry.Entry.{Entry, Ended}
use Rattle.run_history.specs.After.{after}
use Rattle.run_history.specs.Legal.{legal}
use Rattle.run_history.proofs.Appends.{is_run-push, state_after-push}
use Rattle.run_history.proofs.Entries.{after-Ended}
use Rattle.hart_step.specs.Live.{space_of}
use Rattle.hart_step.specs.Returns.{CanReturn}
use Rattle.open_calls.specs.Nest.{Level, Nest, closed_to, closing, flat, flat_from, joined}
use Rattle.open_calls.specs.Stacked.{Stacked}
use Rattle.open_calls.proofs.Nests.{flat_all}
use Rattle.machine_core.specs.Inner.{Holds, Inner, machine_in, opened_in, whole_in}
use Rattle.machine_core.specs.Machine.{whole}
use Rattle.machine_core.specs.OpenSteps.{abandoned_of}
use Rattle.machine_core.specs.QuietSteps.{EndsBy}
use Rattle.machine_core.proofs.Holding.{run_so_far}

abbrev outers_of : Nest → List Level
outers_of n = n.outers

-- where none stays, none is open
pub none_open : (h : ℕ) (os : List Level) (es : List Entry) → (closing h 0 os es).outers ≡ []
none_open h [] es = refl
none_open h (o ∷ os) es =
    let l : nat_lt (length os) 0 ≡ false = grind (arith, nat_tests) in
    ap (λ (b : Bool). outers_of (if b then record { outers = o ∷ os; entries = es } else closing h 0 os (joined h o es))) l
    ∙ none_open h os (joined h o es)

module _ (start : State) (told : Seen) (w v : Inner) (p q : Noted) (k : Holds start told w p) where
  -- the run ends

  module _ (x : Ending) (ok : legal w.live.state (Ended x) ≡ true) (live : v.live ≡ record w.live { state = record w.live.state { ending = Some x } })
      (nest : let n = closed_to w.hart 0 w.nest in v.nest ≡ record n { entries = n.entries ++ Ended x ∷ [] }) where
    to : v.live.state ≡ after w.live.state (Ended x)
    to = ap (λ l. l.state) live ∙ sym (after-Ended w.live.state x)

    pub ended_none : v.nest.outers ≡ []
    ended_none = ap outers_of nest ∙ none_open w.hart w.nest.outers w.nest.entries

    entries : v.nest.entries ≡ flat w.hart w.nest ++ Ended x ∷ []
    entries = ap (λ (n : Nest). n.entries) nest ∙ ap (λ es. es ++ Ended x ∷ []) (flat_all w.hart w.nest.outers w.nest.entries)

    pub ends_hold : q.notes ≡ p.notes → Holds start told v q
    ends_hold same =
        let es = flat w.hart w.nest in
        let run = run_so_far start told w p k in
        let gone = ap gone_in same in
        let before = k.gone in
        let spare = ap (λ l. l.spare) live in
        record {
          starts = k.starts;
          stacked = subst (λ (y : List Level × List Entry × State). Stacked CanReturn start v.hart y.0 y.1 q.notes y.2 (space_of v.live)) (λ i. (sym ended_none i, sym entries i, sym to i))
              (is_run-push start es (Ended x) run.0 (ap (λ s. legal s (Ended x)) run.1 ∙ ok), state_after-push start es (Ended x) ∙ ap (λ s. after s (Ended x)) run.1);
          gone = omega (arith, gone, before, spare);
          calm = λ outers going kept. let over : Some x ≡ None = sym (ap (λ l. l.state.ending) live) ∙ going in cc;
          called = λ some. let empty = ap length ended_none in absurd (omega (arith, some, empty));
        }

    pub ends : v.abandoned ≡ w.abandoned → (d : Seen) → EndsBy x (whole_in w d) (whole_in v d)
    ends kept d = record {
      legal = ok;
      same = (λ i. record { history = flat_from v.hart (ended_none i) v.nest.entries; state = v.live.state; devices = d; abandoned = v.abandoned })
          ∙ (λ i. record { history = entries i; state = to i; devices = d; abandoned = kept i });
    }

  -- it isn't to go on

  module _ (live : v.live ≡ w.live) (nest : v.nest ≡ closed_to w.hart 0 w.nest) (given_up : v.abandoned ≡ true) where
    pub left_none : v.nest.outers ≡ []
    left_none = ap outers_of nest ∙ none_open w.hart w.nest.outers w.nest.entries

    left_entries : v.nest.entries ≡ flat w.hart w.nest
    left_entries = ap (λ (n : Nest). n.entries) nest ∙ flat_all w.hart w.nest.outers w.nest.entries

    pub left_hold : q.notes ≡ p.notes → Holds start told v q
    left_hold same =
        let run = run_so_far start told w p k in
        let gone = ap gone_in same in
        let before = k.gone in
        let spare = ap (λ l. l.spare) live in
        record {
          starts = k.starts;
          stacked = subst (λ (y : List Level × List Entry × State). Stacked CanReturn start v.hart y.0 y.1 q.notes y.2 (space_of v.live)) (λ i. (sym left_none i, sym left_entries i, (sym live i).state))
              (run.0, run.1);
          gone = omega (arith, gone, before, spare);
          calm = λ outers going kept. let not_so : true ≡ false = sym given_up ∙ kept in cc;
          called = λ some. let empty = ap length left_none in absurd (omega (arith, some, empty));
        }

    pub left : (d : Seen) → machine_in v d ≡ abandoned_of (whole (opened_in w d))
    left d = λ i. record { history = left_entries i; state = (live i).state; devices = d; abandoned = given_up i }

-- the notes are forgotten where no call is open
pub rests : (start : State) (told : Seen) (w v : Inner) (p q : Noted) → Holds start told w p → w.nest.outers ≡ [] → v ≡ record w { notes = [] } → q.notes ≡ [] → Holds start told v q
rests start told w v p q k none same empty =
    let n = w.nest in
    let m = space_of w.live in
    subst (λ (x : Inner). Holds start told x q) (sym same) (record {
      starts = k.starts;
      stacked = subst (λ os. Stacked CanReturn start w.hart os n.entries q.notes w.live.state m) (sym none)
          (subst (λ os. Stacked CanReturn start w.hart os n.entries p.notes w.live.state m) none k.stacked);
      gone = let no = ap gone_in empty in omega (arith, no);
      calm = k.calm;
      called = λ some. let few = ap length none in absurd (omega (arith, some, few));
    })
