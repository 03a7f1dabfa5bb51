-- How the notes of open calls go on, by what was done.
use Rattle.std.proofs.Common.{◌≡◌, ℕ, ◌+◌, ◌<◌, ◌≤◌, true, List, length, max, Some, ap, sym, ◌∙◌, arith}
use Rattle.std.proofs.lemmas.List.{drop_all, length-drop}
use Rattle.guest_words.specs.Act.{StateAct, Ordinary, Fault, Request, Arrival, End, Absent, act_of}
use Rattle.guest_words.specs.State.{State}
use Rattle.edge_ports.specs.Seen.{Seen}
use Rattle.hart_step.specs.declared.next_act.Ask.{Ask}
use Rattle.hart_step.specs.declared.next_act.NextAct.TheVariants as next_act
use Rattle.hart_step.specs.Noted.{notes_for}
use Rattle.hart_step.specs.Sees.{Sees, named}
use Rattle.run_history.specs.After.{ran}
use Rattle.run_history.specs.Legal.{can_run, is_ordinary}
use Rattle.run_history.proofs.StepsAfter.{ran_steps}
use Rattle.open_calls.specs.Nest.{Nest, mark_in}
use Rattle.open_calls.proofs.Leading.{innermost_notes}
use Rattle.undo_log.specs.declared.note.Note.{Note}
use Rattle.machine_core.specs.Inner.{Inner, opened_in}
use Rattle.machine_core.specs.Notes.{IsUnnoted, NotesGoOn, notes_by}

-- the notes from the last mark on are none, or stay none where notes go
pub unnoted_mark : (n : Nest) (ns : List Note) → 0 < length n.outers → length ns ≤ mark_in n → IsUnnoted n ns
unnoted_mark n ns some few = innermost_notes n ns some ∙ drop_all (mark_in n) ns few

pub mark_unnoted : (n : Nest) (ns : List Note) → 0 < length n.outers → IsUnnoted n ns → length ns ≤ mark_in n
mark_unnoted n ns some none =
    let empty = ap length (sym (innermost_notes n ns some) ∙ none) in
    let left = length-drop (mark_in n) ns in
    omega (arith, empty, left)

module _ (w v : Inner) (d e : Seen) where
  -- none came
  pub same_notes : v.notes ≡ w.notes → (length w.nest.outers < length v.nest.outers → IsUnnoted v.nest v.notes) → NotesGoOn (opened_in w d) (opened_in v e)
  same_notes same none = record { few = let all = ap length same in omega (arith, all); none = none }

  module _ (fewer : length v.nest.outers ≤ length w.nest.outers) where
    pub fewer_notes : length v.notes ≤ length w.notes → NotesGoOn (opened_in w d) (opened_in v e)
    fewer_notes few = record { few = omega (arith, few); none = λ more. absurd (omega (arith, more, fewer)) }

    -- those of a call on a device
    pub asked_notes : (ask : Ask) → Sees w.live.state w.hart (next_act.Request ask) → length v.notes ≤ length w.notes + ask.asked → NotesGoOn (opened_in w d) (opened_in v e)
    asked_notes ask sees few = record {
      few = by (act_of w.live.state w.hart) sees;
      none = λ more. absurd (omega (arith, more, fewer));
    }
      where
        by : (a : StateAct) → named a ≡ Some (next_act.Request ask) → length v.notes ≤ length w.notes + notes_by a w.live.state w.hart v.live.state
        by (Ordinary t) is = cc
        by (Fault name) is = cc
        by (Request way port asked place) is = let same : asked ≡ ask.asked = cc in omega (arith, few, same)
        by (Arrival point) is = cc
        by (End code) is = cc
        by Absent is = cc

    -- those of acts in a row
    pub acted_notes : (n : ℕ) → is_ordinary (act_of w.live.state w.hart) ≡ true → can_run w.live.state w.hart n ≡ true → v.live.state ≡ ran w.live.state w.hart n
        → length v.notes ≤ length w.notes + max (notes_for w.live.state w.hart) n → NotesGoOn (opened_in w d) (opened_in v e)
    acted_notes n ordinary goes to few = record {
      few = by (act_of w.live.state w.hart) ordinary;
      none = λ more. absurd (omega (arith, more, fewer));
    }
      where
        made : v.live.state.steps ≡ w.live.state.steps + n
        made = ap (λ (s : State). s.steps) to ∙ ran_steps w.live.state w.hart n goes

        by : (a : StateAct) → is_ordinary a ≡ true → length v.notes ≤ length w.notes + notes_by a w.live.state w.hart v.live.state
        by (Ordinary t) is = let steps = made in omega (arith, few, steps)
        by (Fault name) is = cc
        by (Request way port asked place) is = cc
        by (Arrival point) is = cc
        by (End code) is = cc
        by Absent is = cc
