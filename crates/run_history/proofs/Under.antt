-- While a hart has a frame open the run goes on, it is ready and no other has one: so before each
-- entry of its call, and after it.
use Rattle.std.proofs.Common.{◌≡◌, ℕ, ◌<◌, true, false, ◌∙◌}
use Rattle.guest_words.specs.declared.fault.Fault.{Fault as FaultAt}
use Rattle.guest_words.specs.declared.point.PointRef.{PointRef}
use Rattle.guest_words.specs.declared.record.Record.{Record}
use Rattle.guest_words.specs.Endings.{is_budget_spent}
use Rattle.guest_words.specs.State.{State, enter, frames_at}
use Rattle.run_history.specs.After.{called, next, ran, rescued_from}
use Rattle.run_history.specs.Legal.{may_act}
use Rattle.run_history.specs.Under.{IsUnder}
use Rattle.run_history.proofs.EnteredFrames.{alone_entered}
use Rattle.run_history.proofs.Entries.{may-alone, may-going, may-ready, may_by}
use Rattle.run_history.proofs.Quietness.{alone_called, alone_next_act, alone_ran, alone_rescued}
use Rattle.run_history.proofs.Readiness.{called_ready, entered_ready, next_ready, ran_ready, rescued_ready}
use Rattle.run_history.proofs.Staying.{called_ending, entered_ending, next_ending, ran_ending, rescued_ending}

-- such a hart may act while the budget isn't spent, and a hart that may act is one
pub may_under : (s : State) (h : ℕ) → IsUnder s h → is_budget_spent s ≡ false → may_act s h ≡ true
may_under s h k fresh = may_by s h k.going fresh k.ready k.alone

pub is_under : (s : State) (h : ℕ) → may_act s h ≡ true → IsUnder s h
is_under s h may = record { going = may-going s h may; ready = may-ready s h may; alone = may-alone s h may }

module _ (s : State) (h : ℕ) (k : IsUnder s h) where
  pub next_under : 0 < frames_at (next s h) h → IsUnder (next s h) h
  next_under some = record {
    going = next_ending s h ∙ k.going;
    ready = next_ready s h k.ready some;
    alone = alone_next_act s h h k.alone;
  }

  pub ran_under : (n : ℕ) → 0 < frames_at (ran s h n) h → IsUnder (ran s h n) h
  ran_under n some = record {
    going = ran_ending s h n ∙ k.going;
    ready = ran_ready s h n k.ready some;
    alone = alone_ran s h n h k.alone;
  }

  pub called_under : (call : Record) → IsUnder (called s h call) h
  called_under call = record {
    going = called_ending s h call ∙ k.going;
    ready = called_ready s h call k.ready;
    alone = alone_called s h h call k.alone;
  }

  pub entered_under : (p : PointRef) → IsUnder (enter s h p) h
  entered_under p = record {
    going = entered_ending s h p ∙ k.going;
    ready = entered_ready s h p k.ready;
    alone = alone_entered s h p k.alone;
  }

  pub rescued_under : (p : PointRef) (f : FaultAt) (t : State) → IsUnder (rescued_from s h p f t) h
  rescued_under p f t = record {
    going = rescued_ending s h p f t ∙ k.going;
    ready = rescued_ready s h p f t k.ready;
    alone = alone_rescued s h h p f t k.alone;
  }
