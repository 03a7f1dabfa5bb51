-- A call on a device, and acts in a row: what they keep, and where they lead.
use Rattle.std.proofs.Common.{◌≡◌, ℕ, ◌+◌, ◌<◌, ◌≤◌, true, false, [], ◌∷◌, ◌++◌, length, max, refl, ap, sym, ◌∙◌, subst, eq-eqb}
use Rattle.guest_words.specs.declared.record.Record.{Record}
use Rattle.guest_words.specs.Act.{StateAct, Ordinary, Fault, Request, Arrival, End, Absent, act_of, fits}
use Rattle.guest_words.specs.Endings.{is_budget_spent}
use Rattle.guest_words.specs.State.{State, frames_at}
use Rattle.edge_ports.specs.DevicesMatch.{DevicesMatch}
use Rattle.edge_ports.specs.Seen.{Seen, open_ports}
use Rattle.undo_log.specs.Noted.{Noted}
use Rattle.run_history.specs.declared.entry.Entry.{Called}
use Rattle.run_history.specs.After.{after, called, ran}
use Rattle.run_history.specs.Ahead.{ahead}
use Rattle.run_history.specs.LastEntry.{with_acts}
use Rattle.run_history.specs.Legal.{can_run, is_alone, is_ordinary, legal, may_act}
use Rattle.run_history.specs.Under.{IsUnder}
use Rattle.run_history.proofs.Ahead.{ahead_called, ahead_ran}
use Rattle.run_history.proofs.Entries.{after-Called, after-Ran, goes-first, legal-Called, legal-Ran}
use Rattle.run_history.proofs.FewerFrames.{called_fewer, ran_fewer}
use Rattle.run_history.proofs.Kept.{Fixed, Rest, called_keeps, ran_keeps, state_after_fixed}
use Rattle.run_history.proofs.Quietness.{alone_called, alone_ran}
use Rattle.run_history.proofs.StepsAfter.{can_ordinary}
use Rattle.run_history.proofs.Under.{called_under, may_under, ran_under}
use Rattle.hart_step.specs.Live.{space_of}
use Rattle.hart_step.specs.Noted.{notes_for}
use Rattle.open_calls.specs.Nest.{flat}
use Rattle.machine_core.specs.Inner.{Holds, Inner, IsGoing, opened_in, whole_in}
use Rattle.machine_core.specs.Kept.{HasDevices}
use Rattle.machine_core.specs.OpenSteps.{Acts, Does, DoesBy, StaysOpen}
use Rattle.machine_core.specs.QuietSteps.{CallsOn}
use Rattle.machine_core.specs.Served.{OpenOnes, ServedBy}
use Rattle.machine_core.specs.Under.{Goes}
use Rattle.machine_core.proofs.Calls.{kept_served, open_ones}
use Rattle.machine_core.proofs.Growing.{acted_notes}
use Rattle.machine_core.proofs.Holding.{Puts, adds_acts, adds_entry, puts, puts_acts, puts_fewer, puts_push, puts_under, run_so_far, within}

-- what the records leave open is open
pub holds_open : (start : State) (told d : Seen) (w : Inner) (p : Noted) (shuts : ℕ) → Holds start told w p → HasDevices told w d shuts → OpenOnes w.live.state d
holds_open start told d w p shuts k devices =
    open_ones start told w.live.state d k.starts
    (ap (λ (s : State). s.ports) (sym (run_so_far start told w p k).1) ∙ ap (λ (f : Fixed). f.ports) (state_after_fixed start (flat w.hart w.nest))) devices.matches

module _ (start : State) (told : Seen) (w v : Inner) (p q : Noted) (k : Holds start told w p) (g : IsGoing w) (fresh : is_budget_spent w.live.state ≡ false) where
  h : ℕ
  h = w.hart

  may : may_act w.live.state w.hart ≡ true
  may = may_under w.live.state w.hart g.under fresh

  -- a call on a device

  module _ (call : Record) (fit : fits w.live.state (act_of w.live.state w.hart) call ≡ true) (to : v.live.state ≡ called w.live.state w.hart call) (x : Puts (λ es. es ++ Called w.hart call ∷ []) w v p q) where
    ok : legal w.live.state (Called w.hart call) ≡ true
    ok = legal-Called w.live.state w.hart call may fit

    to_after : v.live.state ≡ after w.live.state (Called w.hart call)
    to_after = to ∙ sym (after-Called w.live.state w.hart call)

    pub asks_hold : Holds start told v q
    asks_hold =
        let s = w.live.state in
        let e = Called w.hart call in
        puts start told w v p q (λ es. es ++ e ∷ []) (after s e) k g to_after
        (subst (λ (t : State). frames_at t w.hart ≤ frames_at s w.hart) (sym (after-Called s w.hart call)) (called_fewer s w.hart call w.hart))
        (λ some. subst (λ t. IsUnder t w.hart) (sym (after-Called s w.hart call)) (called_under s w.hart g.under call))
        (ap (λ t. is_alone t w.hart) (after-Called s w.hart call) ∙ alone_called s w.hart w.hart call g.under.alone)
        (adds_entry start w.hart e s (space_of w.live) (space_of v.live) (eq-eqb w.hart w.hart refl) ok) x

    pub asks : (d e : Seen) → ServedBy call d e → CallsOn w.hart (whole_in w d) (whole_in v e)
    asks d e served = record {
      call = call;
      legal = ok;
      served = served;
      same = λ i. record {
        history = puts_push (Called w.hart call ∷ []) w v p q x i;
        state = to_after i;
        devices = e;
        abandoned = x.kept i;
      };
    }

    pub asks_devices : (d e : Seen) (shuts now : ℕ) → HasDevices told w d shuts → ServedBy call d e → open_ports e ≤ now → HasDevices told v e now
    asks_devices d e shuts now devices served few = record {
      matches = subst (λ rs. DevicesMatch told e 0 rs) (sym (ap (λ (s : State). s.records) to ∙ ap (λ (r : Rest). r.records) (called_keeps w.live.state w.hart call))) (kept_served told d e w.live.state.records call devices.matches served);
      closes = few;
    }

    pub asks_nearer : ahead v.live.state w.hart < ahead w.live.state w.hart
    asks_nearer = subst (λ (t : State). ahead t w.hart < ahead w.live.state w.hart) (sym to_after) (ahead_called w.live.state w.hart call ok (within start told w p k))

  -- acts in a row

  module _ (n : ℕ) (some : 0 < n) (goes : can_run w.live.state w.hart n ≡ true) (to : v.live.state ≡ ran w.live.state w.hart n) (x : Puts (with_acts w.hart n) w v p q) where
    pub acts_hold : Holds start told v q
    acts_hold =
        let s = w.live.state in
        puts start told w v p q (with_acts w.hart n) (ran s w.hart n) k g to (ran_fewer s w.hart n w.hart) (ran_under s w.hart g.under n)
        (alone_ran s w.hart n w.hart g.under.alone) (adds_acts start w.hart n s (space_of w.live) (space_of v.live) some may goes) x

    pub acts_records : v.live.state.records ≡ w.live.state.records
    acts_records = ap (λ (s : State). s.records) to ∙ ap (λ (r : Rest). r.records) (ran_keeps w.live.state w.hart n)

    pub acts_nearer : ahead v.live.state w.hart < ahead w.live.state w.hart
    acts_nearer =
        let s = w.live.state in
        subst (λ (t : State). ahead t w.hart < ahead s w.hart) (after-Ran s w.hart n ∙ sym to)
        (ahead_ran s w.hart n (legal-Ran s w.hart n may some goes) (within start told w p k))

    pub acts_goes : StaysOpen w.live.state w.hart n → length v.notes ≤ length w.notes + max (notes_for w.live.state w.hart) n → (d : Seen) → Goes start w d v d
    acts_goes stays few d =
        let s = w.live.state in
        let does : Acts (opened_in w d) (whole_in v d) = record {
          count = n;
          some = some;
          goes = goes;
          stays = stays;
          same = λ i. record {
            history = puts_acts n w v p q x i;
            state = to i;
            devices = d;
            abandoned = (x.kept ∙ g.kept) i;
          };
        } in
        record {
          steps = subst (λ b. DoesBy start (opened_in w d) b (whole_in v d)) (sym fresh) (by (act_of s w.hart) (can_ordinary s w.hart (goes-first s w.hart n some goes)) does);
          under = puts_under (with_acts w.hart n) w v p q x;
          notes = acted_notes w v d d (puts_fewer (with_acts w.hart n) w v p q x) n (can_ordinary s w.hart (goes-first s w.hart n some goes)) goes to few;
          nearer = λ going. acts_nearer;
        }
      where
        by : {d : Seen} (a : StateAct) → is_ordinary a ≡ true → Acts (opened_in w d) (whole_in v d) → Does start (opened_in w d) a (whole_in v d)
        by (Ordinary t) is does = does
        by (Fault name) is does = cc
        by (Request way port asked place) is does = cc
        by (Arrival point) is does = cc
        by (End code) is does = cc
        by Absent is does = cc
