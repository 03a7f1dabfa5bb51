-- What holds of each machine with no call open, of its start, and of one that can make a turn.
use Rattle.std.proofs.Common.{◌≡◌, ℕ, ◌≤◌, ◌<◌, false, List, [], ◌++◌, length, None, ap, sym, ◌∙◌, subst, arith}
use Rattle.guest_words.specs.declared.limits.TheConstants.{BUDGET}
use Rattle.guest_words.specs.declared.image.Image.{Image}
use Rattle.guest_words.specs.declared.point.Point.{Point}
use Rattle.guest_words.specs.declared.record.Record.{Record}
use Rattle.guest_words.specs.Image.{IsLoadList}
use Rattle.guest_words.specs.Start.{start_of}
use Rattle.guest_words.specs.State.{State}
use Rattle.edge_ports.specs.Seen.{Seen}
use Rattle.undo_log.specs.Noted.{Noted}
use Rattle.run_history.specs.After.{state_after}
use Rattle.run_history.specs.Counts.{records_of_all}
use Rattle.run_history.specs.Quiet.{is_quiet}
use Rattle.run_history.specs.Run.{is_run}
use Rattle.run_history.proofs.Kept.{records_after_all}
use Rattle.run_history.proofs.Quietness.{start_quiet}
use Rattle.run_history.proofs.Staying.{state_after_stays}
use Rattle.open_calls.specs.Nest.{flat, flat_from}
use Rattle.text_laws.specs.Texts.{IsTextSafe}
use Rattle.text_laws.proofs.Start.{start_is_text_safe}
use Rattle.machine_core.specs.Inner.{Holds, Inner, machine_in, whole_in}
use Rattle.machine_core.specs.Machine.{AllOpen, IsAsTold, IsStart, Machine}
use Rattle.machine_core.specs.Turns.{CanTurn}
use Rattle.machine_core.proofs.Holding.{run_so_far, within}

pub is_start : (start : State) (told : Seen) (image : Image) (points : List Point) (harts ports budget : ℕ) → start ≡ start_of image points harts ports budget → IsLoadList image.loads
    → ports ≡ length told.ports → budget ≤ BUDGET → AllOpen told → IsStart start told
is_start start told image points harts ports budget is loads count within none = record {
  records = ap (λ (s : State). s.records) is;
  ending = ap (λ (s : State). s.ending) is;
  quiet = ap is_quiet is ∙ start_quiet image points harts ports budget;
  ports = ap (λ (s : State). s.ports) is ∙ count;
  steps = subst (λ (s : State). s.steps ≤ s.budget) (sym is) (omega arith);
  budget = subst (λ (s : State). s.budget ≤ BUDGET) (sym is) within;
  devices = none;
  text = subst IsTextSafe (sym is) (start_is_text_safe image points harts ports budget loads);
}

-- with no call open the history is the whole one
pub plain : (w : Inner) (d : Seen) → w.nest.outers ≡ [] → machine_in w d ≡ whole_in w d
plain w d none = λ i. record { history = flat_from w.hart (sym none i) w.nest.entries; state = w.live.state; devices = d; abandoned = w.abandoned }

module _ (start : State) (told : Seen) (w : Inner) (p : Noted) (k : Holds start told w p) where
  -- the records are those of the whole history
  pub records_told : records_of_all (flat w.hart w.nest) ≡ w.live.state.records
  records_told =
      let run = run_so_far start told w p k in
      sym (ap (λ (s : State). s.records) (sym run.1) ∙ records_after_all start (flat w.hart w.nest) ∙ ap (λ (rs : List Record). rs ++ records_of_all (flat w.hart w.nest)) k.starts.records)

  pub as_told : w.nest.outers ≡ [] → (d : Seen) → IsAsTold start (machine_in w d)
  as_told none d =
      let run = run_so_far start told w p k in
      let stays = state_after_stays start (flat w.hart w.nest) in
      let entries : w.nest.entries ≡ flat w.hart w.nest = λ i. flat_from w.hart (sym none i) w.nest.entries in
      let budget : w.live.state.budget ≡ start.budget = ap (λ (s : State). s.budget) (sym run.1) ∙ stays.budget in
      let most = k.starts.budget in
      record {
        runs = ap (is_run start) entries ∙ run.0;
        reaches = sym (ap (state_after start) entries ∙ run.1);
        slots = ap (λ (s : State). length s.slots) (sym run.1) ∙ stays.slots;
        within = within start told w p k;
        most = omega (arith, budget, most);
        calm = k.calm none;
      }

-- a machine whose run goes on can make a hart's turn
pub can_turn : (start : State) (w v : Inner) (m : Machine) (d : Seen) (h : ℕ) → v ≡ record w { hart = h } → machine_in w d ≡ m → w.nest.outers ≡ [] → IsAsTold start (machine_in w d)
    → m.state.ending ≡ None → m.abandoned ≡ false → h < length start.slots → CanTurn v
can_turn start w v m d h turned is none told going kept few =
    let slots = told.slots in
    subst CanTurn (sym turned) (record {
      none = none;
      going = ap (λ (x : Machine). x.state.ending) is ∙ going;
      kept = ap (λ (x : Machine). x.abandoned) is ∙ kept;
      within = omega (arith, slots, few);
    })
