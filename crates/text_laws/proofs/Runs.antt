-- A run changes no instruction.
use Rattle.std.proofs.Common.{◌≡◌, ℕ, zero, suc, true, false, List, [], ◌∷◌, length, refl, ap}
use Rattle.guest_words.specs.declared.record.Record.{Record}
use Rattle.guest_words.specs.declared.record.Way.{Way}
use Rattle.guest_words.specs.declared.record.Way.TheVariants as way
use Rattle.guest_words.specs.Act.{StateAct, Ordinary, Fault, Request, Arrival, End, Absent, act_of, fits, is_same_way}
use Rattle.guest_words.specs.State.{State, enter}
use Rattle.run_history.specs.declared.entry.Entry.{Entry, Ran, Entered, Called, Rescued', Ended}
use Rattle.run_history.specs.After.{after, called, next, placed, ran, read_place, rescued_from, state_after, with_record}
use Rattle.run_history.specs.Legal.{legal, may_act}
use Rattle.run_history.specs.Run.{is_run}
use Rattle.run_history.proofs.Ands.{and_left, and_right}
use Rattle.run_history.proofs.Requests.{fits_short, request_servable}
use Rattle.text_laws.specs.Texts.{IsTextSafe, TextStays}
use Rattle.text_laws.proofs.Acts.{TextKept, kept_both, next_kept, safe_after}
use Rattle.text_laws.proofs.Memories.{KeepsText, inst_same, keeps_same, lacks_written, stored_keeps}

ran_kept : (n : ℕ) (s : State) (h : ℕ) → IsTextSafe s → TextKept s (ran s h n)
unfolding ran
ran_kept zero s h safe = (keeps_same s.memory, refl, safe.heap)
ran_kept (suc n) s h safe =
    let first = next_kept s h safe in
    kept_both s (next s h) (ran (next s h) h n) first (ran_kept n (next s h) h (safe_after s (next s h) safe first))

fits_way : (s : State) (w : Way) (fd asked place : ℕ) (call : Record) → fits s (Request w fd asked place) call ≡ true → is_same_way call.way w ≡ true
fits_way s w fd asked place call fit = and_left _ _ (and_left _ _ (and_left _ _ fit))

-- the bytes of a read are no more than were asked for, at a place that can be written
placed_kept : (s : State) (h : ℕ) (call : Record) → IsTextSafe s → fits s (act_of s h) call ≡ true
    → TextKept s (placed (with_record s call) call.way (read_place (act_of s h)) call.bytes)
placed_kept s h call safe fit = by call.way refl
  where
    read : (a : StateAct) → act_of s h ≡ a → call.way ≡ way.Read → fits s a call ≡ true → KeepsText s.memory (placed (with_record s call) way.Read (read_place a) call.bytes).memory
    read (Ordinary t) at is fit = cc
    read (Fault name) at is fit = cc
    read (Request way.Read fd asked place) at is fit =
        let may = (request_servable s h way.Read fd asked place at).way in
        stored_keeps s.memory place call.bytes
        (lacks_written s.memory place asked (length call.bytes) safe.apart may.2 (fits_short s way.Read fd asked place call fit))
    read (Request way.Write fd asked place) at is fit =
        let same : is_same_way call.way way.Write ≡ true = fits_way s way.Write fd asked place call fit in
        let other : is_same_way call.way way.Write ≡ false = ap (λ (w : Way). is_same_way w way.Write) is in
        cc
    read (Request way.Close fd asked place) at is fit =
        let same : is_same_way call.way way.Close ≡ true = fits_way s way.Close fd asked place call fit in
        let other : is_same_way call.way way.Close ≡ false = ap (λ (w : Way). is_same_way w way.Close) is in
        cc
    read (Arrival point) at is fit = cc
    read (End code) at is fit = cc
    read Absent at is fit = cc

    by : (w : Way) → call.way ≡ w → TextKept s (placed (with_record s call) w (read_place (act_of s h)) call.bytes)
    by way.Read is = (read (act_of s h) refl is fit, refl, safe.heap)
    by way.Write is = (keeps_same s.memory, refl, safe.heap)
    by way.Close is = (keeps_same s.memory, refl, safe.heap)

-- a call that is taken back leaves memory as it was at its entry
after_kept : (s : State) (e : Entry) → legal s e ≡ true → IsTextSafe s → TextKept s (after s e)
unfolding legal after called enter rescued_from
after_kept s (Ran h n) is safe = ran_kept n s h safe
after_kept s (Entered h p) is safe = (keeps_same s.memory, refl, safe.heap)
after_kept s (Called h call) is safe = placed_kept s h call safe (and_right (may_act s h) _ is)
after_kept s (Rescued' h p f shape inside) is safe = (keeps_same s.memory, refl, safe.heap)
after_kept s (Ended x) is safe = (keeps_same s.memory, refl, safe.heap)

run_kept : (s : State) (es : List Entry) → is_run s es ≡ true → IsTextSafe s → TextKept s (state_after s es)
run_kept s [] run safe = (keeps_same s.memory, refl, safe.heap)
run_kept s (e ∷ es) run safe =
    let first = after_kept s e (and_left _ _ run) safe in
    kept_both s (after s e) (state_after (after s e) es) first
    (run_kept (after s e) es (and_right _ _ run) (safe_after s (after s e) safe first))

pub text_stays : TextStays
text_stays start es safe run = inst_same start.memory (state_after start es).memory (run_kept start es run safe).0
