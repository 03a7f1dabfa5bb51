-- The smallest program's history is a run: two instructions, and an exit with 7.
use Rattle.std.proofs.Common.{◌≡◌, ℕ, ◌-◌, ◌%◌, ◌==◌, ◌&&◌, nat_le, nat_lt, true, false, if◌then◌else◌, List, [], ◌∷◌, refl, ap, ◌∙◌, Option, Some, None, arith, slice_index, slice_set, replicate}
use Rattle.std.proofs.lemmas.Bool.{and_from}
use Rattle.guest_words.specs.declared.act.Act.TheVariants.{Next, Call}
use Rattle.guest_words.specs.declared.call.Request.TheVariants.{Exit as Exiting}
use Rattle.guest_words.specs.declared.ending.Ending.TheVariants.{Exit}
use Rattle.guest_words.specs.declared.hart.Hart.{Hart}
use Rattle.guest_words.specs.declared.image.Cell.{Cell}
use Rattle.guest_words.specs.Act.{Ordinary, End, act_of, act_of_call, in_state}
use Rattle.guest_words.specs.CallChanges.{facts_of}
use Rattle.guest_words.specs.Calls.{reply_of, request_of}
use Rattle.guest_words.specs.HartAct.{act_of_inst, arrived_or, fetched_act, hart_act}
use Rattle.guest_words.specs.Harts.{close_frames}
use Rattle.guest_words.specs.Instructions.{instruction_of, row_of}
use Rattle.guest_words.specs.Points.{active_at}
use Rattle.guest_words.specs.Space.{Space, can_execute, number_at, number_of}
use Rattle.guest_words.specs.Start.{first_hart, gathered, slot_of}
use Rattle.guest_words.specs.State.{State, changed}
use Rattle.guest_words.proofs.StartMemory.{get-gathered}
use Rattle.run_history.specs.declared.entry.Entry.{Ran, Ended}
use Rattle.run_history.specs.After.{after}
use Rattle.run_history.specs.Legal.{can_run}
use Rattle.run_history.specs.Run.{IsRun, is_run}
use Rattle.run_history.proofs.Entries.{legal-Exit, legal-Ran}
use Rattle.run_history.proofs.Fetches.{HasCells, bytes_at-cells, each_has-cells, fetched_act-word}
use Rattle.run_history.proofs.RunSteps.{can_run-none, can_run-ordinary, ran-none, ran-ordinary}

-- the program's bytes, from 0x10000 on
abbrev program : List ℕ
program = 0x93 ∷ 0x08 ∷ 0xd0 ∷ 0x05 ∷ 0x13 ∷ 0x05 ∷ 0x70 ∷ 0x00 ∷ 0x73 ∷ 0x00 ∷ 0x00 ∷ 0x00 ∷ []

abbrev text_cell : ℕ → Option Cell
text_cell a =
    if nat_le 0x10000 a && nat_lt a 0x1000c
    then Some (record { byte = slice_index program (a - 0x10000); rights = record { read = true; write = false; exec = true } })
    else None

unfoldable pub memory : Space
memory = gathered text_cell 0x20000

has_text : HasCells memory text_cell 0x20000
unfolding memory
has_text a below = get-gathered text_cell 0x20000 a below

abbrev hart_with : ℕ → ℕ → ℕ → Hart
hart_with pc x10 x17 =
    record (first_hart pc) { regs = slice_set (slice_set (slice_set (replicate 32 0) 2 0x3fffffffc0) 10 x10) 17 x17 }

abbrev state_with : Hart → ℕ → State
state_with hart steps =
    record {
      memory = memory;
      low = 0x11000;
      brk = 0x11000;
      slots = slot_of hart ∷ [];
      waiting = [];
      next_tid = 2;
      records = [];
      steps = steps;
      ending = None;
      points = [];
      ports = 0;
      budget = 5000000;
    }

abbrev h0 : Hart
h0 = hart_with 0x10000 0 0

abbrev h1 : Hart
h1 = hart_with 0x10004 0 93

abbrev h2 : Hart
h2 = hart_with 0x10008 7 93

-- the three words can be fetched
exec0 : can_execute memory 0x10000 4 ≡ true
exec0 = each_has-cells memory text_cell 0x20000 has_text (λ r. r.exec) 0x10000 4 (omega arith)

exec1 : can_execute memory 0x10004 4 ≡ true
exec1 = each_has-cells memory text_cell 0x20000 has_text (λ r. r.exec) 0x10004 4 (omega arith)

exec2 : can_execute memory 0x10008 4 ≡ true
exec2 = each_has-cells memory text_cell 0x20000 has_text (λ r. r.exec) 0x10008 4 (omega arith)

word0 : number_at memory 0x10000 4 ≡ 0x05d00893
word0 = ap number_of (bytes_at-cells memory text_cell 0x20000 has_text 0x10000 4 (omega arith))

word1 : number_at memory 0x10004 4 ≡ 0x00700513
word1 = ap number_of (bytes_at-cells memory text_cell 0x20000 has_text 0x10004 4 (omega arith))

word2 : number_at memory 0x10008 4 ≡ 0x00000073
word2 = ap number_of (bytes_at-cells memory text_cell 0x20000 has_text 0x10008 4 (omega arith))

-- what a hart with no frame does, by the word that it fetches
act-of_word : (hart : Hart) (word : ℕ) → hart.arrived ≡ false → (hart.pc % 4 == 0) ≡ true → can_execute memory hart.pc 4 ≡ true → number_at memory hart.pc 4 ≡ word
    → hart_act memory [] 0 hart ≡ act_of_inst memory hart (instruction_of word)
unfolding hart_act
act-of_word hart word still even may is =
    ap (λ b. arrived_or (if b && nat_lt 0 16 then active_at [] hart.pc else None) (fetched_act memory hart)) still
    ∙ fetched_act-word memory hart word even may is

-- x17 becomes 93
act0 : hart_act memory [] 0 h0 ≡ Next h1 None
unfolding act_of_inst instruction_of row_of
act0 = act-of_word h0 0x05d00893 refl refl exec0 word0

-- x10 becomes 7
act1 : hart_act memory [] 0 h1 ≡ Next h2 None
unfolding act_of_inst instruction_of row_of
act1 = act-of_word h1 0x00700513 refl refl exec1 word1

-- an exit with 7
act2 : hart_act memory [] 0 h2 ≡ Call (Exiting 7)
unfolding act_of_inst instruction_of row_of request_of
act2 = act-of_word h2 0x00000073 refl refl exec2 word2

does0 : (steps : ℕ) → act_of (state_with h0 steps) 0 ≡ Ordinary (state_with h1 steps)
unfolding act_of changed close_frames
does0 steps = ap (in_state (state_with h0 steps) 0) act0

does1 : (steps : ℕ) → act_of (state_with h1 steps) 0 ≡ Ordinary (state_with h2 steps)
unfolding act_of changed close_frames
does1 steps = ap (in_state (state_with h1 steps) 0) act1

does2 : (steps : ℕ) → act_of (state_with h2 steps) 0 ≡ End 7
unfolding act_of act_of_call reply_of facts_of
does2 steps = ap (in_state (state_with h2 steps) 0) act2

-- after two instructions the state has two steps more
ran_two : after (state_with h0 0) (Ran 0 2) ≡ state_with h2 2
unfolding after
ran_two =
    ran-ordinary (state_with h0 0) (state_with h1 0) 0 1 (does0 0) ∙ ran-ordinary (state_with h1 1) (state_with h2 1) 0 0 (does1 1)
    ∙ ran-none (state_with h2 2) 0

can_run_two : can_run (state_with h0 0) 0 2 ≡ true
can_run_two =
    can_run-ordinary (state_with h0 0) (state_with h1 0) 0 1 refl refl (does0 0)
    (can_run-ordinary (state_with h1 1) (state_with h2 1) 0 0 refl refl (does1 1) (can_run-none (state_with h2 2) 0))

-- the history of the smallest program: two instructions, and an exit with 7
pub smallest_program-is_a_run : IsRun (state_with h0 0) (Ran 0 2 ∷ Ended (Exit 0 7) ∷ [])
smallest_program-is_a_run =
    and_from _ _ (legal-Ran (state_with h0 0) 0 2 refl (omega arith) can_run_two)
    (ap (λ s. is_run s (Ended (Exit 0 7) ∷ [])) ran_two
    ∙ and_from _ _ (legal-Exit (state_with h2 2) 0 7 refl (does2 2)) refl)
