-- A run whose point is spent: a call is rescued with the code of its fault, and the next call of
-- the point, which has no rescue left, ends the run.
use Rattle.std.proofs.Common.{◌≡◌, ℕ, ◌-◌, ◌&&◌, Bool, nat_le, nat_lt, true, false, if◌then◌else◌, List, [], ◌∷◌, refl, ap, ◌∙◌, Option, Some, None, arith, pos, slice_index, slice_set, replicate}
use Rattle.std.proofs.lemmas.Bool.{and_from}
use Rattle.guest_words.specs.declared.act.Act.TheVariants as act
use Rattle.guest_words.specs.declared.ending.Ending.TheVariants as ending
use Rattle.guest_words.specs.declared.fault.Fault.{Fault as FaultAt}
use Rattle.guest_words.specs.declared.fault.FaultName.TheVariants.{Breakpoint, LoadRights}
use Rattle.guest_words.specs.declared.hart.Frame.{Frame}
use Rattle.guest_words.specs.declared.hart.Hart.{Hart}
use Rattle.guest_words.specs.declared.image.Cell.{Cell}
use Rattle.guest_words.specs.declared.inst.Inst.{Inst}
use Rattle.guest_words.specs.declared.inst.Op.TheVariants.{Ld}
use Rattle.guest_words.specs.declared.point.Kind.TheVariants.{Blocking}
use Rattle.guest_words.specs.declared.point.Point.{Point}
use Rattle.guest_words.specs.declared.point.PointRef.{PointRef}
use Rattle.guest_words.specs.declared.point.Ret.{Ret}
use Rattle.guest_words.specs.declared.point.Ret.TheVariants.{Code}
use Rattle.guest_words.specs.Act.{Ordinary, Fault, Arrival, act_of, in_state}
use Rattle.guest_words.specs.Endings.{is_fault}
use Rattle.guest_words.specs.HartAct.{act_of_inst, fetched_act, hart_act, with_result}
use Rattle.guest_words.specs.Harts.{close_frames}
use Rattle.guest_words.specs.Instructions.{instruction_of, row_of}
use Rattle.guest_words.specs.Space.{Space, can_execute, can_read, number_at, number_of}
use Rattle.guest_words.specs.Start.{first_hart, gathered}
use Rattle.guest_words.specs.State.{State, changed, enter}
use Rattle.guest_words.proofs.StartMemory.{get-gathered}
use Rattle.run_history.specs.declared.entry.Entry.{Ran, Ended}
use Rattle.run_history.specs.declared.entry.Entry.TheViews as v
use Rattle.run_history.specs.After.{after, rescued_from}
use Rattle.run_history.specs.Legal.{ends_in, is_arrival, is_licensed, legal}
use Rattle.run_history.specs.Run.{IsRun, is_run}
use Rattle.run_history.proofs.Entries.{after-Ran, legal-Fault, legal-Ran}
use Rattle.run_history.proofs.Fetches.{HasCells, bytes_at-cells, each_has-cells, fetched_act-word}
use Rattle.run_history.proofs.Insides.{after-Rescued, legal-Rescued}
use Rattle.run_history.proofs.RefusedRescues.{no_licence-for_another_name, no_licence-for_another_place, no_licence-with_an_illegal_entry, rescue_of_an_illegal_inside, rescue_without_a_fault, rescue_without_an_arrival}
use Rattle.run_history.proofs.RunSteps.{can_run-none, can_run-ordinary, ran-none, ran-ordinary}

-- 0x10000 `jal x1, 0x10010`; 0x10004 `jal x1, 0x10010`; 0x10008 and 0x1000c `addi x0, x0, 0`;
-- 0x10010 `ld x7, 0(x0)`
abbrev program : List ℕ
program =
    0xef ∷ 0x00 ∷ 0x00 ∷ 0x01 ∷ 0xef ∷ 0x00 ∷ 0xc0 ∷ 0x00 ∷ 0x13 ∷ 0x00 ∷ 0x00 ∷ 0x00 ∷ 0x13 ∷ 0x00 ∷ 0x00 ∷ 0x00
    ∷ 0x83 ∷ 0x33 ∷ 0x00 ∷ 0x00 ∷ []

abbrev text_cell : ℕ → Option Cell
text_cell a =
    if nat_le 0x10000 a && nat_lt a 0x10014
    then Some (record { byte = slice_index program (a - 0x10000); rights = record { read = true; write = false; exec = true } })
    else None

unfoldable pub memory : Space
memory = gathered text_cell 0x20000

has_text : HasCells memory text_cell 0x20000
unfolding memory
has_text a below = get-gathered text_cell 0x20000 a below

-- the point at 0x10010 returns -4 for a load without the right, and -1 for any other fault
abbrev codes : List Ret
codes =
    let other = Code 0xffffffffffffffff in
    other ∷ other ∷ other ∷ Code 0xfffffffffffffffc ∷ other ∷ other ∷ other ∷ other ∷ []

abbrev points_left : ℕ → List Point
points_left left = record { entry = 0x10010; codes = codes; kind = Blocking; left = Some left } ∷ []

abbrev point : PointRef
point = record { entry = 0x10010 }

abbrev hart_with : ℕ → ℕ → ℕ → Bool → Hart
hart_with pc x1 x10 arrived =
    record (first_hart pc) { regs = slice_set (slice_set (slice_set (replicate 32 0) 2 0x3fffffffc0) 1 x1) 10 x10; arrived = arrived }

abbrev state_with : Hart → List Frame → ℕ → ℕ → State
state_with hart frames steps left =
    record {
      memory = memory;
      low = 0x11000;
      brk = 0x11000;
      slots = record { hart = hart; frames = frames } ∷ [];
      waiting = [];
      next_tid = 2;
      records = [];
      steps = steps;
      ending = None;
      points = points_left left;
      ports = 0;
      budget = 5000000;
    }

abbrev frame : Frame
frame = record { point = point; ra = 0x10004; sp = 0x3fffffffc0 }

abbrev fault : FaultAt
fault = record { name = LoadRights; pc = 0x10010 }

-- before the first jump, at the point, in the call, after its rescue, and at the point again
abbrev at_start : ℕ → State
at_start steps = state_with (hart_with 0x10000 0 0 false) [] steps 1

abbrev at_point : ℕ → State
at_point steps = state_with (hart_with 0x10010 0x10004 0 true) [] steps 1

abbrev in_call : State
in_call = state_with (hart_with 0x10010 0x10004 0 false) (frame ∷ []) 1 1

abbrev back : ℕ → State
back steps = state_with (hart_with 0x10004 0x10004 0xfffffffffffffffc false) [] steps 0

abbrev at_spent : ℕ → State
at_spent steps = state_with (hart_with 0x10010 0x10008 0xfffffffffffffffc true) [] steps 0

exec0 : can_execute memory 0x10000 4 ≡ true
exec0 = each_has-cells memory text_cell 0x20000 has_text (λ r. r.exec) 0x10000 4 (omega arith)

word0 : number_at memory 0x10000 4 ≡ 0x010000ef
word0 = ap number_of (bytes_at-cells memory text_cell 0x20000 has_text 0x10000 4 (omega arith))

exec1 : can_execute memory 0x10004 4 ≡ true
exec1 = each_has-cells memory text_cell 0x20000 has_text (λ r. r.exec) 0x10004 4 (omega arith)

word1 : number_at memory 0x10004 4 ≡ 0x00c000ef
word1 = ap number_of (bytes_at-cells memory text_cell 0x20000 has_text 0x10004 4 (omega arith))

exec4 : can_execute memory 0x10010 4 ≡ true
exec4 = each_has-cells memory text_cell 0x20000 has_text (λ r. r.exec) 0x10010 4 (omega arith)

word4 : number_at memory 0x10010 4 ≡ 0x00003383
word4 = ap number_of (bytes_at-cells memory text_cell 0x20000 has_text 0x10010 4 (omega arith))

-- address 0 is in no page
unreadable : can_read memory 0 8 ≡ false
unreadable = each_has-cells memory text_cell 0x20000 has_text (λ r. r.read) 0 8 (omega arith)

-- the jumps

jumps0 : (steps : ℕ) → act_of (at_start steps) 0 ≡ Ordinary (at_point steps)
unfolding act_of hart_act act_of_inst instruction_of row_of changed close_frames
jumps0 steps = ap (in_state (at_start steps) 0) (fetched_act-word memory (hart_with 0x10000 0 0 false) 0x010000ef refl exec0 word0)

jumps1 : (steps : ℕ) → act_of (back steps) 0 ≡ Ordinary (at_spent steps)
unfolding act_of hart_act act_of_inst instruction_of row_of changed close_frames
jumps1 steps = ap (in_state (back steps) 0) (fetched_act-word memory (hart_with 0x10004 0x10004 0xfffffffffffffffc false) 0x00c000ef refl exec1 word1)

-- the first call is entered
arrives : act_of (at_point 1) 0 ≡ Arrival point
unfolding act_of hart_act
arrives = refl

enters : enter (at_point 1) 0 point ≡ in_call
unfolding enter changed
enters = refl

-- the load faults

abbrev load : Inst
load = record { op = Ld; rd = 7; rs1 = 0; rs2 = 0; imm = pos 0 }

load_act : (x1 x10 : ℕ) (arrived : Bool) → fetched_act memory (hart_with 0x10010 x1 x10 arrived) ≡ act.Fault LoadRights
unfolding act_of_inst instruction_of row_of
load_act x1 x10 arrived =
    fetched_act-word memory (hart_with 0x10010 x1 x10 arrived) 0x00003383 refl exec4 word4
    ∙ ap (λ b. if b then act.Next (with_result (hart_with 0x10010 x1 x10 arrived) load (number_at memory 0 8)) None else act.Fault LoadRights) unreadable

falls : act_of in_call 0 ≡ Fault LoadRights
unfolding act_of hart_act
falls = ap (in_state in_call 0) (load_act 0x10004 0 false)

-- the call, with nothing before its fault, is licensed
licensed : is_licensed (at_point 1) 0 point fault [] ≡ true
licensed = ap (λ s. ends_in s 0 fault 0) enters ∙ ap (is_fault LoadRights) falls

legal_call : legal (at_point 1) (v.Rescued 0 point fault []) ≡ true
legal_call = legal-Rescued (at_point 1) 0 point fault [] ∙ and_from _ _ (ap (is_arrival point) arrives) licensed

-- after it the call has returned the code of its fault, the point has no rescue left, and nothing
-- else of the call is left but its steps
pub code_by_fault_name-returns : after (at_point 1) (v.Rescued 0 point fault []) ≡ back 1
unfolding rescued_from changed close_frames
code_by_fault_name-returns = after-Rescued (at_point 1) 0 point fault [] ∙ ap (rescued_from (at_point 1) 0 point fault) enters

-- at the spent point no call is entered: the load faults in the caller's frame
falls_spent : act_of (at_spent 2) 0 ≡ Fault LoadRights
unfolding act_of hart_act
falls_spent = ap (in_state (at_spent 2) 0) (load_act 0x10008 0xfffffffffffffffc true)

first_jump : legal (at_start 0) (Ran 0 1) ≡ true
first_jump =
    legal-Ran (at_start 0) 0 1 refl (omega arith)
    (can_run-ordinary (at_start 0) (at_point 0) 0 0 refl refl (jumps0 0) (can_run-none (at_point 1) 0))

second_jump : legal (back 1) (Ran 0 1) ≡ true
second_jump =
    legal-Ran (back 1) 0 1 refl (omega arith)
    (can_run-ordinary (back 1) (at_spent 1) 0 0 refl refl (jumps1 1) (can_run-none (at_spent 2) 0))

after_first : after (at_start 0) (Ran 0 1) ≡ at_point 1
after_first = after-Ran (at_start 0) 0 1 ∙ ran-ordinary (at_start 0) (at_point 0) 0 0 (jumps0 0) ∙ ran-none (at_point 1) 0

after_second : after (back 1) (Ran 0 1) ≡ at_spent 2
after_second = after-Ran (back 1) 0 1 ∙ ran-ordinary (back 1) (at_spent 1) 0 0 (jumps1 1) ∙ ran-none (at_spent 2) 0

-- the whole history is a run
pub spent_point-is_a_run : IsRun (at_start 0) (Ran 0 1 ∷ v.Rescued 0 point fault [] ∷ Ran 0 1 ∷ Ended (ending.Fault 0 fault) ∷ [])
spent_point-is_a_run =
    and_from _ _ first_jump (ap (λ s. is_run s (v.Rescued 0 point fault [] ∷ Ran 0 1 ∷ Ended (ending.Fault 0 fault) ∷ [])) after_first
    ∙ and_from _ _ legal_call (ap (λ s. is_run s (Ran 0 1 ∷ Ended (ending.Fault 0 fault) ∷ [])) code_by_fault_name-returns
    ∙ and_from _ _ second_jump (ap (λ s. is_run s (Ended (ending.Fault 0 fault) ∷ [])) after_second
    ∙ and_from _ _ (legal-Fault (at_spent 2) 0 0x10010 LoadRights refl falls_spent refl refl) refl)))

-- at the spent point there is no call to rescue
pub spent_point-is_not_entered : legal (at_spent 2) (v.Rescued 0 point fault []) ≡ false
spent_point-is_not_entered = rescue_without_an_arrival (at_spent 2) 0 point fault [] (ap (is_arrival point) falls_spent)

-- the first call isn't rescued for another fault, nor for one elsewhere, nor with an ending inside
abbrev broken : FaultAt
broken = record { name = Breakpoint; pc = 0x10010 }

abbrev elsewhere : FaultAt
elsewhere = record { name = LoadRights; pc = 0x10014 }

pub another_fault-is_not_rescued : legal (at_point 1) (v.Rescued 0 point broken []) ≡ false
another_fault-is_not_rescued =
    rescue_without_a_fault (at_point 1) 0 point broken []
    (ap (λ s. ends_in s 0 broken 0) enters ∙ no_licence-for_another_name in_call LoadRights 0 broken 0 falls refl)

pub fault_elsewhere-is_not_rescued : legal (at_point 1) (v.Rescued 0 point elsewhere []) ≡ false
fault_elsewhere-is_not_rescued =
    rescue_without_a_fault (at_point 1) 0 point elsewhere []
    (ap (λ s. ends_in s 0 elsewhere 0) enters ∙ no_licence-for_another_place in_call 0 elsewhere 0 refl)

pub inside_with_an_ending-is_not_rescued : legal (at_point 1) (v.Rescued 0 point fault (Ended ending.Stuck ∷ [])) ≡ false
inside_with_an_ending-is_not_rescued = rescue_of_an_illegal_inside (at_point 1) 0 point fault (Ended ending.Stuck ∷ []) refl

-- nor is one whose inside has a rescue of an act that isn't one
pub inside_with_an_unlicensed_rescue-is_not_rescued : legal (at_point 1) (v.Rescued 0 point fault (v.Rescued 0 point fault [] ∷ [])) ≡ false
inside_with_an_unlicensed_rescue-is_not_rescued =
    rescue_of_an_illegal_inside (at_point 1) 0 point fault (v.Rescued 0 point fault [] ∷ [])
    (no_licence-with_an_illegal_entry (enter (at_point 1) 0 point) 0 0 (v.Rescued 0 point fault []) []
    (rescue_without_an_arrival (enter (at_point 1) 0 point) 0 point fault []
    (ap (λ s. is_arrival point (act_of s 0)) enters ∙ ap (is_arrival point) falls)))
