-- Whether the next act of a hart is a call.
use Rattle.std.proofs.Common.{◌≡◌, ◌≢◌, ℕ, Bool, true, false, ◌&&◌, List, Some, None, refl, ap, sym, ◌∙◌}
use Rattle.guest_words.specs.declared.act.Act.{Act}
use Rattle.guest_words.specs.declared.class.Class.TheVariants as class
use Rattle.guest_words.specs.declared.hart.Hart.{Hart}
use Rattle.guest_words.specs.declared.inst.Inst.{Inst}
use Rattle.guest_words.specs.declared.point.Point.{Point}
use Rattle.guest_words.specs.declared.point.PointRef.{PointRef}
use Rattle.guest_words.specs.Calls.{request_of}
use Rattle.guest_words.specs.Effects.{class_of}
use Rattle.guest_words.specs.HartAct.{act_of_class, arrival_of, hart_act, inst_at}
use Rattle.guest_words.specs.Space.{Space}
use Rattle.run_history.proofs.InstCases.{InstCases, hart_act_by}
use Rattle.hart_step.specs.Legs.{is_call}
use Rattle.hart_step.specs.Stops.{act_wants, can_want}
use Rattle.hart_step.proofs.Acting.{act_arrived, act_inst, looked-inst_at}

and_none : (b : Bool) → false ≡ (b && false)
and_none true = refl
and_none false = refl

and_all : (b : Bool) → b ≡ (b && true)
and_all true = refl
and_all false = refl

abbrev WantsByRequest : Bool → Hart → Act → Type 0
WantsByRequest noted hart a = act_wants noted a ≡ (can_want noted (request_of hart) && is_call a)

abbrev IsNoCall : Act → Type 0
IsNoCall a = is_call a ≡ false

-- a call that can want memory is known by its request
pub wants_call : (noted : Bool) (m : Space) (points : List Point) (frames : ℕ) (hart : Hart)
    → act_wants noted (hart_act m points frames hart) ≡ (can_want noted (request_of hart) && is_call (hart_act m points frames hart))
wants_call noted m points frames hart = hart_act_by (WantsByRequest noted hart) m hart cases points frames (λ point at. and_none _)
  where
    cases : InstCases (WantsByRequest noted hart) m hart
    cases = record {
      next = λ after same. and_none _;
      store = λ after place width value same may. and_none _;
      fault = λ name. and_none _;
      call = λ inst at kind. and_all _;
    }

pub call_arrived : (m : Space) (points : List Point) (frames : ℕ) (hart : Hart) (point : PointRef) → arrival_of points frames hart ≡ Some point → false ≡ is_call (hart_act m points frames hart)
call_arrived m points frames hart point is = sym (ap is_call (act_arrived m points frames hart point is))

pub call_at : (m : Space) (points : List Point) (frames : ℕ) (hart : Hart) (inst : Inst) → arrival_of points frames hart ≡ None → inst_at m hart.pc ≡ Some inst → class_of inst.op ≡ class.Call
    → true ≡ is_call (hart_act m points frames hart)
call_at m points frames hart inst none at kind =
    sym (ap is_call (act_inst m points frames hart inst none (looked-inst_at m hart.pc inst at)) ∙ ap (λ k. is_call (act_of_class k m hart inst)) kind)

-- no instruction there that is a call
pub call_none : (m : Space) (points : List Point) (frames : ℕ) (hart : Hart) → ((inst : Inst) → inst_at m hart.pc ≡ Some inst → class_of inst.op ≢ class.Call) → false ≡ is_call (hart_act m points frames hart)
call_none m points frames hart other = sym (hart_act_by IsNoCall m hart cases points frames (λ point at. refl))
  where
    cases : InstCases IsNoCall m hart
    cases = record {
      next = λ after same. refl;
      store = λ after place width value same may. refl;
      fault = λ name. refl;
      call = λ inst at kind. absurd (other inst at kind);
    }
