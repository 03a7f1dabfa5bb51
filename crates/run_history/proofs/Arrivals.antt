-- An arrival: only a hart that has just jumped to the entry of an active point makes one.
use Rattle.std.proofs.Common.{◌≡◌, ℕ, List, Bool, true, false, ◌&&◌, nat_lt, if◌then◌else◌, length, Some, None, ap, sym, ◌∙◌, slice_get}
use Rattle.std.proofs.lemmas.Bool.{eqb-true}
use Rattle.guest_words.specs.declared.act.Act.{Act}
use Rattle.guest_words.specs.declared.act.Act.TheVariants as act
use Rattle.guest_words.specs.declared.call.Request.{Request as Call}
use Rattle.guest_words.specs.declared.hart.Hart.{Hart}
use Rattle.guest_words.specs.declared.hart.Slot.{Slot}
use Rattle.guest_words.specs.declared.limits.TheConstants.{FRAMES}
use Rattle.guest_words.specs.declared.point.Point.{Point}
use Rattle.guest_words.specs.declared.point.PointRef.{PointRef}
use Rattle.guest_words.specs.Act.{StateAct, Ordinary, Fault, Request, Arrival, End, Absent, act_of}
use Rattle.guest_words.specs.HartAct.{arrival_of, hart_act}
use Rattle.guest_words.specs.Points.{active_at}
use Rattle.guest_words.specs.Space.{Space}
use Rattle.guest_words.specs.State.{State}
use Rattle.run_history.specs.Ahead.{arrival_ahead}
use Rattle.run_history.specs.Legal.{is_arrival}
use Rattle.run_history.proofs.CallCases.{CallCases, act_of_by}
use Rattle.run_history.proofs.InstCases.{InstCases, arrived-jumped, hart_act_by}

-- a hart arrives at a point: its slot, and the arrival there
pub record Arrives (s : State) (h : ℕ) (p : PointRef) : Type 0 where
  pub slot : Slot
  pub is : slice_get s.slots h ≡ Some slot
  pub at : arrival_of s.points (length slot.frames) slot.hart ≡ Some p

-- the act of a hart alone that is an arrival
pub hart_act-arrives : (m : Space) (points : List Point) (frames : ℕ) (hart : Hart) (p : PointRef) → hart_act m points frames hart ≡ act.Arrived p → arrival_of points frames hart ≡ Some p
hart_act-arrives m points frames hart p is = hart_act_by Is m hart cases points frames (λ q at e. at ∙ ap Some (same q e)) is
  where
    Is : Act → Type 0
    Is a = a ≡ act.Arrived p → arrival_of points frames hart ≡ Some p

    same : (q : PointRef) → act.Arrived q ≡ act.Arrived p → q ≡ p
    same q e = cc

    cases : InstCases Is m hart
    cases = record {
      next = λ after e is. cc;
      store = λ after place width value e may is. cc;
      fault = λ name is. cc;
      call = λ inst at kind is. cc;
    }

module _ (s : State) (h : ℕ) (p : PointRef) where
  abbrev Comes : StateAct → Type 0
  Comes a = a ≡ Arrival p → Arrives s h p

  comes_call : (call : Call) → CallCases Comes s h call
  comes_call call = record {
    value = λ v e. cc;
    read = λ fd place size is usable some may e. cc;
    write = λ fd place size is usable some may e. cc;
    close = λ fd is usable e. cc;
    gone = λ code is live e. cc;
    last = λ code is e. cc;
    ends = λ code is e. cc;
    queue = λ place value timeout is none e. cc;
    blocked = λ e. cc;
    rouse = λ place value is e. cc;
    child = λ flags stack parent tls child slot is free e. cc;
    breaks = λ asked to is at e. cc;
    maps = λ size prot flags place is asked few free e. cc;
    unmaps = λ place size is within e. cc;
  }

  pub act_arrives : act_of s h ≡ Arrival p → Arrives s h p
  act_arrives = act_of_by Comes s h (λ e. cc) (λ slot is. record {
    next = λ hart write does e. cc;
    fault = λ name e. cc;
    call = λ call does. comes_call call;
    arrived = λ point does e. record {
      slot = slot;
      is = is;
      at = hart_act-arrives s.memory s.points (length slot.frames) slot.hart point does ∙ ap Some (same point e);
    };
  })
    where
      same : (q : PointRef) → Arrival q ≡ Arrival p → q ≡ p
      same q e = cc

-- an arrival at a point is at it
pub arrival-is : (p : PointRef) (a : StateAct) → is_arrival p a ≡ true → a ≡ Arrival p
arrival-is p (Ordinary t) is = cc
arrival-is p (Fault name) is = cc
arrival-is p (Request way port asked place) is = cc
arrival-is p (Arrival other) is = ap (λ n. Arrival (record { entry = n })) (sym (eqb-true p.entry other.entry is))
arrival-is p (End code) is = cc
arrival-is p Absent is = cc

-- the hart has just jumped
pub arrival_arrived : (s : State) (h : ℕ) (p : PointRef) → is_arrival p (act_of s h) ≡ true → arrival_ahead (slice_get s.slots h) ≡ 2
arrival_arrived s h p is =
    let at = act_arrives s h p (arrival-is p (act_of s h) is) in
    ap arrival_ahead at.is
    ∙ ap (λ b. if b then 2 else 0) (arrived-jumped s.points (length at.slot.frames) at.slot.hart p at.at)

-- and the point is active
pub arrival_active : (points : List Point) (frames : ℕ) (hart : Hart) (p : PointRef) → arrival_of points frames hart ≡ Some p → active_at points hart.pc ≡ Some p
arrival_active points frames hart p is = by (hart.arrived && nat_lt frames FRAMES) is
  where
    by : (b : Bool) → (if b then active_at points hart.pc else None) ≡ Some p → active_at points hart.pc ≡ Some p
    by true is = is
    by false is = cc
