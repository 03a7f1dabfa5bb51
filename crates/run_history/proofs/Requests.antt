-- A request that a hart makes of a device: its descriptor, its place and its bytes, and the records
-- that fit it.
use Rattle.std.proofs.Common.{◌≡◌, ◌≢◌, ℕ, ◌+◌, ◌≤◌, ◌^◌, Bool, true, false, not, ◌&&◌, ◌||◌, ◌==◌, nat_eq, nat_le, length, refl, subst, arith, lit≤}
use Rattle.std.proofs.lemmas.Bool.Decides.{nat_tests}
use Rattle.std.specs.Cmp.Lexicographic.{as_long}
use Rattle.guest_words.specs.declared.act.Act.{Act}
use Rattle.guest_words.specs.declared.call.Request.{Request as Call}
use Rattle.guest_words.specs.declared.record.Record.{Record}
use Rattle.guest_words.specs.declared.record.Way.{Way}
use Rattle.guest_words.specs.declared.record.Way.TheVariants as way
use Rattle.guest_words.specs.Act.{StateAct, Ordinary, Fault, Request, Arrival, End, Absent, act_of, fits, is_failure, is_served}
use Rattle.guest_words.specs.Space.{bytes_at}
use Rattle.guest_words.specs.State.{State, is_open}
use Rattle.run_history.specs.After.{read_place}
use Rattle.run_history.specs.Requests.{IsServable}
use Rattle.run_history.proofs.Ands.{and_left, and_right}
use Rattle.run_history.proofs.ByteLengths.{length-bytes_at}
use Rattle.run_history.proofs.CallCases.{ActCases, CallCases, act_of_by}

-- what holds of every request
abbrev Asks : State → StateAct → Type 0
Asks s (Request w fd asked place) = IsServable s w fd asked place
Asks s _ = Unit {0}

apart : (m n : ℕ) → not (m == n) ≡ true → m ≢ n
apart m n p = λ e. grind (arith, nat_tests, p, e)

asking : (s : State) (h : ℕ) (call : Call) → CallCases (Asks s) s h call
asking s h call = record {
  value = λ v. tt;
  read = λ fd place size is usable some may.
      let first : (is_open s fd && not (fd == 1)) ≡ true = and_left _ _ usable in
      record {
        opened = and_left _ _ first;
        way = (apart fd 1 (and_right _ _ first), apart fd 2 (and_right _ _ usable), may);
        some = some;
        most = omega arith;
      };
  write = λ fd place size is usable some may.
      record { opened = and_left _ _ usable; way = (apart fd 0 (and_right _ _ usable), may); some = some; most = omega arith };
  close = λ fd is usable. record { opened = usable; way = refl; some = refl; most = lit≤ tt };
  gone = λ code is live. tt;
  last = λ code is. tt;
  ends = λ code is. tt;
  queue = λ place value timeout is none. tt;
  blocked = tt;
  rouse = λ place value is. tt;
  child = λ flags stack parent tls child slot is free. tt;
  breaks = λ asked to is at. tt;
  maps = λ size prot flags place is asked few free. tt;
  unmaps = λ place size is within. tt;
}

act_asks : (s : State) (h : ℕ) (a : Act) → ActCases (Asks s) s h a
act_asks s h a = record {
  next = λ hart write is. tt;
  fault = λ name. tt;
  call = λ call is. asking s h call;
  arrived = λ point is. tt;
}

pub request_servable : (s : State) (h : ℕ) (w : Way) (fd asked place : ℕ) → act_of s h ≡ Request w fd asked place → IsServable s w fd asked place
request_servable s h w fd asked place is = subst (Asks s) is (act_of_by (Asks s) s h tt (λ slot at. act_asks s h _))

ends_within : (may : Bool) (place asked : ℕ) → (nat_le (place + asked) (2 ^ 64) && may) ≡ true → place + asked ≤ 2 ^ 64
ends_within may place asked is = let fits : nat_le (place + asked) (2 ^ 64) ≡ true = and_left _ _ is in grind (arith, nat_tests, fits)

-- its bytes end within the address space
pub servable_within : (s : State) (w : Way) (fd asked place : ℕ) → IsServable s w fd asked place → place + asked ≤ 2 ^ 64
servable_within s way.Read fd asked place is = ends_within _ place asked is.way.2
servable_within s way.Write fd asked place is = ends_within _ place asked is.way.1
servable_within s way.Close fd asked place is = let at = is.way in let none = is.some in omega (arith, at, none)

-- a record that fits has no more bytes than were asked for

failed_short : (call : Record) (asked : ℕ) (other : Bool) → (is_failure call || other) ≡ true → (other ≡ true → length call.bytes ≤ asked) → length call.bytes ≤ asked
failed_short call asked true is goes = goes refl
failed_short call asked false is goes =
    let failed : is_failure call ≡ true = or_false (is_failure call) is in
    let none : (length call.bytes == 0) ≡ true = and_right _ _ failed in
    grind (arith, nat_tests, none)
  where
    or_false : (b : Bool) → (b || false) ≡ true → b ≡ true
    or_false true e = refl
    or_false false e = e

served_short : (s : State) (w : Way) (asked place : ℕ) (call : Record) → is_served s w asked place call ≡ true → length call.bytes ≤ asked
served_short s way.Read asked place call is =
    failed_short call asked _ is (λ e. let less : nat_le (length call.bytes) asked ≡ true = and_right _ _ (and_left _ _ e) in grind (arith, nat_tests, less))
served_short s way.Write asked place call is =
    failed_short call asked _ is (λ e. let long : length call.bytes ≡ length (bytes_at s.memory place asked) = as_long nat_eq _ _ (and_right _ _ e) in omega (arith, long, length-bytes_at s.memory place asked))
served_short s way.Close asked place call is =
    let none : (length call.bytes == 0) ≡ true = and_right _ _ is in grind (arith, nat_tests, none)

pub fits_short : (s : State) (w : Way) (port asked place : ℕ) (call : Record) → fits s (Request w port asked place) call ≡ true → length call.bytes ≤ asked
fits_short s w port asked place call is = served_short s w asked place call (and_right _ _ is)

-- the bytes of a record that fits end within the address space
pub fits_room : (s : State) (h : ℕ) (call : Record) → fits s (act_of s h) call ≡ true → read_place (act_of s h) + length call.bytes ≤ 2 ^ 64
fits_room s h call is = by (act_of s h) refl is
  where
    by : (a : StateAct) → act_of s h ≡ a → fits s a call ≡ true → read_place a + length call.bytes ≤ 2 ^ 64
    by (Ordinary t) e is = cc
    by (Fault name) e is = cc
    by (Request w port asked place) e is =
        let room = servable_within s w port asked place (request_servable s h w port asked place e) in
        let short = fits_short s w port asked place call is in
        omega (arith, room, short)
    by (Arrival point) e is = cc
    by (End code) e is = cc
    by Absent e is = cc
