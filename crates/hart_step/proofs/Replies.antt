-- The reply to a call, and what it brings along.
use Rattle.std.proofs.Common.{◌≡◌, ℕ, ◌%◌, Bool, true, false, not, ◌==◌, ◌||◌, nat_lt, nat_le, ◌≤◌, ◌-◌, ◌/◌, ◌*◌, max, arith, if◌then◌else◌, ◌+◌, ℤ, length, Option, Some, None, IsTrue, IsFalse, refl, ap, sym, ◌∙◌, subst}
use Rattle.guest_words.specs.declared.call.Request.{Request as Call}
use Rattle.guest_words.specs.declared.call.Request.TheVariants as request
use Rattle.guest_words.specs.declared.call.Reply.{Reply}
use Rattle.guest_words.specs.declared.call.Reply.TheVariants as reply
use Rattle.guest_words.specs.declared.image.Rights.{Rights}
use Rattle.guest_words.specs.declared.limits.TheConstants.{HEAP_BYTES, MAP_PAGES, PAGE}
use Rattle.guest_words.specs.declared.linux.TheConstants.{PROT_WRITE}
use Rattle.guest_words.specs.CallChanges.{any_other, facts_of, free_place, free_slot, is_live, is_readable, is_usable, mapped_pages, place_for, word_at}
use Rattle.guest_words.specs.Calls.{child_in, cut, has_flag, is_in_area, is_map_known, makes_hart, mapped_at, mapped_rights, reply_of, reply_of_transfer}
use Rattle.guest_words.specs.Space.{page_up, pages_in}
use Rattle.guest_words.specs.Word.{low_32}
use Rattle.guest_words.specs.State.{State, frames_at}
use Rattle.run_history.proofs.Ands.{and_left, and_right, if_by}
use Rattle.hart_step.specs.SlotActs.{facts_for, is_clone, reaches_device, FitsIn, HasRoom}
use Rattle.std.proofs.lemmas.Bool.{not-false}
use Rattle.std.proofs.lemmas.Bool.Decides.{nat_tests}
use Rattle.guest_words.specs.Act.{act_of_call, replied}
use Rattle.guest_pages.specs.Stretch.{IsFree, IsPlace}
use Rattle.run_history.specs.After.{moved}
use Rattle.guest_words.specs.declared.call.Facts.{Facts}
use Rattle.hart_step.specs.Noted.{notes_of_call}
use Rattle.hart_step.specs.Sees.{named}
use Rattle.hart_step.specs.Stops.{can_want}
use Rattle.hart_step.specs.declared.next_act.NextAct.TheVariants as next_act

-- the facts that a call looks at tell its reply
pub reply_of-for : (s : State) (h : ℕ) (call : Call) → reply_of call (facts_for s h call) ≡ reply_of call (facts_of s h call)
unfolding reply_of facts_of
reply_of-for s h (request.Read fd place size) = refl
reply_of-for s h (request.Write fd place size) = refl
reply_of-for s h (request.Close fd) = refl
reply_of-for s h (request.Exit code) = refl
reply_of-for s h (request.ExitGroup code) = refl
reply_of-for s h (request.Wait place value timeout) = refl
reply_of-for s h (request.Wake place value) = refl
reply_of-for s h (request.Clone flags stack parent tls child) = refl
reply_of-for s h (request.Break to) = refl
reply_of-for s h (request.Map length prot flags) = refl
reply_of-for s h (request.Unmap place length) = refl
reply_of-for s h request.Yield = refl
reply_of-for s h request.Tid = refl
reply_of-for s h request.Unknown = refl

-- a reply comes to no other call than this, and brings along what the state says of it
abbrev pub Brings : State → ℕ → Call → Reply → Type 0
Brings s h call (reply.Value v) = Unit {0}
Brings s h (request.Read fd place size) (reply.Port asked) = Unit {0}
Brings s h (request.Write fd place size) (reply.Port asked) = Unit {0}
Brings s h (request.Close fd) (reply.Port asked) = Unit {0}
Brings s h (request.Exit code) reply.Gone = Unit {0}
Brings s h call (reply.End code) = Unit {0}
Brings s h (request.Wait place value timeout) reply.Queue = Unit {0}
Brings s h call reply.Blocked = Unit {0}
Brings s h (request.Wake place value) (reply.Rouse most) = Unit {0}
Brings s h (request.Clone flags stack parent tls child) (reply.Child slot) = free_slot s.slots ≡ Some slot
Brings s h (request.Break asked) (reply.Break to) = to ≡ (if nat_lt asked s.low || nat_lt (s.low + HEAP_BYTES) asked then s.brk else asked)
Brings s h (request.Map size prot flags) (reply.Map place count rights) = (count ≡ pages_in size) × (free_place s.memory (pages_in size) ≡ Some place) × (rights ≡ mapped_rights prot)
Brings s h (request.Unmap from size) (reply.Unmap place count) = (count ≡ pages_in size) × ((not (place % PAGE == 0) || (size == 0) || not (is_in_area place count)) ≡ false) × (place ≡ from)
Brings s h _ _ = ⊥

module _ (s : State) (h : ℕ) where
  either : (call : Call) (b : Bool) (x y : Reply) → (b ≡ true → Brings s h call x) → (b ≡ false → Brings s h call y) → Brings s h call (if b then x else y)
  either call b x y p q = if_by (Brings s h call) b x y p q

  transfer : (call : Call) (size : ℕ) (usable reached : Bool) → Brings s h call (reply.Port (cut size)) → Brings s h call (reply_of_transfer size usable reached)
  transfer call size usable reached port =
      either call (not usable) _ _ (λ e. tt) (λ e. either call (size == 0) _ _ (λ e. tt) (λ e. either call (not reached) _ _ (λ e. tt) (λ e. port)))

  pub brings : (call : Call) → Brings s h call (reply_of call (facts_of s h call))
  unfolding reply_of facts_of
  brings (request.Read fd place size) = transfer (request.Read fd place size) size _ _ tt
  brings (request.Write fd place size) = transfer (request.Write fd place size) size _ _ tt
  brings (request.Close fd) = either (request.Close fd) (is_usable s (request.Close fd)) _ _ (λ e. tt) (λ e. tt)
  brings (request.Exit code) = either (request.Exit code) (any_other is_live h s.slots) _ _ (λ e. tt) (λ e. tt)
  brings (request.ExitGroup code) = tt
  brings (request.Wait place value timeout) =
      let wait = request.Wait place value timeout in
      either wait (not (place % 4 == 0)) _ _ (λ e. tt) (λ e. either wait (not (timeout == 0)) _ _ (λ e. tt)
      (λ e. either wait (not (is_readable s wait)) _ _ (λ e. tt) (λ e. either wait (not (word_at s wait == low_32 value)) _ _ (λ e. tt)
      (λ e. either wait (nat_lt 0 (frames_at s h)) _ _ (λ e. tt) (λ e. tt)))))
  brings (request.Wake place value) = either (request.Wake place value) (not (place % 4 == 0)) _ _ (λ e. tt) (λ e. tt)
  brings (request.Clone flags stack parent tls child) = either (request.Clone flags stack parent tls child) (makes_hart flags) _ _ (λ e. by (free_slot s.slots) refl) (λ e. tt)
    where
      by : (o : Option ℕ) → free_slot s.slots ≡ o → Brings s h (request.Clone flags stack parent tls child) (child_in o)
      by None is = tt
      by (Some slot) is = is
  brings (request.Break asked) = refl
  brings (request.Map size prot flags) =
      let map = request.Map size prot flags in
      either map ((size == 0) || not (is_map_known prot flags)) _ _ (λ e. tt)
      (λ e. either map (nat_lt MAP_PAGES (mapped_pages s.memory + pages_in size)) _ _ (λ e. tt) (λ e. by (free_place s.memory (pages_in size)) refl))
    where
      by : (o : Option ℕ) → free_place s.memory (pages_in size) ≡ o → Brings s h (request.Map size prot flags) (mapped_at (pages_in size) prot o)
      by None is = tt
      by (Some place) is = (refl, is, refl)
  brings (request.Unmap place size) =
      either (request.Unmap place size) (not (place % PAGE == 0) || (size == 0) || not (is_in_area place (pages_in size))) _ _ (λ e. tt) (λ e. (refl, e, refl))
  brings request.Yield = tt
  brings request.Tid = tt
  brings request.Unknown = tt

-- only these reach a device
pub port_reaches : (s : State) (h : ℕ) (call : Call) (asked : ℕ) → Brings s h call (reply.Port asked) → reaches_device call ≡ true
port_reaches s h (request.Read fd place size) asked has = refl
port_reaches s h (request.Write fd place size) asked has = refl
port_reaches s h (request.Close fd) asked has = refl
port_reaches s h call asked has = absurd has

pub gone_only : (s : State) (h : ℕ) (call : Call) → Brings s h call reply.Gone → ((code : ℕ) → call ≡ request.Exit code → ⊥) → ⊥
gone_only s h (request.Exit code) has other = other code refl
gone_only s h call has other = has

pub queue_only : (s : State) (h : ℕ) (call : Call) → Brings s h call reply.Queue → ((place value timeout : ℕ) → call ≡ request.Wait place value timeout → ⊥) → ⊥
queue_only s h (request.Wait place value timeout) has other = other place value timeout refl
queue_only s h call has other = has

pub rouse_only : (s : State) (h : ℕ) (call : Call) (most : ℕ) → Brings s h call (reply.Rouse most) → ((place value : ℕ) → call ≡ request.Wake place value → ⊥) → ⊥
rouse_only s h (request.Wake place value) most has other = other place value refl
rouse_only s h call most has other = has

pub child_free : (s : State) (h : ℕ) (call : Call) (slot : ℕ) → Brings s h call (reply.Child slot) → (free_slot s.slots ≡ Some slot) × (is_clone call ≡ true)
child_free s h (request.Clone flags stack parent tls child) slot has = (has, refl)
child_free s h call slot has = absurd has

-- pages that go lie in the area of mapped pages
pub unmap_place : (s : State) (h : ℕ) (call : Call) (place count : ℕ) → Brings s h call (reply.Unmap place count) → IsPlace count place
unmap_place s h (request.Unmap from size) place count has = by (not (place % PAGE == 0)) (size == 0) refl has.1
  where
    by : (a b : Bool) → not (place % PAGE == 0) ≡ a → (a || b || not (is_in_area place count)) ≡ false → IsPlace count place
    by true b is e = absurd (cc)
    by false true is e = absurd (cc)
    by false false is e =
        let even : (place % PAGE == 0) ≡ true = not-false _ is in
        let low : nat_le 0x3f80000000 place ≡ true = and_left _ _ (not-false _ e) in
        let high : nat_le (place + 4096 * count) 0x3fc0000000 ≡ true = and_right _ _ (not-false _ e) in
        record { aligned = grind (arith, nat_tests, even); low = grind (arith, nat_tests, low); high = grind (arith, nat_tests, high) }
unmap_place s h call place count has = absurd has

-- a call that is no fault, reaches no device and ends nothing is ordinary
pub ordinary_reply : (s : State) (h : ℕ) (call : Call) (r : Reply) → Brings s h call r → ((asked : ℕ) → r ≡ reply.Port asked → ⊥) → ((code : ℕ) → r ≡ reply.End code → ⊥) → (r ≡ reply.Blocked → ⊥)
    → named (replied s h r call) ≡ Some next_act.Ordinary
ordinary_reply s h call (reply.Value v) has port end blocked = refl
ordinary_reply s h call (reply.Port asked) has port end blocked = absurd (port asked refl)
ordinary_reply s h call (reply.End code) has port end blocked = absurd (end code refl)
ordinary_reply s h call reply.Blocked has port end blocked = absurd (blocked refl)
ordinary_reply s h (request.Exit code) reply.Gone has port end blocked = refl
ordinary_reply s h call reply.Gone has port end blocked = absurd has
ordinary_reply s h (request.Wait place value timeout) reply.Queue has port end blocked = refl
ordinary_reply s h call reply.Queue has port end blocked = absurd has
ordinary_reply s h (request.Wake place value) (reply.Rouse most) has port end blocked = refl
ordinary_reply s h call (reply.Rouse most) has port end blocked = absurd has
ordinary_reply s h (request.Clone flags stack parent tls child) (reply.Child slot) has port end blocked = refl
ordinary_reply s h call (reply.Child slot) has port end blocked = absurd has
ordinary_reply s h call (reply.Break to) has port end blocked = refl
ordinary_reply s h call (reply.Map place count rights) has port end blocked = refl
ordinary_reply s h call (reply.Unmap place count) has port end blocked = refl

-- and where it changes no pages, one of these
pub still_reply : (noted : Bool) (s : State) (h : ℕ) (call : Call) (r : Reply) → Brings s h call r → can_want noted call ≡ false → ((v : ℤ) → r ≡ reply.Value v → ⊥) → (r ≡ reply.Gone → ⊥) → (r ≡ reply.Queue → ⊥)
    → ((most : ℕ) → r ≡ reply.Rouse most → ⊥) → ((slot : ℕ) → r ≡ reply.Child slot → ⊥) → ((place count : ℕ) → r ≡ reply.Unmap place count → ⊥) → s ≡ moved s (replied s h r call)
still_reply noted s h call (reply.Value v) has free a b c d e f = absurd (a v refl)
still_reply noted s h call reply.Gone has free a b c d e f = absurd (b refl)
still_reply noted s h call reply.Queue has free a b c d e f = absurd (c refl)
still_reply noted s h call (reply.Rouse most) has free a b c d e f = absurd (d most refl)
still_reply noted s h call (reply.Child slot) has free a b c d e f = absurd (e slot refl)
still_reply noted s h call (reply.Unmap place count) has free a b c d e f = absurd (f place count refl)
still_reply noted s h call (reply.End code) has free a b c d e f = refl
still_reply noted s h call reply.Blocked has free a b c d e f = refl
still_reply noted s h (request.Break asked) (reply.Break to) has free a b c d e f = absurd (cc)
still_reply noted s h call (reply.Break to) has free a b c d e f = absurd has
still_reply noted s h (request.Map size prot flags) (reply.Map place count rights) has free a b c d e f = absurd (cc)
still_reply noted s h call (reply.Map place count rights) has free a b c d e f = absurd has
still_reply noted s h (request.Read fd place size) (reply.Port asked) has free a b c d e f = refl
still_reply noted s h (request.Write fd place size) (reply.Port asked) has free a b c d e f = refl
still_reply noted s h (request.Close fd) (reply.Port asked) has free a b c d e f = refl
still_reply noted s h call (reply.Port asked) has free a b c d e f = absurd has

-- pages go where notes are taken by no call that can't want memory
pub unmap_unnoted : (noted : Bool) (s : State) (h : ℕ) (call : Call) (place count : ℕ) → Brings s h call (reply.Unmap place count) → can_want noted call ≡ false → noted ≡ false
unmap_unnoted noted s h (request.Unmap from size) place count has free = free
unmap_unnoted noted s h call place count has free = absurd has

-- pages that come fit
pub fits_in : (s : State) (h : ℕ) (call : Call) (r : Reply) → r ≡ reply_of call (facts_of s h call) → HasRoom s call (place_for s call) → FitsIn s r
fits_in s h call r is room = by call r (subst (Brings s h call) (sym is) (brings s h call)) room
  where
    by : (call : Call) (r : Reply) → Brings s h call r → HasRoom s call (place_for s call) → FitsIn s r
    by (request.Map size prot flags) (reply.Map place count rights) has room =
        subst (λ (n : ℕ). IsPlace n place × IsFree s.memory place (PAGE * n)) (sym has.0) (subst (HasRoom s (request.Map size prot flags)) has.1 room)
    by call (reply.Map place count rights) has room = absurd has
    by call r has room = tt

pub place-facts : (s : State) (h : ℕ) (call : Call) → (facts_for s h call).place ≡ place_for s call
unfolding facts_of
place-facts s h call = refl

-- what a call does, by its reply
pub call_is : (s : State) (h : ℕ) (call : Call) (r known : Reply) → r ≡ reply_of call (facts_of s h call) → r ≡ known → act_of_call s h call ≡ replied s h known call
unfolding act_of_call
call_is s h call r known is same = ap (λ (x : Reply). replied s h x call) (sym is ∙ same)

pub brought : (s : State) (h : ℕ) (call : Call) (r known : Reply) → r ≡ reply_of call (facts_of s h call) → r ≡ known → Brings s h call known
brought s h call r known is same = subst (Brings s h call) (sym is ∙ same) (brings s h call)

-- rights of mapped pages
pub map_rights : (s : State) (h : ℕ) (call : Call) (place count : ℕ) (rights : Rights) → Brings s h call (reply.Map place count rights) → (IsTrue rights.write → IsTrue rights.read) × IsFalse rights.exec
map_rights s h (request.Map size prot flags) place count rights has =
    subst (λ (r : Rights). (IsTrue r.write → IsTrue r.read) × IsFalse r.exec) (sym has.2) (readable (prot == 0) refl, refl)
  where
    readable : (b : Bool) → (prot == 0) ≡ b → IsTrue (has_flag prot PROT_WRITE) → IsTrue (not b)
    readable true is write =
        let none : prot ≡ 0 = grind (arith, nat_tests, is) in
        let no : has_flag prot PROT_WRITE ≡ false = ap (λ n. has_flag n PROT_WRITE) none in
        absurd (cc)
    readable false is write = refl
map_rights s h call place count rights has = absurd has

-- what calls need of the notes that are made room for

pub break_notes : (s : State) (h : ℕ) (call : Call) (to : ℕ) → Brings s h call (reply.Break to) → 1 + max 1 ((page_up s.brk - page_up to) / 4096) ≤ notes_of_call s call
break_notes s h (request.Break asked) to has =
    let end = max s.low asked in
    subst (λ (n : ℕ). 1 + max 1 ((page_up s.brk - page_up n) / 4096) ≤ 1 + max 1 ((page_up s.brk - page_up end) / 4096)) (sym has)
    (if_by (λ (n : ℕ). 1 + max 1 ((page_up s.brk - page_up n) / 4096) ≤ 1 + max 1 ((page_up s.brk - page_up end) / 4096)) (nat_lt asked s.low || nat_lt (s.low + HEAP_BYTES) asked) s.brk asked
    (λ e. still (page_up s.brk) ((page_up s.brk - page_up end) / 4096)) (λ e. within (nat_lt asked s.low) (nat_lt (s.low + HEAP_BYTES) asked) refl e))
  where
    still : (up other : ℕ) → 1 + max 1 ((up - up) / 4096) ≤ 1 + max 1 other
    still up other = let none : up - up ≡ 0 = omega arith in subst (λ (n : ℕ). 1 + max 1 (n / 4096) ≤ 1 + max 1 other) (sym none) (omega arith)

    -- a break in the heap isn't below its beginning
    within : (a b : Bool) → nat_lt asked s.low ≡ a → (a || b) ≡ false → 1 + max 1 ((page_up s.brk - page_up asked) / 4096) ≤ 1 + max 1 ((page_up s.brk - page_up (max s.low asked)) / 4096)
    within true b is e = absurd (cc)
    within false b is e =
        let from : s.low ≤ asked = grind (arith, nat_tests, is) in
        let same : max s.low asked ≡ asked = omega (arith, from) in
        subst (λ (n : ℕ). 1 + max 1 ((page_up s.brk - page_up asked) / 4096) ≤ 1 + max 1 ((page_up s.brk - page_up n) / 4096)) (sym same) (omega arith)
break_notes s h call to has = absurd has

pub break_heap : (s : State) (h : ℕ) (call : Call) (to : ℕ) → Brings s h call (reply.Break to) → s.low ≤ s.brk → s.brk ≤ s.low + 67108864 → (s.low ≤ to) × (to ≤ s.low + 67108864)
break_heap s h (request.Break asked) to has from upto =
    subst (λ (n : ℕ). (s.low ≤ n) × (n ≤ s.low + 67108864)) (sym has)
    (by (nat_lt asked s.low) (nat_lt (s.low + 67108864) asked) refl refl)
  where
    by : (a b : Bool) → nat_lt asked s.low ≡ a → nat_lt (s.low + 67108864) asked ≡ b → (s.low ≤ (if a || b then s.brk else asked)) × ((if a || b then s.brk else asked) ≤ s.low + 67108864)
    by true b p q = (from, upto)
    by false true p q = (from, upto)
    by false false p q = (grind (arith, nat_tests, p), grind (arith, nat_tests, q))
break_heap s h call to has from upto = absurd has

pub map_notes : (s : State) (h : ℕ) (call : Call) (place count : ℕ) (rights : Rights) → Brings s h call (reply.Map place count rights) → notes_of_call s call ≡ 1
map_notes s h (request.Map size prot flags) place count rights has = refl
map_notes s h call place count rights has = absurd has

pub unmap_notes : (s : State) (h : ℕ) (call : Call) (place count : ℕ) → Brings s h call (reply.Unmap place count) → notes_of_call s call ≡ count
unmap_notes s h (request.Unmap from size) place count has =
    let lies : is_in_area place count ≡ true = not-false _ (or_last (not (place % PAGE == 0)) (size == 0) _ has.1) in
    ap (λ (at : ℕ). if is_in_area at (pages_in size) then pages_in size else 1) (sym has.2)
    ∙ ap (λ (n : ℕ). if is_in_area place n then n else 1) (sym has.0)
    ∙ ap (λ (b : Bool). if b then count else 1) lies
  where
    or_last : (a b c : Bool) → (a || b || c) ≡ false → c ≡ false
    or_last true b c e = absurd (cc)
    or_last false true c e = absurd (cc)
    or_last false false c e = e
unmap_notes s h call place count has = absurd has

-- a call that can want memory has no other reply
abbrev pub OnlyPages : Reply → Type 0
OnlyPages (reply.Value v) = Unit {0}
OnlyPages (reply.Break to) = Unit {0}
OnlyPages (reply.Map place count rights) = Unit {0}
OnlyPages (reply.Unmap place count) = Unit {0}
OnlyPages _ = ⊥

pub only_pages : (call : Call) (facts : Facts) → can_want true call ≡ true → OnlyPages (reply_of call facts)
unfolding reply_of
only_pages (request.Break asked) facts wants = tt
only_pages (request.Map size prot flags) facts wants =
    if_by OnlyPages ((size == 0) || not (is_map_known prot flags)) _ _ (λ e. tt)
    (λ e. if_by OnlyPages (nat_lt MAP_PAGES (facts.mapped + pages_in size)) _ _ (λ e. tt) (λ e. by facts.place))
  where
    by : (o : Option ℕ) → OnlyPages (mapped_at (pages_in size) prot o)
    by None = tt
    by (Some place) = tt
only_pages (request.Unmap place size) facts wants = if_by OnlyPages (not (place % PAGE == 0) || (size == 0) || not (is_in_area place (pages_in size))) _ _ (λ e. tt) (λ e. tt)
only_pages call facts wants = absurd (cc)

pub pages_else : (r : Reply) → OnlyPages r → ((v : ℤ) → r ≡ reply.Value v → ⊥) → ((to : ℕ) → r ≡ reply.Break to → ⊥)
    → ((place count : ℕ) (rights : Rights) → r ≡ reply.Map place count rights → ⊥) → ((place count : ℕ) → r ≡ reply.Unmap place count → ⊥) → ⊥
pages_else (reply.Value v) only a b c d = a v refl
pages_else (reply.Break to) only a b c d = b to refl
pages_else (reply.Map place count rights) only a b c d = c place count rights refl
pages_else (reply.Unmap place count) only a b c d = d place count refl
pages_else r only a b c d = only
