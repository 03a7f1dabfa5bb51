-- Room for what open calls may hand out to what encloses them.
use Rattle.std.proofs.Common.{◌≡◌, ℕ, ◌+◌, ◌-◌, ◌<◌, ◌≤◌, List, [], ◌∷◌, ◌++◌, length, length-append, refl, ap, sym, ◌∙◌, subst, arith, Result, Ok, Err, OnOk}
use Rattle.run_history.specs.declared.entry.Entry.{Entered}
use Rattle.run_history.specs.HistoryView.{HistoryView}
use Rattle.open_calls.specs.declared.list.TheConstants.{ENTRIES}
use Rattle.open_calls.specs.declared.outer.Outer.{Outer}
use Rattle.open_calls.specs.Nest.{opened}
use Rattle.open_calls.specs.Rooms.{turned, level_of, levels, nest_of, HasRoom, Rooms, IsFresh, IsWider, IsRoomier, AreRoomier}

pub turned-push : (os : List Outer) (o : Outer) → turned (os ++ o ∷ []) ≡ o ∷ turned os
turned-push [] o = refl
turned-push (x ∷ xs) o = ap (λ ys. ys ++ x ∷ []) (turned-push xs o)

pub length-turned : (os : List Outer) → length (turned os) ≡ length os
length-turned [] = refl
length-turned (x ∷ xs) = let m = length-append (turned xs) (x ∷ []) in let n = length-turned xs in omega (arith, m, n)

pub length-levels : (os : List Outer) → length (levels os) ≡ length os
length-levels [] = refl
length-levels (x ∷ xs) = let n = length-levels xs in omega (arith, n)

pub depth : (os : List Outer) → length (levels (turned os)) ≡ length os
depth os = length-levels (turned os) ∙ length-turned os

pub less : (e d : ℕ) (os : List Outer) → d ≤ e → HasRoom e os → HasRoom d os
less e d [] few r = tt
less e d (o ∷ os) few r =
    let a = r.0 in (omega (arith, a, few), less (e + 1 + length o.entries.entries) (d + 1 + length o.entries.entries) os (omega (arith, few)) r.1)

-- the same levels with more room
pub roomier : (e : ℕ) (os ps : List Outer) → AreRoomier os ps → HasRoom e os → HasRoom e ps
roomier e [] [] w r = tt
roomier e [] (p ∷ ps) w r = absurd w
roomier e (o ∷ os) [] w r = absurd w
roomier e (o ∷ os) (p ∷ ps) w r =
    let a = r.0 in
    let x = w.0.entries.spare in
    let es = ap length w.0.entries.entries in (
      omega (arith, a, x),
      less (e + 1 + length o.entries.entries) (e + 1 + length p.entries.entries) ps (omega (arith, es))
          (roomier (e + 1 + length o.entries.entries) os ps w.1 r.1),
    )

pub levels-roomier : (os ps : List Outer) → AreRoomier os ps → levels ps ≡ levels os
levels-roomier [] [] w = refl
levels-roomier [] (p ∷ ps) w = absurd w
levels-roomier (o ∷ os) [] w = absurd w
levels-roomier (o ∷ os) (p ∷ ps) w = λ i. record { entries = w.0.entries.entries i; mark = w.0.mark i; point = w.0.point i; kept = w.0.kept i } ∷ levels-roomier os ps w.1 i

pub roomier_same : (os : List Outer) → AreRoomier os os
roomier_same [] = tt
roomier_same (o ∷ os) = (record { entries = record { entries = refl; spare = omega arith }; mark = refl; point = refl; kept = refl }, roomier_same os)

pub rooms_roomier : (acts : ℕ) (p q : HistoryView) (os ps : List Outer) → IsWider p q → AreRoomier os ps → Rooms acts p os → Rooms acts q ps
rooms_roomier acts p q os ps w v r =
    let es = ap length w.entries in
    let a = w.spare in let x = r.entries in record {
      entries = omega (arith, a, x);
      above = less (length p.entries + acts + 1) (length q.entries + acts + 1) ps (omega (arith, es)) (roomier (length p.entries + acts + 1) os ps v r.above);
    }

-- where the last of some outer levels is taken off

pub popped_nest : (top : HistoryView) (xs ys : List Outer) (o : Outer) → xs ≡ ys ++ o ∷ [] → nest_of top xs ≡ record { outers = level_of o ∷ levels (turned ys); entries = top.entries }
popped_nest top xs ys o e = ap (λ os. record { outers = levels os; entries = top.entries }) (ap turned e ∙ turned-push ys o)

pub popped_room : (acts : ℕ) (top : HistoryView) (xs ys : List Outer) (o : Outer) → xs ≡ ys ++ o ∷ [] → Rooms acts top (turned xs)
    → HasRoom (length top.entries + acts + 1) (o ∷ turned ys)
popped_room acts top xs ys o e r = subst (HasRoom (length top.entries + acts + 1)) (ap turned e ∙ turned-push ys o) r.above

-- the entries of a call are joined onto what encloses it
pub close_rooms : (acts h : ℕ) (top p : HistoryView) (o : Outer) (os : List Outer) → HasRoom (length top.entries + acts + 1) (o ∷ os)
    → p.entries ≡ o.entries.entries ++ Entered h o.point ∷ top.entries → o.entries.spare ≤ p.spare + (length top.entries + 1) → Rooms acts p os
close_rooms acts h top p o os r entries joins =
    let a = r.0 in
    let es = ap length entries ∙ length-append o.entries.entries (Entered h o.point ∷ top.entries) in record {
      entries = omega (arith, a, joins);
      above = less (length top.entries + acts + 1 + 1 + length o.entries.entries) (length p.entries + acts + 1) os (omega (arith, es)) r.1;
    }

-- a call goes, with all that it used of the room
pub take_rooms : (acts now : ℕ) (top : HistoryView) (o : Outer) (os : List Outer) → now ≤ acts + length top.entries + 1
    → HasRoom (length top.entries + acts + 1) (o ∷ os) → Rooms now o.entries os
take_rooms acts now top o os few r =
    let a = r.0 in record {
      entries = omega (arith, a, few);
      above = less (length top.entries + acts + 1 + 1 + length o.entries.entries) (length o.entries.entries + now + 1) os (omega (arith, few)) r.1;
    }

-- a call opens, with room for fewer entries
pub open_rooms : (acts fewer : ℕ) (top list : HistoryView) (o : Outer) (xs : List Outer) → Rooms acts top (turned xs) → fewer + 1 ≤ acts
    → fewer ≤ ENTRIES → o.entries ≡ top → IsFresh list → Rooms fewer list (turned (xs ++ o ∷ []))
open_rooms acts fewer top list o xs r few small same fresh =
    let e = ap length fresh.entries in
    let a = r.entries in let is = ap (λ (p : HistoryView). p.spare) same in
    let room = fresh.room in
    let es = ap (λ (p : HistoryView). length p.entries) same in record {
      entries = omega (arith, small, room);
      above = subst (HasRoom (length list.entries + fewer + 1)) (sym (turned-push xs o)) (
        omega (arith, e, a, few, is),
        less (length top.entries + acts + 1) (length list.entries + fewer + 1 + 1 + length o.entries.entries) (turned xs) (omega (arith, e, es, few)) r.above,
      );
    }

pub opened_nest : (top list : HistoryView) (o : Outer) (xs ys : List Outer) → ys ≡ xs ++ o ∷ [] → o.entries ≡ top → IsFresh list
    → nest_of list ys ≡ opened o.point o.kept o.mark (nest_of top xs)
opened_nest top list o xs ys e same fresh =
    popped_nest list ys xs o e
    ∙ (λ i. record {
      outers = record { entries = (same i).entries; mark = o.mark; point = o.point; kept = o.kept } ∷ levels (turned xs);
      entries = fresh.entries i;
    })

-- an entry more, or a longer one
pub put_rooms : (acts : ℕ) (top now : HistoryView) (os : List Outer) → Rooms acts top os → 0 < acts
    → length now.entries ≤ length top.entries + 1 → top.spare ≤ now.spare + 1 → Rooms (acts - 1) now os
put_rooms acts top now os r some es spare =
    let a = r.entries in record {
      entries = omega (arith, a, some, spare);
      above = less (length top.entries + acts + 1) (length now.entries + (acts - 1) + 1) os (omega (arith, es, some)) r.above;
    }

-- a refill at the outer levels
pub same_length : (os ps : List Outer) → AreRoomier os ps → length ps ≡ length os
same_length [] [] w = refl
same_length [] (p ∷ ps) w = absurd w
same_length (o ∷ os) [] w = absurd w
same_length (o ∷ os) (p ∷ ps) w = let n = same_length os ps w.1 in omega (arith, n)

pub turned_length : (xs ys : List Outer) → AreRoomier (turned xs) (turned ys) → length ys ≡ length xs
turned_length xs ys w = let a = same_length (turned xs) (turned ys) w in let b = length-turned xs in let c = length-turned ys in omega (arith, a, b, c)

pub refill_push : (xs ys : List Outer) (o p : Outer) → IsRoomier o p → AreRoomier (turned xs) (turned ys) → AreRoomier (turned (xs ++ o ∷ [])) (turned (ys ++ p ∷ []))
refill_push xs ys o p w v =
    subst (λ os. AreRoomier os (turned (ys ++ p ∷ []))) (sym (turned-push xs o)) (subst (λ ps. AreRoomier (o ∷ turned xs) ps) (sym (turned-push ys p)) (w, v))

pub on_ok : {A E : Type 0} (r : Result A E) (P Q : Type 0) → (P → Q) → OnOk r P → OnOk r Q
on_ok (Ok a) P Q f p = f p
on_ok (Err e) P Q f p = tt
