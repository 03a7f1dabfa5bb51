-- That the notes of open calls lead back to where each was entered.
use Rattle.std.proofs.Common.{◌≡◌, ℕ, ◌-◌, ◌<◌, Bool, true, false, ◌==◌, if◌then◌else◌, List, [], ◌∷◌, drop, length, take, refl, ap, sym, ◌∙◌, subst, arith}
use Rattle.std.proofs.lemmas.Bool.Decides.{nat_tests}
use Rattle.std.proofs.lemmas.List.{length-take, take-take, take_all}
use Rattle.guest_words.specs.State.{State}
use Rattle.guest_memory.specs.Kept.{AddressSpace}
use Rattle.guest_memory.specs.Returning.{can_return, is_in_heap, put_back}
use Rattle.undo_log.specs.declared.note.Note.{Note}
use Rattle.undo_log.specs.declared.note.Note.TheVariants.{Bytes, Made, Gone, Break}
use Rattle.undo_log.specs.Undo.{undone}
use Rattle.run_history.specs.declared.entry.Entry.{Entry}
use Rattle.run_history.specs.After.{state_after}
use Rattle.open_calls.specs.Leading.{before_from, led_from, LeadsBack}
use Rattle.open_calls.specs.Nest.{Level, Nest, flat_from, mark_in, newest_mark, notes_from, notes_in, notes_upto}
use Rattle.open_calls.specs.Stacked.{Fact, IsSpaceOf, Stacked}
use Rattle.open_calls.proofs.Stacks.{flat_run}

-- the same but for the pages that can come back
record Alike (m n : AddressSpace) : Type 0 where
  space : m.space ≡ n.space
  low : m.low ≡ n.low
  brk : m.brk ≡ n.brk

-- a note makes alike ones of such
alike_if : (b : Bool) (m n p q : AddressSpace) → Alike m n → Alike p q → Alike (if b then m else p) (if b then n else q)
alike_if true m n p q left right = left
alike_if false m n p q left right = right

put_spare : (m : AddressSpace) (spare : ℕ) (note : Note) → Alike (put_back m note) (put_back (record m { spare = spare }) note)
put_spare m spare (Bytes address width old) = record { space = refl; low = refl; brk = refl }
put_spare m spare (Made from count) = record { space = refl; low = refl; brk = refl }
put_spare m spare (Gone page) = alike_if (can_return m.space page) _ _ _ _ (record { space = refl; low = refl; brk = refl }) (record { space = refl; low = refl; brk = refl })
put_spare m spare (Break old) = alike_if (is_in_heap m old) _ _ _ _ (record { space = refl; low = refl; brk = refl }) (record { space = refl; low = refl; brk = refl })

put_alike : (m n : AddressSpace) (note : Note) → Alike m n → Alike (put_back m note) (put_back n note)
put_alike m n note a =
    subst (λ (x : AddressSpace). Alike (put_back m note) (put_back x note)) (λ i. record { space = a.space i; low = a.low i; brk = a.brk i; spare = n.spare })
    (put_spare m n.spare note)

undone_alike : (ns : List Note) (m n : AddressSpace) → Alike m n → Alike (undone put_back ns m) (undone put_back ns n)
undone_alike [] m n a = a
undone_alike (note ∷ newer) m n a = put_alike (undone put_back newer m) (undone put_back newer n) note (undone_alike newer m n a)

led_alike : (frame : ℕ) (os : List Level) (end : ℕ) (ns : List Note) (m n : AddressSpace) → Alike m n → Alike (led_from frame os end ns m) (led_from frame os end ns n)
led_alike frame [] end ns m n a = a
led_alike frame (o ∷ os) end ns m n a =
    let further = undone_alike (notes_upto end o ns) m n a in
    alike_if (frame == length os) _ _ _ _ further (led_alike frame os o.mark ns _ _ further)

-- the notes of the innermost call are those from the last mark on
pub innermost_notes : (n : Nest) (ns : List Note) → 0 < length n.outers → notes_in (length n.outers - 1) ns n ≡ drop (mark_in n) ns
innermost_notes n ns some = by n.outers some
  where
    by : (os : List Level) → 0 < length os → notes_from (length os - 1) os (length ns) ns ≡ drop (newest_mark os) ns
    by [] some = absurd (omega (arith, some))
    by (o ∷ os) some =
        let last : (length (o ∷ os) - 1 == length os) ≡ true = grind (arith, nat_tests) in
        ap (λ (b : Bool). if b then notes_upto (length ns) o ns else notes_from (length (o ∷ os) - 1) os o.mark ns) last
        ∙ ap (drop o.mark) (take_all (length ns) ns (omega arith))

module _ (Back : Fact) (start : State) (h frame : ℕ) where
  -- the notes before a position lead back
  leads : (os : List Level) (es : List Entry) (end : ℕ) (ns : List Note) (t : State) (n : AddressSpace)
      → Stacked Back start h os es (take end ns) t n → frame < length os → IsSpaceOf (led_from frame os end ns n) (state_after start (before_from h frame os))
  leads [] es end ns t n is inside = absurd (omega (arith, inside))
  leads (o ∷ os) es end ns t n (b, m, is, rest) inside =
      let most = is.marked in
      let long = length-take end ns in
      let outer = subst (λ xs. Stacked Back start h os o.entries xs b m) (take-take o.mark end ns (omega (arith, most, long))) rest in
      by (frame == length os) refl (flat_run Back start h os o.entries (take o.mark ns) b m outer).1 (leads os o.entries o.mark ns b m outer)
    where
      by : (c : Bool) → (frame == length os) ≡ c → state_after start (flat_from h os o.entries) ≡ b
          → (frame < length os → IsSpaceOf (led_from frame os o.mark ns m) (state_after start (before_from h frame os)))
          → IsSpaceOf (if c then undone put_back (notes_upto end o ns) n else led_from frame os o.mark ns (undone put_back (notes_upto end o ns) n))
          (state_after start (if c then flat_from h os o.entries else before_from h frame os))
      by true e run further = subst (λ (x : AddressSpace × State). IsSpaceOf x.0 x.1) (λ i. (sym is.undoes i, sym run i)) is.space
      by false e run further =
          let less : frame < length os = grind (arith, nat_tests, e, inside) in
          subst (λ x. IsSpaceOf (led_from frame os o.mark ns x) (state_after start (before_from h frame os))) (sym is.undoes) (further less)

  -- all notes lead from any memory of the state that they have come to
  pub leads_back : (nest : Nest) (ns : List Note) (t : State) (n : AddressSpace)
      → Stacked Back start h nest.outers nest.entries ns t n → IsSpaceOf n t → frame < length nest.outers → LeadsBack start h frame ns nest t
  leads_back nest ns t n is there inside m same =
      let all = take_all (length ns) ns (omega arith) in
      let led = leads nest.outers nest.entries (length ns) ns t n (subst (λ xs. Stacked Back start h nest.outers nest.entries xs t n) (sym all) is) inside in
      let alike = led_alike frame nest.outers (length ns) ns m n (record { space = same.space ∙ sym there.space; low = same.low ∙ sym there.low; brk = same.brk ∙ sym there.brk }) in
      record { space = alike.space ∙ led.space; low = alike.low ∙ led.low; brk = alike.brk ∙ led.brk }
