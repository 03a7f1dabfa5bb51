-- A walk over records is one over those before and one over those behind.
use Rattle.std.proofs.Common.{◌≡◌, ℕ, Bool, true, false, cond, ◌==◌, List, [], ◌∷◌, ◌++◌, drop, length, Option, Some, None, refl, ap, sym, ◌∙◌, arith}
use Rattle.std.specs.Prelude.{if◌then◌else◌}
use Rattle.std.proofs.lemmas.Bool.Decides.{nat_tests}
use Rattle.std.proofs.lemmas.List.Elements.{filter-append}
use Rattle.guest_words.specs.declared.record.Record.{Record}
use Rattle.edge_ports.specs.DevicesMatch.{records_at}
use Rattle.run_history.specs.declared.entry.Entry.{Entry, Called}
use Rattle.run_history.specs.Counts.{records_of, records_of_all}
use Rattle.rescue_audit.specs.declared.walk.Side.{Side}
use Rattle.rescue_audit.specs.Walk.{left_after, left_behind, left_by}

behind_behind : (f g : List ℕ → Option (List ℕ)) (o : Option (List ℕ)) → left_behind (λ rest. left_behind g (f rest)) o ≡ left_behind g (left_behind f o)
behind_behind f g None = refl
behind_behind f g (Some left) = refl

behind_same : (f g : List ℕ → Option (List ℕ)) (o : Option (List ℕ)) → ((left : List ℕ) → f left ≡ g left) → left_behind f o ≡ left_behind g o
behind_same f g None same = refl
behind_same f g (Some left) same = same left

pub left_after-none : (side : Side) (left : List ℕ) → left_after side left [] ≡ Some left
unfolding left_after
left_after-none side left = refl

left_after-append : (side : Side) (left : List ℕ) (rs ss : List Record) → left_after side left (rs ++ ss) ≡ left_behind (λ rest. left_after side rest ss) (left_after side left rs)
unfolding left_after
left_after-append side left [] ss = refl
left_after-append side left (r ∷ rs) ss =
    behind_same (λ rest. left_after side rest (rs ++ ss)) (λ rest. left_behind (λ x. left_after side x ss) (left_after side rest rs)) (left_by side left r) (λ rest. left_after-append side rest rs ss)
    ∙ behind_behind (λ rest. left_after side rest rs) (λ rest. left_after side rest ss) (left_by side left r)

kept : (o : Option (List ℕ)) → left_behind (λ rest. Some rest) o ≡ o
kept None = refl
kept (Some x) = refl

left_after-one : (side : Side) (left : List ℕ) (r : Record) → left_after side left (r ∷ []) ≡ left_by side left r
unfolding left_after
left_after-one side left r = kept (left_by side left r)

-- the records of one entry, and of those behind it
pub left_after-next : (side : Side) (fd : ℕ) (left : List ℕ) (e : Entry) (es : List Entry)
    → left_after side left (records_at fd (records_of_all (e ∷ es)))
    ≡ left_behind (λ rest. left_after side rest (records_at fd (records_of_all es))) (left_after side left (records_at fd (records_of e)))
left_after-next side fd left e es =
    ap (left_after side left) (filter-append (λ (r : Record). r.port == fd) (records_of e) (records_of_all es))
    ∙ left_after-append side left (records_at fd (records_of e)) (records_at fd (records_of_all es))

one_at : (fd : ℕ) (r : Record) (b : Bool) → (r.port == fd) ≡ b → records_at fd (r ∷ []) ≡ cond b (r ∷ []) []
one_at fd r b is = ap (λ (t : Bool). cond t (r ∷ []) []) is

pub called_here : (side : Side) (left : List ℕ) (fd hart : ℕ) (r : Record) → r.port ≡ fd
    → left_after side left (records_at fd (records_of (Called hart r))) ≡ left_by side left r
unfolding records_of
called_here side left fd hart r is =
    let same : (r.port == fd) ≡ true = grind (arith, nat_tests, is) in
    ap (left_after side left) (one_at fd r true same) ∙ left_after-one side left r

pub called_there : (side : Side) (left : List ℕ) (fd hart : ℕ) (r : Record) → (r.port ≡ fd → ⊥)
    → left_after side left (records_at fd (records_of (Called hart r))) ≡ Some left
unfolding records_of
called_there side left fd hart r other =
    let apart : (r.port == fd) ≡ false = grind (arith, nat_tests, other) in
    ap (left_after side left) (one_at fd r false apart) ∙ left_after-none side left
