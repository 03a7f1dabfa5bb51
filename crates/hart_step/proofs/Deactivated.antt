-- What a table tells stays true where points become inactive, and where the text stays.
use Rattle.std.proofs.Common.{◌≡◌, ℕ, ◌-◌, Bool, true, false, not, ◌&&◌, ◌==◌, cond, if◌then◌else◌, List, [], ◌∷◌, find, get_or, ap, ◌∙◌, refl, Option, Some, None, option_map, arith}
use Rattle.std.proofs.lemmas.Bool.Decides.{nat_tests}
use Rattle.guest_words.specs.declared.point.Point.{Point}
use Rattle.guest_words.specs.Points.{active_at, is_active, is_on, is_spent, reference_of, spent, spent_at, spent_once}
use Rattle.guest_words.specs.Space.{Space}
use Rattle.guest_memory.specs.Text.{SameText}
use Rattle.hart_step.specs.declared.known.Known.{Known}
use Rattle.hart_step.specs.Table.{IsTable}

-- a test of a point that fails before a rescue fails after it

spent_off : (on : Bool) (left : Option ℕ) (same : Bool) → (on && not (is_spent left) && same) ≡ false → (on && not (is_spent (option_map (λ n. n - 1) left)) && same) ≡ false
spent_off false left same is = refl
spent_off true None same is = is
spent_off true (Some n) false is = by (n - 1 == 0)
  where
    by : (b : Bool) → (not b && false) ≡ false
    by true = refl
    by false = refl
spent_off true (Some n) true is = by (n == 0) refl is
  where
    by : (b : Bool) → (n == 0) ≡ b → (not b && true) ≡ false → (not (n - 1 == 0) && true) ≡ false
    by true none e = let gone : (n - 1 == 0) ≡ true = grind (arith, nat_tests, none) in ap (λ b. not b && true) gone
    by false some e = cc

at_off : (entry pc : ℕ) (p : Point) → (is_active p && (p.entry == pc)) ≡ false → (is_active (spent_at entry p) && ((spent_at entry p).entry == pc)) ≡ false
at_off entry pc p is = by (p.entry == entry)
  where
    by : (b : Bool) → (is_active (if b then spent_once p else p) && ((if b then spent_once p else p).entry == pc)) ≡ false
    by true = spent_off (is_on p.kind) p.left (p.entry == pc) is
    by false = is

pub inactive-spent : (points : List Point) (entry pc : ℕ) → active_at points pc ≡ None → active_at (spent points entry) pc ≡ None
inactive-spent [] entry pc is = refl
inactive-spent (p ∷ points) entry pc is = by (is_active p && (p.entry == pc)) refl is (inactive-spent points entry pc)
  where
    by : (b : Bool) → (is_active p && (p.entry == pc)) ≡ b → option_map reference_of (cond b (Some p) (find (λ q. is_active q && (q.entry == pc)) points)) ≡ None
        → (active_at points pc ≡ None → active_at (spent points entry) pc ≡ None) → active_at (spent (p ∷ points) entry) pc ≡ None
    by true own e later = absurd (cc)
    by false own e later = ap (λ b. option_map reference_of (cond b (Some (spent_at entry p)) (find (λ q. is_active q && (q.entry == pc)) (spent points entry)))) (at_off entry pc p own) ∙ later e

pub table-spent : (m : Space) (points : List Point) (entry : ℕ) (table : List Known) → IsTable m points table → IsTable m (spent points entry) table
table-spent m points entry table is =
    record { long = is.long; tells = λ k d less at. record { inst = (is.tells k d less at).inst; free = inactive-spent points entry _ (is.tells k d less at).free }; first = is.first }

pub table-text : (m n : Space) (points : List Point) (table : List Known) → SameText m n → IsTable m points table → IsTable n points table
table-text m n points table same is =
    record {
      long = is.long;
      tells = λ k d less at. record { inst = same (get_or table k d).pc ∙ (is.tells k d less at).inst; free = (is.tells k d less at).free };
      first = λ d whole. same (get_or table 4096 d).pc ∙ is.first d whole;
    }
