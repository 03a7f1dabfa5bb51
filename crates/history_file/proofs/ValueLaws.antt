-- The values of a history file are read as they are spelled.
use Rattle.std.proofs.Common.{◌≡◌, ℕ, zero, suc, List, ◌++◌, Option, Some, None, Ok, refl, sym, ap, subst}
use Rattle.std.specs.Prelude.{slice_get}
use Rattle.guest_words.specs.declared.fault.FaultName.{FaultName}
use Rattle.guest_words.specs.declared.fault.FaultName.TheVariants as name
use Rattle.guest_words.specs.declared.record.Way.{Way}
use Rattle.guest_words.specs.declared.record.Way.TheVariants as way
use Rattle.guest_words.specs.Names.{order_of}
use Rattle.history_file.specs.declared.values.TheConstants.{NAMES, WAYS}
use Rattle.history_file.specs.HistoryBytes.{way_number}
use Rattle.history_file.specs.Reading.{◌>>=◌, meant, byte_at, way_at, name_at}
use Rattle.history_file.proofs.Exact.{IsBytes, Takes, Exact, step}
use Rattle.history_file.proofs.FieldLaws.{one, Always, byte_law}

-- what a field means, where it means anything
pub record Meant {A : Type 0} (o : Option A) (y : A × List ℕ) (rest : List ℕ) : Type 0 where
  pub value : o ≡ Some y.0
  pub behind : rest ≡ y.1

pub meant_ok : {A : Type 0} (o : Option A) (place rest : List ℕ) (y : A × List ℕ) → meant o place rest ≡ Ok y → Meant o y rest
meant_ok None place rest y e = absurd cc
meant_ok (Some x) place rest y e = record { value = cc; behind = cc }

-- a byte that means a value
pub coded_takes : {A : Type 0} (table : List A) (number : A → ℕ) → ((n : ℕ) (x : A) → slice_get table n ≡ Some x → number x ≡ n)
    → (bytes : List ℕ) (x : A) (rest : List ℕ) → IsBytes bytes → (byte_at bytes >>= λ n. meant (slice_get table n.0) bytes n.1) ≡ Ok (x, rest) → Takes bytes (one (number x)) rest × Unit {0}
coded_takes table number back bytes x rest fits e =
    let n = step byte_at one Always byte_law bytes (λ n. meant (slice_get table n.0) bytes n.1) (x, rest) fits e in
    let m = meant_ok (slice_get table n.value) bytes n.rest (x, rest) n.then_ in
    let is = back n.value x m.value in
    let behind = m.behind in
    (subst (λ (k : ℕ). Takes bytes (one k) rest) (sym is) (subst (Takes bytes (one n.value)) behind n.taken), tt)

pub coded_again : {A : Type 0} (table : List A) (number : A → ℕ) → ((x : A) → slice_get table (number x) ≡ Some x)
    → (x : A) (rest : List ℕ) → Unit {0} → (byte_at (one (number x) ++ rest) >>= λ n. meant (slice_get table n.0) (one (number x) ++ rest) n.1) ≡ Ok (x, rest)
coded_again table number there x rest h =
    let byte : byte_at (one (number x) ++ rest) ≡ Ok (number x, rest) = byte_law.again (number x) rest tt in
    rw (byte, there x) refl

-- ---- ways

way_back : (n : ℕ) (w : Way) → slice_get WAYS n ≡ Some w → way_number w ≡ n
way_back zero w e = ap way_number (sym (let h : way.Read ≡ w = cc in h))
way_back (suc zero) w e = ap way_number (sym (let h : way.Write ≡ w = cc in h))
way_back (suc (suc zero)) w e = ap way_number (sym (let h : way.Close ≡ w = cc in h))
way_back (suc (suc (suc n))) w e = absurd cc

way_there : (w : Way) → slice_get WAYS (way_number w) ≡ Some w
way_there way.Read = refl
way_there way.Write = refl
way_there way.Close = refl

abbrev pub way_byte : Way → List ℕ
way_byte w = one (way_number w)

pub way_law : Exact way_at way_byte Always
unfolding way_at
way_law = record { takes = coded_takes WAYS way_number way_back; again = coded_again WAYS way_number way_there }

-- ---- names of faults

name_back : (n : ℕ) (f : FaultName) → slice_get NAMES n ≡ Some f → order_of f ≡ n
name_back zero f e = ap order_of (sym (let h : name.FetchRights ≡ f = cc in h))
name_back (suc zero) f e = ap order_of (sym (let h : name.FetchMisaligned ≡ f = cc in h))
name_back (suc (suc zero)) f e = ap order_of (sym (let h : name.Illegal ≡ f = cc in h))
name_back (suc (suc (suc zero))) f e = ap order_of (sym (let h : name.LoadRights ≡ f = cc in h))
name_back (suc (suc (suc (suc zero)))) f e = ap order_of (sym (let h : name.StoreRights ≡ f = cc in h))
name_back (suc (suc (suc (suc (suc zero))))) f e = ap order_of (sym (let h : name.AtomicMisaligned ≡ f = cc in h))
name_back (suc (suc (suc (suc (suc (suc zero)))))) f e = ap order_of (sym (let h : name.Breakpoint ≡ f = cc in h))
name_back (suc (suc (suc (suc (suc (suc (suc zero))))))) f e = ap order_of (sym (let h : name.BlockedInPoint ≡ f = cc in h))
name_back (suc (suc (suc (suc (suc (suc (suc (suc n)))))))) f e = absurd cc

name_there : (f : FaultName) → slice_get NAMES (order_of f) ≡ Some f
name_there name.FetchRights = refl
name_there name.FetchMisaligned = refl
name_there name.Illegal = refl
name_there name.LoadRights = refl
name_there name.StoreRights = refl
name_there name.AtomicMisaligned = refl
name_there name.Breakpoint = refl
name_there name.BlockedInPoint = refl

abbrev pub name_byte : FaultName → List ℕ
name_byte f = one (order_of f)

pub name_law : Exact name_at name_byte Always
unfolding name_at
name_law = record { takes = coded_takes NAMES order_of name_back; again = coded_again NAMES order_of name_there }
