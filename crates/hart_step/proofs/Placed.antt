-- What is at a place of the table, and what a hart does that carries out no instruction.
use Rattle.std.proofs.Common.{◌≡◌, ◌∙◌, ℕ, ◌<◌, true, false, List, length, get_or, set, slice_index_or, slice_set, Option, Some, None, Err, refl, sym, ap, subst, arith, inl, inr, length-set, get_or-set_other, get_or-set_same}
use Rattle.std.specs.Option.{is_some}
use Rattle.std.proofs.lemmas.Bool.Decides.{eqb_tells}
use Rattle.std.proofs.lemmas.List.{get_or_default}
use Rattle.guest_words.specs.declared.point.Point.{Point}
use Rattle.guest_words.specs.declared.point.PointRef.{PointRef}
use Rattle.guest_words.specs.declared.fault.FaultName.{FaultName}
use Rattle.guest_words.specs.declared.hart.Hart.{Hart}
use Rattle.guest_words.specs.declared.act.Act.{Act}
use Rattle.guest_words.specs.Points.{active_at}
use Rattle.guest_words.specs.Space.{Space}
use Rattle.guest_memory.specs.Kept.{AddressSpace}
use Rattle.guest_words.specs.HartAct.{arrival_of, inst_at}
use Rattle.hart_step.specs.declared.known.Known.{Known}
use Rattle.hart_step.specs.declared.did.Did.TheVariants as did
use Rattle.hart_step.specs.InPlace.{parts, IsMade}
use Rattle.hart_step.specs.Looked.{looked}
use Rattle.hart_step.specs.Table.{place_of, IsFetched, IsPlaced, IsStill, IsTable, Tells, TellsBehind}
use Rattle.hart_step.proofs.Acting.{act_arrived, act_fault, act_inst, looked-inst_at, none_arrives, registers-inst_at}

-- an instruction that can be fetched, where no hart arrives
pub placed_fetched : (m : Space) (points : List Point) (frames : ℕ) (hart : Hart) (table : List Known) → arrival_of points frames hart ≡ None → IsFetched m hart.pc table
    → IsPlaced m points frames hart table (place_of hart.pc)
placed_fetched m points frames hart table none is =
    record {
      within = omega arith;
      inst = λ d.
          let known = slice_index_or table (place_of hart.pc) d in
          record {
            act = act_inst m points frames hart known.inst none (looked-inst_at m hart.pc known.inst (is d));
            registers = registers-inst_at m hart.pc known.inst (is d);
          };
    }

-- an instruction that is known
pub placed_known : (m : Space) (points : List Point) (frames : ℕ) (hart : Hart) (table : List Known) (place : ℕ) (e : Known)
    → IsTable m points table → place < 4096 → place ≡ place_of hart.pc → (slice_index_or table place e).pc ≡ hart.pc → IsPlaced m points frames hart table place
placed_known m points frames hart table place e is below at found =
    let long = is.long in
    let inside : place < length table = omega (arith, below, long) in
    let here : (d : Known) → (slice_index_or table place d).pc ≡ hart.pc = λ d. ap (λ (x : Known). x.pc) (get_or_default table place d e inside) ∙ found in
    let tells : (d : Known) → Tells m points (slice_index_or table place d) = λ d. is.tells place d below (ap place_of (here d) ∙ sym at) in
    subst (IsPlaced m points frames hart table) (sym at)
    (placed_fetched m points frames hart table (none_arrives points frames hart (ap (active_at points) (sym (here e)) ∙ (tells e).free))
    (subst (λ k. (d : Known) → inst_at m hart.pc ≡ Some (slice_index_or table k d).inst) at (λ d. ap (inst_at m) (sym (here d)) ∙ (tells d).inst)))

-- and one that is put into the table
pub fetched_put : (m : Space) (pc : ℕ) (table : List Known) (known : Known) → length table ≡ 4097 → inst_at m pc ≡ Some known.inst → IsFetched m pc (slice_set table (place_of pc) known)
fetched_put m pc table known long is = λ d.
    let inside : place_of pc < length table = omega (arith, long) in
    subst (λ (x : Known). inst_at m pc ≡ Some x.inst) (sym (get_or-set_same table (place_of pc) known d inside)) is

-- at a place stands what tells the truth, or nothing
pub table_put : (m : Space) (points : List Point) (table : List Known) (place : ℕ) (known : Known) → IsTable m points table → place < 4096
    → (place_of known.pc ≡ place → Tells m points known) → IsTable m points (slice_set table place known)
table_put m points table place known is below truth =
    let long = is.long in
    record {
      long = length-set table place known ∙ long;
      tells = λ k d less at. elim (eqb_tells k place) [
        | inl here ↦
            let there : get_or (set table place known) k d ≡ known = ap (λ i. get_or (set table place known) i d) here.1 ∙ get_or-set_same table place known d (omega (arith, long, below)) in
            subst (Tells m points) (sym there) (truth (sym (ap (λ (x : Known). place_of x.pc) there) ∙ at ∙ here.1))
        | inr apart ↦
            let same : get_or (set table place known) k d ≡ get_or table k d = get_or-set_other table place k known d apart.1 in
            subst (Tells m points) (sym same) (is.tells k d less (sym (ap (λ (x : Known). place_of x.pc) same) ∙ at))
      ];
      first = λ d.
          let same : get_or (set table place known) 4096 d ≡ get_or table 4096 d = get_or-set_other table place 4096 known d (omega (arith, below)) in
          subst (TellsBehind m) (sym same) (is.first d);
    }

-- and behind the places what can be fetched, or nothing
pub table_behind : (m : Space) (points : List Point) (table : List Known) (known : Known) → IsTable m points table → TellsBehind m known → IsTable m points (slice_set table 4096 known)
table_behind m points table known is truth =
    let long = is.long in
    record {
      long = length-set table 4096 known ∙ long;
      tells = λ k d less at.
          let same : get_or (set table 4096 known) k d ≡ get_or table k d = get_or-set_other table 4096 k known d (omega (arith, less)) in
          subst (Tells m points) (sym same) (is.tells k d less (sym (ap (λ (x : Known). place_of x.pc) same) ∙ at));
      first = λ d. subst (TellsBehind m) (sym (get_or-set_same table 4096 known d (omega (arith, long)))) truth;
    }

pub still_arrived : (m : AddressSpace) (points : List Point) (frames : ℕ) (hart : Hart) (o : Option PointRef) → arrival_of points frames hart ≡ o → is_some o ≡ true
    → IsStill m points frames hart did.Arrived
still_arrived m points frames hart None is some = absurd (cc)
still_arrived m points frames hart (Some point) is some =
    let act = act_arrived m.space points frames hart point is in
    record { made = λ before. subst (λ (a : Act). IsMade a (parts hart m before) (parts hart m before) did.Arrived) (sym act) (record { answer = refl; hart = refl; memory = refl; before = refl; back = λ never. cc }) }

pub still_fault : (m : AddressSpace) (points : List Point) (frames : ℕ) (hart : Hart) (name : FaultName) → arrival_of points frames hart ≡ None → looked m.space hart.pc ≡ Err name
    → IsStill m points frames hart (did.Fault name)
still_fault m points frames hart name none is =
    let act = act_fault m.space points frames hart name none is in
    record { made = λ before. subst (λ (a : Act). IsMade a (parts hart m before) (parts hart m before) (did.Fault name)) (sym act) (record { answer = refl; hart = refl; memory = refl; before = refl; back = λ never. cc }) }

pub none_of : (o : Option PointRef) → false ≡ is_some o → o ≡ None
none_of None is = refl
none_of (Some point) is = cc
