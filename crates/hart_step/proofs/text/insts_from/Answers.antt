use Rattle.std.proofs.Common.{◌≡◌, ℕ, ◌+◌, ◌*◌, ◌<◌, List, Option, None, length, slice_index_or, ap, sym, subst, arith, length-append}
use Rattle.guest_words.specs.declared.inst.Inst.{Inst}
use Rattle.guest_words.specs.HartAct.{inst_at}
use Rattle.hart_step.proofs.Texts.{insts-push}
use Rattle.hart_step.proofs.text.insts_from.Goals as goal

pub loop-k-preserved : goal.loop-k-preserved
loop-k-preserved c =
    let m = c.args.memory.now.space in
    let k = c.loop-k.k in
    let before = c.loop-k.insts.items in
    let long = c.loop-k.invariant.count in
    let P : List (Option Inst) → Type 0 = λ insts. (j : ℕ) → j < k + 1 → slice_index_or insts j None ≡ inst_at m (c.args.from + 4 * j) in record {
      count = omega (arith, ap length c.in_ok-push.ensures.items, length-append {A = Option Inst}, long);
      insts = subst P (sym c.in_ok-push.ensures.items) (insts-push m c.args.from k before c.inst_at-found.result long c.inst_at-found.ensures.value c.loop-k.invariant.insts);
    }
