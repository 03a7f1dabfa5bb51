use Rattle.std.proofs.Common.{arith}
use Rattle.hart_step.specs.Registers.{Stretch}
use Rattle.hart_step.proofs.Texts.{is_in-range}
use Rattle.hart_step.proofs.text.Words.of.Goals as goal

pub returns : goal.returns
returns c =
    let insts = c.in_ok-insts.insts.items in
    let stretch : Stretch = record { from = c.args.from; insts = insts } in
    let first = c.requires.from in
    let long = c.in_ok-insts.ensures.count in record {
      tells = record {
        aligned = omega (arith, first);
        insts = λ k less. c.in_ok-insts.ensures.insts k (omega (arith, less, long));
      };
      whole = λ pc low less. is_in-range stretch c.args.end pc first c.requires.end long low less;
    }
