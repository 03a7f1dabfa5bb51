use Rattle.std.proofs.Common.{◌∙◌, ap, sym}
use Rattle.hart_step.proofs.Acting.{act_of_looked, fetched-looked}
use Rattle.hart_step.proofs.deciding.fetched.Goals as goal

pub returns-in-Ok : goal.returns-in-Ok
returns-in-Ok c =
    let m = c.args.memory.now.space in
    let hart = c.args.hart.now in record {
      value = c.carried_out.ensures.value ∙ ap (act_of_looked m hart) (sym c.in-Ok.is ∙ c.look.ensures.value) ∙ sym (fetched-looked m hart);
    }

pub returns-in-Err : goal.returns-in-Err
returns-in-Err c =
    let m = c.args.memory.now.space in
    let hart = c.args.hart.now in record {
      value = ap (act_of_looked m hart) (sym c.in-Err.is ∙ c.look.ensures.value) ∙ sym (fetched-looked m hart);
    }
