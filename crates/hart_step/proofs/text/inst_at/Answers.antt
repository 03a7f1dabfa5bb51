use Rattle.std.proofs.Common.{◌∙◌, sym}
use Rattle.hart_step.proofs.Acting.{inst_at-looked}
use Rattle.hart_step.proofs.Texts.{inst_at-fault}
use Rattle.hart_step.proofs.text.inst_at.Goals as goal

pub returns-in-Ok : goal.returns-in-Ok
returns-in-Ok c = record { value = sym (inst_at-looked c.args.memory.now.space c.args.pc c.in-Ok.inst (sym c.look.ensures.value ∙ c.in-Ok.is)) }

pub returns-in-Err : goal.returns-in-Err
returns-in-Err c = record { value = sym (inst_at-fault c.args.memory.now.space c.args.pc c.in-Err.field-0 (sym c.look.ensures.value ∙ c.in-Err.is)) }
