use Rattle.std.proofs.Common.{◌∙◌}
use Rattle.elf_loader.proofs.Numbers.{little_number-tail}
use Rattle.elf_loader.proofs.fields.u16_at.Goals as goal

pub returns : goal.returns
returns c = c.read_u16.ensures ∙ little_number-tail 2 c.args.place c.args.file.now c.requires
