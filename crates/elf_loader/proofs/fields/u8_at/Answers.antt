use Rattle.elf_loader.proofs.Numbers.{number-one}
use Rattle.elf_loader.proofs.fields.u8_at.Goals as goal

pub returns : goal.returns
returns c = number-one c.args.place c.args.file.now
