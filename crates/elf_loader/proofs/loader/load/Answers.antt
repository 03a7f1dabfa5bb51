use Rattle.std.proofs.Common.{ap, map, ◌∙◌}
use Rattle.elf_loader.specs.Segment.{load_of}
use Rattle.elf_loader.proofs.FileRules.{image_is}
use Rattle.elf_loader.proofs.loader.load.Goals as goal

pub returns-in_ok-loads-in-Ok-clause-ok : goal.returns-in_ok-loads-in-Ok-clause-ok
returns-in_ok-loads-in-Ok-clause-ok c =
    let loads = c.in_ok-loads-in-Ok.ensures ∙ ap (λ s. map load_of s) c.as_slice.ensures.value ∙ c.in-Ok.ensures.loads in
    image_is c.args.bytes.now _ c.in-Ok.ensures.rules loads c.u64_at-entry.ensures
