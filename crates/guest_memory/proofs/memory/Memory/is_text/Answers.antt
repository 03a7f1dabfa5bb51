use Rattle.std.proofs.Common.{subst}
use Rattle.guest_pages.specs.Stretch.{IsStretch}
use Rattle.guest_memory.specs.Kept.{AddressSpace}
use Rattle.guest_memory.proofs.Rights.{page_right}
use Rattle.guest_memory.proofs.memory.Memory.is_text.Goals as goal

pub returns-in-Some-clause-whole : goal.returns-in-Some-clause-whole
returns-in-Some-clause-whole c there =
    let stretch = c.in-Some.stretch in
    let found = subst (λ (m : AddressSpace). IsStretch m.space c.args.page stretch.rights stretch.bytes.now) c.self.view_is c.in-Some.ensures.found in
    page_right (λ rights. rights.exec) c.args.self.now.space c.args.page stretch.rights stretch.bytes.now found c.requires.aligned
