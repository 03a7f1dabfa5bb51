use Rattle.guest_memory.proofs.Noted.{notes_both}
use Rattle.hart_step.proofs.guest.Guest.move_brk.Goals as goal

pub returns-clause-notes : goal.returns-clause-notes
returns-clause-notes c =
    notes_both c.args.noted c.args.log.now.notes c.fit_pages.new.log.notes c.set_brk.new.log.notes c.args.self.now.memory c.fit_pages.new.self.memory c.set_brk.new.self.memory
    c.in_ok-fit_pages.ensures.notes c.set_brk.ensures.notes
