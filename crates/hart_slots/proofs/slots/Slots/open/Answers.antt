use Rattle.guest_words.specs.Harts.{opened}
use Rattle.hart_slots.proofs.OneChange.{changed-absent, hart-within, opened-in_place, opened-read}
use Rattle.hart_slots.proofs.slots.Slots.open.Goals as goal

pub hart_mut-requires : goal.hart_mut-requires
hart_mut-requires c = record {
  within = hart-within c.push_frame.new.self c.args.h c.in-Some.hart.now
      (opened-read c.opened-frame.result c.args.h c.args.self.now c.push_frame.new.self c.in-Some.hart.now c.in-Some.ensures.value c.in_ok-push_frame.ensures.ok);
}

pub returns-in_ok-push_frame-clause-ok : goal.returns-in_ok-push_frame-clause-ok
returns-in_ok-push_frame-clause-ok c =
    opened-in_place c.args.point c.opened-frame.result c.args.h c.args.self.now c.push_frame.new.self c.in-Some.hart.now c.hart_mut.result.now c.in-Some.ensures.value c.opened-frame.ensures.value
    c.in_ok-push_frame.ensures.ok c.hart_mut.ensures.value

pub returns-in_default-clause-ok : goal.returns-in_default-clause-ok
returns-in_default-clause-ok c = changed-absent (opened c.args.point) c.args.h c.args.self.now c.in_default.ensures.value
