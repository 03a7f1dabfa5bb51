use Rattle.std.proofs.Common.{◌≤◌, ap, sym, length, option_map, arith}
use Rattle.std.proofs.lemmas.Option.{slice_get_past}
use Rattle.guest_words.specs.State.{on_hart}
use Rattle.run_history.specs.After.{given_back}
use Rattle.hart_slots.specs.Rejoined.{hart_of}
use Rattle.hart_slots.proofs.OneChange.{changed-absent, changed-put}
use Rattle.hart_slots.proofs.slots.Slots.give_back.Goals as goal

pub returns-then-from-len : goal.returns-then-from-len
returns-then-from-len c = record {
  value = changed-put (given_back c.args.ret) c.args.h c.args.self.now c.hart_mut.result.now _ (sym c.hart_mut.ensures.value) c.give_back.ensures.value;
}

pub returns-else-from-len : goal.returns-else-from-len
returns-else-from-len c =
    let past : length c.args.self.now ≤ c.args.h = let f = c.if-from-len.false in let l = c.len.ensures.value in let v = c.from.ensures in omega (arith, f, l, v) in
    record {
      value = changed-absent (on_hart (given_back c.args.ret)) c.args.h c.args.self.now (sym (ap (option_map hart_of) (slice_get_past c.args.self.now c.args.h past)));
    }
