use Rattle.std.proofs.Common.{◌≡◌, ◌+◌, ◌-◌, ◌∙◌, length, take, drop, true, refl, sym, ap, arith, length-drop}
use Rattle.std.proofs.lemmas.List.{take_rest}
use Rattle.guest_words.specs.Space.{can_write, with_bytes}
use Rattle.guest_memory.specs.Kept.{AddressSpace}
use Rattle.guest_memory.proofs.Filled.{filled_more, filled_none, writable_after}
use Rattle.guest_memory.proofs.Noted.{notes_both, notes_none}
use Rattle.guest_memory.proofs.memory.Memory.fill_noted.Goals as goal

pub loop-done-init : goal.loop-done-init
loop-done-init c =
    let old = c.args.self.now in
    record {
      within = omega arith;
      same = ap (λ m. record old { space = m }) (sym (filled_none old.space c.args.from c.args.bytes.now));
      notes = notes_none true c.args.log.now.notes old;
      few = omega arith;
      room = omega arith;
      text = λ pc. refl;
    }

pub fill_first-done-requires-clause-writable : goal.fill_first-done-requires-clause-writable
fill_first-done-requires-clause-writable c =
    let bytes = c.args.bytes.now in
    let done = c.loop-done.done in
    let rest = take (length bytes - done) (drop done bytes) in
    let long : length rest ≡ length bytes - done = ap length (take_rest bytes done) ∙ length-drop done bytes in
    ap (λ (x : AddressSpace). can_write x.space (c.args.from + done) (length rest)) c.loop-done.invariant.same
    ∙ writable_after c.args.self.now.space c.args.from (length bytes) done rest (take done bytes) c.requires.writable c.loop-done.invariant.within long

pub loop-done-preserved : goal.loop-done-preserved
loop-done-preserved c =
    let old = c.args.self.now in
    let bytes = c.args.bytes.now in
    let done = c.loop-done.done in
    let count = c.fill_first-done.result in
    let rest = take (length bytes - done) (drop done bytes) in
    let long : length rest ≡ length bytes - done = ap length (take_rest bytes done) ∙ length-drop done bytes in
    let upto = c.fill_first-done.ensures.within in
    let some = c.fill_first-done.ensures.some in
    let held = c.loop-done.invariant in
    let within = held.within in
    let room = held.room in
    let one = c.fill_first-done.ensures.room in
    let few = held.few in
    let one_more = c.fill_first-done.ensures.few in
    record {
      within = omega (arith, within, long, upto);
      same = c.fill_first-done.ensures.value
          ∙ ap (λ (x : AddressSpace). record x { space = with_bytes x.space (c.args.from + done) (take count rest) }) held.same
          ∙ ap (λ m. record old { space = m }) (filled_more old.space c.args.from done count bytes within);
      notes = notes_both true c.args.log.now.notes c.loop-done.log.notes c.fill_first-done.new.log.notes old c.loop-done.self c.fill_first-done.new.self held.notes c.fill_first-done.ensures.notes;
      few = omega (arith, few, one_more, some);
      room = omega (arith, room, one, some);
      text = λ pc. c.fill_first-done.ensures.text pc ∙ held.text pc;
    }
