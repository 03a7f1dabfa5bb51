use Rattle.std.proofs.Common.{◌∙◌, slice_set, sym}
use Rattle.hart_step.specs.declared.known.Known.{Known}
use Rattle.hart_step.proofs.Acting.{inst_at-looked}
use Rattle.hart_step.proofs.Placed.{table_behind, table_put}
use Rattle.hart_step.proofs.step.fetch_at.Goals as goal

pub returns-else-is_none-clause-table : goal.returns-else-is_none-clause-table
returns-else-is_none-clause-table c =
    let m = c.args.memory.now.space in
    let points = c.args.points.now in
    let table = c.args.table.now in
    let pc = c.args.pc in
    let inst = c.in_ok-inst.inst in
    let first : Known = record { inst = inst; pc = pc } in
    let behind = table_behind m points table first c.requires.table (λ whole. inst_at-looked m pc inst (sym c.look.ensures.value ∙ c.in_ok-inst.was)) in
    let place = c.place_of-else-is_none in
    let apart = c.apart_from.ensures.other in
    table_put m points (slice_set table 4096 first) place.result _ behind place.ensures.within (λ same. absurd (apart (same ∙ place.ensures.value)))
