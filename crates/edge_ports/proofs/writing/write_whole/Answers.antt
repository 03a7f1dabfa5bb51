use Rattle.std.proofs.Common.{◌≡◌, ◌+◌, take, sym, subst, ap, ◌∙◌, arith, length-drop}
use Rattle.std.proofs.KnownBytes.{Appends-trans}
use Rattle.std.proofs.Math.Seq.{take-add}
use Rattle.std.proofs.lemmas.List.{take_rest}
use Rattle.std.specs.Io.KnownBytes.{Appends}
use Rattle.edge_ports.proofs.writing.write_whole.Goals as goal

pub loop-done-preserved : goal.loop-done-preserved
loop-done-preserved g c =
    let done = c.loop-done.done in
    let count = c.in-Ok.count in
    let piece = c.args.piece.now in
    let more = subst (λ l. Appends (g.W.Write.contents c.loop-done.writer) (g.W.Write.contents c.write.new.self) (take count l)) (take_rest piece done) c.in-Ok.ensures.bytes in
    record {
      within = let count_in = c.in-Ok.ensures.bound in omega (arith, c.loop-done-test.true, c.loop-done.invariant.within, length-drop done piece);
      written = subst (Appends _ _) (sym (take-add done count piece)) (Appends-trans _ _ _ _ _ c.loop-done.invariant.written more);
    }
