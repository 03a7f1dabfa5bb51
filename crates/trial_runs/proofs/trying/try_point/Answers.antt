use Rattle.std.proofs.Common.{◌≡◌, List, [], ◌∷◌, refl, ap, ◌∙◌, subst}
use Rattle.guest_words.specs.declared.point.Point.{Point}
use Rattle.trial_runs.specs.Trials.{point_at, RunsTo}
use Rattle.trial_runs.proofs.trying.try_point.Goals as goal

pub returns : goal.returns
returns c =
    let ran = c.in_ok-ran.ran in
    let single : c.of-points.result ≡ point_at c.args.code c.args.entry ∷ [] =
    c.of-points.ensures.list ∙ c.in_ok-vec.ensures.items ∙ ap (λ (p : Point). p ∷ []) c.point_at.ensures.value in
    record {
      trial = record {
        at = refl;
        entries = ran.history.entries;
        runs = subst (λ (ps : List Point). RunsTo c.args.subject.now ps ran.history.entries ran.ending) single c.in_ok-ran.ensures.runs;
        rescues = c.in_ok-rescues.ensures.ok;
      };
    }
