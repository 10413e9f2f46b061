use Rattle.std.proofs.Common.{subst}
use Rattle.catalog.specs.kept.Catalog.{keys_of}
use Rattle.scratch.specs.kept.Recordings.{AreUnder}
use Rattle.scratch.proofs.Keyed.{traces_under, waves_under}
use Rattle.scratch.proofs.finishing.run_of_lines.Goals as goal

pub returns : goal.returns
returns g c =
    let answer = g.S.Stepper.answer in let design = c.args.design.now in
    record {
      waves = waves_under answer design c.in_ok-run.run'.waves (subst (λ lines. AreUnder (keys_of design.nets) lines c.in_ok-run.run'.waves) c.requires.waves c.in_ok-run.ensures.waves);
      traces = traces_under answer design c.in_ok-run.run'.traces (subst (λ lines. AreUnder (keys_of design.gates) lines c.in_ok-run.run'.traces) c.requires.traces c.in_ok-run.ensures.traces);
      horizon = c.in_ok-run.ensures.horizon;
    }
