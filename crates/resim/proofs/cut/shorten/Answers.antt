use Rattle.std.proofs.Common.{◌≡◌, ◌∙◌, ap, sym, subst, ℕ, List, Option}
use Rattle.fourstate.specs.declared.value.Value.{Value}
use Rattle.waveform.specs.kept.Runs.{RunRecord}
use Rattle.resim.specs.kept.Cuts.{AreCut}
use Rattle.resim.proofs.Cutting.{run_cut}
use Rattle.resim.proofs.cut.shorten.Goals as goal

pub returns : goal.returns
returns c = λ answer is.
    let d = c.args.design.now in
    let h = c.args.horizon in
    let run = c.args.run.now in
    let short = c.cut_traces.new.short in
    let waves : AreCut h d.nets run.waves short.waves =
    subst (λ (lines : List (Option (List (ℕ × Value)))). AreCut h d.nets run.waves lines) (sym c.cut_traces.ensures.waves) c.in_ok-cut_waves.ensures.waves in
    let ends : short.horizon ≡ h = c.cut_traces.ensures.horizon ∙ c.cut_waves.ensures.horizon ∙ ap (λ (r : RunRecord). r.horizon) c.set_horizon.ensures in
    run_cut answer d h run short c.cut_of_changes.ensures c.cut_of_changes-2.ensures c.requires waves c.in_ok-cut_traces.ensures.traces ends is
