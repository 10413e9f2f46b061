-- Those who follow gates ahead of a run.
use Rattle.std.specs.Prelude.{◌≡◌, ◌<◌, ℕ, All, length}
use Rattle.gatestep.specs.Step.{State, Evaluation}
use Rattle.design.specs.Keys.{netlist}
use Rattle.design.specs.Netlist.{Netlist}
use Rattle.gateline.specs.kept.Known.{AreFound}
use Rattle.scratch.specs.kept.Kept.{IsWiring}
use Rattle.ordering.specs.declared.helping.Helper.{Helper}
use Rattle.ordering.specs.declared.progress.Progress.{Progress}
use Rattle.ordering.specs.kept.Come.{HaveCome}
use Rattle.ordering.specs.kept.Begins.{IsBegin}
use Rattle.ordering.specs.kept.Lines.{Fit}

-- what has to hold before one helps
pub record IsHelper (answer : Evaluation → ℕ → State) (helper : Helper) : Type 0 where
  pub wired : IsWiring (netlist helper.design.now) helper.wiring.now
  pub begin : IsBegin answer helper.design.now helper.begin
  pub within : All (λ place. place < length (netlist helper.design.now).gates) helper.order.now

-- what one has found is so: the waves that are marked, and the traces of the gates that have come
pub record IsSound (answer : Evaluation → ℕ → State) (d : Netlist) (progress : Progress) : Type 0 where
  pub fit : Fit d progress.lines
  pub found : AreFound answer d progress.lines.found.items progress.lines.waves.items
  pub come : HaveCome answer d progress.come.items progress.lines.traces.items
  pub marks : length progress.come.items ≡ length d.gates
