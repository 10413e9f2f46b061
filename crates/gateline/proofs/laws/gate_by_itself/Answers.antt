use Rattle.gateline.proofs.ByItself.{states, stirred, tasks, work}
use Rattle.gateline.proofs.laws.gate_by_itself.Goals as goal

pub returns : goal.returns
returns g c =
    record {
      states = states g.S.Stepper.answer;
      tasks = tasks g.S.Stepper.answer;
      stirred = stirred g.S.Stepper.answer;
      work = work g.S.Stepper.answer;
    }
