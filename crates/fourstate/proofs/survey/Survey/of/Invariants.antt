use Rattle.std.proofs.Common.{◌≡◌, take}
use Rattle.fourstate.specs.Values.{occurs}
use Rattle.fourstate.specs.declared.value.Value.TheVariants.{Zero, One, Unknown}
use Rattle.fourstate.proofs.survey.Survey.of.Given as goal

-- what the values so far show
abbrev pub invariant-loop-value : goal.invariant-loop-value
invariant-loop-value l =
    let seen = take l.value-index l.values in
    record {
      zero : l.survey.zero ≡ occurs Zero seen;
      one : l.survey.one ≡ occurs One seen;
      unknown : l.survey.unknown ≡ occurs Unknown seen;
    }
