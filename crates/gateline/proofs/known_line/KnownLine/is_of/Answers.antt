use Rattle.std.proofs.Common.{◌∙◌, sym, ap, arith}
use Rattle.std.proofs.lemmas.Grind.{common_steps}
use Rattle.fourstate.specs.kept.DelayLaws.{same_delays_equal}
use Rattle.gateline.specs.kept.Reads.{reads_by}
use Rattle.gateline.proofs.known_line.KnownLine.is_of.Goals as goal

pub returns : goal.returns
returns c = λ is.
    record {
      kind = grind (arith, common_steps);
      delays = same_delays_equal c.args.self.now.delays c.delays.result (grind (arith, common_steps)) ∙ c.delays.ensures;
      reads = λ t. ap (λ l. reads_by l t) (sym c.as_slice.ensures.value) ∙ c.are_of.ensures is t;
      first = grind (arith, common_steps);
      end = grind (arith, common_steps);
    }
