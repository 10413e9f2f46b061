use Rattle.std.proofs.Common.{◌∙◌, suc, arith}
use Rattle.design.specs.Keys.{connection_in, netlist}
use Rattle.rundiff.specs.kept.Kept.{read_at}
use Rattle.rundiff.proofs.Driven.{map_before}
use Rattle.rundiff.proofs.reading.inputs_at.Goals as goal

pub loop-place-preserved : goal.loop-place-preserved
loop-place-preserved g c =
    let answer = g.S.Stepper.answer in
    record {
      within = omega arith;
      read =
          c.put_first.ensures
          ∙ map_before (λ terminal. read_at answer (netlist c.args.former.now.new.now) (connection_in c.args.former.now.new.now.nets terminal) c.args.m) c.inputs-terminals.result.now c.loop-place.place
          c.index-terminals-place.result c.connection_value.result c.loop-place.values c.loop-place-test.true c.loop-place.invariant.within c.index-terminals-place.is
          (c.connection_value.ensures answer (suc c.args.t) c.requires.run c.requires.waves (omega arith)) c.loop-place.invariant.read;
    }
