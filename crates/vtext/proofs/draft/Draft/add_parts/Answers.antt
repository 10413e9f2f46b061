use Rattle.vtext.specs.kept.Readings.{view}
use Rattle.vtext.proofs.GateLemmas.{parts_more}
use Rattle.vtext.proofs.draft.Draft.add_parts.Goals as goal

pub loop-i-preserved : goal.loop-i-preserved
loop-i-preserved c =
    parts_more (view c.args.self.now) (view c.loop-i.self) (view c.add_gate.new.self) c.args.instance c.args.inputs.now c.args.outputs.now _ c.loop-i.i
    c.loop-i-test.true c.loop-i.invariant c.in_ok-add_gate.ensures
