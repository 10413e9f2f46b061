use Rattle.std.proofs.Common.{ap, refl, sym, ◌∙◌}
use Rattle.gatestep.specs.Step.{advance}
use Rattle.design.specs.Netlist.{net_named}
use Rattle.scratch.specs.Run.{value}
use Rattle.std.specs.Option.{option_copied}
use Rattle.session.proofs.ToolLemmas.{wave_timeline}
use Rattle.session.proofs.asking.wave_asked.Goals as goal

pub returns-clause-timeline : goal.returns-clause-timeline
returns-clause-timeline c =
    let d = c.args.snapshot.now.design in
    wave_timeline d (net_named d c.args.question.now.net) c.in-Some.wave.now (rw c.as_str.ensures at (ap option_copied (sym c.in-Some.is) ∙ c.wave.ensures))
    (λ n. c.timeline_of_changes.ensures (value advance d n) (λ t. refl) d.horizon)
