use Rattle.std.proofs.Common.{rules, ◌≡◌, ◌∙◌, ◌<◌, length, below_more, sym}
use Rattle.design.specs.Keys.{netlist}
use Rattle.racer.proofs.LookLemmas.{other_lists, other_wave, same_lists, same_wave}
use Rattle.racer.proofs.tally.has_waves_of.Goals as goal

pub returns-then-ne : goal.returns-then-ne
returns-then-ne c = λ answer run.
    let other : ¬ (c.changes.result.now ≡ c.changes-in-nets.result.now) =
    other_lists c.changes.result.now c.changes-in-nets.result.now c.ne.result (λ a b. search rules) c.ne.ensures c.if-ne.true in
    let waves : ¬ (c.wave_at.result.now ≡ c.wave_at-in-nets.result.now) = λ w. other (c.changes.ensures ∙ (w ∙ sym c.changes-in-nets.ensures)) in
    let within : c.nets.place < length (netlist c.args.design.now).nets = search rules in (
      λ no. cc,
      λ same. absurd (
          other_wave (netlist c.args.design.now) c.args.snapshot.now.design answer c.nets.place _ _ c.requires.design c.wave_at.ensures
          (c.wave_at-in-nets.ensures answer run) waves (same c.nets.place within)
          ),
    )

pub nets-preserved : goal.nets-preserved
nets-preserved c = λ answer run.
    let same : c.changes.result.now ≡ c.changes-in-nets.result.now =
    same_lists c.changes.result.now c.changes-in-nets.result.now c.ne.result (λ a b. search rules) c.ne.ensures c.if-ne.false in
    let waves : c.wave_at.result.now ≡ c.wave_at-in-nets.result.now = sym c.changes.ensures ∙ (same ∙ c.changes-in-nets.ensures) in
    below_more _ _ (c.nets.invariant answer run)
    (same_wave (netlist c.args.design.now) c.args.snapshot.now.design answer c.nets.place _ _ c.requires.design c.wave_at.ensures (c.wave_at-in-nets.ensures answer run) waves)
