use Rattle.std.proofs.Common.{◌∙◌, ap, sym, ℕ, List}
use Rattle.fourstate.specs.declared.value.Value.{Value}
use Rattle.design.specs.Connections.{to_net}
use Rattle.design.specs.Keys.{netlist}
use Rattle.waveform.specs.Timelines.{first_after}
use Rattle.rundiff.specs.kept.Kept.{read_at}
use Rattle.rundiff.proofs.Changes.{change_first, change_never, found_after}
use Rattle.rundiff.proofs.noting.next_old_change.Goals as goal

pub returns-in-Some-clause-after : goal.returns-in-Some-clause-after
returns-in-Some-clause-after g c = found_after c.old_wave.result.now c.args.t (c.in-Some.change, c.in-Some.field-0-1) (sym c.in-Some.ensures.found)

pub returns-in-Some-clause-first : goal.returns-in-Some-clause-first
returns-in-Some-clause-first g c = λ d u later moves.
    let old = netlist c.args.former.now.old.now in
    let stored = c.old_wave.ensures g.S.Stepper.answer c.requires.run in
    change_first c.drift_between.ensures (read_at g.S.Stepper.answer old (to_net c.args.name.now)) old.horizon c.args.t (c.in-Some.change, c.in-Some.field-0-1)
    (ap (λ (es : List (ℕ × Value)). first_after es c.args.t) (sym stored) ∙ sym c.in-Some.ensures.found) u later moves

pub returns-in-None-clause-first : goal.returns-in-None-clause-first
returns-in-None-clause-first g c = λ d u later moves.
    let old = netlist c.args.former.now.old.now in
    let stored = c.old_wave.ensures g.S.Stepper.answer c.requires.run in
    change_never c.drift_between.ensures (read_at g.S.Stepper.answer old (to_net c.args.name.now)) old.horizon c.args.t
    (ap (λ (es : List (ℕ × Value)). first_after es c.args.t) (sym stored) ∙ sym c.in-None.ensures.found) u later moves
