use Rattle.std.proofs.Common.{◌∙◌, ◌++◌, ◌∷◌, [], ap, map, arith}
use Rattle.std.proofs.lemmas.List.{take_all}
use Rattle.design.specs.Keys.{netlist}
use Rattle.waveform.specs.Timelines.{entries_until}
use Rattle.scratch.specs.kept.Run.{trace_of}
use Rattle.scratch.proofs.Copies.{one_found, whole_trace}
use Rattle.scratch.proofs.resuming.copy_traces.Goals as goal

pub loop-place-preserved : goal.loop-place-preserved
loop-place-preserved g c =
    let answer = g.S.Stepper.answer in let d = netlist c.args.design.now in let h = c.horizon-horizon.result in let trace = c.trace_at-trace.result.now in let old = c.loop-place.traces.items in
    one_found (trace_of answer d) (trace_of answer d) d.gates c.loop-place.place trace (entries_until trace h) old c.push.new.self.items
    (λ gate at same. ap (λ line. entries_until line h) same ∙ whole_trace answer d h c.horizon-horizon.ensures.horizon c.cut_of_changes.ensures gate)
    (c.trace_at-trace.ensures answer c.requires.run) c.loop-place.invariant (c.in_ok-push.ensures.items ∙ ap (λ line. old ++ line ∷ []) c.in_ok-fork.ensures.entries)

pub returns : goal.returns
returns g c =
    let d = netlist c.args.design.now in
    c.loop-place.invariant ∙ ap (map (trace_of g.S.Stepper.answer d)) (take_all c.loop-place.place d.gates (let past = c.loop-place-test.false in omega arith))
