use Rattle.std.proofs.Common.{◌≡◌, sym, subst, suc, IfSome, slice_get, arith}
use Rattle.design.specs.Keys.{netlist}
use Rattle.scratch.specs.Run.{state_after}
use Rattle.waveform.specs.kept.Changes.{trace_below}
use Rattle.ordering.proofs.EarlierTraces.{gates_early, trace_early}
use Rattle.ordering.proofs.earlier.former_trace.Goals as goal

pub trace_at-trace-requires-clause-run : goal.trace_at-trace-requires-clause-run
trace_at-trace-requires-clause-run g c = (g.S.Stepper.answer, c.requires.earlier.run)

pub trace_at-trace-requires-clause-within : goal.trace_at-trace-requires-clause-within
trace_at-trace-requires-clause-within g c =
    let many = gates_early c.args.design.now c.args.earlier.design.now c.requires.earlier.same in
    let there = c.requires.there in omega arith

pub returns-clause-trace : goal.returns-clause-trace
returns-clause-trace g c =
    let answer = g.S.Stepper.answer in let d = netlist c.args.design.now in let trace = c.trace_at-trace.result.now in
    subst (λ h. IfSome (slice_get d.gates c.args.place) (λ g. trace ≡ trace_below (state_after answer d g) (suc h))) (sym c.horizon-done.ensures.horizon)
    (trace_early answer trace c.args.design.now c.args.earlier.design.now c.requires.earlier.same c.args.place (c.trace_at-trace.ensures answer c.requires.earlier.run))
