use Rattle.std.proofs.Common.{◌≡◌, ◌∙◌, ap, sym, refl, [], Some, length, slice_get, append-nil, arith}
use Rattle.std.proofs.lemmas.Grind.{common_steps}
use Rattle.catalog.specs.kept.Catalog.{keys_of}
use Rattle.scratch.proofs.Keyed.{none_left, none_under, put_last}
use Rattle.scratch.proofs.recording.put_traces.Goals as goal

pub loop-trace-init : goal.loop-trace-init
loop-trace-init c =
    record {
      done = ([], sym (append-nil c.args.traces.items), none_under _ c.args.run.now.traces c.requires.none);
      waves = refl;
      horizon = refl;
    }

pub loop-trace-preserved : goal.loop-trace-preserved
loop-trace-preserved c =
    let keys = keys_of c.args.design.now.gates in
    let left = c.pop.new.self.items in
    let done = c.loop-trace.invariant.done in
    let at : slice_get keys (length left) ≡ Some c.number.result =
    (let last : length left ≡ c.len.result = grind (arith, common_steps) in ap (λ p. slice_get keys p) last) ∙ c.gate_key_at-gate.ensures.key ∙ ap Some (sym c.number.ensures) in
    record {
      done = put_last keys c.args.traces.items c.loop-trace.traces.items left done.0 c.loop-trace.run.traces c.share_trace.new.self.traces c.number.result c.in-Some.trace done.1 c.in-Some.ensures.items done.2 at c.in_ok-share_trace.ensures.ok;
      waves = grind (arith, common_steps);
      horizon = grind (arith, common_steps);
    }

pub returns-clause-traces : goal.returns-clause-traces
returns-clause-traces c =
    let left = c.loop-trace.traces.items in
    let done = c.loop-trace.invariant.done in
    let none : length left ≡ 0 = grind (arith, common_steps) in
    none_left (keys_of c.args.design.now.gates) c.args.traces.items left done.0 c.loop-trace.run.traces done.1 none done.2
