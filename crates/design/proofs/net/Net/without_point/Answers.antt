use Rattle.std.proofs.Common.{◌≤◌, ◌<◌, ◌==◌, ℕ, not, ap, ◌∙◌}
use Rattle.std.specs.List.{filter}
use Rattle.std.proofs.lemmas.List.Elements.{All-filter}
use Rattle.std.proofs.lemmas.List.Kept.{AllPairs-filter}
use Rattle.fourstate.specs.declared.limits.TheConstants.{MAX_TIME}
use Rattle.fourstate.specs.declared.value.Value.{Value}
use Rattle.design.proofs.net.Net.without_point.Goals as goal

pub invariant_of-result : goal.invariant_of-result
invariant_of-result c =
    let old = c.self.invariant in
    let points = c.self.inside.stimulus in
    let test = λ (point : ℕ × Value). not (point.0 == c.args.t) in
    record {
      named = old.named;
      rising = rw c.in_ok-stimulus.ensures (AllPairs-filter (λ (p : ℕ × Value) (q : ℕ × Value). p.0 < q.0) test points old.rising);
      timely = rw c.in_ok-stimulus.ensures (All-filter test (λ (p : ℕ × Value). p.0 ≤ MAX_TIME) points old.timely);
      only_inputs = λ no. c.in_ok-stimulus.ensures ∙ ap (λ l. filter test l) (old.only_inputs no);
    }
