use Rattle.std.proofs.Common.{◌≡◌, ◌+◌, ◌*◌, ◌≤◌, All, vec_len}
use Rattle.racer.specs.kept.Threads.{looking}
use Rattle.racer.proofs.threads.total.Given as goal

abbrev pub invariant-children : goal.invariant-children
invariant-children g l = record {
  each : All (λ handle. handle.promise ≡ looking l.looks) l.watching.items;
  few : vec_len l.watching ≤ 64;
  viewers : l.total.viewers + vec_len l.watching ≡ vec_len l.fn.watching;
  looks : l.total.looks + vec_len l.watching * l.looks ≡ vec_len l.fn.watching * l.looks;
  submits : l.total.submits ≡ 0;
}

abbrev pub decreases-children : goal.decreases-children
decreases-children g l = vec_len l.watching
