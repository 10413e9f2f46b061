use Rattle.std.proofs.Common.{◌≡◌, ◌≤◌, length}
use Rattle.std.specs.List.{AllZip}
use Rattle.std.specs.Vec.{vec_len, vec_capacity}
use Rattle.parstep.specs.kept.Jobs.{Holds}
use Rattle.parstep.proofs.places.outputs_of.Given as goal

-- the outputs of the places so far, and room for the rest
abbrev pub invariant-loop-place : goal.invariant-loop-place
invariant-loop-place g l =
    record {
      outputs : AllZip Holds l.yielded l.outputs.items;
      count : vec_len l.outputs ≡ length l.yielded;
      fits : vec_len l.fn.places ≤ vec_capacity l.outputs;
    }
