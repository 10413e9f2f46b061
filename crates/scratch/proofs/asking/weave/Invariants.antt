use Rattle.std.proofs.Common.{◌≡◌, ◌+◌, map, take, length, slice_get, Some}
use Rattle.std.specs.List.{flat_map}
use Rattle.design.specs.Keys.{netlist}
use Rattle.scratch.specs.Run.{state_before}
use Rattle.scratch.specs.kept.Open.{asked_at}
use Rattle.scratch.proofs.asking.weave.Given as goal

-- the answers so far, of which some were asked for
abbrev pub invariant-loop-i : goal.invariant-loop-i
invariant-loop-i g l =
    let answer = g.S.Stepper.answer in let d = netlist l.present.design.now in let t = l.present.t in
    let is_open = g.B.Beside.is_open answer d l.fn.beside in
    record {
      answers : map (λ s. Some s) l.answers.items ≡ map (slice_get (map (state_before answer d (t + 1)) d.gates)) (take l.i l.gates);
      asked : l.next ≡ length (flat_map (asked_at is_open answer d t) (take l.i l.gates));
      fits : g.B.Beside.fits answer d l.beside;
      same : g.B.Beside.is_open answer d l.beside ≡ is_open;
    }
