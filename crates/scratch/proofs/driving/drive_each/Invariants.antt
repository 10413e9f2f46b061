use Rattle.std.proofs.Common.{◌≡◌, ℕ, true, false, take}
use Rattle.std.specs.Prelude.{◌||◌, ◌&&◌}
use Rattle.std.specs.List.{list_any}
use Rattle.design.specs.Keys.{netlist}
use Rattle.scratch.specs.kept.Kept.{output_at, places_at}
use Rattle.scratch.specs.kept.Nets.{Part, waves_of}
use Rattle.scratch.specs.kept.Places.{changes_at, has, is_due_at}
use Rattle.scratch.proofs.driving.drive_each.Given as goal

-- the gates so far are found, and the nets that they drive are done or added
abbrev pub invariant-loop-gate : goal.invariant-loop-gate
invariant-loop-gate g l =
    let answer = g.S.Stepper.answer in let d = netlist l.setting.design.now in let t = l.setting.t in let w = l.setting.wiring.now in let done = take l.gate-index l.noted in
    record {
      part : Part answer d t l.changed.items l.values.items (waves_of answer d t) l.changed.items;
      gates : (k : ℕ) → has k l.gates ≡ ((has k done && is_due_at l.states k t) || list_any (λ m. has k (places_at w.readers.items m)) l.changed.items);
      driven : (k m : ℕ) → has k done ≡ true → is_due_at l.states k t ≡ true → has m (output_at w.outputs.items k) ≡ true → has m l.nets.items ≡ false → has m l.changed.items ≡ false →
          changes_at answer d m t ≡ false;
      kept : (m : ℕ) → has m l.nets.items ≡ false → has m l.fn.nets.items ≡ false;
    }
