use Rattle.std.proofs.Common.{◌≡◌, ◌||◌, ℕ, false, nat_eq, take}
use Rattle.std.specs.List.{list_any}
use Rattle.indexmap.specs.IndexSet.{contains}
use Rattle.vtext.specs.Modules.{InstanceEntry}
use Rattle.elaboration.proofs.rings.add_modules.Given as goal

abbrev pub invariant-loop-instance : goal.invariant-loop-instance
invariant-loop-instance l = record {
  names : (name : ℕ) → contains nat_eq l.names name ≡ (contains nat_eq l.initial.names name || list_any (λ (i : InstanceEntry). nat_eq name i.«module») (take l.instance-index l.instances));
  same : l.grew ≡ false → (name : ℕ) → contains nat_eq l.names name ≡ contains nat_eq l.initial.names name;
}
