use Rattle.std.proofs.Common.{◌≡◌, ◌||◌, ◌&&◌, ℕ, false, nat_eq, take}
use Rattle.std.specs.List.{list_any}
use Rattle.indexmap.specs.IndexSet.{contains}
use Rattle.vtext.specs.Modules.{ModuleEntry}
use Rattle.elaboration.specs.Tops.{instantiates}
use Rattle.elaboration.proofs.rings.add_inner.Given as goal

abbrev pub invariant-loop-place : goal.invariant-loop-place
invariant-loop-place l = record {
  names : (name : ℕ) → contains nat_eq l.names name
      ≡ (contains nat_eq l.initial.names name || list_any (λ (m : ℕ × ModuleEntry). contains nat_eq l.before m.0 && instantiates m.1 name) (take l.place l.modules.modules));
  same : l.grew ≡ false → (name : ℕ) → contains nat_eq l.names name ≡ contains nat_eq l.initial.names name;
}
