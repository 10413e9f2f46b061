use Rattle.std.proofs.Common.{◌≡◌, ℕ, nat_eq, take}
use Rattle.std.specs.List.{list_any}
use Rattle.indexmap.specs.IndexSet.{contains}
use Rattle.vtext.specs.Modules.{ModuleEntry}
use Rattle.elaboration.specs.Tops.{instantiates}
use Rattle.elaboration.proofs.tops.instantiated.Given as goal

abbrev pub invariant-loop-place : goal.invariant-loop-place
invariant-loop-place l = (name : ℕ) → contains nat_eq l.names name ≡ list_any (λ (m : ℕ × ModuleEntry). instantiates m.1 name) (take l.place l.modules.modules)
