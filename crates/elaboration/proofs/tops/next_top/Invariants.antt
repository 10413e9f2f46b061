use Rattle.std.proofs.Common.{◌≡◌, ℕ, nat_eq, drop}
use Rattle.std.specs.List.{filter, list_any}
use Rattle.indexmap.specs.IndexSet.{contains}
use Rattle.vtext.specs.Modules.{ModuleEntry}
use Rattle.elaboration.specs.Tops.{instantiates, is_top}
use Rattle.elaboration.proofs.tops.next_top.Given as goal

abbrev pub invariant-loop-place : goal.invariant-loop-place
invariant-loop-place l = ((name : ℕ) → contains nat_eq l.names name ≡ list_any (λ (m : ℕ × ModuleEntry). instantiates m.1 name) l.modules.modules)
    → filter (is_top l.modules.modules) (drop l.place l.modules.modules) ≡ filter (is_top l.modules.modules) (drop l.from l.modules.modules)
