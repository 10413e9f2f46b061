-- What holds of the scopes of a design: their modules are sound, what stands before their names are names of instances, and each
-- terminal of a gate is one net.
use Rattle.std.specs.Prelude.{◌≡◌, ℕ, IsTrue, List, ◌++◌, length, All}
use Rattle.design.specs.Names.{is_part, parts}
use Rattle.vtext.specs.Modules.{GateEntry, ModuleEntry}
use Rattle.vtext.specs.kept.Sound.{IsSoundModule}
use Rattle.elaboration.specs.Scopes.{Node, Scope, node_at, tied, wired}

-- A path is names of instances, a dot after each: they are what stands between the dots, before the parts of a name after it.
pub record IsPath (path : List ℕ) (instances : List (List ℕ)) : Type 0 where
  pub parts_after : (name : List ℕ) → parts (path ++ name) ≡ instances ++ parts name
  pub good : All (λ part. IsTrue (is_part part)) instances

-- `names` is the table of names.
pub record IsSoundScope (names : List (List ℕ)) (scope : Scope) : Type 0 where
  pub name : ℕ
  pub sound : IsSoundModule names (name, scope.entry)
  pub instances : List (List ℕ)
  pub path : IsPath scope.path instances

-- one net of the design, or a constant
abbrev pub IsSingleNode : Node → Type 0
IsSingleNode (wired nets) = length nets ≡ 1
IsSingleNode (tied value) = Unit {0}

-- a gate of a scope, each of whose terminals is so
pub record IsSingleGate (names : List (List ℕ)) (modules : List (ℕ × ModuleEntry)) (scope : Scope) (gate : GateEntry) : Type 0 where
  pub output : IsSingleNode (node_at names modules scope gate.output)
  pub inputs : All (λ input. IsSingleNode (node_at names modules scope input)) gate.inputs
