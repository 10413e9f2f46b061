-- What is known of the design of modules that have no fault of their own.
use Rattle.std.specs.Prelude.{◌≡◌, ◌≢◌, ◌∷◌, [], ℕ, IsTrue, List, All, AllPairs}
use Rattle.design.specs.Names.{is_part, parts}
use Rattle.vtext.specs.declared.gate.Terminal.{Terminal}
use Rattle.vtext.specs.declared.net.Net as nets
use Rattle.vtext.specs.Modules.{ModuleEntry, ModuleList}
use Rattle.vtext.specs.kept.Sound.{IsSoundNet}
use Rattle.elaboration.specs.kept.Elaborations.{IsNode, IsScope}
use Rattle.elaboration.specs.kept.Numbered.{PlacedScope, ref_at}
use Rattle.elaboration.specs.Scopes.{Scope, flat_names, gates_of, nets_of, node_at, scopes_of}
use Rattle.elaboration.specs.kept.SoundScopes.{IsSingleGate, IsSoundScope}

-- what laws say of the design of a list of modules with this one at its top
pub record Known (list : ModuleList) (top : ModuleEntry) : Type 0 where
  pub refs : (kept : PlacedScope) (scope : Scope) → IsScope list.names list.modules (nets_of list.names list.modules top) kept scope
      → (terminal : Terminal) → IsNode (nets_of list.names list.modules top) (ref_at kept terminal) (node_at list.names list.modules scope terminal)
  pub whole : (part : List ℕ) → IsTrue (is_part part) → parts part ≡ part ∷ []
  pub flat_parts : (net : ℕ × nets.Net) → IsSoundNet list.names net → All (λ name. IsTrue (is_part name)) (flat_names list.names net)
  pub sound : All (IsSoundScope list.names) (scopes_of list.names list.modules top)
  pub single : All (λ scope. All (IsSingleGate list.names list.modules scope) scope.entry.gates) (scopes_of list.names list.modules top)
  pub differ_nets : AllPairs (λ a b. a.name ≢ b.name) (nets_of list.names list.modules top)
  pub differ_gates : AllPairs (λ a b. a.name ≢ b.name) (gates_of list.names list.modules top)
