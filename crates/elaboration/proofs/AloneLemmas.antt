-- Scopes alone are those of a design, but for their paths and the places of their nets.
use Rattle.std.proofs.Common.{◌≡◌, ℕ, ◌^◌, ◌≤◌, false, List, [], ◌∷◌, ◌++◌, length, map, Option, Some, None, refl, ap, subst, ◌∙◌, arith}
use Rattle.std.specs.Prelude.{option_map}
use Rattle.design.specs.Netlist.{NetEntry}
use Rattle.vtext.specs.declared.gate.Terminal.{Terminal}
use Rattle.vtext.specs.declared.gate.Terminal.TheVariants as terminals
use Rattle.vtext.specs.Modules.{InstanceEntry, ModuleEntry}
use Rattle.elaboration.specs.declared.node.NodeRef.{NodeRef}
use Rattle.elaboration.specs.kept.Elaborations.{IsScope}
use Rattle.elaboration.specs.kept.Numbered.{AreDistinct, PlacedScope, Start, given_of, inner_alone, inner_start, joints_from, none, placed, ref_at, top_alone, top_start}
use Rattle.elaboration.specs.Scopes.{Scope, inner, own_nets, top_scope}
use Rattle.elaboration.proofs.KeptLemmas.{none_given, scope_ok, start_ok}
use Rattle.elaboration.proofs.KeptSlots.{At, IsStart}

-- a scope with another path
abbrev pub with_path : PlacedScope → List ℕ → PlacedScope
with_path kept path = record kept { path = path }

-- its terminals are the same
pub ref_same : (kept : PlacedScope) (path : List ℕ) (terminal : Terminal) → ref_at (with_path kept path) terminal ≡ ref_at kept terminal
ref_same kept path (terminals.Constant value) = refl
ref_same kept path (terminals.Net n) = refl
ref_same kept path (terminals.Bit n i) = refl

option_same : (kept : PlacedScope) (path : List ℕ) (terminal : Option Terminal) → option_map (ref_at (with_path kept path)) terminal ≡ option_map (ref_at kept) terminal
option_same kept path None = refl
option_same kept path (Some terminal) = ap (λ (node : NodeRef). Some node) (ref_same kept path terminal)

given_same : (kept : PlacedScope) (path : List ℕ) (joints : List (Option Terminal)) → map (option_map (ref_at (with_path kept path))) joints ≡ map (option_map (ref_at kept)) joints
given_same kept path [] = refl
given_same kept path (joint ∷ joints) =
    ap (λ (node : Option NodeRef). node ∷ map (option_map (ref_at (with_path kept path))) joints) (option_same kept path joint)
    ∙ ap (λ (nodes : List (Option NodeRef)). option_map (ref_at kept) joint ∷ nodes) (given_same kept path joints)

-- Nothing is said of places among so many nets.
module _ (names : List (List ℕ)) (modules : List (ℕ × ModuleEntry)) (flat : List NetEntry) (many : 2 ^ 32 ≤ length flat) where
  anywhere : (place : ℕ) (rest : List NetEntry) → At names modules flat place rest
  anywhere place rest = record { stand = λ few k net there. absurd (omega (arith, few, many)) }

  alone_ok : (start : Start) (scope : Scope) → IsStart names modules flat start scope → IsScope names modules flat (placed 0 start) scope
  alone_ok start scope is = (scope_ok names modules flat none start scope [] (omega arith) is (anywhere 0 (own_nets names modules scope ++ []))).0

  pub top_ok : (m : ModuleEntry) → IsScope names modules flat (top_alone m) (top_scope names modules m)
  top_ok m = alone_ok (top_start m) (top_scope names modules m) (record { entry = refl; path = refl; top = refl; given = none_given names modules flat m m.nets })

  pub inner_ok : (kept : PlacedScope) (scope : Scope) (i : InstanceEntry) (m : ModuleEntry) → AreDistinct m.nets → IsScope names modules flat (with_path kept scope.path) scope
      → IsScope names modules flat (with_path (inner_alone kept i m) (inner names modules scope i m).path) (inner names modules scope i m)
  inner_ok kept scope i m distinct is =
      let full : PlacedScope = with_path kept scope.path in
      subst (λ (given : List (Option NodeRef)). IsScope names modules flat (placed 0 (record { entry = m; path = (inner names modules scope i m).path; top = false; given = given })) (inner names modules scope i m))
      (given_same kept scope.path (joints_from i.connections 0 0 m.nets))
      (alone_ok (inner_start names full i m) (inner names modules scope i m) (start_ok names modules flat full scope is i m distinct))
