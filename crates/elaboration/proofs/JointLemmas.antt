-- What nets are connected to, one connection after another.
use Rattle.std.proofs.Common.{◌≡◌, ◌≢◌, ℕ, zero, suc, ◌+◌, ◌<◌, Bool, true, false, cond, nat_eq, List, [], ◌∷◌, length, map, set, replicate, drop, get_or, Option, Some, None, refl, sym, ap, ◌∙◌, arith, All}
use Rattle.std.specs.Prelude.{option_map}
use Rattle.std.proofs.lemmas.Bool.Decides.{nat_tests}
use Rattle.std.proofs.lemmas.List.Elements.{All-head, All-tail}
use Rattle.std.proofs.lemmas.List.{at_drop_more}
use Rattle.vtext.specs.declared.gate.Terminal.{Terminal}
use Rattle.vtext.specs.declared.module_instance.PortConnection.{PortConnection}
use Rattle.vtext.specs.declared.net.Net as nets
use Rattle.vtext.specs.kept.Nets.{place_of}
use Rattle.elaboration.specs.kept.Numbered.{AreDistinct, joints_from, place_for, with_joint}
use Rattle.elaboration.specs.Ports.{joined_from}
use Rattle.elaboration.proofs.PairLemmas.{differ, pairs_head, pairs_tail, position_first}
use Rattle.elaboration.proofs.PortLemmas.{same_swapped}

-- nothing is connected by no connections
pub none_joined : (at place : ℕ) (nets : List (ℕ × nets.Net)) → replicate (length nets) None ≡ joints_from [] at place nets
none_joined at place [] = refl
none_joined at place (net ∷ more) = ap (λ (js : List (Option Terminal)). None ∷ js) (none_joined at (suc place) more)

same : (a b : ℕ) → a ≡ b → nat_eq a b ≡ true
same a b e = grind (arith, nat_tests)

module _ (terminal : Option Terminal) (more : List PortConnection) (at : ℕ) where
  -- By order.

  abbrev unnamed : PortConnection
  unnamed = record { port = None; terminal = terminal }

  ordered_past : (place : ℕ) (nets : List (ℕ × nets.Net)) → at < place → joints_from (unnamed ∷ more) at place nets ≡ joints_from more (suc at) place nets
  ordered_past place [] past = refl
  ordered_past place (net ∷ rest) past =
      ap (λ (b : Bool). cond b terminal (joined_from more (suc at) place net.0) ∷ joints_from (unnamed ∷ more) at (suc place) rest) (differ place at (λ e. absurd (omega arith)))
      ∙ ap (λ (js : List (Option Terminal)). joined_from more (suc at) place net.0 ∷ js) (ordered_past (suc place) rest (omega arith))

  ordered_at : (k place : ℕ) (nets : List (ℕ × nets.Net)) → at ≡ k + place → joints_from (unnamed ∷ more) at place nets ≡ set (joints_from more (suc at) place nets) k terminal
  ordered_at k place [] e = refl
  ordered_at zero place (net ∷ rest) e =
      ap (λ (b : Bool). cond b terminal (joined_from more (suc at) place net.0) ∷ joints_from (unnamed ∷ more) at (suc place) rest) (same place at (omega arith))
      ∙ ap (λ (js : List (Option Terminal)). terminal ∷ js) (ordered_past (suc place) rest (omega arith))
  ordered_at (suc k) place (net ∷ rest) e =
      ap (λ (b : Bool). cond b terminal (joined_from more (suc at) place net.0) ∷ joints_from (unnamed ∷ more) at (suc place) rest) (differ place at (λ f. absurd (omega arith)))
      ∙ ap (λ (js : List (Option Terminal)). joined_from more (suc at) place net.0 ∷ js) (ordered_at k (suc place) rest (omega arith))

  -- By name.

  module _ (n : ℕ) where
    abbrev named : PortConnection
    named = record { port = Some n; terminal = terminal }

    named_past : (place : ℕ) (nets : List (ℕ × nets.Net)) → All (λ net. n ≢ net.0) nets → joints_from (named ∷ more) at place nets ≡ joints_from more (suc at) place nets
    named_past place [] none = refl
    named_past place (net ∷ rest) none =
        ap (λ (b : Bool). cond b terminal (joined_from more (suc at) place net.0) ∷ joints_from (named ∷ more) at (suc place) rest)
        (same_swapped net.0 n ∙ differ n net.0 (All-head (λ (o : ℕ × nets.Net). n ≢ o.0) net rest none))
        ∙ ap (λ (js : List (Option Terminal)). joined_from more (suc at) place net.0 ∷ js) (named_past (suc place) rest (All-tail (λ (o : ℕ × nets.Net). n ≢ o.0) net rest none))

    joint_on : (joint : Option Terminal) (joints : List (Option Terminal)) (place : Option ℕ) → with_joint (joint ∷ joints) (option_map suc place) terminal ≡ joint ∷ with_joint joints place terminal
    joint_on joint joints None = refl
    joint_on joint joints (Some p) = refl

    named_first : (b : Bool) (place : ℕ) (net : ℕ × nets.Net) (rest : List (ℕ × nets.Net)) → AreDistinct (net ∷ rest) → nat_eq n net.0 ≡ b
        → joints_from (named ∷ more) at (suc place) rest ≡ with_joint (joints_from more (suc at) (suc place) rest) (place_of rest n) terminal
        → joints_from (named ∷ more) at place (net ∷ rest)
        ≡ with_joint (joints_from more (suc at) place (net ∷ rest)) (cond b (Some 0) (option_map suc (place_of rest n))) terminal
    named_first true place net rest distinct is others =
        let here : n ≡ net.0 = grind (arith, nat_tests) in
        ap (λ (b : Bool). cond b terminal (joined_from more (suc at) place net.0) ∷ joints_from (named ∷ more) at (suc place) rest) (same_swapped net.0 n ∙ is)
        ∙ ap (λ (js : List (Option Terminal)). terminal ∷ js)
        (named_past (suc place) rest (λ k d within. λ e. pairs_head (λ (a b : ℕ × nets.Net). a.0 ≢ b.0) net rest distinct k d within (sym here ∙ e)))
    named_first false place net rest distinct is others =
        ap (λ (b : Bool). cond b terminal (joined_from more (suc at) place net.0) ∷ joints_from (named ∷ more) at (suc place) rest) (same_swapped net.0 n ∙ is)
        ∙ ap (λ (js : List (Option Terminal)). joined_from more (suc at) place net.0 ∷ js) others
        ∙ sym (joint_on (joined_from more (suc at) place net.0) (joints_from more (suc at) (suc place) rest) (place_of rest n))

    named_at : (place : ℕ) (nets : List (ℕ × nets.Net)) → AreDistinct nets → joints_from (named ∷ more) at place nets ≡ with_joint (joints_from more (suc at) place nets) (place_of nets n) terminal
    named_at place [] distinct = refl
    named_at place (net ∷ rest) distinct =
        named_first (nat_eq n net.0) place net rest distinct refl (named_at (suc place) rest (pairs_tail (λ (a b : ℕ × nets.Net). a.0 ≢ b.0) net rest distinct))
        ∙ ap (λ o. with_joint (joints_from more (suc at) place (net ∷ rest)) o terminal) (sym (position_first (nat_eq n) net.0 (map (λ (net : ℕ × nets.Net). net.0) rest)))

  -- a connection more
  joined_by : (port : Option ℕ) (nets : List (ℕ × nets.Net)) → AreDistinct nets
      → joints_from (record { port = port; terminal = terminal } ∷ more) at 0 nets ≡ with_joint (joints_from more (suc at) 0 nets) (place_for nets at (record { port = port; terminal = terminal })) terminal
  joined_by None nets distinct = ordered_at at 0 nets (omega arith)
  joined_by (Some n) nets distinct = named_at n 0 nets distinct

-- the connection before those so far
pub joined_more : (connections : List PortConnection) (now at : ℕ) (c : PortConnection) (nets : List (ℕ × nets.Net)) (joints : List (Option Terminal)) → AreDistinct nets → at ≡ now + 1 → now < length connections → c ≡ get_or connections now c
    → joints ≡ joints_from (drop at connections) at 0 nets → with_joint joints (place_for nets now c) c.terminal ≡ joints_from (drop now connections) now 0 nets
joined_more connections now at c nets joints distinct next within is before =
    let one : suc now ≡ at = omega arith in
    ap (λ js. with_joint js (place_for nets now c) c.terminal)
    (before ∙ ap (λ (n : ℕ). joints_from (drop n connections) at 0 nets) next ∙ ap (λ (n : ℕ). joints_from (drop (now + 1) connections) n 0 nets) (sym one))
    ∙ sym (joined_by c.terminal (drop (now + 1) connections) now c.port nets distinct)
    ∙ ap (λ (d : PortConnection). joints_from (d ∷ drop (now + 1) connections) now 0 nets) is
    ∙ sym (at_drop_more (λ cs. joints_from cs now 0 nets) connections now c within)

pub joints_count : (connections : List PortConnection) (at place : ℕ) (nets : List (ℕ × nets.Net)) → length (joints_from connections at place nets) ≡ length nets
joints_count connections at place [] = refl
joints_count connections at place (net ∷ more) = ap suc (joints_count connections at (suc place) more)
