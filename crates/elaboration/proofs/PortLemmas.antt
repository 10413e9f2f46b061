-- The port connections of an instance, one after another.
use Rattle.std.proofs.Common.{◌≡◌, ℕ, suc, ◌+◌, ◌<◌, Bool, true, false, true≢false, not, cond, ◌||◌, List, [], ◌∷◌, ◌++◌, Option, Some, None, length, drop, get_or, nat_eq, refl, sym, ap, ◌∙◌, arith}
use Rattle.std.proofs.lemmas.Bool.Decides.{nat_tests}
use Rattle.std.proofs.lemmas.List.{at_drop_more}
use Rattle.std.proofs.lemmas.List.Folds.{list_any-append}
use Rattle.std.specs.List.{list_any}
use Rattle.std.specs.Option.{option_and_then, option_map_or, option_or}
use Rattle.indexmap.specs.IndexSet.{insert_key}
use Rattle.vtext.specs.declared.module_instance.PortConnection.{PortConnection}
use Rattle.vtext.specs.declared.net.Net.{Net}
use Rattle.vtext.specs.Modules.{ModuleEntry}
use Rattle.elaboration.specs.Ports.{connection_fault, connections_fault, port_at, first_instance_fault, is_named_twice, names_port, second_pass_from}

-- a module of which nothing is said
abbrev pub blank : ℕ × ModuleEntry
blank = (0, record { start = 0; nets = []; gates = []; instances = [] })

-- Ports that are named.

-- a connection names one of these ports
abbrev pub is_seen : List ℕ → PortConnection → Bool
is_seen names connection = option_map_or (λ name. list_any (nat_eq name) names) connection.port false

abbrev pub any_seen : List ℕ → List PortConnection → Bool
any_seen names connections = list_any (is_seen names) connections

-- one of these ports is named, or another one twice
abbrev pub is_again : List ℕ → List PortConnection → Bool
is_again names connections = any_seen names connections || is_named_twice connections

pub same_swapped : (a b : ℕ) → nat_eq a b ≡ nat_eq b a
same_swapped a b = grind (arith, nat_tests)

four : (a b c d : Bool) → ((a || b) || (c || d)) ≡ ((a || c) || (b || d))
four true b c d = refl
four false true true d = refl
four false true false d = refl
four false false c d = refl

or_assoc : (a b c : Bool) → ((a || b) || c) ≡ (a || (b || c))
or_assoc true b c = refl
or_assoc false b c = refl

or_false : (a : Bool) → (a || false) ≡ a
or_false true = refl
or_false false = refl

seen_more : (names : List ℕ) (name : ℕ) (connection : PortConnection) → is_seen (names ++ name ∷ []) connection ≡ (is_seen names connection || names_port name connection)
seen_more names name connection = step connection.port
  where
    step : (port : Option ℕ) → option_map_or (λ n. list_any (nat_eq n) (names ++ name ∷ [])) port false
        ≡ (option_map_or (λ n. list_any (nat_eq n) names) port false || option_map_or (nat_eq name) port false)
    step None = refl
    step (Some n) = list_any-append (nat_eq n) names (name ∷ []) ∙ ap (λ b. list_any (nat_eq n) names || b) (or_false (nat_eq n name) ∙ same_swapped n name)

all_more : (names : List ℕ) (name : ℕ) (connections : List PortConnection) → any_seen (names ++ name ∷ []) connections ≡ (any_seen names connections || list_any (names_port name) connections)
all_more names name [] = refl
all_more names name (c ∷ cs) =
    ap (λ b. b || any_seen (names ++ name ∷ []) cs) (seen_more names name c)
    ∙ ap (λ b. (is_seen names c || names_port name c) || b) (all_more names name cs)
    ∙ four (is_seen names c) (names_port name c) (any_seen names cs) (list_any (names_port name) cs)

no_name_seen : (port : Option ℕ) → option_map_or (λ n. list_any (nat_eq n) []) port false ≡ false
no_name_seen None = refl
no_name_seen (Some n) = refl

pub none_seen : (connections : List PortConnection) → any_seen [] connections ≡ false
none_seen [] = refl
none_seen (c ∷ cs) = ap (λ (b : Bool). b || any_seen [] cs) (no_name_seen c.port) ∙ none_seen cs

unnamed_first : (names : List ℕ) (c : PortConnection) (cs : List PortConnection) → c.port ≡ None → is_again names cs ≡ is_again names (c ∷ cs)
unnamed_first names c cs none = sym (ap (λ (port : Option ℕ). (option_map_or (λ n. list_any (nat_eq n) names) port false || any_seen names cs)
    || (option_map_or (λ n. list_any (names_port n) cs) port false || is_named_twice cs)) none)

new_first : (names : List ℕ) (name : ℕ) (c : PortConnection) (cs : List PortConnection) → c.port ≡ Some name → list_any (nat_eq name) names ≡ false
    → is_again (names ++ name ∷ []) cs ≡ is_again names (c ∷ cs)
new_first names name c cs some fresh =
    ap (λ b. b || is_named_twice cs) (all_more names name cs)
    ∙ or_assoc (any_seen names cs) (list_any (names_port name) cs) (is_named_twice cs)
    ∙ sym (
    ap (λ (port : Option ℕ). (option_map_or (λ n. list_any (nat_eq n) names) port false || any_seen names cs)
    || (option_map_or (λ n. list_any (names_port n) cs) port false || is_named_twice cs)) some
    ∙ ap (λ b. (b || any_seen names cs) || (list_any (names_port name) cs || is_named_twice cs)) fresh
    )

module _ (connections : List PortConnection) (i : ℕ) (d : PortConnection) (within : i < length connections) where
  pub unnamed_next : (names : List ℕ) → (get_or connections i d).port ≡ None → is_again names (drop (i + 1) connections) ≡ is_again names (drop i connections)
  unnamed_next names none = unnamed_first names (get_or connections i d) (drop (i + 1) connections) none ∙ sym (at_drop_more (is_again names) connections i d within)

  pub new_next : (names : List ℕ) (name : ℕ) → (get_or connections i d).port ≡ Some name → list_any (nat_eq name) names ≡ false
      → is_again (names ++ name ∷ []) (drop (i + 1) connections) ≡ is_again names (drop i connections)
  new_next names name some fresh = new_first names name (get_or connections i d) (drop (i + 1) connections) some fresh ∙ sym (at_drop_more (is_again names) connections i d within)

-- the same with the number of the next place as code has it
pub fault_first : (listed : List (ℕ × Net)) (m : ModuleEntry) (at : ℕ) (c : PortConnection) (cs : List PortConnection)
    → connections_fault listed m at (c ∷ cs) ≡ option_or (option_and_then (connection_fault listed c) (port_at m at c)) (connections_fault listed m (at + 1) cs)
fault_first listed m at c cs =
    let next : suc at ≡ at + 1 = omega arith in
    ap (λ (n : ℕ). option_or (option_and_then (connection_fault listed c) (port_at m at c)) (connections_fault listed m n cs)) next

pub fresh_of : (b r : Bool) → r ≡ not b → r ≡ true → b ≡ false
fresh_of true r e h = absurd (true≢false (sym h ∙ e))
fresh_of false r e h = refl

pub new_last : (names : List ℕ) (name : ℕ) → list_any (nat_eq name) names ≡ false → insert_key nat_eq names name ≡ names ++ name ∷ []
new_last names name fresh = ap (λ (b : Bool). cond b names (names ++ name ∷ [])) fresh

-- The instances of modules, one after another.

pub second_next : (text : List ℕ) (modules : List (ℕ × ModuleEntry)) (place : ℕ) (outer : ModuleEntry) → place < length modules
    → outer ≡ (get_or modules place blank).1
    → second_pass_from text modules (drop place modules)
    ≡ option_or (first_instance_fault text modules outer.nets outer.instances) (second_pass_from text modules (drop (place + 1) modules))
second_next text modules place outer within same =
    at_drop_more (second_pass_from text modules) modules place blank within
    ∙ ap (λ (m : ModuleEntry). option_or (first_instance_fault text modules m.nets m.instances) (second_pass_from text modules (drop (place + 1) modules))) (sym same)
