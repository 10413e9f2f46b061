-- Nets by keys and by names.
use Rattle.std.proofs.Common.{◌≡◌, ℕ, suc, ◌+◌, ◌≤◌, ◌==◌, ◌||◌, ◌++◌, not, List, [], ◌∷◌, map, Option, Some, None, IsSome, Bool, true, false, cond, refl, ap, ap₂, arith, sym, ◌∙◌, append-nil}
use Rattle.std.specs.List.{AllByRecursion, filter, filter_map, flat_map, list_any, position_from}
use Rattle.std.specs.Option.{option_map_or}
use Rattle.std.proofs.lemmas.Bool.{eqb-true, eq-eqb, false_from_ne_true}
use Rattle.std.proofs.lemmas.List.Elements.{filter-append, filter_map-append}
use Rattle.std.proofs.lemmas.Slice.Eq.{bytes_eq-Decides}
use Rattle.catalog.specs.Catalog.{record_at, records_of, same_name}
use Rattle.catalog.specs.kept.Catalog.{place_of}
use Rattle.design.specs.declared.terminal.Terminal.{Terminal}
use Rattle.design.specs.declared.terminal.Terminal.TheVariants.{Net, Constant}
use Rattle.design.specs.Connections.{Connection, to_net, to_constant}
use Rattle.design.specs.Keys.{connection_in, name_of}
use Rattle.design.specs.kept.Keys.{IsThere, is_among, is_at}
use Rattle.design.specs.Netlist.{NetEntry, is_at_net}
use Rattle.causes.specs.Causes.{names_read}

-- A name and a key.

-- the place of a key is that of its name
abbrev pub ArePlaced : List (ℕ × NetEntry) → Type 0
ArePlaced nets = (key : ℕ) → IsSome (record_at nets key) → position_from (λ n. same_name n.name (name_of nets key)) 0 (records_of nets) ≡ place_of nets key

above : (test : ℕ × NetEntry → Bool) (i k : ℕ) (es : List (ℕ × NetEntry)) → position_from test i es ≡ Some k → i ≤ k
above test i k [] found = absurd (cc)
above test i k (e ∷ es) found =
    elim (test e) as (λ b. test e ≡ b → i ≤ k) [
      | true ↦ λ h. let same : i ≡ k = (let at = rw h at found in cc) in omega arith
      | false ↦ λ h. let later = above test (i + 1) k es (rw h at found) in omega arith
    ] refl

not_first : (test : ℕ × NetEntry → Bool) (i : ℕ) (es : List (ℕ × NetEntry)) → position_from test (i + 1) es ≡ Some i → ⊥
not_first test i es found = let late = above test (i + 1) i es found in omega arith

same_key : (es : List (ℕ × NetEntry)) (a b i : ℕ) → IsSome (record_at es a) → position_from (λ e. e.0 == a) i es ≡ position_from (λ e. e.0 == b) i es → a ≡ b
same_key [] a b i there same = absurd (cc)
same_key (e ∷ es) a b i there same =
    elim (e.0 == a) as (λ p. (e.0 == a) ≡ p → a ≡ b) [
      | true ↦ λ h. elim (e.0 == b) as (λ q. (e.0 == b) ≡ q → a ≡ b) [
        | true ↦ λ k. sym (eqb-true e.0 a h) ∙ eqb-true e.0 b k
        | false ↦ λ k. absurd (not_first (λ f. f.0 == b) i es (sym (rw (h, k) at same)))
      ] refl
      | false ↦ λ h. elim (e.0 == b) as (λ q. (e.0 == b) ≡ q → a ≡ b) [
        | true ↦ λ k. absurd (not_first (λ f. f.0 == a) i es (rw (h, k) at same))
        | false ↦ λ k. same_key es a b (i + 1) (rw h at there) (rw (h, k) at same)
      ] refl
    ] refl

named_alike : (nets : List (ℕ × NetEntry)) (a b : ℕ) → ArePlaced nets → IsSome (record_at nets a) → IsSome (record_at nets b)
    → same_name (name_of nets a) (name_of nets b) ≡ true → a ≡ b
named_alike nets a b placed there there' alike =
    let same : name_of nets a ≡ name_of nets b = (bytes_eq-Decides (name_of nets a) (name_of nets b)).0 alike in
    same_key nets a b 0 there
    (sym (placed a there) ∙ (ap (λ name. position_from (λ n. same_name n.name name) 0 (records_of nets)) same ∙ placed b there'))

at_net : (nets : List (ℕ × NetEntry)) (key : ℕ) (terminal : Terminal) → ArePlaced nets → IsSome (record_at nets key) → IsThere nets terminal
    → is_at_net (name_of nets key) (connection_in nets terminal) ≡ is_at terminal key
at_net nets key (Constant v) placed there there' = refl
at_net nets key (Net k) placed there there' =
    elim (key == k) as (λ b. (key == k) ≡ b → same_name (name_of nets k) (name_of nets key) ≡ (key == k)) [
      | true ↦ λ h.
          let same : k ≡ key = sym (eqb-true key k h) in
          (bytes_eq-Decides (name_of nets k) (name_of nets key)).1 (ap (name_of nets) same) ∙ sym h
      | false ↦ λ h.
          false_from_ne_true (same_name (name_of nets k) (name_of nets key))
          (λ alike. let same : key ≡ k = sym (named_alike nets k key placed there' there alike) in let on = eq-eqb key k same in cc) ∙ sym h
    ] refl

-- an input among these reads the net of a key where one reads that of its name
pub at_nets : (nets : List (ℕ × NetEntry)) (key : ℕ) (inputs : List Terminal) → ArePlaced nets → IsSome (record_at nets key) → AllByRecursion (IsThere nets) inputs
    → list_any (is_at_net (name_of nets key)) (map (connection_in nets) inputs) ≡ is_among inputs key
at_nets nets key [] placed there each = refl
at_nets nets key (x ∷ xs) placed there each = ap₂ (λ a b. a || b) (at_net nets key x placed there each.0) (at_nets nets key xs placed there each.1)

-- Names that are read.

-- one name more, if it is not among them
abbrev new_name : List Connection → List ℕ → List (List ℕ)
new_name inputs name = cond (list_any (is_at_net name) inputs) [] (name ∷ [])

kept_new : (first name : List ℕ) (known : Bool)
    → filter (λ other. not (same_name first other)) (cond {A = List (List ℕ)} known [] (name ∷ [])) ≡ cond (same_name first name || known) [] (name ∷ [])
kept_new first name true = elim (same_name first name) as (λ b. [] ≡ cond {A = List (List ℕ)} (b || true) [] (name ∷ [])) [ true ↦ refl | false ↦ refl ]
kept_new first name false =
    elim (same_name first name) as (λ b. cond {A = List (List ℕ)} (not b) (name ∷ []) [] ≡ cond (b || false) [] (name ∷ [])) [ true ↦ refl | false ↦ refl ]

pub read_more : (inputs : List Connection) (name : List ℕ) → names_read (inputs ++ to_net name ∷ []) ≡ names_read inputs ++ new_name inputs name
read_more [] name = refl
read_more (to_constant v ∷ inputs) name = read_more inputs name
read_more (to_net first ∷ inputs) name =
    ap (λ (names : List (List ℕ)). first ∷ filter (λ other. not (same_name first other)) names) (read_more inputs name)
    ∙ ap (λ names. first ∷ names) (filter-append (λ other. not (same_name first other)) (names_read inputs) (new_name inputs name)
    ∙ ap (λ names. filter (λ other. not (same_name first other)) (names_read inputs) ++ names) (kept_new first name (list_any (is_at_net name) inputs)))

pub read_constant : (inputs : List Connection) (v : _) → names_read (inputs ++ to_constant v ∷ []) ≡ names_read inputs
read_constant [] v = refl
read_constant (to_constant w ∷ inputs) v = read_constant inputs v
read_constant (to_net first ∷ inputs) v = ap (λ (names : List (List ℕ)). first ∷ filter (λ other. not (same_name first other)) names) (read_constant inputs v)
