-- Places by key and by name.
use Rattle.std.proofs.Common.{◌≡◌, ◌≢◌, ℕ, ◌+◌, Bool, true, false, cond, ◌==◌, List, [], ◌∷◌, map, Option, Some, IsSome, sym, refl, ap, ◌∙◌}
use Rattle.std.proofs.lemmas.Bool.{eq-eqb, ne_eqb}
use Rattle.std.specs.List.{enumerate_from, filter, position_from}
use Rattle.std.specs.Option.{option_map_or}
use Rattle.catalog.specs.Catalog.{record_at, records_of}
use Rattle.catalog.specs.kept.Catalog.{place_of}
use Rattle.design.specs.Keys.{Keyed, entry_in, name_of, named_gates, netlist}
use Rattle.design.specs.kept.Keys.{IsConnected, driver_keys, drives_key, keys_where}
use Rattle.design.specs.kept.Kept.{IsKept}
use Rattle.design.specs.Names.{same_name}
use Rattle.design.specs.Netlist.{GateEntry, NetEntry}
use Rattle.design.specs.kept.Places.{driver_places}
use Rattle.design.proofs.ByNameLemmas.{position_map}
use Rattle.design.proofs.ConnectionLemmas.{drives_by_name}
use Rattle.design.proofs.DesignLemmas.{each_connected, gate_keys_apart, net_keys_apart, nets_apart}
use Rattle.design.proofs.EntryLemmas.{Apart, Each, alone, each_filter, each_map, each_weaker, map_within}
use Rattle.design.proofs.LookLemmas.{some_is}

position_within : {X : Type 0} (p q : X → Bool) (k : ℕ) (xs : List X) → Each (λ x. p x ≡ q x) xs → position_from p k xs ≡ position_from q k xs
position_within p q k [] h = refl
position_within p q k (x ∷ xs) h = ap (λ (b : Bool). cond b (Some k) (position_from p (k + 1) xs)) h.0 ∙ ap (λ (o : Option ℕ). cond (q x) (Some k) o) (position_within p q (k + 1) xs h.1)

pub net_place_by_key : (d : Keyed) (points : ℕ) (read driven : List (List ℕ)) (key : ℕ) → IsKept d points read driven → IsSome (record_at d.nets key) → position_from (λ n. same_name n.name (name_of d.nets key)) 0 (netlist d).nets ≡ place_of d.nets key
unfolding netlist
net_place_by_key d points read driven key h some =
    let it = some_is (record_at d.nets key) some in
    ap (λ (o : Option NetEntry). position_from (λ (n : NetEntry). same_name n.name (option_map_or (λ m. m.name) o [])) 0 (records_of d.nets)) it.1
    ∙ position_map (λ (n : NetEntry). same_name n.name it.0.name) (λ e. e.1) 0 d.nets
    ∙ position_within (λ e. same_name e.1.name it.0.name) (λ e. e.0 == key) 0 d.nets
    (each_weaker (λ e. ((e.0 == key) ≡ same_name e.1.name it.0.name) × ((e.0 == key) ≡ true → e.1 ≡ it.0)) (λ e. same_name e.1.name it.0.name ≡ (e.0 == key)) (λ e at. sym at.0) d.nets
    (alone (λ (n : NetEntry). n.name) d.nets key it.0 (net_keys_apart d points read driven h) (nets_apart d points read driven h) it.1))

-- the places of the keys of the entries that pass
places_where : {X : Type 0} (q : ℕ × X → Bool) (k : ℕ) (es : List (ℕ × X)) → Apart (λ e. e.0) es →
    map (λ key. position_from (λ e. e.0 == key) k es) (keys_where q es) ≡ map (λ p. Some p.0) (filter (λ p. q p.1) (enumerate_from k es))
places_where q k [] apart = refl
places_where {X} q k (e ∷ es) apart = step (q e) (later ∙ places_where q (k + 1) es apart.1)
  where
    here : (key : ℕ) → e.0 ≢ key → position_from (λ f. f.0 == key) k (e ∷ es) ≡ position_from (λ f. f.0 == key) (k + 1) es
    here key other = ap (λ (b : Bool). cond b (Some k) (position_from (λ f. f.0 == key) (k + 1) es)) (ne_eqb e.0 key other)

    later : map (λ key. position_from (λ f. f.0 == key) k (e ∷ es)) (keys_where q es) ≡ map (λ key. position_from (λ f. f.0 == key) (k + 1) es) (keys_where q es)
    later = map_within (λ key. position_from (λ f. f.0 == key) k (e ∷ es)) (λ key. position_from (λ f. f.0 == key) (k + 1) es) (keys_where q es)
        (each_map (λ key. position_from (λ f. f.0 == key) k (e ∷ es) ≡ position_from (λ f. f.0 == key) (k + 1) es) (λ f. f.0) (filter q es)
        (each_filter (λ f. position_from (λ g. g.0 == f.0) k (e ∷ es) ≡ position_from (λ g. g.0 == f.0) (k + 1) es) q es
        (each_weaker (λ f. e.0 ≢ f.0) (λ f. position_from (λ g. g.0 == f.0) k (e ∷ es) ≡ position_from (λ g. g.0 == f.0) (k + 1) es) (λ f other. here f.0 other) es apart.0)))

    step : (b : Bool) → map (λ key. position_from (λ f. f.0 == key) k (e ∷ es)) (keys_where q es) ≡ map (λ p. Some p.0) (filter (λ p. q p.1) (enumerate_from (k + 1) es)) →
        map (λ key. position_from (λ f. f.0 == key) k (e ∷ es)) (map (λ f. f.0) (cond b (e ∷ filter q es) (filter q es))) ≡ map (λ p. Some p.0) (cond b ((k, e) ∷ filter (λ p. q p.1) (enumerate_from (k + 1) es)) (filter (λ p. q p.1) (enumerate_from (k + 1) es)))
    step true rest = let first : position_from (λ f. f.0 == e.0) k (e ∷ es) ≡ Some k = ap (λ (b : Bool). cond b (Some k) (position_from (λ f. f.0 == e.0) (k + 1) es)) (eq-eqb e.0 e.0 refl) in λ i. first i ∷ rest i
    step false rest = rest

-- the places of what passes, where each element is told by what is made of it
places_told : {X Y : Type 0} (q : X → Bool) (r : Y → Bool) (f : X → Y) (k : ℕ) (xs : List X) → Each (λ x. r (f x) ≡ q x) xs →
    map (λ p. Some p.0) (filter (λ p. q p.1) (enumerate_from k xs)) ≡ map (λ place. Some place) (map (λ p. p.0) (filter (λ p. r p.1) (enumerate_from k (map f xs))))
places_told q r f k [] h = refl
places_told {X} {Y} q r f k (x ∷ xs) h = ap (λ (b : Bool). map (λ (p : ℕ × X). Some p.0) (cond b ((k, x) ∷ filter (λ p. q p.1) (enumerate_from (k + 1) xs)) (filter (λ p. q p.1) (enumerate_from (k + 1) xs)))) (sym h.0) ∙ step (r (f x)) (places_told q r f (k + 1) xs h.1)
  where
    step : (b : Bool) → map (λ (p : ℕ × X). Some p.0) (filter (λ p. q p.1) (enumerate_from (k + 1) xs)) ≡ map (λ place. Some place) (map (λ (p : ℕ × Y). p.0) (filter (λ p. r p.1) (enumerate_from (k + 1) (map f xs)))) →
        map (λ (p : ℕ × X). Some p.0) (cond b ((k, x) ∷ filter (λ p. q p.1) (enumerate_from (k + 1) xs)) (filter (λ p. q p.1) (enumerate_from (k + 1) xs))) ≡ map (λ place. Some place) (map (λ (p : ℕ × Y). p.0) (cond b ((k, f x) ∷ filter (λ p. r p.1) (enumerate_from (k + 1) (map f xs))) (filter (λ p. r p.1) (enumerate_from (k + 1) (map f xs)))))
    step true rest = ap (λ (l : List (Option ℕ)). Some k ∷ l) rest
    step false rest = rest

pub driver_places_by_key : (d : Keyed) (points : ℕ) (read driven : List (List ℕ)) (key : ℕ) → IsKept d points read driven → IsSome (record_at d.nets key) →
    map (λ gate. place_of d.gates gate) (driver_keys d key) ≡ map (λ place. Some place) (driver_places (netlist d).gates (name_of d.nets key))
unfolding netlist
driver_places_by_key d points read driven key h some =
    let it = some_is (record_at d.nets key) some in
    let called : name_of d.nets key ≡ it.0.name = ap (λ (o : Option NetEntry). option_map_or (λ m. m.name) o []) it.1 in
    places_where (λ e. drives_key e.1 key) 0 d.gates (gate_keys_apart d points read driven h)
    ∙ places_told (λ e. drives_key e.1 key) (λ e. same_name e.1.output (name_of d.nets key)) (λ e. (e.0, entry_in d.nets e.1)) 0 d.gates
    (each_weaker (λ e. IsConnected d.nets e.1) (λ e. same_name (name_of d.nets e.1.output) (name_of d.nets key) ≡ drives_key e.1 key)
    (λ e connected. ap (λ m. same_name (name_of d.nets e.1.output) m) called ∙ drives_by_name d.nets key it.0 e.1 (net_keys_apart d points read driven h) (nets_apart d points read driven h) it.1 connected) d.gates
    (each_connected d points read driven h))
    ∙ ap (λ (l : List ℕ). map (λ place. Some place) l) (sym (places_of_map (λ g. same_name g.output (name_of d.nets key)) 0 (named_gates d.nets d.gates)))
  where
    places_of_map : (r : GateEntry → Bool) (k : ℕ) (es : List (ℕ × GateEntry)) → map (λ p. p.0) (filter (λ p. r p.1) (enumerate_from k (records_of es))) ≡ map (λ p. p.0) (filter (λ p. r p.1.1) (enumerate_from k es))
    places_of_map r k [] = refl
    places_of_map r k (e ∷ es) = step (r e.1) (places_of_map r (k + 1) es)
      where
        step : (b : Bool) → map (λ (p : ℕ × GateEntry). p.0) (filter (λ p. r p.1) (enumerate_from (k + 1) (records_of es))) ≡ map (λ (p : ℕ × (ℕ × GateEntry)). p.0) (filter (λ p. r p.1.1) (enumerate_from (k + 1) es)) →
            map (λ (p : ℕ × GateEntry). p.0) (cond b ((k, e.1) ∷ filter (λ p. r p.1) (enumerate_from (k + 1) (records_of es))) (filter (λ p. r p.1) (enumerate_from (k + 1) (records_of es)))) ≡ map (λ (p : ℕ × (ℕ × GateEntry)). p.0) (cond b ((k, e) ∷ filter (λ p. r p.1.1) (enumerate_from (k + 1) es)) (filter (λ p. r p.1.1) (enumerate_from (k + 1) es)))
        step true rest = ap (λ l. k ∷ l) rest
        step false rest = rest
