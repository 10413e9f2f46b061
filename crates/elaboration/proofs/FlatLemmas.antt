-- The names of a design differ, since what stands between their dots does.
use Rattle.std.proofs.Common.{◌≡◌, ◌≢◌, ◌≤◌, ℕ, zero, suc, IsTrue, List, [], ◌∷◌, ◌++◌, map, nat_eq, Option, Some, None, All, AllPairs, refl, sym, ap, subst, ◌∙◌, append_assoc, get_or}
use Rattle.std.specs.Prelude.{codes, flat_map, filter}
use Rattle.std.specs.Map.{lookup}
use Rattle.std.specs.Option.{option_map_or}
use Rattle.std.proofs.lemmas.List.{append_cancel_left, map-append}
use Rattle.std.proofs.lemmas.List.Elements.{All-append, All-cons, All-filter, All-head, All-map, All-nil, All-tail, All-weaker}
use Rattle.std.proofs.lemmas.List.Kept.{AllPairs-filter}
use Rattle.design.specs.Names.{is_part, parts}
use Rattle.design.specs.Netlist as netlist
use Rattle.vtext.specs.declared.net.Net as nets
use Rattle.vtext.specs.GateNames.{gate_bytes}
use Rattle.vtext.specs.Modules.{GateEntry, InstanceEntry, ModuleEntry}
use Rattle.vtext.specs.Names.{name_at, number_of}
use Rattle.vtext.specs.declared.range.TheConstants.{MAX_INDEX}
use Rattle.vtext.specs.Bits.{bit_bytes, bit_of}
use Rattle.vtext.specs.kept.Sound.{AreApart, IsGoodNumber, IsSoundModule, IsSoundNet}
use Rattle.elaboration.specs.declared.limits.TheConstants.{MAX_DEPTH}
use Rattle.elaboration.specs.Scopes.{Scope, flat_names, gates_of, inner, is_own, nets_of, own_bits, own_gate, own_gates, own_net, own_nets, scopes_below, scopes_of, top_scope}
use Rattle.elaboration.specs.kept.SoundScopes.{IsPath, IsSoundScope}
use Rattle.elaboration.proofs.BelowLemmas.{HoldsInside, all_below}
use Rattle.elaboration.proofs.NetNames.{net_name_parts, net_names_differ, nets_apart}
use Rattle.elaboration.proofs.PairLemmas.{all_across, all_flat, flat_append, found_holds, no_pairs, pairs_append, pairs_flat, pairs_head, pairs_map, pairs_of_map, pairs_tail}

-- `joined` and `whole` are laws of parts.
module _ (joined : (a b : List ℕ) → parts (a ++ 46 ∷ b) ≡ parts a ++ parts b) (whole : (part : List ℕ) → IsTrue (is_part part) → parts part ≡ part ∷ []) where
  module _ (names : List (List ℕ)) (modules : List (ℕ × ModuleEntry)) (all_sound : All (IsSoundModule names) modules) where
    abbrev Sound : Scope → List (List ℕ) → Type 0
    Sound scope qs = (name : ℕ) × IsSoundModule names (name, scope.entry) × IsPath scope.path qs

    path_on : (path name : List ℕ) (qs : List (List ℕ)) → IsPath path qs → IsTrue (is_part name) → IsPath (path ++ name ++ codes ".") (qs ++ name ∷ [])
    path_on path name qs is part = record {
      parts_after = λ after.
          ap parts (append_assoc (path ++ name) (46 ∷ []) after ∙ append_assoc path name (46 ∷ after))
          ∙ is.parts_after (name ++ 46 ∷ after)
          ∙ ap (λ ps. qs ++ ps) (joined name after ∙ ap (λ ps. ps ++ parts after) (whole name part))
          ∙ sym (append_assoc qs (name ∷ []) (parts after));
      good = All-append (λ p. IsTrue (is_part p)) qs (name ∷ []) is.good (All-cons (λ p. IsTrue (is_part p)) name [] part (All-nil (λ p. IsTrue (is_part p))));
    }

    inner_sound : (scope : Scope) (qs : List (List ℕ)) (i : InstanceEntry) (m : ModuleEntry) → Sound scope qs → IsGoodNumber names i.name → Some m ≡ lookup (nat_eq i.«module») modules
        → Sound (inner names modules scope i m) (qs ++ name_at names i.name ∷ [])
    inner_sound scope qs i m sound good found =
        let entry : (k : ℕ) × IsSoundModule names (k, m) =
        found_holds (λ (o : ModuleEntry). (k : ℕ) × IsSoundModule names (k, o)) (nat_eq i.«module») modules m (λ k d within. ((get_or modules k d).0, all_sound k d within)) found in
        (entry.0, entry.1, path_on scope.path (name_at names i.name) qs sound.2 good.part)

    -- Names in scopes: `own` are those of a scope, without its path.
    module _ (own : Scope → List (List ℕ)) (own_parts : (scope : Scope) (name : ℕ) → IsSoundModule names (name, scope.entry) → All (λ n. IsTrue (is_part n)) (own scope))
        (own_differ : (scope : Scope) (name : ℕ) → IsSoundModule names (name, scope.entry) → AllPairs (λ a b. a ≢ b) (own scope)) where
      abbrev full : Scope → List (List ℕ)
      full scope = map (λ n. scope.path ++ n) (own scope)

      abbrev all_names : List Scope → List (List ℕ)
      all_names scopes = flat_map full scopes

      abbrev below_instance : ℕ → Scope → InstanceEntry → List Scope
      below_instance levels scope i = option_map_or (λ m. scopes_below names modules levels (inner names modules scope i m)) (lookup (nat_eq i.«module») modules) []

      -- the parts of a name: these, and one more at least
      abbrev Begins : List (List ℕ) → List ℕ → Type 0
      Begins qs name = (first : List ℕ) × (rest : List (List ℕ)) × (parts name ≡ qs ++ first ∷ rest)

      -- these, one of which this holds, and one more at least
      abbrev Below : List (List ℕ) → (List ℕ → Type 0) → List ℕ → Type 0
      Below qs Q name = (key : List ℕ) × (first : List ℕ) × (rest : List (List ℕ)) × (parts name ≡ qs ++ key ∷ first ∷ rest) × Q key

      -- these, and this one
      abbrev Ends : List (List ℕ) → List ℕ → Type 0
      Ends qs name = (last : List ℕ) × (parts name ≡ qs ++ last ∷ [])

      own_ends : (scope : Scope) (qs : List (List ℕ)) → Sound scope qs → All (Ends qs) (full scope)
      own_ends scope qs sound =
          All-map (Ends qs) (λ n. scope.path ++ n) (own scope)
          (All-weaker (λ n. IsTrue (is_part n)) (λ n. Ends qs (scope.path ++ n)) (λ n part. (n, sound.2.parts_after n ∙ ap (λ ps. qs ++ ps) (whole n part))) (own scope) (own_parts scope sound.0 sound.1))

      own_apart : (scope : Scope) (qs : List (List ℕ)) → Sound scope qs → AllPairs (λ a b. a ≢ b) (full scope)
      own_apart scope qs sound =
          pairs_map (λ n. scope.path ++ n) (λ n. Unit {0}) (λ a b. a ≢ b) (λ a b. a ≢ b) (λ a b p q apart same. apart (append_cancel_left scope.path a b same)) (own scope) (λ k d within. tt) (own_differ scope sound.0 sound.1)

      ends_begins : (qs : List (List ℕ)) (name : List ℕ) → Ends qs name → Begins qs name
      ends_begins qs name ends = (ends.0, [], ends.1)

      below_begins : (qs : List (List ℕ)) (Q : List ℕ → Type 0) (name : List ℕ) → Below qs Q name → Begins qs name
      below_begins qs Q name below = (below.0, below.1 ∷ below.2, below.3)

      begins_below : (qs : List (List ℕ)) (key : List ℕ) (Q : List ℕ → Type 0) → Q key → (name : List ℕ) → Begins (qs ++ key ∷ []) name → Below qs Q name
      begins_below qs key Q holds name begins = (key, begins.0, begins.1, begins.2 ∙ append_assoc qs (key ∷ []) (begins.0 ∷ begins.1), holds)

      ends_not_below : (qs : List (List ℕ)) (Q : List ℕ → Type 0) (a b : List ℕ) → Ends qs a → Below qs Q b → a ≢ b
      ends_not_below qs Q a b ends below same =
          let e : ends.0 ∷ [] ≡ below.0 ∷ below.1 ∷ below.2 = append_cancel_left qs (ends.0 ∷ []) (below.0 ∷ below.1 ∷ below.2) (sym ends.1 ∙ ap parts same ∙ below.3) in
          absurd (cc)

      keys_apart : (qs : List (List ℕ)) (key : List ℕ) (a b : List ℕ) → Begins (qs ++ key ∷ []) a → Below qs (λ other. key ≢ other) b → a ≢ b
      keys_apart qs key a b begins below same =
          let e : key ∷ begins.0 ∷ begins.1 ≡ below.0 ∷ below.1 ∷ below.2 =
          append_cancel_left qs (key ∷ begins.0 ∷ begins.1) (below.0 ∷ below.1 ∷ below.2)
          (sym (append_assoc qs (key ∷ []) (begins.0 ∷ begins.1)) ∙ sym begins.2 ∙ ap parts same ∙ below.3) in
          let same_key : key ≡ below.0 = cc in
          below.4 same_key

      abbrev BeginsOk : ℕ → Type 0
      BeginsOk levels = (scope : Scope) (qs : List (List ℕ)) → Sound scope qs → All (Begins qs) (all_names (scopes_below names modules levels scope))

      abbrev ApartOk : ℕ → Type 0
      ApartOk levels = (scope : Scope) (qs : List (List ℕ)) → Sound scope qs → AllPairs (λ a b. a ≢ b) (all_names (scopes_below names modules levels scope))

      -- the names below an instance have its name
      instance_begins : (levels : ℕ) → BeginsOk levels → (scope : Scope) (qs : List (List ℕ)) (i : InstanceEntry) → Sound scope qs → IsGoodNumber names i.name → (found : Option ModuleEntry) → found ≡ lookup (nat_eq i.«module») modules
          → All (Begins (qs ++ name_at names i.name ∷ [])) (all_names (option_map_or (λ m. scopes_below names modules levels (inner names modules scope i m)) found []))
      instance_begins levels others scope qs i sound good None e = All-nil (Begins (qs ++ name_at names i.name ∷ []))
      instance_begins levels others scope qs i sound good (Some m) e = others (inner names modules scope i m) (qs ++ name_at names i.name ∷ []) (inner_sound scope qs i m sound good e)

      instance_apart : (levels : ℕ) → ApartOk levels → (scope : Scope) (qs : List (List ℕ)) (i : InstanceEntry) → Sound scope qs → IsGoodNumber names i.name → (found : Option ModuleEntry) → found ≡ lookup (nat_eq i.«module») modules
          → AllPairs (λ a b. a ≢ b) (all_names (option_map_or (λ m. scopes_below names modules levels (inner names modules scope i m)) found []))
      instance_apart levels others scope qs i sound good None e = no_pairs (λ a b. a ≢ b)
      instance_apart levels others scope qs i sound good (Some m) e = others (inner names modules scope i m) (qs ++ name_at names i.name ∷ []) (inner_sound scope qs i m sound good e)

      -- those below all instances whose names have something
      instances_below : (levels : ℕ) → BeginsOk levels → (scope : Scope) (qs : List (List ℕ)) (Q : List ℕ → Type 0) (instances : List InstanceEntry) → Sound scope qs → All (λ i. IsGoodNumber names i.name) instances
          → All (λ i. Q (name_at names i.name)) instances → All (Below qs Q) (all_names (flat_map (below_instance levels scope) instances))
      instances_below levels others scope qs Q [] sound good holds = All-nil (Below qs Q)
      instances_below levels others scope qs Q (i ∷ instances) sound good holds =
          let mine = below_instance levels scope i in
          let more = flat_map (below_instance levels scope) instances in
          subst (λ (ns : List (List ℕ)). All (Below qs Q) ns) (sym (flat_append full mine more))
          (All-append (Below qs Q) (all_names mine) (all_names more)
          (All-weaker (Begins (qs ++ name_at names i.name ∷ [])) (Below qs Q) (begins_below qs (name_at names i.name) Q (All-head (λ (j : InstanceEntry). Q (name_at names j.name)) i instances holds)) (all_names mine)
          (instance_begins levels others scope qs i sound (All-head (λ (j : InstanceEntry). IsGoodNumber names j.name) i instances good) (lookup (nat_eq i.«module») modules) refl))
          (instances_below levels others scope qs Q instances sound (All-tail (λ (j : InstanceEntry). IsGoodNumber names j.name) i instances good) (All-tail (λ (j : InstanceEntry). Q (name_at names j.name)) i instances holds)))

      -- names of numbers that differ
      names_apart : (i j : InstanceEntry) → IsGoodNumber names i.name → IsGoodNumber names j.name → i.name ≢ j.name → name_at names i.name ≢ name_at names j.name
      names_apart i j good other apart same =
          let e : Some i.name ≡ Some j.name = sym good.known ∙ ap (number_of names) same ∙ other.known in
          let equal : i.name ≡ j.name = cc in
          apart equal

      instances_apart : (levels : ℕ) → BeginsOk levels → ApartOk levels → (scope : Scope) (qs : List (List ℕ)) (instances : List InstanceEntry) → Sound scope qs → All (λ i. IsGoodNumber names i.name) instances
          → AllPairs (λ i j. i.name ≢ j.name) instances → AllPairs (λ a b. a ≢ b) (all_names (flat_map (below_instance levels scope) instances))
      instances_apart levels begins others scope qs [] sound good apart = no_pairs (λ a b. a ≢ b)
      instances_apart levels begins others scope qs (i ∷ instances) sound good apart =
          let mine = below_instance levels scope i in
          let more = flat_map (below_instance levels scope) instances in
          let key = name_at names i.name in
          let good_i = All-head (λ (j : InstanceEntry). IsGoodNumber names j.name) i instances good in
          let good_rest = All-tail (λ (j : InstanceEntry). IsGoodNumber names j.name) i instances good in
          let keys : All (λ (j : InstanceEntry). key ≢ name_at names j.name) instances =
          λ k d within. names_apart i (get_or instances k d) good_i (good_rest k d within) (pairs_head (λ (a b : InstanceEntry). a.name ≢ b.name) i instances apart k d within) in
          subst (λ (ns : List (List ℕ)). AllPairs (λ a b. a ≢ b) ns) (sym (flat_append full mine more))
          (pairs_append (λ a b. a ≢ b) (all_names mine) (all_names more)
          (instance_apart levels others scope qs i sound good_i (lookup (nat_eq i.«module») modules) refl)
          (instances_apart levels begins others scope qs instances sound good_rest (pairs_tail (λ (a b : InstanceEntry). a.name ≢ b.name) i instances apart))
          (all_across (Begins (qs ++ key ∷ [])) (Below qs (λ other. key ≢ other)) (λ a b. a ≢ b) (keys_apart qs key) (all_names mine) (all_names more)
          (instance_begins levels begins scope qs i sound good_i (lookup (nat_eq i.«module») modules) refl)
          (instances_below levels begins scope qs (λ other. key ≢ other) instances sound good_rest keys)))

      good_instances : (scope : Scope) (name : ℕ) → IsSoundModule names (name, scope.entry) → All (λ i. IsGoodNumber names i.name) scope.entry.instances
      good_instances scope name sound = λ k d within. (sound.instances k d within).name

      begins_ok : (levels : ℕ) → BeginsOk levels
      begins_ok zero scope qs sound =
          All-append (Begins qs) (full scope) [] (All-weaker (Ends qs) (Begins qs) (ends_begins qs) (full scope) (own_ends scope qs sound)) (All-nil (Begins qs))
      begins_ok (suc levels) scope qs sound =
          All-append (Begins qs) (full scope) (all_names (flat_map (below_instance levels scope) scope.entry.instances))
          (All-weaker (Ends qs) (Begins qs) (ends_begins qs) (full scope) (own_ends scope qs sound))
          (All-weaker (Below qs (λ key. Unit {0})) (Begins qs) (below_begins qs (λ key. Unit {0})) (all_names (flat_map (below_instance levels scope) scope.entry.instances))
          (instances_below levels (begins_ok levels) scope qs (λ key. Unit {0}) scope.entry.instances sound (good_instances scope sound.0 sound.1) (λ k d within. tt)))

      apart_ok : (levels : ℕ) → ApartOk levels
      apart_ok zero scope qs sound =
          pairs_append (λ a b. a ≢ b) (full scope) [] (own_apart scope qs sound) (no_pairs (λ a b. a ≢ b)) (λ k d within. All-nil (λ b. get_or (full scope) k d ≢ b))
      apart_ok (suc levels) scope qs sound =
          let more = flat_map (below_instance levels scope) scope.entry.instances in
          pairs_append (λ a b. a ≢ b) (full scope) (all_names more) (own_apart scope qs sound)
          (instances_apart levels (begins_ok levels) (apart_ok levels) scope qs scope.entry.instances sound (good_instances scope sound.0 sound.1) sound.1.distinct_instances)
          (all_across (Ends qs) (Below qs (λ key. Unit {0})) (λ a b. a ≢ b) (ends_not_below qs (λ key. Unit {0})) (full scope) (all_names more) (own_ends scope qs sound)
          (instances_below levels (begins_ok levels) scope qs (λ key. Unit {0}) scope.entry.instances sound (good_instances scope sound.0 sound.1) (λ k d within. tt)))

    top_sound : (top : ℕ × ModuleEntry) → IsSoundModule names top → Sound (top_scope names modules top.1) []
    top_sound top sound = (top.0, sound, record { parts_after = λ name. refl; good = All-nil (λ part. IsTrue (is_part part)) })

    -- All scopes are sound.

    abbrev SoundAt : Scope → Type 0
    SoundAt scope = (qs : List (List ℕ)) × Sound scope qs

    sound_inside : (scope : Scope) → SoundAt scope → All (HoldsInside names modules SoundAt scope) scope.entry.instances
    sound_inside scope sound = λ k d within m found.
        let i = get_or scope.entry.instances k d in
        (sound.0 ++ name_at names i.name ∷ [], inner_sound scope sound.0 i m sound.1 (sound.1.1.instances k d within).name found)

    sound_here : (scope : Scope) → SoundAt scope → IsSoundScope names scope
    sound_here scope sound = record { name = sound.1.0; sound = sound.1.1; instances = sound.0; path = sound.1.2 }

    pub scopes_sound : (top : ℕ × ModuleEntry) → IsSoundModule names top → All (IsSoundScope names) (scopes_of names modules top.1)
    unfolding scopes_of
    scopes_sound top sound =
        all_below names modules SoundAt sound_inside (IsSoundScope names) sound_here MAX_DEPTH (top_scope names modules top.1) ([], top_sound top sound)

    -- The nets of a design.

    -- `bits` is a law of names of bits.
    module _ (bits : (n vector index : ℕ) (base : List ℕ) → number_of names base ≡ Some vector → index ≤ MAX_INDEX → bit_of names n (bit_bytes base index) ≡ Some (record { name = n; vector = vector; index = index })) where
      abbrev mine : Scope → List (ℕ × nets.Net)
      mine scope = filter (is_own names modules scope) scope.entry.nets

      abbrev net_names : Scope → List (List ℕ)
      net_names scope = flat_map (flat_names names) (mine scope)

      sound_nets : (scope : Scope) (name : ℕ) → IsSoundModule names (name, scope.entry) → All (IsSoundNet names) (mine scope)
      sound_nets scope name sound = All-filter (is_own names modules scope) (IsSoundNet names) scope.entry.nets sound.nets

      net_parts : (scope : Scope) (name : ℕ) → IsSoundModule names (name, scope.entry) → All (λ n. IsTrue (is_part n)) (net_names scope)
      net_parts scope name sound = all_flat (flat_names names) (IsSoundNet names) (λ n. IsTrue (is_part n)) (net_name_parts names) (mine scope) (sound_nets scope name sound)

      abbrev Differ : ℕ × nets.Net → ℕ × nets.Net → Type 0
      Differ a b = (a.0 ≢ b.0) × AreApart names a b

      net_names_apart : (scope : Scope) (name : ℕ) → IsSoundModule names (name, scope.entry) → AllPairs (λ a b. a ≢ b) (net_names scope)
      net_names_apart scope name sound =
          pairs_flat (flat_names names) (IsSoundNet names) Differ (λ a b. a ≢ b) (net_names_differ names bits) (nets_apart names bits) (mine scope) (sound_nets scope name sound)
          (AllPairs-filter Differ (is_own names modules scope) scope.entry.nets (λ i j d before within. (sound.distinct_nets i j d before within, sound.apart_nets i j d before within)))

      own_bit_names : (scope : Scope) (net : nets.Net) (bytes : List (List ℕ)) → map (λ n. n.name) (map (own_net names modules scope net) bytes) ≡ map (λ n. scope.path ++ n) bytes
      own_bit_names scope net [] = refl
      own_bit_names scope net (name ∷ more) = ap (λ (ns : List (List ℕ)). (scope.path ++ name) ∷ ns) (own_bit_names scope net more)

      own_net_names : (scope : Scope) (listed : List (ℕ × nets.Net)) → map (λ net. net.name) (flat_map (own_bits names modules scope) listed) ≡ map (λ n. scope.path ++ n) (flat_map (flat_names names) listed)
      own_net_names scope [] = refl
      own_net_names scope (net ∷ more) =
          map-append (λ (n : netlist.NetEntry). n.name) (own_bits names modules scope net) (flat_map (own_bits names modules scope) more)
          ∙ ap (λ (ns : List (List ℕ)). ns ++ map (λ (n : netlist.NetEntry). n.name) (flat_map (own_bits names modules scope) more)) (own_bit_names scope net.1 (flat_names names net))
          ∙ ap (λ (ns : List (List ℕ)). map (λ n. scope.path ++ n) (flat_names names net) ++ ns) (own_net_names scope more)
          ∙ sym (map-append (λ (n : List ℕ). scope.path ++ n) (flat_names names net) (flat_map (flat_names names) more))

      all_net_names : (scopes : List Scope) → map (λ net. net.name) (flat_map (own_nets names modules) scopes) ≡ flat_map (λ scope. map (λ n. scope.path ++ n) (net_names scope)) scopes
      all_net_names [] = refl
      all_net_names (scope ∷ scopes) =
          map-append (λ (net : netlist.NetEntry). net.name) (own_nets names modules scope) (flat_map (own_nets names modules) scopes)
          ∙ ap (λ (ns : List (List ℕ)). ns ++ map (λ (net : netlist.NetEntry). net.name) (flat_map (own_nets names modules) scopes)) (own_net_names scope (mine scope))
          ∙ ap (λ (ns : List (List ℕ)). map (λ n. scope.path ++ n) (net_names scope) ++ ns) (all_net_names scopes)

      pub nets_differ : (top : ℕ × ModuleEntry) → IsSoundModule names top → AllPairs (λ a b. a.name ≢ b.name) (nets_of names modules top.1)
      unfolding scopes_of
      nets_differ top sound =
          pairs_of_map (λ (net : netlist.NetEntry). net.name) (nets_of names modules top.1)
          (subst (λ (ns : List (List ℕ)). AllPairs (λ a b. a ≢ b) ns) (sym (all_net_names (scopes_below names modules MAX_DEPTH (top_scope names modules top.1))))
          (apart_ok net_names net_parts net_names_apart MAX_DEPTH (top_scope names modules top.1) [] (top_sound top sound)))

    -- The gates of a design.

    abbrev gate_names : Scope → List (List ℕ)
    gate_names scope = map (gate_bytes names) scope.entry.gates

    gate_parts : (scope : Scope) (name : ℕ) → IsSoundModule names (name, scope.entry) → All (λ n. IsTrue (is_part n)) (gate_names scope)
    gate_parts scope name sound = All-map (λ n. IsTrue (is_part n)) (gate_bytes names) scope.entry.gates (λ k d within. (sound.gates k d within).spelled)

    gate_names_differ : (scope : Scope) (name : ℕ) → IsSoundModule names (name, scope.entry) → AllPairs (λ a b. a ≢ b) (gate_names scope)
    gate_names_differ scope name sound =
        pairs_map (gate_bytes names) (λ gate. Unit {0}) (λ a b. gate_bytes names a ≢ gate_bytes names b) (λ a b. a ≢ b) (λ a b p q apart. apart) scope.entry.gates (λ k d within. tt) sound.distinct_gates

    own_gate_names : (scope : Scope) (gates : List GateEntry) → map (λ gate. gate.name) (map (own_gate names modules scope) gates) ≡ map (λ n. scope.path ++ n) (map (gate_bytes names) gates)
    own_gate_names scope [] = refl
    own_gate_names scope (gate ∷ more) = ap (λ (ns : List (List ℕ)). (scope.path ++ gate_bytes names gate) ∷ ns) (own_gate_names scope more)

    all_gate_names : (scopes : List Scope) → map (λ gate. gate.name) (flat_map (own_gates names modules) scopes) ≡ flat_map (λ scope. map (λ n. scope.path ++ n) (gate_names scope)) scopes
    all_gate_names [] = refl
    all_gate_names (scope ∷ scopes) =
        map-append (λ (gate : netlist.GateEntry). gate.name) (own_gates names modules scope) (flat_map (own_gates names modules) scopes)
        ∙ ap (λ (ns : List (List ℕ)). ns ++ map (λ (gate : netlist.GateEntry). gate.name) (flat_map (own_gates names modules) scopes)) (own_gate_names scope scope.entry.gates)
        ∙ ap (λ (ns : List (List ℕ)). map (λ n. scope.path ++ n) (gate_names scope) ++ ns) (all_gate_names scopes)

    pub gates_differ : (top : ℕ × ModuleEntry) → IsSoundModule names top → AllPairs (λ a b. a.name ≢ b.name) (gates_of names modules top.1)
    unfolding scopes_of
    gates_differ top sound =
        pairs_of_map (λ (gate : netlist.GateEntry). gate.name) (gates_of names modules top.1)
        (subst (λ (ns : List (List ℕ)). AllPairs (λ a b. a ≢ b) ns) (sym (all_gate_names (scopes_below names modules MAX_DEPTH (top_scope names modules top.1))))
        (apart_ok gate_names gate_parts gate_names_differ MAX_DEPTH (top_scope names modules top.1) [] (top_sound top sound)))
