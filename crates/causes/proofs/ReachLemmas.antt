-- The lines of what a change led to, by what was found of a gate and of the net that it drives.
use Rattle.std.proofs.Common.{◌≡◌, ◌++◌, ℕ, Bool, true, false, cond, codes, List, [], ◌∷◌, Option, Some, None, IsSome, IsSomeAnd, IfSome, refl, sym, ap, ap₂, ◌∙◌, append-nil}
use Rattle.std.specs.List.{filter, flat_map}
use Rattle.std.specs.Option.{option_map_or}
use Rattle.devices.specs.Outgoing.{Adds, Outgoing}
use Rattle.design.specs.Keys.{KeyedGate, entry_in, name_of}
use Rattle.design.specs.Netlist.{GateEntry, NetEntry, Netlist, net_named}
use Rattle.listing.specs.Listings.{readers_of}
use Rattle.causes.specs.CauseLines.{reach_line, reach_lines, reader_lines}
use Rattle.causes.specs.Causes.{changes_at, ends}

module _ (d : Netlist) (nets : List (ℕ × NetEntry)) (t : ℕ) where
  -- a gate that does not turn
  pub no_reach : (o : Option KeyedGate) → IfSome o (λ g. ◌≡◌ {A = List ℕ} [] (ends d (entry_in nets g) t)) → option_map_or (λ g. reader_lines d t (entry_in nets g)) o [] ≡ []
  no_reach None none = refl
  no_reach (Some g) none =
      ap (λ us. option_map_or (λ out. flat_map (reach_line d (entry_in nets g) out) (filter (changes_at d out) us)) (net_named d (name_of nets g.output)) []) (sym none)
      ∙ elim (net_named d (name_of nets g.output)) as (λ p. option_map_or (λ out. flat_map (reach_line d (entry_in nets g) out) (filter (changes_at d out) [])) p [] ≡ []) [ None ↦ refl | Some out ↦ refl ]

  one_of : (g : KeyedGate) (u : ℕ) (b : Bool) (p : Option NetEntry) → IfSome p (λ n. b ≡ changes_at d n u)
      → option_map_or (λ out. flat_map (reach_line d (entry_in nets g) out) (filter (changes_at d out) (u ∷ []))) p [] ≡ option_map_or (λ n. cond b (reach_line d (entry_in nets g) n u) []) p []
  one_of g u b None is = refl
  one_of g u b (Some n) is =
      ap (λ a. flat_map (reach_line d (entry_in nets g) n) (cond a (u ∷ []) [])) (sym is)
      ∙ elim b as (λ a. flat_map (reach_line d (entry_in nets g) n) (cond a (u ∷ []) []) ≡ cond a (reach_line d (entry_in nets g) n u) []) [ true ↦ append-nil (reach_line d (entry_in nets g) n u) | false ↦ refl ]

  -- a gate that turns
  pub reach_of : (o : Option KeyedGate) (g : KeyedGate) (u : ℕ) (b : Bool) (p : Option NetEntry) → o ≡ Some g → IfSome o (λ h. u ∷ [] ≡ ends d (entry_in nets h) t)
      → net_named d (name_of nets g.output) ≡ p → IfSome p (λ n. b ≡ changes_at d n u)
      → option_map_or (λ h. reader_lines d t (entry_in nets h)) o [] ≡ option_map_or (λ n. cond b (reach_line d (entry_in nets g) n u) []) p []
  reach_of None g u b p found one named is = absurd (cc)
  reach_of (Some h) g u b p found one named is =
      let same : h ≡ g = cc in
      ap (λ us. option_map_or (λ out. flat_map (reach_line d (entry_in nets h) out) (filter (changes_at d out) us)) (net_named d (name_of nets h.output)) []) (sym one)
      ∙ (ap (λ k. option_map_or (λ out. flat_map (reach_line d (entry_in nets k) out) (filter (changes_at d out) (u ∷ []))) (net_named d (name_of nets k.output)) []) same
      ∙ (ap (λ q. option_map_or (λ out. flat_map (reach_line d (entry_in nets g) out) (filter (changes_at d out) (u ∷ []))) q []) named ∙ one_of g u b p is))

pub nothing : (F : NetEntry → List ℕ) (p : Option NetEntry) → option_map_or (λ n. cond false (F n) []) p [] ≡ []
nothing F None = refl
nothing F (Some n) = refl

-- what is added for a net that is there
pub adds_there : (old new : Outgoing) (F : NetEntry → List ℕ) (p : Option NetEntry) → IsSome p → IfSome p (λ n. Adds old new (F n)) → Adds old new (option_map_or (λ n. cond true (F n) []) p [])
adds_there old new F None there adds = absurd (cc)
adds_there old new F (Some n) there adds = adds

-- What a change led to.
module _ (d : Netlist) (t : ℕ) where
  pub reach_none : (o : Option NetEntry) (b : Bool) → IfSome o (λ n. b ≡ changes_at d n t) → b ≡ false → IfSome o (λ n. reach_lines d n t ≡ codes "none\n")
  reach_none None b is e = tt
  reach_none (Some n) b is e = ap (λ a. cond a (flat_map (reader_lines d t) (readers_of d n.name)) (codes "none\n")) (sym is ∙ e)

  pub reach_read : (o : Option NetEntry) (b : Bool) → IfSome o (λ n. b ≡ changes_at d n t) → b ≡ true
      → IfSome o (λ n. reach_lines d n t ≡ flat_map (reader_lines d t) (readers_of d (option_map_or (λ m. m.name) o [])))
  reach_read None b is e = tt
  reach_read (Some n) b is e = ap (λ a. cond a (flat_map (reader_lines d t) (readers_of d n.name)) (codes "none\n")) (sym is ∙ e)

pub is_there : (P : NetEntry → Type 0) (p : Option NetEntry) → IsSomeAnd p P → IsSome p
is_there P None and = absurd and
is_there P (Some n) and = refl
