-- Ranks that never fall, and what modules reach.
use Rattle.std.proofs.Common.{◌≡◌, ℕ, zero, suc, ◌<◌, ◌≤◌, Bool, true, false, true≢false, ◌||◌, ◌&&◌, List, [], ◌∷◌, Option, Some, None, nat_eq, nat_lt, refl, sym, ap, ◌∙◌, arith}
use Rattle.std.specs.List.{list_any}
use Rattle.std.specs.Map.{lookup}
use Rattle.std.specs.Option.{option_map_or}
use Rattle.std.proofs.lemmas.Bool.Decides.{nat_tests}
use Rattle.vtext.specs.Modules.{InstanceEntry, ModuleEntry}
use Rattle.elaboration.specs.kept.Ranks.{fall, is_level, is_lower, rank_of}
use Rattle.elaboration.specs.Tops.{instantiates, reaches}
use Rattle.elaboration.proofs.RingLemmas.{either, first_or, is_same}

or_left : (a b : Bool) → (a || b) ≡ false → a ≡ false
or_left true b e = e
or_left false b e = refl

or_right : (a b : Bool) → (a || b) ≡ false → b ≡ false
or_right true b e = absurd (true≢false e)
or_right false b e = e

and_left : (a b : Bool) → (a && b) ≡ true → a ≡ true
and_left true b e = refl
and_left false b e = e

and_right : (a b : Bool) → (a && b) ≡ true → b ≡ true
and_right true b e = e
and_right false b e = absurd (true≢false (sym e))

no_less : (a b : ℕ) → nat_lt a b ≡ false → b ≤ a
no_less a b e = grind (arith, nat_tests)

more : (a b : ℕ) → nat_lt a b ≡ false → nat_eq b a ≡ false → b < a
more a b less level = grind (arith, nat_tests)

none_lower : (instances : List InstanceEntry) → list_any (is_lower [] 0) instances ≡ false
none_lower [] = refl
none_lower (i ∷ is) = none_lower is

-- ranks of no module do not fall
pub no_ranks : (modules : List (ℕ × ModuleEntry)) → fall [] modules ≡ false
no_ranks [] = refl
no_ranks (m ∷ ms) = ap (λ (b : Bool). b || fall [] ms) (none_lower m.1.instances) ∙ no_ranks ms

-- A name that no module has reaches nothing.

nothing_on : (is_reached : ℕ → Bool) → ((name : ℕ) → is_reached name ≡ false) → (modules : List (ℕ × ModuleEntry)) (to : ℕ)
    → list_any (λ (m : ℕ × ModuleEntry). is_reached m.0 && instantiates m.1 to) modules ≡ false
nothing_on is_reached none [] to = refl
nothing_on is_reached none (m ∷ ms) to =
    ap (λ (b : Bool). (b && instantiates m.1 to) || list_any (λ (m : ℕ × ModuleEntry). is_reached m.0 && instantiates m.1 to) ms) (none m.0)
    ∙ nothing_on is_reached none ms to

pub no_module : (modules : List (ℕ × ModuleEntry)) (from : ℕ) → None ≡ lookup (nat_eq from) modules → (between to : ℕ) → reaches modules from between to ≡ false
no_module modules from none zero to = sym (ap (λ (o : Option ModuleEntry). option_map_or (λ (m : ModuleEntry). instantiates m to) o false) none)
no_module modules from none (suc between) to =
    ap (λ (b : Bool). b || list_any (λ (m : ℕ × ModuleEntry). reaches modules from between m.0 && instantiates m.1 to) modules) (no_module modules from none between to)
    ∙ nothing_on (reaches modules from between) (no_module modules from none between) modules to

-- Ranks.

module _ (ranks : List (ℕ × ℕ)) where
  -- among instances that are of no module of lower rank, that of a module is of one of no lower rank
  within : (rank to : ℕ) (instances : List InstanceEntry) → list_any (is_lower ranks rank) instances ≡ false → list_any (λ (i : InstanceEntry). nat_eq to i.«module») instances ≡ true
      → rank ≤ rank_of ranks to
  within rank to [] none there = absurd (true≢false (sym there))
  within rank to (i ∷ is) none there =
      either (nat_eq to i.«module») (list_any (λ (i : InstanceEntry). nat_eq to i.«module») is) there
      (λ (e : nat_eq to i.«module» ≡ true).
      let low : rank ≤ rank_of ranks i.«module» = no_less (rank_of ranks i.«module») rank (or_left (is_lower ranks rank i) (list_any (is_lower ranks rank) is) none) in
      let same : rank_of ranks to ≡ rank_of ranks i.«module» = ap (rank_of ranks) (is_same to i.«module» e) in
      omega arith)
      (within rank to is (or_right (is_lower ranks rank i) (list_any (is_lower ranks rank) is) none))

  -- and of one of higher rank, if none is of its own
  above : (rank to : ℕ) (instances : List InstanceEntry) → list_any (is_lower ranks rank) instances ≡ false → list_any (is_level ranks rank) instances ≡ false
      → list_any (λ (i : InstanceEntry). nat_eq to i.«module») instances ≡ true → rank < rank_of ranks to
  above rank to [] none level there = absurd (true≢false (sym there))
  above rank to (i ∷ is) none level there =
      either (nat_eq to i.«module») (list_any (λ (i : InstanceEntry). nat_eq to i.«module») is) there
      (λ (e : nat_eq to i.«module» ≡ true).
      let high : rank < rank_of ranks i.«module» =
      more (rank_of ranks i.«module») rank (or_left (is_lower ranks rank i) (list_any (is_lower ranks rank) is) none)
      (or_left (is_level ranks rank i) (list_any (is_level ranks rank) is) level) in
      let same : rank_of ranks to ≡ rank_of ranks i.«module» = ap (rank_of ranks) (is_same to i.«module» e) in
      omega arith)
      (above rank to is (or_right (is_lower ranks rank i) (list_any (is_lower ranks rank) is) none) (or_right (is_level ranks rank i) (list_any (is_level ranks rank) is) level))

  -- a module of which ranks do not fall
  no_fall : (modules : List (ℕ × ModuleEntry)) (from : ℕ) (entry : ModuleEntry) → fall ranks modules ≡ false → lookup (nat_eq from) modules ≡ Some entry
      → list_any (is_lower ranks (rank_of ranks from)) entry.instances ≡ false
  no_fall [] from entry none found = absurd (cc)
  no_fall (m ∷ ms) from entry none found =
      let here : Bool = list_any (is_lower ranks (rank_of ranks m.0)) m.1.instances in
      first_or (nat_eq from m.0) m.1 entry (lookup (nat_eq from) ms) found
      (λ (e : nat_eq from m.0 ≡ true) (is : m.1 ≡ entry).
      ap (λ (name : ℕ). list_any (is_lower ranks (rank_of ranks name)) entry.instances) (is_same from m.0 e)
      ∙ ap (λ (x : ModuleEntry). list_any (is_lower ranks (rank_of ranks m.0)) x.instances) (sym is)
      ∙ or_left here (fall ranks ms) none)
      (no_fall ms from entry (or_right here (fall ranks ms) none))

  -- what is reached through one more module ranks as high
  on : (rank : ℕ) (is_reached : ℕ → Bool) → ((name : ℕ) → is_reached name ≡ true → rank < rank_of ranks name) → (modules : List (ℕ × ModuleEntry)) → fall ranks modules ≡ false → (to : ℕ)
      → list_any (λ (m : ℕ × ModuleEntry). is_reached m.0 && instantiates m.1 to) modules ≡ true → rank < rank_of ranks to
  on rank is_reached high [] none to there = absurd (true≢false (sym there))
  on rank is_reached high (m ∷ ms) none to there =
      let here : Bool = list_any (is_lower ranks (rank_of ranks m.0)) m.1.instances in
      either (is_reached m.0 && instantiates m.1 to) (list_any (λ (m : ℕ × ModuleEntry). is_reached m.0 && instantiates m.1 to) ms) there
      (λ (e : (is_reached m.0 && instantiates m.1 to) ≡ true).
      let low : rank < rank_of ranks m.0 = high m.0 (and_left (is_reached m.0) (instantiates m.1 to) e) in
      let next : rank_of ranks m.0 ≤ rank_of ranks to = within (rank_of ranks m.0) to m.1.instances (or_left here (fall ranks ms) none) (and_right (is_reached m.0) (instantiates m.1 to) e) in
      omega arith)
      (on rank is_reached high ms (or_right here (fall ranks ms) none) to)

  module _ (modules : List (ℕ × ModuleEntry)) (none : fall ranks modules ≡ false) (from : ℕ) (entry : ModuleEntry) (found : lookup (nat_eq from) modules ≡ Some entry)
      (level : list_any (is_level ranks (rank_of ranks from)) entry.instances ≡ false) where
    reached_above : (between to : ℕ) → reaches modules from between to ≡ true → rank_of ranks from < rank_of ranks to
    reached_above zero to there =
        above (rank_of ranks from) to entry.instances (no_fall modules from entry none found) level (sym (ap (λ (o : Option ModuleEntry). option_map_or (λ (m : ModuleEntry). instantiates m to) o false) found) ∙ there)
    reached_above (suc between) to there =
        either (reaches modules from between to) (list_any (λ (m : ℕ × ModuleEntry). reaches modules from between m.0 && instantiates m.1 to) modules) there
        (reached_above between to)
        (on (rank_of ranks from) (reaches modules from between) (reached_above between) modules none to)

    no_ring : (b : Bool) → (b ≡ true → rank_of ranks from < rank_of ranks from) → b ≡ false
    no_ring true f = let bad : rank_of ranks from < rank_of ranks from = f refl in absurd (omega arith)
    no_ring false f = refl

    -- a module that has no instance of its own rank is in no ring
    pub not_recursive : (between : ℕ) → reaches modules from between from ≡ false
    not_recursive between = no_ring (reaches modules from between from) (reached_above between from)
