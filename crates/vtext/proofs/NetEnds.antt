-- The nets of a module at its end, and what stays so of its terminals while nets are read.
use Rattle.std.proofs.Common.{◌≡◌, ◌≢◌, ◌<◌, ℕ, zero, suc, Bool, true, false, cond, not, ◌&&◌, ◌||◌, List, [], ◌∷◌, Option, None, Some, IsSome, All, AllPairs, length, get_or, nat_eq, refl, sym, subst, ap, ◌∙◌, arith, true≢false}
use Rattle.std.specs.Prelude.{IsSomeAnd, is_some}
use Rattle.std.proofs.lemmas.Bool.Decides.{nat_tests}
use Rattle.std.specs.List.{list_any}
use Rattle.vtext.specs.declared.net.Net.{Net}
use Rattle.vtext.specs.Nets.{is_scalar, is_undirected, is_used, net_of, with_net}
use Rattle.vtext.specs.Ranges.{has_bit}
use Rattle.vtext.specs.kept.Sound as sound
use Rattle.vtext.specs.kept.Sound.{IsGoodNumber, IsSoundNet}
use Rattle.vtext.proofs.InsertLemmas.{AreApart, net_kept, same_numbers}
use Rattle.vtext.proofs.NetReadings.{AreNets, IsSaid, net_else, net_here, no_bit, range_of, scalar_of, used_of}

-- What stays.

-- nets stay there, scalars stay scalars, and bits stay bits
pub record AreKept (nets more : List (ℕ × Net)) : Type 0 where
  pub there : (q : ℕ) → IsSome (net_of nets q) → IsSome (net_of more q)
  pub scalars : (q : ℕ) (a : Net) → net_of nets q ≡ Some a → is_scalar a ≡ true → IsSomeAnd (net_of more q) (λ x. is_scalar x ≡ true)
  pub bits : (q : ℕ) (a : Net) (i : ℕ) → net_of nets q ≡ Some a → has_bit a.range i ≡ true → IsSomeAnd (net_of more q) (λ x. has_bit x.range i ≡ true)

module _ (names : List (List ℕ)) (nets : List (ℕ × Net)) (n : ℕ) (net : Net) (s : AreNets names nets) where
  scalar_stays : IsSaid names nets n net → (a : Net) → net_of nets n ≡ Some a → is_scalar a ≡ true → is_scalar net ≡ true
  scalar_stays (IsSaid.lists is none) a there scalar = let two : ◌≡◌ {A = Option Net} None (Some a) = sym none ∙ there in absurd cc
  scalar_stays (IsSaid.again old before was now same) a there scalar =
      let one : old ≡ a = let two : Some old ≡ Some a = sym before ∙ there in cc in
      scalar_of net now (same ∙ ap (λ (x : Net). x.range) one ∙ range_of a scalar)
  scalar_stays (IsSaid.comes now unused bounds free) a there scalar = absurd (true≢false (sym (used_of a scalar) ∙ unused a there))

  bit_stays : IsSaid names nets n net → (a : Net) (i : ℕ) → net_of nets n ≡ Some a → has_bit a.range i ≡ true → has_bit net.range i ≡ true
  bit_stays (IsSaid.lists is none) a i there has = let two : ◌≡◌ {A = Option Net} None (Some a) = sym none ∙ there in absurd cc
  bit_stays (IsSaid.again old before was now same) a i there has =
      let one : old ≡ a = let two : Some old ≡ Some a = sym before ∙ there in cc in
      ap (λ range. has_bit range i) (same ∙ ap (λ (x : Net). x.range) one) ∙ has
  bit_stays (IsSaid.comes now unused bounds free) a i there has = absurd (no_bit a.range i (s.plain n a there (unused a there)) has)

  pub said_kept : IsSaid names nets n net → AreKept nets (with_net nets n net)
  said_kept said = record {
    there = net_kept nets n net;
    scalars = λ q a e scalar. scalars q a e scalar (nat_eq q n) refl;
    bits = λ q a i e has. bits q a i e has (nat_eq q n) refl;
  }
    where
      scalars : (q : ℕ) (a : Net) → net_of nets q ≡ Some a → is_scalar a ≡ true → (b : Bool) → nat_eq q n ≡ b
          → IsSomeAnd (net_of (with_net nets n net) q) (λ x. is_scalar x ≡ true)
      scalars q a e scalar true h =
          subst (λ found. IsSomeAnd found (λ x. is_scalar x ≡ true)) (sym (net_here nets n net q h))
          (scalar_stays said a (subst (λ m. net_of nets m ≡ Some a) (same_numbers q n h) e) scalar)
      scalars q a e scalar false h = subst (λ found. IsSomeAnd found (λ x. is_scalar x ≡ true)) (sym (net_else nets n net q h ∙ e)) scalar

      bits : (q : ℕ) (a : Net) (i : ℕ) → net_of nets q ≡ Some a → has_bit a.range i ≡ true → (b : Bool) → nat_eq q n ≡ b
          → IsSomeAnd (net_of (with_net nets n net) q) (λ x. has_bit x.range i ≡ true)
      bits q a i e has true h =
          subst (λ found. IsSomeAnd found (λ x. has_bit x.range i ≡ true)) (sym (net_here nets n net q h))
          (bit_stays said a i (subst (λ m. net_of nets m ≡ Some a) (same_numbers q n h) e) has)
      bits q a i e has false h = subst (λ found. IsSomeAnd found (λ x. has_bit x.range i ≡ true)) (sym (net_else nets n net q h ∙ e)) has

-- At the end.

-- each entry is what is looked up by its number
found_entry : (nets : List (ℕ × Net)) → AreApart nets → (i : ℕ) (d : ℕ × Net) → i < length nets → net_of nets (get_or nets i d).0 ≡ Some (get_or nets i d).1
found_entry [] h i d within = absurd (omega arith)
found_entry (e ∷ es) h zero d within = let same : nat_eq e.0 e.0 ≡ true = grind (arith, nat_tests) in rw same refl
found_entry (e ∷ es) h (suc i) d within =
    let other : nat_eq (get_or es i d).0 e.0 ≡ false = differ (get_or es i d).0 e.0 (h.0 i d (omega arith)) in
    ap (λ (b : Bool). cond b (Some e.1) (net_of es (get_or es i d).0)) other ∙ found_entry es h.1 i d (omega arith)
  where
    differ : (a b : ℕ) → b ≢ a → nat_eq a b ≡ false
    differ a b apart = step (nat_eq a b) refl
      where
        step : (t : Bool) → nat_eq a b ≡ t → nat_eq a b ≡ false
        step true h = let same : b ≡ a = grind (arith, nat_tests) in absurd (apart same)
        step false h = h

none_passes : {X : Type 0} (p : X → Bool) (xs : List X) → list_any p xs ≡ false → (i : ℕ) (d : X) → i < length xs → p (get_or xs i d) ≡ false
none_passes p [] h i d within = absurd (omega arith)
none_passes p (x ∷ xs) h zero d within = first (p x) (list_any p xs) h
  where
    first : (a b : Bool) → (a || b) ≡ false → a ≡ false
    first true b h = absurd cc
    first false b h = refl
none_passes p (x ∷ xs) h (suc i) d within = none_passes p xs (rest (p x) (list_any p xs) h) i d (omega arith)
  where
    rest : (a b : Bool) → (a || b) ≡ false → b ≡ false
    rest true b h = absurd cc
    rest false b h = h

-- a port with a direction is used
directed_used : (x : Net) → x.port ≡ true → is_undirected x ≡ false → is_used x ≡ true
directed_used x port h = step x.port (is_some x.direction) (is_some x.kind) x.implicit port h
  where
    step : (port directed kind implicit : Bool) → port ≡ true → (port && not directed) ≡ false → ((directed || kind) || implicit) ≡ true
    step true true kind implicit p h = refl
    step true false kind implicit p h = absurd cc
    step false directed kind implicit p h = absurd cc

module _ (names : List (List ℕ)) (nets : List (ℕ × Net)) (s : AreNets names nets) (ended : list_any (λ net. is_undirected net.1) nets ≡ false) where
  all_used : (i : ℕ) (d : ℕ × Net) → i < length nets → is_used (get_or nets i d).1 ≡ true
  all_used i d within = step (get_or nets i d).1.port refl
    where
      step : (port : Bool) → (get_or nets i d).1.port ≡ port → is_used (get_or nets i d).1 ≡ true
      step true h = directed_used (get_or nets i d).1 h (none_passes (λ net. is_undirected net.1) nets ended i d within)
      step false h = s.reached (get_or nets i d).0 (get_or nets i d).1 (found_entry nets s.distinct i d within) h

  pub nets_sound : All (IsSoundNet names) nets
  nets_sound i d within = record {
    name = s.named i d within;
    used = all_used i d within;
    bounds = s.bounded (get_or nets i d).0 (get_or nets i d).1 (found_entry nets s.distinct i d within);
  }

  apart_at : (i j : ℕ) (d : ℕ × Net) → i < length nets → j < length nets → sound.IsApart names (get_or nets i d) (get_or nets j d)
  apart_at i j d first second none k has =
      s.apart (get_or nets i d).0 (get_or nets j d).0 (get_or nets i d).1 (get_or nets j d).1 (found_entry nets s.distinct i d first)
      (found_entry nets s.distinct j d second) (scalar_of (get_or nets i d).1 (all_used i d first) none) k has

  pub nets_apart : AllPairs (sound.AreApart names) nets
  nets_apart i j d less within = record { first = apart_at i j d (omega (arith, less, within)) within; second = apart_at j i d within (omega (arith, less, within)) }
