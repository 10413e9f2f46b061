-- What holds of the nets of a module while they are read: their names, their ranges, and that no scalar is named like a bit.
use Rattle.std.proofs.Common.{◌≡◌, ◌≢◌, ◌≤◌, ◌⊎◌, inl, inr, ℕ, suc, Bool, true, false, cond, ◌&&◌, ◌||◌, nat_le, List, [], ◌∷◌, Option, None, Some, MatchOption, All, nat_eq, refl, sym, subst, ap, ◌∙◌, arith, true≢false}
use Rattle.std.specs.Prelude.{is_none}
use Rattle.std.specs.Option.{option_map_or}
use Rattle.std.proofs.lemmas.Bool.Decides.{nat_tests}
use Rattle.std.proofs.lemmas.List.Elements.{All-nil}
use Rattle.vtext.specs.declared.bits.BitName.{BitName}
use Rattle.vtext.specs.declared.net.Net.{Net}
use Rattle.vtext.specs.declared.range.Range.{Range}
use Rattle.vtext.specs.declared.range.TheConstants.{MAX_INDEX}
use Rattle.vtext.specs.Bits.{bit_bytes, bit_of, has_named_bit, is_bit_of, is_clash, is_named_bit, names_bit_of}
use Rattle.vtext.specs.Names.{name_at}
use Rattle.vtext.specs.Nets.{is_scalar, is_used, listed, net_of, with_net}
use Rattle.vtext.specs.Ranges.{has_bit, is_within}
use Rattle.vtext.specs.kept.Sound.{IsGoodNumber}
use Rattle.vtext.proofs.BitNames.{any_bit, bit_there}
use Rattle.vtext.proofs.InsertLemmas.{AreApart, apart_kept, numbers_kept, same_numbers}
use Rattle.vtext.proofs.NumberLemmas.{numbered}

-- both bounds of a range are within the limit
abbrev pub IsBounded : Option Range → Type 0
IsBounded range = MatchOption range (Unit {0}) (λ range. (range.left ≤ MAX_INDEX) × (range.right ≤ MAX_INDEX))

bit_bounded : (range : Option Range) (i : ℕ) → IsBounded range → has_bit range i ≡ true → i ≤ MAX_INDEX
bit_bounded None i h e = absurd cc
bit_bounded (Some range) i h e = step (nat_le range.left i) (nat_le i range.right) (nat_le range.right i) (nat_le i range.left) refl refl refl refl e
  where
    step : (a b c d : Bool) → nat_le range.left i ≡ a → nat_le i range.right ≡ b → nat_le range.right i ≡ c → nat_le i range.left ≡ d
        → ((a && b) || (c && d)) ≡ true → i ≤ MAX_INDEX
    step true true c d p q r s e = let low : i ≤ range.right = grind (arith, nat_tests) in omega (arith, low, h.1)
    step true false true true p q r s e = let low : i ≤ range.left = grind (arith, nat_tests) in omega (arith, low, h.0)
    step false b true true p q r s e = let low : i ≤ range.left = grind (arith, nat_tests) in omega (arith, low, h.0)
    step true false true false p q r s e = absurd cc
    step true false false d p q r s e = absurd cc
    step false b true false p q r s e = absurd cc
    step false b false d p q r s e = absurd cc

-- what is said of the nets so far, by their numbers
pub record AreNets (names : List (List ℕ)) (nets : List (ℕ × Net)) : Type 0 where
  pub named : All (λ net. IsGoodNumber names net.0) nets
  pub distinct : AreApart nets
  pub bounded : (n : ℕ) (net : Net) → net_of nets n ≡ Some net → IsBounded net.range
  pub plain : (n : ℕ) (net : Net) → net_of nets n ≡ Some net → is_used net ≡ false → net.range ≡ None
  pub reached : (n : ℕ) (net : Net) → net_of nets n ≡ Some net → net.port ≡ false → is_used net ≡ true
  pub apart : (k n : ℕ) (a b : Net) → net_of nets k ≡ Some a → net_of nets n ≡ Some b → is_scalar a ≡ true
      → (i : ℕ) → has_bit b.range i ≡ true → name_at names k ≢ bit_bytes (name_at names n) i

-- what may be said of a net: a header lists it; or what is said again leaves its range; or it comes to be, and its name is free
pub data IsSaid (names : List (List ℕ)) (nets : List (ℕ × Net)) (n : ℕ) (net : Net) : Type 0 where
  lists : net ≡ listed → net_of nets n ≡ None → IsSaid names nets n net
  again : (old : Net) → net_of nets n ≡ Some old → is_used old ≡ true → is_used net ≡ true → net.range ≡ old.range → IsSaid names nets n net
  comes : is_used net ≡ true → ((old : Net) → net_of nets n ≡ Some old → is_used old ≡ false) → IsBounded net.range
      → is_clash names nets n net.range ≡ false → IsSaid names nets n net

-- A net looked up in the list that has one put in.

pub net_here : (nets : List (ℕ × Net)) (n : ℕ) (net : Net) (m : ℕ) → nat_eq m n ≡ true → net_of (with_net nets n net) m ≡ Some net
net_here [] n net m h = rw h refl
net_here (e ∷ es) n net m h = step (nat_eq n e.0) refl (net_here es n net m h)
  where
    step : (b : Bool) → nat_eq n e.0 ≡ b → net_of (with_net es n net) m ≡ Some net → net_of (cond b ((e.0, net) ∷ es) (e ∷ with_net es n net)) m ≡ Some net
    step true same rest = let here : nat_eq m e.0 ≡ true = grind (arith, nat_tests) in rw here refl
    step false other rest = let there : nat_eq m e.0 ≡ false = grind (arith, nat_tests) in ap (λ (b : Bool). cond b (Some e.1) (net_of (with_net es n net) m)) there ∙ rest

pub net_else : (nets : List (ℕ × Net)) (n : ℕ) (net : Net) (m : ℕ) → nat_eq m n ≡ false → net_of (with_net nets n net) m ≡ net_of nets m
net_else [] n net m h = rw h refl
net_else (e ∷ es) n net m h = step (nat_eq n e.0) refl (net_else es n net m h)
  where
    step : (b : Bool) → nat_eq n e.0 ≡ b → net_of (with_net es n net) m ≡ net_of es m → net_of (cond b ((e.0, net) ∷ es) (e ∷ with_net es n net)) m ≡ net_of (e ∷ es) m
    step true same rest =
        let there : nat_eq m e.0 ≡ false = grind (arith, nat_tests) in
        ap (λ (b : Bool). cond b (Some net) (net_of es m)) there ∙ sym (ap (λ (b : Bool). cond b (Some e.1) (net_of es m)) there)
    step false other rest = ap (λ (found : Option Net). cond (nat_eq m e.0) (Some e.1) found) rest

-- it is the one that was put in, or one that was there
abbrev IsFound : List (ℕ × Net) → ℕ → Net → ℕ → Net → Type 0
IsFound nets n net m found = ((m ≡ n) × (found ≡ net)) ⊎ (net_of nets m ≡ Some found)

looked : (nets : List (ℕ × Net)) (n : ℕ) (net : Net) (m : ℕ) (found : Net) → net_of (with_net nets n net) m ≡ Some found → IsFound nets n net m found
looked nets n net m found e = step (nat_eq m n) refl
  where
    step : (b : Bool) → nat_eq m n ≡ b → IsFound nets n net m found
    step true h = let two : Some found ≡ Some net = sym e ∙ net_here nets n net m h in inl (same_numbers m n h, cc)
    step false h = inr (sym (net_else nets n net m h) ∙ e)

-- the number of one of the nets is a good one
good_at : (names : List (List ℕ)) (nets : List (ℕ × Net)) (m : ℕ) (net : Net) → All (λ net. IsGoodNumber names net.0) nets → net_of nets m ≡ Some net → IsGoodNumber names m
good_at names [] m net all e = absurd cc
good_at names (x ∷ xs) m net all e = step (nat_eq m x.0) refl (good_at names xs m net (λ i d within. all (suc i) d (omega (arith, within)))) e
  where
    step : (b : Bool) → nat_eq m x.0 ≡ b → (net_of xs m ≡ Some net → IsGoodNumber names m) → cond b (Some x.1) (net_of xs m) ≡ Some net → IsGoodNumber names m
    step true same rest e = subst (IsGoodNumber names) (sym (same_numbers m x.0 same)) (all 0 x (omega arith))
    step false other rest e = rest e

-- Scalars and bits.

pub used_of : (net : Net) → is_scalar net ≡ true → is_used net ≡ true
used_of net h = step (is_used net) refl h
  where
    step : (b : Bool) → is_used net ≡ b → (b && is_none net.range) ≡ true → is_used net ≡ true
    step true e h = e
    step false e h = absurd cc

pub range_of : (net : Net) → is_scalar net ≡ true → net.range ≡ None
range_of net h = step (is_used net) net.range refl h
  where
    step : (b : Bool) (range : Option Range) → net.range ≡ range → (b && is_none range) ≡ true → net.range ≡ None
    step true None e h = e
    step true (Some range) e h = absurd cc
    step false range e h = absurd cc

pub scalar_of : (net : Net) → is_used net ≡ true → net.range ≡ None → is_scalar net ≡ true
scalar_of net used none = rw (used, none) refl

pub no_bit : (range : Option Range) (i : ℕ) → range ≡ None → has_bit range i ≡ true → ⊥
no_bit None i e h = absurd cc
no_bit (Some range) i e h = absurd cc

-- A net comes to be, or more is said of one.

-- the name of a scalar that comes to be is that of a bit of no vector that is there
scalar_free : (names : List (List ℕ)) (nets : List (ℕ × Net)) (n m i : ℕ) (b : Net) → is_named_bit names nets n ≡ false → net_of nets m ≡ Some b
    → IsGoodNumber names m → has_bit b.range i ≡ true → i ≤ MAX_INDEX → name_at names n ≢ bit_bytes (name_at names m) i
scalar_free names nets n m i b free there good has low same =
    let bit : BitName = record { name = n; vector = m; index = i } in
    let read : bit_of names n (name_at names n) ≡ Some bit = ap (bit_of names n) same ∙ bit_there names n (name_at names m) m i good.known low in
    let named : is_named_bit names nets n ≡ true =
    ap (λ (found : Option BitName). option_map_or (is_bit_of nets) found false) read
    ∙ ap (λ (found : Option Net). option_map_or (λ (net : Net). has_bit net.range i) found false) there ∙ has in
    true≢false (sym named ∙ free)

-- no scalar that is there has the name of a bit of a vector that comes to be
vector_free : (names : List (List ℕ)) (nets : List (ℕ × Net)) (n k i : ℕ) (a : Net) (range : Range) → has_named_bit names nets n range ≡ false
    → net_of nets k ≡ Some a → is_scalar a ≡ true → IsGoodNumber names k → IsGoodNumber names n → is_within range i ≡ true → i ≤ MAX_INDEX
    → name_at names k ≢ bit_bytes (name_at names n) i
vector_free names nets n k i a range free there scalar good_k good_n within low same =
    let bit : BitName = record { name = k; vector = n; index = i } in
    let read : bit_of names k (name_at names k) ≡ Some bit = ap (bit_of names k) same ∙ bit_there names k (name_at names n) n i good_n.known low in
    let own : nat_eq n n ≡ true = grind (arith, nat_tests) in
    let passes : names_bit_of nets n range bit ≡ true = rw (own, within, there, scalar) refl in
    let named : has_named_bit names nets n range ≡ true =
    any_bit names (names_bit_of nets n range) bit k (numbered names (name_at names k) k good_k.known).0 read passes in
    true≢false (sym named ∙ free)

module _ (names : List (List ℕ)) (nets : List (ℕ × Net)) (n : ℕ) (net : Net) (good : IsGoodNumber names n) (s : AreNets names nets) where
  said_bounded : IsSaid names nets n net → IsBounded net.range
  said_bounded (lists is none) = subst (λ (x : Net). IsBounded x.range) (sym is) tt
  said_bounded (again old there was now same) = subst IsBounded (sym same) (s.bounded n old there)
  said_bounded (comes now unused bounds free) = bounds

  said_plain : IsSaid names nets n net → is_used net ≡ false → net.range ≡ None
  said_plain (lists is none) unused = ap (λ (x : Net). x.range) is
  said_plain (again old there was now same) unused = absurd (true≢false (sym now ∙ unused))
  said_plain (comes now before bounds free) unused = absurd (true≢false (sym now ∙ unused))

  said_reached : IsSaid names nets n net → net.port ≡ false → is_used net ≡ true
  said_reached (lists is none) inner = absurd (true≢false (sym (ap (λ (x : Net). x.port) is) ∙ inner))
  said_reached (again old there was now same) inner = now
  said_reached (comes now before bounds free) inner = now

  -- the one that is put in is apart from those that are there
  first_apart : IsSaid names nets n net → (m : ℕ) (b : Net) → net_of nets m ≡ Some b → is_scalar net ≡ true → (i : ℕ) → has_bit b.range i ≡ true
      → name_at names n ≢ bit_bytes (name_at names m) i
  first_apart (lists is none) m b there scalar i has = absurd (true≢false (sym scalar ∙ ap is_scalar is))
  first_apart (again old before was now same) m b there scalar i has =
      s.apart n m old b before there (scalar_of old was (sym same ∙ range_of net scalar)) i has
  first_apart (comes now unused bounds free) m b there scalar i has =
      scalar_free names nets n m i b (sym (ap (is_clash names nets n) (range_of net scalar)) ∙ free) there (good_at names nets m b s.named there) has
      (bit_bounded b.range i (s.bounded m b there) has)

  -- and they are apart from it
  second_apart : IsSaid names nets n net → (k : ℕ) (a : Net) → net_of nets k ≡ Some a → is_scalar a ≡ true → (i : ℕ) → has_bit net.range i ≡ true
      → name_at names k ≢ bit_bytes (name_at names n) i
  second_apart (lists is none) k a there scalar i has = absurd (no_bit net.range i (ap (λ (x : Net). x.range) is) has)
  second_apart (again old before was now same) k a there scalar i has =
      s.apart k n a old there before scalar i (subst (λ (range : Option Range). has_bit range i ≡ true) same has)
  second_apart (comes now unused bounds free) k a there scalar i has = step net.range free bounds has
    where
      step : (range : Option Range) → is_clash names nets n range ≡ false → IsBounded range → has_bit range i ≡ true → name_at names k ≢ bit_bytes (name_at names n) i
      step None free bounds has = absurd (no_bit None i refl has)
      step (Some range) free bounds has =
          vector_free names nets n k i a range free there scalar (good_at names nets k a s.named there) good has (bit_bounded (Some range) i bounds has)

  pub nets_said : IsSaid names nets n net → AreNets names (with_net nets n net)
  nets_said said = record {
    named = numbers_kept (IsGoodNumber names) nets n net good s.named;
    distinct = apart_kept nets n net s.distinct;
    bounded = λ m x e. bounds m x (looked nets n net m x e);
    plain = λ m x e. plains m x (looked nets n net m x e);
    reached = λ m x e. reaches m x (looked nets n net m x e);
    apart = λ k m a b e f. aparts k m a b (looked nets n net k a e) (looked nets n net m b f);
  }
    where
      bounds : (m : ℕ) (x : Net) → IsFound nets n net m x → IsBounded x.range
      bounds m x (inl h) = subst (λ (y : Net). IsBounded y.range) (sym h.1) (said_bounded said)
      bounds m x (inr h) = s.bounded m x h

      plains : (m : ℕ) (x : Net) → IsFound nets n net m x → is_used x ≡ false → x.range ≡ None
      plains m x (inl h) = subst (λ (y : Net). is_used y ≡ false → y.range ≡ None) (sym h.1) (said_plain said)
      plains m x (inr h) = s.plain m x h

      reaches : (m : ℕ) (x : Net) → IsFound nets n net m x → x.port ≡ false → is_used x ≡ true
      reaches m x (inl h) = subst (λ (y : Net). y.port ≡ false → is_used y ≡ true) (sym h.1) (said_reached said)
      reaches m x (inr h) = s.reached m x h

      aparts : (k m : ℕ) (a b : Net) → IsFound nets n net k a → IsFound nets n net m b → is_scalar a ≡ true → (i : ℕ) → has_bit b.range i ≡ true
          → name_at names k ≢ bit_bytes (name_at names m) i
      aparts k m a b (inl h) (inl j) scalar i has =
          absurd (no_bit b.range i (ap (λ (x : Net). x.range) (j.1 ∙ sym h.1) ∙ range_of a scalar) has)
      aparts k m a b (inl h) (inr j) scalar i has =
          subst (λ (x : ℕ). name_at names x ≢ bit_bytes (name_at names m) i) (sym h.0)
          (first_apart said m b j (subst (λ (x : Net). is_scalar x ≡ true) h.1 scalar) i has)
      aparts k m a b (inr h) (inl j) scalar i has =
          subst (λ (x : ℕ). name_at names k ≢ bit_bytes (name_at names x) i) (sym j.0)
          (second_apart said k a h scalar i (subst (λ (x : Net). has_bit x.range i ≡ true) j.1 has))
      aparts k m a b (inr h) (inr j) scalar i has = s.apart k m a b h j scalar i has

-- There are no nets.
pub no_nets : (names : List (List ℕ)) → AreNets names []
no_nets names = record {
  named = All-nil (λ (net : ℕ × Net). IsGoodNumber names net.0);
  distinct = tt;
  bounded = λ n net e. absurd cc;
  plain = λ n net e. absurd cc;
  reached = λ n net e. absurd cc;
  apart = λ k n a b e. absurd cc;
}
