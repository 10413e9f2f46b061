-- Where no cause holds, what is said of a net may be said.
use Rattle.std.proofs.Common.{◌≡◌, ◌≤◌, ℕ, Bool, true, false, cond, not, ◌&&◌, ◌||◌, List, Option, None, Some, nat_eq, unwrap_or, refl, sym, subst, ap, ◌∙◌, arith}
use Rattle.std.specs.Prelude.{IsSomeAnd, is_some, nat_lt}
use Rattle.std.proofs.lemmas.Bool.Decides.{nat_tests}
use Rattle.std.specs.Option.{option_map_or, option_or}
use Rattle.vtext.specs.declared.cause.Cause.{Cause}
use Rattle.vtext.specs.declared.cause.Cause.TheVariants.{DuplicateName, Syntax, TooMany, WidthMismatch}
use Rattle.vtext.specs.declared.gate.Terminal.TheVariants.{Bit, Net}
use Rattle.vtext.specs.declared.net.Net as record_of
use Rattle.vtext.specs.declared.range.Range.{Range}
use Rattle.vtext.specs.declared.range.TheConstants.{MAX_INDEX}
use Rattle.vtext.specs.Bits.{is_clash}
use Rattle.vtext.specs.Causes.{bound_cause, declared_again, declared_cause, directed_again, header_cause, index_cause, inline_cause, is_vector, net_cause, new_cause, port_cause, same_range, use_cause, when}
use Rattle.vtext.specs.Nets.{blank, declared, directed, is_declared, is_scalar, is_used, listed, net_of, ported, used, with_use}
use Rattle.vtext.specs.Ranges.{has_bit}
use Rattle.vtext.specs.Readings.{Reading}
use Rattle.vtext.specs.kept.Sound.{IsSingle}
use Rattle.vtext.specs.Turns.{with_right}
use Rattle.vtext.proofs.NetReadings.{AreNets, IsBounded, IsSaid, net_here, scalar_of}

pub no_cause : (b : Bool) (why : Cause) → when b why ≡ None → b ≡ false
no_cause true why e = absurd cc
no_cause false why e = refl

pub neither : (a b : Option Cause) → option_or a b ≡ None → (a ≡ None) × (b ≡ None)
neither None b e = (refl, e)
neither (Some why) b e = absurd cc

not_there : (found : Option record_of.Net) → is_some found ≡ false → found ≡ None
not_there None e = refl
not_there (Some net) e = absurd cc

nothing : (nets : List (ℕ × record_of.Net)) (n : ℕ) → net_of nets n ≡ None → (old : record_of.Net) → net_of nets n ≡ Some old → is_used old ≡ false
nothing nets n none old there = let two : ◌≡◌ {A = Option record_of.Net} None (Some old) = sym none ∙ there in absurd cc

ranges_same : (a b : Option Range) → not (same_range a b) ≡ false → a ≡ b
ranges_same None None e = refl
ranges_same None (Some b) e = absurd cc
ranges_same (Some a) None e = absurd cc
ranges_same (Some a) (Some b) e = step (nat_eq a.left b.left) (nat_eq a.right b.right) refl refl e
  where
    step : (x y : Bool) → nat_eq a.left b.left ≡ x → nat_eq a.right b.right ≡ y → not (x && y) ≡ false → ◌≡◌ {A = Option Range} (Some a) (Some b)
    step true true p q e =
        let left : a.left ≡ b.left = grind (arith, nat_tests) in
        let right : a.right ≡ b.right = grind (arith, nat_tests) in
        ap (λ (l : ℕ). Some (record { left = l; right = a.right })) left ∙ ap (λ (r : ℕ). Some (record { left = b.left; right = r })) right
    step true false p q e = absurd cc
    step false y p q e = absurd cc

module _ (names : List (List ℕ)) (r : Reading) (n : ℕ) where
  pub lists_said : header_cause r n ≡ None → IsSaid names r.nets n listed
  lists_said none = IsSaid.lists refl (not_there (net_of r.nets n) (no_cause (is_some (net_of r.nets n)) DuplicateName none))

  pub inline_said : IsBounded r.range → inline_cause names r n ≡ None → IsSaid names r.nets n (ported r.direction r.kind r.range)
  inline_said bounds none =
      let both = neither (header_cause r n) (new_cause names r n r.range) none in
      IsSaid.comes refl
      (nothing r.nets n (not_there (net_of r.nets n) (no_cause (is_some (net_of r.nets n)) DuplicateName both.0)))
      bounds (no_cause (is_clash names r.nets n r.range) DuplicateName both.1)

  -- what a declaration says of a net of which this was said
  declared_said : (old net : record_of.Net) → net_of r.nets n ≡ Some old → is_used net ≡ true → net.range ≡ r.range → IsBounded r.range
      → declared_cause names r n old ≡ None → IsSaid names r.nets n net
  declared_said old net there now range bounds none = step (is_used old) refl none
    where
      step : (b : Bool) → is_used old ≡ b → cond b (when (not (same_range r.range old.range)) WidthMismatch) (new_cause names r n r.range) ≡ None → IsSaid names r.nets n net
      step true was none = IsSaid.again old there was now (range ∙ ranges_same r.range old.range (no_cause (not (same_range r.range old.range)) WidthMismatch none))
      step false unused none =
          IsSaid.comes now
          (λ other e. let same : old ≡ other = let two : ◌≡◌ {A = Option record_of.Net} (Some old) (Some other) = sym there ∙ e in cc in ap is_used (sym same) ∙ unused)
          (subst IsBounded (sym range) bounds) (ap (is_clash names r.nets n) range ∙ no_cause (is_clash names r.nets n r.range) DuplicateName none)

  pub port_said : IsBounded r.range → port_cause names r n ≡ None → IsSaid names r.nets n (directed r.direction r.kind r.range (unwrap_or (net_of r.nets n) blank))
  port_said bounds none = step (net_of r.nets n) refl none
    where
      step : (found : Option record_of.Net) → net_of r.nets n ≡ found
          → option_map_or (λ net. option_or (directed_again r.kind net) (declared_cause names r n net)) found (Some Syntax) ≡ None
          → IsSaid names r.nets n (directed r.direction r.kind r.range (unwrap_or found blank))
      step None e h = absurd cc
      step (Some old) e h = declared_said old (directed r.direction r.kind r.range old) e refl refl bounds (neither (directed_again r.kind old) (declared_cause names r n old) h).1

  -- a net with a kind is used
  kind_used : (old : record_of.Net) → is_some r.kind ≡ true → is_used (declared r.kind r.range old) ≡ true
  kind_used old some = step (is_some old.direction) (is_some r.kind) some
    where
      step : (a b : Bool) → b ≡ true → ((a || b) || old.implicit) ≡ true
      step true b h = refl
      step false true h = refl
      step false false h = absurd cc

  pub net_said : IsBounded r.range → is_some r.kind ≡ true → net_cause names r n ≡ None
      → IsSaid names r.nets n (declared r.kind r.range (unwrap_or (net_of r.nets n) blank))
  net_said bounds some none = step (net_of r.nets n) refl (neither (declared_again (unwrap_or (net_of r.nets n) blank)) _ none).1
    where
      step : (found : Option record_of.Net) → net_of r.nets n ≡ found → declared_cause names r n (unwrap_or found blank) ≡ None
          → IsSaid names r.nets n (declared r.kind r.range (unwrap_or found blank))
      step None e h =
          IsSaid.comes (kind_used blank some) (nothing r.nets n e) bounds (no_cause (is_clash names r.nets n r.range) DuplicateName h)
      step (Some old) e h = declared_said old (declared r.kind r.range old) e (kind_used old some) refl bounds h

  -- Uses.

  pub used_used : (x : record_of.Net) → is_used (used x) ≡ true
  used_used x = step (is_declared x) refl
    where
      step : (b : Bool) → is_declared x ≡ b → is_used (cond b x (record x { implicit = true })) ≡ true
      step true e = rw e refl
      step false e = rw e refl

  pub used_range : (x : record_of.Net) → (used x).range ≡ x.range
  used_range x = step (is_declared x)
    where
      step : (b : Bool) → (cond b x (record x { implicit = true })).range ≡ x.range
      step true = refl
      step false = refl

  pub use_said : AreNets names r.nets → use_cause names r n ≡ None → IsSaid names r.nets n (used (unwrap_or (net_of r.nets n) blank))
  use_said s none = step (net_of r.nets n) refl none
    where
      step : (found : Option record_of.Net) → net_of r.nets n ≡ found → cond (is_used (unwrap_or found blank)) None (new_cause names r n None) ≡ None
          → IsSaid names r.nets n (used (unwrap_or found blank))
      step None e h =
          IsSaid.comes refl (nothing r.nets n e) tt (no_cause (is_clash names r.nets n None) DuplicateName h)
      step (Some old) e h = at (is_used old) refl h
        where
          at : (b : Bool) → is_used old ≡ b → cond b None (new_cause names r n None) ≡ None → IsSaid names r.nets n (used old)
          at true was h = IsSaid.again old e was (used_used old) (used_range old)
          at false unused h =
              let none : (used old).range ≡ None = used_range old ∙ s.plain n old e unused in
              IsSaid.comes (used_used old)
              (λ other f. let same : old ≡ other = let two : ◌≡◌ {A = Option record_of.Net} (Some old) (Some other) = sym e ∙ f in cc in ap is_used (sym same) ∙ unused)
              (subst IsBounded (sym none) tt) (ap (is_clash names r.nets n) none ∙ no_cause (is_clash names r.nets n None) DuplicateName h)

  -- Terminals.

  -- a net that is no vector is a scalar from its use on
  pub scalar_used : when (option_map_or is_vector (net_of r.nets n) false) WidthMismatch ≡ None → IsSingle (with_use r.nets n) (Net n)
  scalar_used none =
      subst (λ found. IsSomeAnd found (λ x. is_scalar x ≡ true))
      (sym (net_here r.nets n (used (unwrap_or (net_of r.nets n) blank)) n (grind (arith, nat_tests))))
      (scalar_of (used (unwrap_or (net_of r.nets n) blank)) (used_used (unwrap_or (net_of r.nets n) blank))
      (used_range (unwrap_or (net_of r.nets n) blank) ∙ step (net_of r.nets n) (no_cause (option_map_or is_vector (net_of r.nets n) false) WidthMismatch none)))
    where
      ranged : (range : Option Range) → is_some range ≡ false → range ≡ None
      ranged None e = refl
      ranged (Some range) e = absurd cc

      step : (found : Option record_of.Net) → option_map_or is_vector found false ≡ false → (unwrap_or found blank).range ≡ None
      step None e = refl
      step (Some net) e = ranged net.range e

-- an index that is not refused is that of a bit
pub bit_single : (r : Reading) (i : ℕ) → index_cause r i ≡ None → IsSingle r.nets (Bit r.indexed i)
bit_single r i none = step (net_of r.nets r.indexed) (no_cause (not (option_map_or (λ net. has_bit net.range i) (net_of r.nets r.indexed) false)) WidthMismatch (neither (bound_cause i) _ none).1)
  where
    step : (found : Option record_of.Net) → not (option_map_or (λ net. has_bit net.range i) found false) ≡ false → IsSomeAnd found (λ net. has_bit net.range i ≡ true)
    step None e = absurd cc
    step (Some net) e = at (has_bit net.range i) e
      where
        at : (b : Bool) → not b ≡ false → b ≡ true
        at true h = refl
        at false h = absurd cc

-- Ranges.

pub low_bound : (n : ℕ) → bound_cause n ≡ None → n ≤ MAX_INDEX
low_bound n none = let low : nat_lt MAX_INDEX n ≡ false = no_cause (nat_lt MAX_INDEX n) TooMany none in grind (arith, nat_tests)

pub right_bounded : (range : Option Range) (n : ℕ) → n ≤ MAX_INDEX → IsBounded range → IsBounded (with_right range n)
right_bounded None n low h = tt
right_bounded (Some range) n low h = (h.0, low)
