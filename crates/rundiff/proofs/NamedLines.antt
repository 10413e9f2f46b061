-- What is kept of the old run under a name, and functions that keep their value.
use Rattle.std.proofs.Common.{◌≡◌, ℕ, zero, suc, ◌<◌, ◌≤◌, ◌∙◌, ap, sym, subst, refl, Bool, true, false, not, List, [], ◌∷◌, Option, Some, None, arith}
use Rattle.std.specs.Option.{option_map, option_map_or}
use Rattle.std.proofs.lemmas.Option.{same_Some}
use Rattle.waveform.specs.kept.Patches.{IsMended, Keeps, PatchRecord}
use Rattle.waveform.specs.Timelines.{changes_below, is_change}
use Rattle.scratch.proofs.Still.{Stays}
use Rattle.rundiff.specs.kept.Fronts.{IsOwn}

pub keeps_none : {A : Type 0} (same : A → A → Bool) (drift : A → ℕ → A) (f g : ℕ → A) (n : ℕ) (o : Option (PatchRecord A)) → o ≡ None → Keeps same drift g f o n → (u : ℕ) → u < n → f u ≡ g u
keeps_none {A} same drift f g n o is kept = let at : Keeps same drift g f None n = subst (λ o. Keeps same drift g f o n) is kept in at

-- a patch of its own says nothing of the former function
pub any_former : {A : Type 0} (same : A → A → Bool) (drift : A → ℕ → A) (f g other : ℕ → A) (line : List (ℕ × A)) (since : Option ℕ) (n : ℕ) → since ≡ None →
    IsMended same drift g f line since n → IsMended same drift other f line since n
any_former same drift f g other line None n none mended = mended
any_former same drift f g other line (Some s) n none mended = let no : ◌≡◌ {A = Option ℕ} (Some s) None = none in absurd (cc)

pub own_former : {A : Type 0} (same : A → A → Bool) (drift : A → ℕ → A) (f g other : ℕ → A) (o : Option (PatchRecord A)) (n : ℕ) → IsOwn o → Keeps same drift g f o n → Keeps same drift other f o n
own_former {A} same drift f g other None n own kept = let no : ◌≡◌ {A = Option (PatchRecord A)} None (Some own.0) = own.1 in absurd (cc)
own_former {A} same drift f g other (Some patch) n own kept =
    let is : patch ≡ own.0 = same_Some patch own.0 own.1 in
    any_former same drift f g other patch.line patch.since n (ap (λ (q : PatchRecord A). q.since) is ∙ own.2) kept

pub never_own : {A : Type 0} (o : Option (PatchRecord A)) → o ≡ None → IsOwn o → ⊥
never_own {A} o none own = let no : ◌≡◌ {A = Option (PatchRecord A)} None (Some own.0) = sym none ∙ own.1 in absurd (cc)

pub none_mapped : {A B : Type 0} (f : A → B) (o : Option A) → None ≡ option_map f o → o ≡ None
none_mapped f None is = refl
none_mapped f (Some x) is = cc

-- a function that keeps its value, which does not drift, has no more changes
pub still_line : {A : Type 0} (same : A → A → Bool) (drift : A → ℕ → A) → Stays same drift → (f : ℕ → A) (r l : ℕ) → r ≤ l →
    ((m : ℕ) → r ≤ m → m < suc l → f m ≡ f r) → ((m : ℕ) → r < m → m < suc l → same (f r) (drift (f r) m) ≡ true) → changes_below same drift f (suc l) ≡ changes_below same drift f (suc r)
still_line {A} same drift law f r l order stays settles = law f (suc r) (suc l) (omega arith) step
  where
    step : (k : ℕ) → suc r ≤ k → k < suc l → is_change same drift f k ≡ false
    step zero from until = absurd (omega arith)
    step (suc k) from until =
        ap (λ (a : A). not (same a (drift (f k) (suc k)))) (stays (suc k) (omega arith) until)
        ∙ ap (λ (a : A). not (same (f r) (drift a (suc k)))) (stays k (omega arith) (omega arith)) ∙ ap not (settles (suc k) (omega arith) until)

-- the line of what a name stands for
module _ {E A : Type 0} (same : A → A → Bool) (drift : A → ℕ → A) (start : A) (f : E → ℕ → A) (h : ℕ) where
  abbrev pub line_of : Option E → List (ℕ × A)
  line_of o = changes_below same drift (λ t. option_map_or (λ e. f e t) o start) (suc h)

  pub named_line : (line : List (ℕ × A)) (o : Option E) → Some line ≡ option_map (λ e. changes_below same drift (f e) (suc h)) o → line ≡ line_of o
  named_line line None is = let no : ◌≡◌ {A = Option (List (ℕ × A))} (Some line) None = is in absurd (cc)
  named_line line (Some e) is = same_Some line (changes_below same drift (f e) (suc h)) is

  -- where it stands for nothing
  pub unnamed_line : Stays same drift → ((m : ℕ) → same start (drift start m) ≡ true) → (blank : List (ℕ × A)) (o : Option E) → blank ≡ (0, start) ∷ [] → o ≡ None → blank ≡ line_of o
  unnamed_line law settles blank o empty none =
      empty ∙ sym (still_line same drift law (λ t. start) 0 h (omega arith) (λ m from until. refl) (λ m from until. settles m)) ∙ sym (ap line_of none)
