-- What is noted for moments to come, and what is not.
use Rattle.std.proofs.Common.{◌≡◌, ◌≢◌, ◌<◌, ◌≤◌, ◌∙◌, sym, ap, Bool, true, false, ℕ, List, [], ◌⊎◌, inl, inr, arith, ⊎_elim, suc, ◌||◌, ◌==◌}
use Rattle.std.proofs.lemmas.Bool.{cases_lt, false_from_ne_true, ne_eqb}
use Rattle.event_queue.specs.kept.Noted.{noted}
use Rattle.scratch.specs.kept.Places.{Announces, IsNotedWithin, has}
use Rattle.rundiff.specs.declared.front.Front.{Front}

none_there : (k : ℕ) (places : List ℕ) → places ≡ [] → has k places ≡ true → ⊥
none_there k places none there = let never : false ≡ true = ap (has k) (sym none) ∙ there in cc

-- where none is noted up to the moment nothing is wanted
pub unannounced : (wanted : ℕ → ℕ → Bool) (listed : ℕ → List ℕ) (n k t u : ℕ) → Announces wanted listed n → n ≤ t → t < u → ((v : ℕ) → v < u → listed v ≡ []) → wanted k t ≡ false
unannounced wanted listed n k t u announces from low none =
    false_from_ne_true (wanted k t) (λ h.
    let at = announces k t from h in let before : at.0 ≤ t = at.2 in
    none_there k (listed at.0) (none at.0 (omega arith)) at.3)

-- what is wanted after a moment is not so as the moment is the first one
pub not_first : (t u : ℕ) (b : Bool) → suc t ≤ u → (u == 0 || b) ≡ true → b ≡ true
not_first t u b late h = ap (λ (a : Bool). a || b) (sym (ne_eqb u 0 (λ first. omega arith))) ∙ h

-- what is noted for no other moment is noted for this one
pub for_now : (listed : ℕ → List ℕ) (k t : ℕ) → IsNotedWithin listed k t t → has k (listed t) ≡ true
for_now listed k t at =
    let from : t ≤ at.0 = at.1 in let until : at.0 ≤ t = at.2 in
    let same : t ≡ at.0 = omega arith in
    ap (λ (u : ℕ). has k (listed u)) same ∙ at.3

-- what is announced from n on is announced from a later moment on, where nothing is noted before that
pub later_announced : (wanted : ℕ → ℕ → Bool) (listed : ℕ → List ℕ) (n u : ℕ) → Announces wanted listed n → n ≤ u → ((v : ℕ) → v < u → listed v ≡ []) → Announces wanted listed u
later_announced wanted listed n u announces order none k t from h =
    let at = announces k t (omega arith) h in
    (at.0, ⊎_elim (λ low. absurd (none_there k (listed at.0) (none at.0 low) at.3)) (λ le. le) (cases_lt at.0 u), at.2, at.3)

-- the first moment before an end for which something is noted; the end where there is none
abbrev pub IsFirst : (listed : ℕ → List ℕ) → (end m : ℕ) → Type 0
IsFirst listed end m = record { until : m ≤ end; none : (u : ℕ) → u < m → listed u ≡ []; some : (m ≡ end) ⊎ (listed m ≢ []) }

-- it is no early one
pub first_late : (listed : ℕ → List ℕ) (n end m : ℕ) → ((v : ℕ) → v < n → listed v ≡ []) → n ≤ end → (m ≡ end) ⊎ (listed m ≢ []) → n ≤ m
first_late listed n end m early order (inl last) = omega arith
first_late listed n end m early order (inr some) = ⊎_elim (λ low. absurd (some (early m low))) (λ le. le) (cases_lt m n)

-- nothing is noted for a moment before u
pub record NoneBefore (front : Front) (u : ℕ) : Type 0 where
  pub events : (v : ℕ) → v < u → noted front.events v ≡ []
  pub inputs : (v : ℕ) → v < u → noted front.inputs v ≡ []
  pub nets : (v : ℕ) → v < u → noted front.nets v ≡ []
