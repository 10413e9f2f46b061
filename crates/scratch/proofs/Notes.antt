-- What is noted for moments to come.
use Rattle.std.proofs.Common.{◌≡◌, ◌<◌, ◌≤◌, ◌∙◌, sym, ap, subst, refl, Bool, true, false, not, cond, ℕ, zero, suc, ◌+◌, nat_lt, List, [], ◌∷◌, ◌++◌, Option, Some, None, slice_get, ◌⊎◌, inl, inr, arith}
use Rattle.std.specs.Prelude.{nat_eq, ◌&&◌, ◌||◌, ◌==◌}
use Rattle.std.specs.List.{find}
use Rattle.std.specs.Option.{option_map, option_map_or}
use Rattle.std.proofs.lemmas.Bool.Decides.{nat_tests}
use Rattle.std.proofs.lemmas.Option.{get_or_from_slice_get, slice_get_within}
use Rattle.std.proofs.lemmas.Bool.{eqb-true}
use Rattle.std.proofs.Math.Bool.{or-true, or-false}
use Rattle.event_queue.specs.kept.Noted.{IsAdded, IsTaken, noted}
use Rattle.fourstate.specs.declared.value.Value.{Value}
use Rattle.gatestep.specs.Step.{State}
use Rattle.design.specs.kept.Lawful.{AreRising}
use Rattle.design.specs.Netlist.{has_point}
use Rattle.design.specs.kept.Netlist.{next_point}
use Rattle.design.proofs.PointLemmas.{rising_tail}
use Rattle.scratch.specs.kept.Places.{Announces, Covers, IsNotedWithin, Keeps, has, pends_at}
use Rattle.scratch.proofs.Among.{any_from, has_more, nat_apart, nat_beyond, nat_itself}

abbrev Queue : Type 0
Queue = List (ℕ × List ℕ)

kept_by : (k p : ℕ) (b : Bool) (ls : List ℕ) → has k ls ≡ true → has k (cond b (ls ++ p ∷ []) ls) ≡ true
kept_by k p true ls h = has_more k p ls ∙ ap (λ (c : Bool). c || nat_eq k p) h
kept_by k p false ls h = h

here_by : (p : ℕ) (b : Bool) (ls : List ℕ) → b ≡ true → has p (cond b (ls ++ p ∷ []) ls) ≡ true
here_by p true ls h = has_more p p ls ∙ ap (λ (c : Bool). has p ls || c) (nat_itself p) ∙ or-true (has p ls)
here_by p false ls h = absurd (cc)

module _ (t p : ℕ) (old new : Queue) (added : IsAdded t p old new) where
  pub keeps : Keeps (noted old) (noted new)
  keeps k u h = ap (has k) (added u) ∙ kept_by k p (nat_eq t u) (noted old u) h

  pub is_noted : has p (noted new t) ≡ true
  is_noted = ap (has p) (added t) ∙ here_by p (nat_eq t t) (noted old t) (nat_itself t)

  -- at other moments nothing has changed
  pub elsewhere : (u : ℕ) → nat_eq t u ≡ false → noted new u ≡ noted old u
  elsewhere u apart = added u ∙ ap (λ (b : Bool). cond b (noted old u ++ p ∷ []) (noted old u)) apart

pub within_on : (old new : ℕ → List ℕ) (k n t : ℕ) → Keeps old new → IsNotedWithin old k n t → IsNotedWithin new k n t
within_on old new k n t keeps at = (at.0, at.1, at.2, keeps k at.0 at.3)

-- Events.

-- the event of a state, if there is one, was added
abbrev pub IsNoting : ℕ → State → Queue → Queue → Type 0
IsNoting p s old new = ((event : Value × ℕ) × (s.pending ≡ Some event) × IsAdded event.1 p old new) ⊎ ((s.pending ≡ None) × (new ≡ old))

module _ (states : List State) (p : ℕ) (s : State) (is : slice_get states p ≡ Some s) where
  pends_here : (u : ℕ) → pends_at states p u ≡ true → option_map_or (λ event. nat_eq event.1 u) s.pending false ≡ true
  pends_here u h = ap (λ o. option_map_or (λ x. option_map_or (λ event. nat_eq event.1 u) x.pending false) o false) (sym is) ∙ h

  pub none_here : s.pending ≡ None → (u : ℕ) → pends_at states p u ≡ true → ⊥
  none_here none u h = let never : false ≡ true = ap (λ o. option_map_or (λ event. nat_eq event.1 u) o false) (sym none) ∙ pends_here u h in cc

  pub some_here : (event : Value × ℕ) → s.pending ≡ Some event → (u : ℕ) → pends_at states p u ≡ true → event.1 ≡ u
  some_here event some u h = eqb-true event.1 u (ap (λ o. option_map_or (λ event. nat_eq event.1 u) o false) (sym some) ∙ pends_here u h)

  -- the event is noted where it is pending
  pub event_noted : (event : Value × ℕ) → s.pending ≡ Some event → (old new : Queue) → IsAdded event.1 p old new → (u : ℕ) → pends_at states p u ≡ true → has p (noted new u) ≡ true
  event_noted event some old new added u h = ap (λ v. has p (noted new v)) (sym (some_here event some u h)) ∙ is_noted event.1 p old new added

  module _ (done : List ℕ) (n : ℕ) (old new : Queue) (covers : Covers (λ k u. has k done && pends_at states k u) (noted old) n) where
    both_by : Keeps (noted old) (noted new) → ((u : ℕ) → pends_at states p u ≡ true → has p (noted new u) ≡ true) → (k u : ℕ) → n ≤ u → (b : Bool) → nat_eq k p ≡ b →
        ((has k done || b) && pends_at states k u) ≡ true → has k (noted new u) ≡ true
    both_by stay here k u from true e h =
        let same : k ≡ p = eqb-true k p e in
        let pends : pends_at states k u ≡ true = ap (λ (b : Bool). b && pends_at states k u) (sym (or-true (has k done))) ∙ h in
        ap (λ v. has v (noted new u)) same ∙ here u (ap (λ v. pends_at states v u) (sym same) ∙ pends)
    both_by stay here k u from false e h = stay k u (covers k u from (ap (λ (b : Bool). b && pends_at states k u) (sym (or-false (has k done))) ∙ h))

    -- the events of one place more are noted
    pub one_more : Keeps (noted old) (noted new) → ((u : ℕ) → pends_at states p u ≡ true → has p (noted new u) ≡ true) → Covers (λ k u. has k (done ++ p ∷ []) && pends_at states k u) (noted new) n
    one_more stay here k u from h =
        both_by stay here k u from (nat_eq k p) refl (ap (λ (b : Bool). b && pends_at states k u) (sym (has_more k p done)) ∙ h)

    -- so they are where the place's event was added, if it has one
    pub noted_more : IsNoting p s old new → Covers (λ k u. has k (done ++ p ∷ []) && pends_at states k u) (noted new) n × Keeps (noted old) (noted new)
    noted_more (inl w) = let stay = keeps w.0.1 p old new w.2 in (one_more stay (event_noted w.0 w.1 old new w.2), stay)
    noted_more (inr w) =
        let stay : Keeps (noted old) (noted new) = λ k u h. ap (λ q. has k (noted q u)) w.1 ∙ h in
        (one_more stay (λ u h. absurd (none_here w.0 u h)), stay)

-- and nothing is noted before the event
pub early_more : (t p : ℕ) (s : State) (old new : Queue) → IsNoting p s old new → ((event : Value × ℕ) → s.pending ≡ Some event → t < event.1) → ((u : ℕ) → u < t + 1 → noted old u ≡ []) → (u : ℕ) → u < t + 1 → noted new u ≡ []
early_more t p s old new (inl w) later early u low = let after : t < w.0.1 = later w.0 w.1 in elsewhere w.0.1 p old new w.2 u (nat_beyond w.0.1 u (omega arith)) ∙ early u low
early_more t p s old new (inr w) later early u low = ap (λ q. noted q u) w.1 ∙ early u low

-- where the events of all places that are looked at are noted, and those of all others were, all are
pub whole : (states : List State) (gates : List ℕ) (n : ℕ) (events : ℕ → List ℕ) → Covers (λ k u. has k gates && pends_at states k u) events n → Covers (λ k u. not (has k gates) && pends_at states k u) events n →
    Covers (pends_at states) events n
whole states gates n events those others k u from h = by (has k gates) refl
  where
    by : (b : Bool) → has k gates ≡ b → has k (events u) ≡ true
    by true on = those k u from (ap (λ (b : Bool). b && pends_at states k u) on ∙ h)
    by false off = others k u from (ap (λ (b : Bool). not b && pends_at states k u) off ∙ h)

-- where the places of t are taken, what is wanted later is still noted
pub later_covered : (wanted : ℕ → ℕ → Bool) (t : ℕ) (old new : Queue) → IsTaken t old new → Covers wanted (noted old) t → Covers wanted (noted new) (t + 1)
later_covered wanted t old new taken covers k u from h =
    ap (has k) (taken u ∙ ap (λ (b : Bool). cond b [] (noted old u)) (nat_apart t u (omega arith))) ∙ covers k u (omega arith) h

early_by : (t u : ℕ) (old : Queue) → ((v : ℕ) → v < t → noted old v ≡ []) → u < t + 1 → (b : Bool) → nat_eq t u ≡ b → cond b [] (noted old u) ≡ []
early_by t u old early low true here = refl
early_by t u old early low false other = early u (grind (arith, nat_tests))

-- and nothing up to t is
pub none_early : (t : ℕ) (old new : Queue) → IsTaken t old new → ((u : ℕ) → u < t → noted old u ≡ []) → (u : ℕ) → u < t + 1 → noted new u ≡ []
none_early t old new taken early u low = taken u ∙ early_by t u old early low (nat_eq t u) refl

-- Points.

module _ (wanted : ℕ → ℕ → Bool) (t : ℕ) (old left new : Queue) (taken : IsTaken t old left) (keeps : Keeps (noted left) (noted new))
    (next : (m u : ℕ) → has m (noted old t) ≡ true → t < u → wanted m u ≡ true → IsNotedWithin (noted new) m (t + 1) u) where
  announced_by : (k u v : ℕ) → t + 1 ≤ u → wanted k u ≡ true → t ≤ v → v ≤ u → has k (noted old v) ≡ true → (b : Bool) → nat_eq t v ≡ b → IsNotedWithin (noted new) k (t + 1) u
  announced_by k u v from h after before there true same =
      let now : t ≡ v = eqb-true t v same in
      next k u (ap (λ w. has k (noted old w)) now ∙ there) (omega arith) h
  announced_by k u v from h after before there false apart =
      let later : t + 1 ≤ v = grind (arith, nat_tests) in
      (v, later, before, keeps k v (ap (has k) (taken v ∙ ap (λ (b : Bool). cond b [] (noted old v)) apart) ∙ there))

  -- where the places of t are taken and announced anew, all that is wanted later is announced
  pub announced : Announces wanted (noted old) t → Announces wanted (noted new) (t + 1)
  announced before k u from h =
      let at = before k u (omega arith) h in
      announced_by k u at.0 from h at.1 at.2 at.3 (nat_eq t at.0) refl

-- The next point.

late_by : (t : ℕ) (p w : ℕ × Value) (ps : List (ℕ × Value)) (b : Bool) → nat_lt t p.0 ≡ b → cond b (Some p) (find (λ q. nat_lt t q.0) ps) ≡ Some w → (find (λ q. nat_lt t q.0) ps ≡ Some w → t < w.0) → t < w.0
late_by t p w ps true is at later = let same : p ≡ w = cc in let high : t < p.0 = grind (arith, nat_tests) in rw (← same) high
late_by t p w ps false is at later = later at

-- it is later
late : (t : ℕ) (ps : List (ℕ × Value)) (w : ℕ × Value) → find (λ q. nat_lt t q.0) ps ≡ Some w → t < w.0
late t [] w at = absurd (cc)
late t (p ∷ ps) w at = late_by t p w ps (nat_lt t p.0) refl at (late t ps w)

in_order : (p : ℕ × Value) (ps : List (ℕ × Value)) (k : ℕ) (x : ℕ × Value) → AreRising (p ∷ ps) → slice_get ps k ≡ Some x → p.0 < x.0
in_order p ps k x rising at =
    let within = slice_get_within ps k x at in
    subst (λ y. p.0 < y.0) (get_or_from_slice_get ps k x x at) (rising 0 (suc k) x (omega arith) (omega arith))

first_by : (t u : ℕ) (p w : ℕ × Value) (ps : List (ℕ × Value)) (b : Bool) → nat_lt t p.0 ≡ b → AreRising (p ∷ ps) → cond b (Some p) (find (λ q. nat_lt t q.0) ps) ≡ Some w → t < u → (c : Bool) → p.0 == u ≡ c →
    (c || has_point ps u) ≡ true → (find (λ q. nat_lt t q.0) ps ≡ Some w → has_point ps u ≡ true → w.0 ≤ u) → w.0 ≤ u
first_by t u p w ps true is rising at low true same there later =
    let one : p ≡ w = cc in let here : p.0 ≡ u = grind (arith, nat_tests) in
    rw (← one) (omega arith)
first_by t u p w ps true is rising at low false apart there later =
    let one : p ≡ w = cc in
    let f = any_from (λ point. point.0 == u) ps there in
    let point = f.1 in let is_at : f.1.0 == u ≡ true = f.3 in
    let before : p.0 < f.1.0 = in_order p ps f.0 f.1 rising f.2 in
    let here : point.0 ≡ u = grind (arith, nat_tests) in
    rw (← one) (omega arith)
first_by t u p w ps false is rising at low true same there later = absurd (let here : p.0 ≡ u = grind (arith, nat_tests) in let early : p.0 ≤ t = grind (arith, nat_tests) in omega arith)
first_by t u p w ps false is rising at low false apart there later = later at there

-- no point lies between
first : (t u : ℕ) (ps : List (ℕ × Value)) (w : ℕ × Value) → AreRising ps → find (λ q. nat_lt t q.0) ps ≡ Some w → t < u → has_point ps u ≡ true → w.0 ≤ u
first t u [] w rising at low there = absurd (cc)
first t u (p ∷ ps) w rising at low there = first_by t u p w ps (nat_lt t p.0) refl rising at low (p.0 == u) refl there (λ found later. first t u ps w (rising_tail p ps rising) found low later)

never_none : {X : Type 0} (test : X → Bool) (xs : List X) (k : ℕ) (x : X) → slice_get xs k ≡ Some x → test x ≡ true → find test xs ≡ None → ⊥
never_none test [] k x at ok none = absurd (cc)
never_none test (y ∷ xs) zero x at ok none =
    let e : y ≡ x = cc in
    let never : Some y ≡ None = sym (ap (λ (b : Bool). cond b (Some y) (find test xs)) (ap test e ∙ ok)) ∙ none in cc
never_none test (y ∷ xs) (suc k) x at ok none = by (test y) (never_none test xs k x at ok) none
  where
    by : (b : Bool) → (find test xs ≡ None → ⊥) → cond b (Some y) (find test xs) ≡ None → ⊥
    by true later is = cc
    by false later is = later is

time_by : (o : Option (ℕ × Value)) (w : ℕ) → option_map (λ point. point.0) o ≡ Some w → (p : ℕ × Value) × (o ≡ Some p) × (p.0 ≡ w)
time_by None w is = absurd (cc)
time_by (Some p) w is = (p, refl, cc)

none_by : (o : Option (ℕ × Value)) → option_map (λ point. point.0) o ≡ None → o ≡ None
none_by None is = refl
none_by (Some p) is = absurd (cc)

module _ (points : List (ℕ × Value)) (t : ℕ) where
  pub next_is_later : (w : ℕ) → next_point points t ≡ Some w → t < w
  next_is_later w is = let f = time_by (find (λ q. nat_lt t q.0) points) w is in subst (λ v. t < v) f.2 (late t points f.0 f.1)

  pub next_is_first : AreRising points → (w u : ℕ) → next_point points t ≡ Some w → t < u → has_point points u ≡ true → w ≤ u
  next_is_first rising w u is low there = let f = time_by (find (λ q. nat_lt t q.0) points) w is in subst (λ v. v ≤ u) f.2 (first t u points f.0 rising f.1 low there)

  -- where there is no next point there is none later
  pub none_later : (u : ℕ) → next_point points t ≡ None → t < u → has_point points u ≡ true → ⊥
  none_later u is low there =
      let f = any_from (λ point. point.0 == u) points there in
      let point = f.1 in let same : f.1.0 == u ≡ true = f.3 in
      let after : nat_lt t point.0 ≡ true = grind (arith, nat_tests) in
      never_none (λ q. nat_lt t q.0) points f.0 f.1 f.2 after (none_by (find (λ q. nat_lt t q.0) points) is)

-- what the states at other places want is still noted, where they stay
pub others_on : (gates : List ℕ) (n : ℕ) (old new : List State) (before after : ℕ → List ℕ) → ((k : ℕ) → has k gates ≡ false → slice_get old k ≡ slice_get new k) → Keeps before after →
    Covers (λ k u. not (has k gates) && pends_at old k u) before n → Covers (λ k u. not (has k gates) && pends_at new k u) after n
others_on gates n old new before after same stay covers k u from h = by (has k gates) refl h
  where
    by : (b : Bool) → has k gates ≡ b → (not b && pends_at new k u) ≡ true → has k (after u) ≡ true
    by true on never = absurd (cc)
    by false off pends =
        let was : pends_at old k u ≡ true = ap (λ o. option_map_or (λ s. option_map_or (λ event. nat_eq event.1 u) s.pending false) o false) (same k off) ∙ pends in
        stay k u (covers k u from (ap (λ (b : Bool). not b && pends_at old k u) off ∙ was))
