-- What is asked from one moment on.
use Rattle.std.proofs.Common.{◌≡◌, ◌<◌, ◌≤◌, ◌∙◌, sym, ap, subst, refl, cond, ℕ, zero, suc, ◌+◌, ◌-◌, List, [], ◌++◌, append_assoc, append-nil, arith, inl, inr}
use Rattle.std.specs.Prelude.{nat_le}
use Rattle.std.proofs.lemmas.List.{append_cancel_left}
use Rattle.gatestep.specs.Step.{State, Evaluation}
use Rattle.design.specs.Netlist.{Netlist}
use Rattle.scratch.specs.Asked.{IsAskedInPart, IsAskedInSomeOrder}
use Rattle.scratch.specs.Work.{work_at, work_below}
use Rattle.scratch.specs.kept.Open.{all_below, all_from}
use Rattle.scratch.specs.kept.Grown.{all_is_part, all_parts, grown_all, grown_first, grown_none, grown_then, one_moment_more, part_of_more, part_then}
use Rattle.scratch.specs.kept.Work.{HasGrownOrNot, work_from}

-- of some work all was asked or nothing
pub part_or_none : (old new work : List (Evaluation × ℕ)) → HasGrownOrNot old new work → IsAskedInPart old new work
part_or_none old new work (inl same) = subst (λ l. IsAskedInPart old l work) (sym same) (grown_none old work)
part_or_none old new work (inr more) = all_is_part old new work (grown_all old new work more)

module _ {X : Type 0} (work : ℕ → List X) where
  -- and so is that from some moment on
  pub parted : (s n m : ℕ) → s ≤ n → n ≤ m → all_from work s m ≡ all_from work s n ++ all_from work n m
  parted s n m low high =
      append_cancel_left (all_below work s) (all_from work s m) (all_from work s n ++ all_from work n m)
      (sym (all_parts work s m (omega arith)) ∙ all_parts work n m high ∙ ap (λ l. l ++ all_from work n m) (all_parts work s n low)
      ∙ append_assoc (all_below work s) (all_from work s n) (all_from work n m))

  nothing : (n k : ℕ) → ((t : ℕ) → n ≤ t → t < n + k → work t ≡ []) → all_below work (n + k) ≡ all_below work n
  nothing n zero quiet = let z : n + 0 ≡ n = omega arith in ap (all_below work) z
  nothing n (suc k) quiet =
      let z : n + suc k ≡ suc (n + k) = omega arith in
      ap (all_below work) z ∙ ap (λ l. all_below work (n + k) ++ l) (quiet (n + k) (omega arith) (omega arith))
      ∙ append-nil (all_below work (n + k)) ∙ nothing n k (λ t from low. quiet t from (omega arith))

  -- moments that ask nothing
  pub unmoved : (a n u : ℕ) → a ≤ n → n ≤ u → ((t : ℕ) → n ≤ t → t < u → work t ≡ []) → all_from work a u ≡ all_from work a n
  unmoved a n u low high quiet =
      let z : n + (u - n) ≡ u = omega arith in
      append_cancel_left (all_below work a) (all_from work a u) (all_from work a n)
      (sym (all_parts work a u (omega arith)) ∙ ap (all_below work) (sym z) ∙ nothing n (u - n) (λ t from below. quiet t from (omega arith)) ∙ all_parts work a n low)

module _ (work : ℕ → List (Evaluation × ℕ)) where
  -- What was asked by a run that goes on from the moment a, of which the moments below t are done.
  module _ (base old new : List (Evaluation × ℕ)) (a t : ℕ) (begun : a ≤ t) (was : IsAskedInSomeOrder base old (all_from work a t)) where
    -- the work of t more
    pub one_more : IsAskedInSomeOrder old new (work t) → IsAskedInSomeOrder base new (all_from work a (suc t))
    one_more more = subst (IsAskedInSomeOrder base new) (sym (one_moment_more work a t begun)) (grown_then base old new (all_from work a t) (work t) was more)

    -- a fault came at t
    pub part : (n : ℕ) → suc t ≤ n → IsAskedInPart old new (work t) → IsAskedInPart base new (all_from work a n)
    part n within some =
        subst (IsAskedInPart base new) (ap (λ l. l ++ all_from work (suc t) n) (sym (one_moment_more work a t begun)) ∙ sym (parted work a (suc t) n (omega arith) within))
        (part_of_more base new (all_from work a t ++ work t) (all_from work (suc t) n) (part_then base old new (all_from work a t) (work t) was some))

  -- What was asked by a run from scratch.
  module _ (base old new : List (Evaluation × ℕ)) (n : ℕ) (begun : 1 ≤ n) (was : old ≡ base ++ work 0) where
    first : IsAskedInSomeOrder base old (work 0)
    first = grown_all base old (work 0) was

    pub from_scratch : IsAskedInSomeOrder old new (all_from work 1 n) → IsAskedInSomeOrder base new (all_below work n)
    from_scratch more = subst (IsAskedInSomeOrder base new) (sym (all_parts work 1 n begun)) (grown_then base old new (work 0) (all_from work 1 n) first more)

    pub part_from_scratch : IsAskedInPart old new (all_from work 1 n) → IsAskedInPart base new (all_below work n)
    part_from_scratch some = subst (IsAskedInPart base new) (sym (all_parts work 1 n begun)) (part_then base old new (work 0) (all_from work 1 n) first some)

  -- What was asked where a run ended early, of all that is asked up to the moment m.
  early : (base now : List (Evaluation × ℕ)) (m n : ℕ) → n ≤ m → now ≡ base ++ all_below work n → IsAskedInPart base now (all_below work m)
  early base now m n low is = subst (IsAskedInPart base now) (sym (all_parts work n m low)) (grown_first base now (all_below work n) (all_from work n m) is)

  -- it ended at the moment 0
  pub early_at_first : (base now : List (Evaluation × ℕ)) (m : ℕ) → 0 < m → HasGrownOrNot base now (work 0) → IsAskedInPart base now (all_below work m)
  early_at_first base now m some (inl same) = early base now m 0 (omega arith) (same ∙ sym (append-nil base))
  early_at_first base now m some (inr more) = early base now m 1 (omega arith) more

module _ (answer : Evaluation → ℕ → State) (d : Netlist) where
  -- where nothing is known, all that is stirred is asked
  pub below_is : (n : ℕ) → all_below (work_at answer d) n ≡ work_below answer d n
  below_is zero = refl
  below_is (suc t) = ap (λ l. l ++ work_at answer d t) (below_is t)

  pub from_is : (n m : ℕ) → all_from (work_at answer d) n m ≡ work_from answer d n m
  from_is n zero = refl
  from_is n (suc t) = ap (λ l. cond (nat_le n t) (l ++ work_at answer d t) []) (from_is n t)
