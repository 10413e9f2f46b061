-- How what was asked grows, from one call to the next and from moment to moment.
use Rattle.std.specs.Prelude.{◌≡◌, ◌<◌, ◌≤◌, ◌⊎◌, Bool, true, false, cond, ℕ, zero, suc, nat_le, List, [], ◌++◌, IsPermutation}
use Rattle.std.proofs.Common.{◌∙◌, ap, append_assoc, append-nil, subst, sym, refl, inl, inr, arith}
use Rattle.std.proofs.lemmas.Bool.{cases_lt}
use Rattle.std.proofs.lemmas.Bool.Decides.{nat_tests}
use Rattle.std.proofs.lemmas.List.Sorted.{IsPermutation-append_left, IsPermutation-append_right, IsPermutation-refl, IsPermutation-trans}
use Rattle.gatestep.specs.Step.{Evaluation}
use Rattle.scratch.specs.Asked.{IsAskedInPart, IsAskedInSomeOrder}
use Rattle.scratch.specs.kept.Open.{all_below, all_from}

abbrev Work : Type 0
Work = List (Evaluation × ℕ)

-- two rearrangements, one behind the other
beside : (work asked more added : Work) → IsPermutation work asked → IsPermutation more added → IsPermutation (work ++ more) (asked ++ added)
beside work asked more added one two =
    IsPermutation-trans (work ++ more) (asked ++ more) (asked ++ added) (IsPermutation-append_left more work asked one) (IsPermutation-append_right asked more added two)

-- it grew by the work in its own order
pub grown_all : (before now work : Work) → now ≡ before ++ work → IsAskedInSomeOrder before now work
grown_all before now work is = (work, IsPermutation-refl work, is)

-- it grew by a beginning of the work
pub grown_first : (before now piece rest : Work) → now ≡ before ++ piece → IsAskedInPart before now (piece ++ rest)
grown_first before now piece rest is = (piece, (rest, IsPermutation-refl (piece ++ rest)), is)

-- it did not grow
pub grown_none : (before work : Work) → IsAskedInPart before before work
grown_none before work = ([], (work, IsPermutation-refl work), sym (append-nil before))

-- all is a part
pub all_is_part : (before now work : Work) → IsAskedInSomeOrder before now work → IsAskedInPart before now work
all_is_part before now work grown =
    (grown.0, ([], subst (λ l. IsPermutation work l) (sym (append-nil grown.0)) grown.1), grown.2)

-- a part of some work is a part of more
pub part_of_more : (before now work more : Work) → IsAskedInPart before now work → IsAskedInPart before now (work ++ more)
part_of_more before now work more grown =
    let rest = grown.1.0 in
    (grown.0, (rest ++ more, subst (λ l. IsPermutation (work ++ more) l) (append_assoc grown.0 rest more) (IsPermutation-append_left more work (grown.0 ++ rest) grown.1.1)), grown.2)

joined : (before middle now asked added : Work) → middle ≡ before ++ asked → now ≡ middle ++ added → now ≡ before ++ (asked ++ added)
joined before middle now asked added first then = then ∙ ap (λ l. l ++ added) first ∙ append_assoc before asked added

-- it grew by some work and then by more
pub grown_then : (before middle now work more : Work) → IsAskedInSomeOrder before middle work → IsAskedInSomeOrder middle now more → IsAskedInSomeOrder before now (work ++ more)
grown_then before middle now work more first then =
    (first.0 ++ then.0, beside work first.0 more then.0 first.1 then.1, joined before middle now first.0 then.0 first.2 then.2)

-- it grew by some work and then by a part of more
pub part_then : (before middle now work more : Work) → IsAskedInSomeOrder before middle work → IsAskedInPart middle now more → IsAskedInPart before now (work ++ more)
part_then before middle now work more first then =
    let rest = then.1.0 in (
      first.0 ++ then.0,
      (rest, subst (λ l. IsPermutation (work ++ more) l) (sym (append_assoc first.0 then.0 rest)) (beside work first.0 more (then.0 ++ rest) first.1 then.1.1)),
      joined before middle now first.0 then.0 first.2 then.2,
    )

holds : (n t : ℕ) → n ≤ t → nat_le n t ≡ true
holds n t le = grind (arith, nat_tests)

fails : (n : ℕ) → nat_le (suc n) n ≡ false
fails n = grind (arith, nat_tests)

module _ {X : Type 0} (work : ℕ → List X) where
  -- a moment more
  pub one_moment_more : (n t : ℕ) → n ≤ t → all_from work n (suc t) ≡ all_from work n t ++ work t
  one_moment_more n t le = ap (λ (b : Bool). cond b (all_from work n t ++ work t) []) (holds n t le)

  -- no moment
  pub no_moment : (n : ℕ) → all_from work n n ≡ []
  no_moment zero = refl
  no_moment (suc n) = ap (λ (b : Bool). cond b (all_from work (suc n) n ++ work n) []) (fails n)

  -- the work of all moments is that of the earlier ones and that of the later ones
  pub all_parts : (n m : ℕ) → n ≤ m → all_below work m ≡ all_below work n ++ all_from work n m
  all_parts n zero le =
      let same : 0 ≡ n = omega arith in
      ap (all_below work) same ∙ sym (append-nil (all_below work n))
  all_parts n (suc m) le = by (all_parts n m) (cases_lt m n)
    where
      by : (n ≤ m → all_below work m ≡ all_below work n ++ all_from work n m) → (m < n) ⊎ (n ≤ m) → all_below work (suc m) ≡ all_below work n ++ all_from work n (suc m)
      by before (inl high) =
          let same : suc m ≡ n = omega arith in
          ap (all_below work) same ∙ sym (append-nil (all_below work n))
          ∙ ap (λ l. all_below work n ++ l) (sym (no_moment n) ∙ ap (all_from work n) (sym same))
      by before (inr low) =
          ap (λ l. l ++ work m) (before low)
          ∙ append_assoc (all_below work n) (all_from work n m) (work m)
          ∙ ap (λ l. all_below work n ++ l) (sym (one_moment_more n m low))
