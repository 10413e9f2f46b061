-- Short names of one length are the same where their first four bytes and their last four are.
use Rattle.std.proofs.Common.{◌≡◌, ◌+◌, ◌-◌, ◌<◌, ◌≤◌, ℕ, zero, suc, Bool, true, false, List, get_or, length, nat_lt, refl, subst, add-zero, arith}
use Rattle.std.proofs.lemmas.Bool.Decides.{nat_tests}
use Rattle.std.proofs.lemmas.Grind.{same_number_lists}
use Rattle.catalog.specs.kept.Spellings.{four, is_short}

most_bytes : (bytes : List ℕ) → is_short bytes ≡ true → length bytes ≤ 8
most_bytes bytes short = grind (arith, nat_tests)

module _ (a b : List ℕ) (bytes : (k : ℕ) → get_or a k 0 < 256) (others : (k : ℕ) → get_or b k 0 < 256) where
  -- what is read at once is the same where each byte is
  of_four : (at d : ℕ) → four a at ≡ four b at → d < 4 → get_or a (at + d) 0 ≡ get_or b (at + d) 0
  unfolding four
  of_four at d same low =
      let a0 : get_or a at 0 < 256 = bytes at in
      let a1 : get_or a (at + 1) 0 < 256 = bytes (at + 1) in
      let a2 : get_or a (at + 2) 0 < 256 = bytes (at + 2) in
      let a3 : get_or a (at + 3) 0 < 256 = bytes (at + 3) in
      let b0 : get_or b at 0 < 256 = others at in
      let b1 : get_or b (at + 1) 0 < 256 = others (at + 1) in
      let b2 : get_or b (at + 2) 0 < 256 = others (at + 2) in
      let b3 : get_or b (at + 3) 0 < 256 = others (at + 3) in
      let first : get_or a at 0 ≡ get_or b at 0 = omega arith in
      let second : get_or a (at + 1) 0 ≡ get_or b (at + 1) 0 = omega arith in
      let third : get_or a (at + 2) 0 ≡ get_or b (at + 2) 0 = omega arith in
      let fourth : get_or a (at + 3) 0 ≡ get_or b (at + 3) 0 = omega arith in
      by d low first second third fourth
    where
      by : (d : ℕ) → d < 4 → get_or a at 0 ≡ get_or b at 0 → get_or a (at + 1) 0 ≡ get_or b (at + 1) 0 → get_or a (at + 2) 0 ≡ get_or b (at + 2) 0
          → get_or a (at + 3) 0 ≡ get_or b (at + 3) 0 → get_or a (at + d) 0 ≡ get_or b (at + d) 0
      by zero low e0 e1 e2 e3 = rw add-zero e0
      by (suc zero) low e0 e1 e2 e3 = e1
      by (suc (suc zero)) low e0 e1 e2 e3 = e2
      by (suc (suc (suc zero))) low e0 e1 e2 e3 = e3
      by (suc (suc (suc (suc d)))) low e0 e1 e2 e3 = absurd (omega arith)

  from_four : (at k : ℕ) → four a at ≡ four b at → at ≤ k → k < at + 4 → get_or a k 0 ≡ get_or b k 0
  from_four at k same low high =
      let is : at + (k - at) ≡ k = omega arith in
      subst (λ n. get_or a n 0 ≡ get_or b n 0) is (of_four at (k - at) same (omega arith))

  pub same_ends : is_short a ≡ true → length a ≡ length b → four a 0 ≡ four b 0 → four a (length a - 4) ≡ four b (length a - 4) → a ≡ b
  same_ends short long first last = same_number_lists a b long at
    where
      at : (k : ℕ) → k < length a → get_or a k 0 ≡ get_or b k 0
      at k within = by (nat_lt k 4) refl
        where
          by : (t : Bool) → nat_lt k 4 ≡ t → get_or a k 0 ≡ get_or b k 0
          by true is = let low : k < 4 = grind (arith, nat_tests) in from_four 0 k first (omega arith) (omega arith)
          by false is = let high : 4 ≤ k = grind (arith, nat_tests) in let most : length a ≤ 8 = most_bytes a short in from_four (length a - 4) k last (omega arith) (omega arith)
