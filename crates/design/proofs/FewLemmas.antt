-- A key put among the first ones of an array.
use Rattle.std.proofs.Common.{◌≡◌, ℕ, zero, suc, ◌+◌, ◌-◌, ◌<◌, ◌≤◌, List, [], ◌∷◌, ◌++◌, length, take, drop, insert, sym, ap, ◌∙◌, arith}
use Rattle.std.proofs.lemmas.List.{drop-take, length-take-le, take-take, take_at}
use Rattle.std.specs.List.{copy_within, slice_set}

-- m keys moved up by one, and another one written before them
moved : (keys : List ℕ) (at m n key : ℕ) → n ≡ at + m → n < length keys → take (suc n) (slice_set (take (suc at) keys ++ take m (drop at keys) ++ drop (suc n) keys) at key) ≡ take at keys ++ key ∷ take m (drop at keys)
moved [] at m n key sum room = absurd (omega arith)
moved (k ∷ ks) zero m n key sum room =
    ap (λ l. key ∷ l) (ap (λ i. take i (take m (k ∷ ks) ++ drop n ks)) (omega (arith, sum)) ∙ take_at (take m (k ∷ ks)) (drop n ks) m (length-take-le m (k ∷ ks) (omega arith)))
moved (k ∷ ks) (suc at) m zero key sum room = absurd (omega arith)
moved (k ∷ ks) (suc at) m (suc n) key sum room = ap (λ l. k ∷ l) (moved ks at m n key (omega arith) (omega arith))

pub insert_within : (keys : List ℕ) (at count key : ℕ) → at ≤ count → count < length keys → take (count + 1) (slice_set (copy_within keys at count (at + 1)) at key) ≡ insert (take count keys) at key
insert_within keys at count key low room =
    let m = count - at in
    let next : at + 1 ≡ suc at = omega arith in
    let end : at + 1 + m ≡ suc count = omega arith in
    let more : count + 1 ≡ suc count = omega arith in
    let sum : count ≡ at + m = omega arith in
    let back : drop at (take count keys) ≡ take m (drop at keys) = ap (λ n. drop at (take n keys)) sum ∙ drop-take at m keys in
    (λ i. take (more i) (slice_set (take (next i) keys ++ take m (drop at keys) ++ drop (end i) keys) at key))
    ∙ moved keys at m count key sum room
    ∙ sym (λ i. take-take at count keys low i ++ key ∷ back i)
