-- What follows of bytes that go out, or come in, one part after another.
use Rattle.std.proofs.Common.{ℕ, ◌+◌, ◌-◌, List, [], ◌++◌, length, take, drop, sym, ap, ◌∙◌, append_assoc, append-nil, Option, None, Some}
use Rattle.std.proofs.Math.Seq.{take-add}
use Rattle.std.proofs.lemmas.List.{take_rest}
use Rattle.std.specs.Io.KnownBytes.{Keeps, Appends}

-- first x goes out, and then y
pub appends_both : (a b c : Option (List ℕ)) (x y : List ℕ) → Appends a b x → Appends b c y → Appends a c (x ++ y)
appends_both None b c x y p q = tt
appends_both (Some xs) None c x y p q = absurd p
appends_both (Some xs) (Some ys) None x y p q = absurd q
appends_both (Some xs) (Some ys) (Some zs) x y p q = q ∙ ap (λ ws. ws ++ y) p ∙ append_assoc xs x y

-- the first n bytes go out, and then m of the rest
pub appends_more : (a b c : Option (List ℕ)) (n m : ℕ) (xs : List ℕ) → Appends a b (take n xs) → Appends b c (take m (take (length xs - n) (drop n xs))) → Appends a c (take (n + m) xs)
appends_more a b c n m xs p q =
    rw (take-add n m xs) (appends_both a b c (take n xs) (take m (drop n xs)) p (rw (take_rest xs n) at q))

-- x goes out, and then nothing
pub appends_then_keeps : (a b c : Option (List ℕ)) (x : List ℕ) → Appends a b x → Keeps b c → Appends a c x
appends_then_keeps None b c x p q = tt
appends_then_keeps (Some xs) None c x p q = absurd p
appends_then_keeps (Some xs) (Some ys) None x p q = absurd q
appends_then_keeps (Some xs) (Some ys) (Some zs) x p q = q ∙ p

-- nothing goes out
pub appends_nothing : (a : Option (List ℕ)) → Appends a a []
appends_nothing None = tt
appends_nothing (Some xs) = sym (append-nil xs)
