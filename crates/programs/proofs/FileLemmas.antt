-- What was read of a file, against its bytes.
use Rattle.std.proofs.Common.{◌≡◌, ◌∙◌, ◌+◌, ◌++◌, ◌≤◌, ◌<◌, ℕ, List, [], Option, Some, None, Result, Ok, Err, IfOk, IfSome, length, take, min, refl, sym, ap, arith, append_assoc, length-append}
use Rattle.std.proofs.Math.Seq.{take-append_seam}
use Rattle.std.proofs.lemmas.List.{append-nil, length-take, take_all}
use Rattle.std.specs.Io.KnownBytes.{Consumes, IsAtEnd}
use Rattle.programs.specs.kept.Files.{TakesIn}

pub consumes_none : (known : Option (List ℕ)) → Consumes known known []
consumes_none None = tt
consumes_none (Some xs) = refl

pub consumes_more : (a b c : Option (List ℕ)) (text text' : List ℕ) (n : ℕ) → Consumes a b text → TakesIn b c text text' n → Consumes a c text'
consumes_more None b c text text' n old step = tt
consumes_more (Some xs) None c text text' n old step = absurd old
consumes_more (Some xs) (Some ys) None text text' n old step = absurd step.gone
consumes_more (Some xs) (Some ys) (Some zs) text text' n old step =
    let gone : ys ≡ step.more ++ zs = step.gone in
    old ∙ (ap (λ z. text ++ z) gone ∙ (sym (append_assoc text step.more zs) ∙ ap (λ z. z ++ zs) (sym step.grown)))

pub length_more : (b c : Option (List ℕ)) (text text' : List ℕ) (n : ℕ) → TakesIn b c text text' n → length text' ≡ length text + n
length_more b c text text' n step = ap length step.grown ∙ (length-append text step.more ∙ ap (λ k. length text + k) step.counted)

-- all was read, and it is no more than so many
pub first_of_all : (a b : Option (List ℕ)) (text : List ℕ) (most : ℕ) → Consumes a b text → IsAtEnd b → length text ≤ most
    → IfSome a (λ bytes. text ≡ take most bytes)
first_of_all None b text most gone end within = tt
first_of_all (Some xs) None text most gone end within = absurd gone
first_of_all (Some xs) (Some ys) text most gone end within =
    let same : xs ≡ text = gone ∙ (ap (λ z. text ++ z) end ∙ append-nil text) in sym (ap (take most) same ∙ take_all most text within)

-- so many were read
pub first_of_most : (a b : Option (List ℕ)) (text : List ℕ) (most : ℕ) → Consumes a b text → length text ≡ most → IfSome a (λ bytes. text ≡ take most bytes)
first_of_most None b text most gone count = tt
first_of_most (Some xs) None text most gone count = absurd gone
first_of_most (Some xs) (Some ys) text most gone count =
    sym (ap (take most) gone ∙ (ap (λ n. take n (text ++ ys)) (sym count) ∙ take-append_seam text ys))

-- of a reader whose first bytes are fewer than were asked for, these are all
all_of_first : (a : Option (List ℕ)) (text : List ℕ) (most : ℕ) → length text < most → IfSome a (λ bytes. text ≡ take most bytes) → IfSome a (λ bytes. text ≡ bytes)
all_of_first None text most few first = tt
all_of_first (Some bytes) text most few first =
    let counted : length text ≡ min most (length bytes) = ap length first ∙ length-take most bytes in
    let short : length bytes ≤ most = grind arith in first ∙ take_all most bytes short

pub whole_of_first : {R E : Type 0} (file : Result R E) (remaining : R → Option (List ℕ)) (text : List ℕ) (most : ℕ) → length text < most
    → IfOk file (λ reader. IfSome (remaining reader) (λ bytes. text ≡ take most bytes)) → IfOk file (λ reader. IfSome (remaining reader) (λ bytes. text ≡ bytes))
whole_of_first (Ok reader) remaining text most few first = all_of_first (remaining reader) text most few first
whole_of_first (Err error) remaining text most few first = tt
