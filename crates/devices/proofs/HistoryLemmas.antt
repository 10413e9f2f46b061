-- The text that the pieces of a history join to.
use Rattle.std.proofs.Common.{◌≡◌, ℕ, List, [], ◌∷◌, ◌++◌, Option, None, Some, sym, ap, ◌∙◌, append_assoc, append-nil}
use Rattle.std.proofs.lemmas.List.Folds.{concat-append}
use Rattle.std.specs.Io.KnownBytes.{Consumes}
use Rattle.std.specs.List.{concat}

-- with a piece more it is longer by that piece
pub concat_last : (pieces : List (List ℕ)) (piece : List ℕ) → concat (pieces ++ piece ∷ []) ≡ concat pieces ++ piece
concat_last pieces piece = concat-append pieces (piece ∷ []) ∙ ap (λ text. concat pieces ++ text) (append-nil piece)

-- first x comes, and then y
pub consumes_both : (a b c : Option (List ℕ)) (x y : List ℕ) → Consumes a b x → Consumes b c y → Consumes a c (x ++ y)
consumes_both None b c x y p q = tt
consumes_both (Some xs) None c x y p q = absurd p
consumes_both (Some xs) (Some ys) None x y p q = absurd q
consumes_both (Some xs) (Some ys) (Some zs) x y p q = p ∙ ap (λ text. x ++ text) q ∙ sym (append_assoc x y zs)
