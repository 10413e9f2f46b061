-- Lines past a text's end.
use Rattle.std.proofs.Common.{◌≡◌, ℕ, ◌+◌, ◌<◌, ◌≤◌, ◌⊎◌, inl, inr, ◌==◌, min, List, length, take, sym, ap, ◌∙◌, arith}
use Rattle.std.specs.Prelude.{count_by}
use Rattle.std.proofs.lemmas.Bool.{cases_lt}
use Rattle.std.proofs.lemmas.List.{take_all}
use Rattle.lexing.specs.Lines.{line_of}

same_take : (text : List ℕ) (at : ℕ) → (at < length text) ⊎ (length text ≤ at) → take (min at (length text)) text ≡ take at text
same_take text at (inl within) = let same : min at (length text) ≡ at = omega arith in ap (λ n. take n text) same
same_take text at (inr past) =
    let same : min at (length text) ≡ length text = omega arith in
    ap (λ n. take n text) same ∙ take_all (length text) text (omega arith) ∙ sym (take_all at text past)

pub same_line : (text : List ℕ) (at : ℕ) → line_of text (min at (length text)) ≡ line_of text at
same_line text at = ap (λ (bytes : List ℕ). 1 + count_by (λ b. b == 10) bytes) (same_take text at (cases_lt at (length text)))
