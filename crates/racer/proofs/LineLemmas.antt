-- A text, cut at its first line feed.
use Rattle.std.proofs.Common.{◌≡◌, ◌≢◌, ◌∙◌, ◌==◌, ◌<◌, ◌≤◌, ◌+◌, ◌-◌, ◌++◌, ℕ, zero, suc, Bool, true, false, List, [], ◌∷◌, length, take, drop, slice_index, refl, ap, sym, arith}
use Rattle.std.proofs.lemmas.List.{length-drop, take_all}
use Rattle.memchr.specs.Find.{IsFirst, NoneBefore, Nowhere, Passes, is_byte}
use Rattle.session.specs.Lines.{cut, last_line, lines, unfinished, whole_lines}

not_true : (b : Bool) → ¬ (b ≡ true) → b ≡ false
not_true true other = absurd (other refl)
not_true false other = refl

-- the first line feed stands at this place
cut_at : (text : List ℕ) (at : ℕ) → at < length text → (slice_index text at == 10) ≡ true → ((k : ℕ) → k < at → (slice_index text k == 10) ≡ false)
    → cut text ≡ (take at text ∷ whole_lines (drop (suc at) text), unfinished (drop (suc at) text))
cut_at [] at within here before = absurd (omega arith)
cut_at (byte ∷ bytes) zero within here before = rw here refl
cut_at (byte ∷ bytes) (suc at) within here before =
    let rest = cut_at bytes at (omega arith) here (λ k below. before (suc k) (omega arith)) in
    let first : (byte == 10) ≡ false = before zero (omega arith) in rw (first, rest) refl

behind : (text : List ℕ) (at : ℕ) → drop (at + 1) text ≡ take (length text - (at + 1)) (drop (at + 1) text)
behind text at =
    let counted : length (drop (at + 1) text) ≡ length text - (at + 1) = length-drop (at + 1) text in
    let all : length (drop (at + 1) text) ≤ length text - (at + 1) = omega arith in
    sym (take_all (length text - (at + 1)) (drop (at + 1) text) all)

pub lines_at : (text : List ℕ) (at : ℕ) → NoneBefore (Passes (is_byte 10) text) 0 (length text) at × Passes (is_byte 10) text at
    → lines text ≡ take at text ∷ lines (take (length text - (at + 1)) (drop (at + 1) text))
lines_at text at found =
    let first = cut_at text at found.0.high found.1 (λ k below. not_true (slice_index text k == 10) (found.0.before k (omega arith) below)) in
    let next : suc at ≡ at + 1 = omega arith in
    ap (λ (p : List (List ℕ) × List ℕ). p.0 ++ last_line p.1) first
    ∙ (ap (λ n. take at text ∷ lines (drop n text)) next ∙ ap (λ rest. take at text ∷ lines rest) (behind text at))

-- there is no line feed
cut_none : (text : List ℕ) → ((k : ℕ) → k < length text → (slice_index text k == 10) ≡ false) → cut text ≡ ([], text)
cut_none [] none = refl
cut_none (byte ∷ bytes) none =
    let rest = cut_none bytes (λ k below. none (suc k) (omega arith)) in
    let first : (byte == 10) ≡ false = none zero (omega arith) in rw (first, rest) refl

last_of : (text : List ℕ) → (length text == 0) ≡ false → last_line text ≡ text ∷ lines []
last_of [] some = cc
last_of (byte ∷ bytes) some = refl

pub lines_none : (text rest : List ℕ) (n : ℕ) → (length text == 0) ≡ false → n ≡ 0 → Nowhere (Passes (is_byte 10) text) 0 (length text) → lines text ≡ text ∷ lines (take n rest)
lines_none text rest n some empty nowhere =
    let whole = cut_none text (λ k below. not_true (slice_index text k == 10) (nowhere k (omega arith) below)) in
    ap (λ (p : List (List ℕ) × List ℕ). p.0 ++ last_line p.1) whole ∙ (last_of text some ∙ ap (λ m. text ∷ lines (take m rest)) (sym empty))
