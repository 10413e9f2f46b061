-- Lines of a text that comes in parts.
use Rattle.std.proofs.Common.{◌≡◌, ℕ, List, [], ◌∷◌, ◌++◌, take, Bool, true, false, eqb, ◌==◌, refl, sym, ap, ◌∙◌, append_assoc, append-nil, zero, suc}
use Rattle.session.specs.Lines.{cut, put_before, whole_lines, unfinished, last_line, lines}

-- the lines and rests of two texts, one behind the other
joined : List (List ℕ) → List ℕ → List (List ℕ) → List ℕ → List (List ℕ) × List ℕ
joined lines rest [] rest' = (lines, rest ++ rest')
joined lines rest (line ∷ lines') rest' = (lines ++ (rest ++ line) ∷ lines', rest')

joined_none : (lines : List (List ℕ)) (rest : List ℕ) → joined [] [] lines rest ≡ (lines, rest)
unfolding joined
joined_none [] rest = refl
joined_none (line ∷ lines) rest = refl

joined_in_front : (b : Bool) (byte : ℕ) (lines : List (List ℕ)) (rest : List ℕ) (lines' : List (List ℕ)) (rest' : List ℕ) →
    put_before b byte (joined lines rest lines' rest').0 (joined lines rest lines' rest').1
    ≡ joined (put_before b byte lines rest).0 (put_before b byte lines rest).1 lines' rest'
unfolding joined
joined_in_front true byte lines rest [] rest' = refl
joined_in_front true byte lines rest (line ∷ lines') rest' = refl
joined_in_front false byte [] rest [] rest' = refl
joined_in_front false byte [] rest (line ∷ lines') rest' = refl
joined_in_front false byte (first ∷ lines) rest [] rest' = refl
joined_in_front false byte (first ∷ lines) rest (line ∷ lines') rest' = refl

cut-append : (a b : List ℕ) → cut (a ++ b) ≡ joined (whole_lines a) (unfinished a) (whole_lines b) (unfinished b)
cut-append [] b = sym (joined_none (whole_lines b) (unfinished b))
cut-append (byte ∷ a) b =
    ap (λ (p : List (List ℕ) × List ℕ). put_before (byte == 10) byte p.0 p.1) (cut-append a b)
    ∙ joined_in_front (byte == 10) byte (whole_lines a) (unfinished a) (whole_lines b) (unfinished b)

-- a byte that is no line feed belongs to the line that is not finished
pub cut_byte : (a : List ℕ) (byte : ℕ) → eqb byte 10 ≡ false → cut (a ++ byte ∷ []) ≡ (whole_lines a, unfinished a ++ byte ∷ [])
unfolding joined
cut_byte a byte e =
    cut-append a (byte ∷ []) ∙ ap (λ b. joined (whole_lines a) (unfinished a) (put_before b byte [] []).0 (put_before b byte [] []).1) e

-- a line feed finishes it
pub cut_feed : (a : List ℕ) (byte : ℕ) → eqb byte 10 ≡ true → cut (a ++ byte ∷ []) ≡ (whole_lines a ++ unfinished a ∷ [], [])
unfolding joined
cut_feed a byte e =
    cut-append a (byte ∷ []) ∙ ap (λ b. joined (whole_lines a) (unfinished a) (put_before b byte [] []).0 (put_before b byte [] []).1) e
    ∙ ap (λ line. (whole_lines a ++ line ∷ [], [])) (append-nil (unfinished a))

joined_behind : (done : List (List ℕ)) (rest : List ℕ) (lines : List (List ℕ)) (rest' : List ℕ) → (more : List (List ℕ)) × ((joined done rest lines rest').0 ≡ done ++ more)
unfolding joined
joined_behind done rest [] rest' = ([], sym (append-nil done))
joined_behind done rest (line ∷ lines) rest' = ((rest ++ line) ∷ lines, refl)

-- behind the whole lines of a text stand those that a text behind it makes whole
pub whole_behind : (a b : List ℕ) → (more : List (List ℕ)) × (whole_lines (a ++ b) ≡ whole_lines a ++ more)
whole_behind a b =
    let later = joined_behind (whole_lines a) (unfinished a) (whole_lines b) (unfinished b) in
    (later.0, ap (λ (p : List (List ℕ) × List ℕ). p.0) (cut-append a b) ∙ later.1)

-- the same for all lines
pub lines_behind : (a b : List ℕ) → (more : List (List ℕ)) × (lines (a ++ b) ≡ whole_lines a ++ more)
lines_behind a b =
    let later = whole_behind a b in
    let last = last_line (unfinished (a ++ b)) in
    (later.0 ++ last, ap (λ ls. ls ++ last) later.1 ∙ append_assoc (whole_lines a) later.0 last)

-- of a text and more behind it the first bytes are those of its first bytes and the more
pub take_front : (n : ℕ) (xs ys : List ℕ) → take n (take n xs ++ ys) ≡ take n (xs ++ ys)
take_front zero xs ys = refl
take_front (suc n) [] ys = refl
take_front (suc n) (x ∷ xs) ys = ap (λ zs. x ∷ zs) (take_front n xs ys)
