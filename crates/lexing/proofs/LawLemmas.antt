-- The tokens of a text are one list.
use Rattle.std.proofs.Common.{◌≡◌, ◌+◌, ◌<◌, ℕ, true, false, List, [], ◌∷◌, ◌++◌, length, take, drop, refl, sym, ap, ◌∙◌, arith, length-drop}
use Rattle.std.proofs.lemmas.Bool.{false≢true}
use Rattle.std.proofs.lemmas.List.{drop_all}
use Rattle.lexing.proofs.ShapeLemmas.{one_longest}
use Rattle.lexing.specs.Lexemes.{spells, IsLongest, IsNoToken}
use Rattle.lexing.specs.Spaces.{white_space, opening_of}
use Rattle.lexing.specs.Texts.{Spells, at_end, at_white, at_unending, at_stray, at_token, token_at}
use Rattle.lexing.specs.kept.Texts.{is_fault}
use Rattle.lexing.specs.declared.spaces.White.{White}
use Rattle.lexing.specs.declared.spaces.White.TheVariants as piece
use Rattle.lexing.specs.declared.token.Shape.{Shape}
use Rattle.lexing.specs.declared.token.Shape.TheVariants as shape
use Rattle.lexing.specs.declared.token.Token.{Token}

no_bytes_no_white : white_space [] ≡ piece.Nothing
unfolding white_space opening_of
no_bytes_no_white = refl

white_at_end : (text : List ℕ) (from : ℕ) → from ≡ length text → white_space (drop from text) ≡ piece.Nothing
white_at_end text from e = ap white_space (drop_all from text (omega (arith, e))) ∙ no_bytes_no_white

nothing_or_takes : (w : White) (n : ℕ) → w ≡ piece.Nothing → w ≡ piece.Takes n → ⊥
nothing_or_takes w n is e = cc

nothing_or_unending : (w : White) → w ≡ piece.Nothing → w ≡ piece.Unending → ⊥
nothing_or_unending w is e = cc

takes_or_unending : (w : White) (n : ℕ) → w ≡ piece.Takes n → w ≡ piece.Unending → ⊥
takes_or_unending w n is e = cc

same_takes : (w : White) (m n : ℕ) → w ≡ piece.Takes m → w ≡ piece.Takes n → m ≡ n
same_takes w m n is e = cc

longest_within : (text : List ℕ) (from : ℕ) (kind : Shape) (n : ℕ) → IsLongest (drop from text) kind n → from < length text
longest_within text from kind n found = omega (arith, found.some, found.within, length-drop from text)

longest_or_none : (bytes : List ℕ) (kind : Shape) (n : ℕ) → IsLongest bytes kind n → IsNoToken bytes → ⊥
longest_or_none bytes kind n found none = false≢true (sym (none.none kind n) ∙ found.token)

-- what the text spells from its end on, from white space on, and so on

spells_end : (text : List ℕ) {from : ℕ} {tokens : List Token} → from ≡ length text → Spells text from tokens → tokens ≡ []
spells_end text {from} e (at_end is) = refl
spells_end text {from} e (at_white n is rest) = absurd (nothing_or_takes _ n (white_at_end text from e) is)
spells_end text {from} e (at_unending is) = absurd (nothing_or_unending _ (white_at_end text from e) is)
spells_end text {from} e (at_stray within is none) = absurd (omega (arith, e, within))
spells_end text {from} e (at_token {kind = kind} n is found rest) = absurd (omega (arith, e, longest_within text from kind n found))

spells_white : (text : List ℕ) {from : ℕ} {tokens : List Token} (n : ℕ) → white_space (drop from text) ≡ piece.Takes n → Spells text from tokens →
    Spells text (from + n) tokens
spells_white text {from} n e (at_end is) = absurd (nothing_or_takes _ n (white_at_end text from is) e)
spells_white text {from} n e (at_white m is rest) = rw (same_takes _ n m e is) rest
spells_white text {from} n e (at_unending is) = absurd (takes_or_unending _ n e is)
spells_white text {from} n e (at_stray within is none) = absurd (nothing_or_takes _ n is e)
spells_white text {from} n e (at_token m is found rest) = absurd (nothing_or_takes _ n is e)

spells_unending : (text : List ℕ) {from : ℕ} {tokens : List Token} → white_space (drop from text) ≡ piece.Unending → Spells text from tokens →
    tokens ≡ token_at shape.Unending from (length text) ∷ []
spells_unending text {from} e (at_end is) = absurd (nothing_or_unending _ (white_at_end text from is) e)
spells_unending text {from} e (at_white m is rest) = absurd (takes_or_unending _ m is e)
spells_unending text {from} e (at_unending is) = refl
spells_unending text {from} e (at_stray within is none) = absurd (nothing_or_unending _ is e)
spells_unending text {from} e (at_token m is found rest) = absurd (nothing_or_unending _ is e)

spells_stray : (text : List ℕ) {from : ℕ} {tokens : List Token} → from < length text → white_space (drop from text) ≡ piece.Nothing →
    IsNoToken (drop from text) → Spells text from tokens → tokens ≡ token_at shape.Stray from (from + 1) ∷ []
spells_stray text {from} within e none (at_end is) = absurd (omega (arith, within, is))
spells_stray text {from} within e none (at_white m is rest) = absurd (nothing_or_takes _ m e is)
spells_stray text {from} within e none (at_unending is) = absurd (nothing_or_unending _ e is)
spells_stray text {from} within e none (at_stray _ _ _) = refl
spells_stray text {from} within e none (at_token {kind = kind} m is found rest) = absurd (longest_or_none (drop from text) kind m found none)

-- a token, and what the text spells behind it
abbrev Goes : List ℕ → ℕ → Shape → ℕ → List Token → Type 0
Goes text from kind n tokens = (more : List Token) × (tokens ≡ token_at kind from (from + n) ∷ more) × Spells text (from + n) more

spells_token : (text : List ℕ) {from : ℕ} {tokens : List Token} (kind : Shape) (n : ℕ) → white_space (drop from text) ≡ piece.Nothing →
    IsLongest (drop from text) kind n → Spells text from tokens → Goes text from kind n tokens
spells_token text {from} kind n e found (at_end is) = absurd (omega (arith, longest_within text from kind n found, is))
spells_token text {from} kind n e found (at_white m is rest) = absurd (nothing_or_takes _ m e is)
spells_token text {from} kind n e found (at_unending is) = absurd (nothing_or_unending _ e is)
spells_token text {from} kind n e found (at_stray within is none) = absurd (longest_or_none (drop from text) kind n found none)
spells_token text {from} kind n e found (at_token {kind = rival} m {tokens = more} is longest rest) =
    let same = one_longest (drop from text) kind rival n m found longest in
    rw (same.0, same.1) (more, refl, rest)

-- no other token list is spelled by the same text
pub one_list : (text : List ℕ) {from : ℕ} {tokens others : List Token} → Spells text from tokens → Spells text from others → tokens ≡ others
one_list text (at_end is) b = sym (spells_end text is b)
one_list text (at_white n is rest) b = one_list text rest (spells_white text n is b)
one_list text (at_unending is) b = sym (spells_unending text is b)
one_list text (at_stray within is none) b = sym (spells_stray text within is none b)
one_list text {from} (at_token {kind = kind} n is found rest) b =
    let goes = spells_token text kind n is found b in
    ap (λ more. token_at kind from (from + n) ∷ more) (one_list text rest goes.2) ∙ sym goes.1

-- faults are last

nil_or_some : (before after : List Token) (token : Token) → ◌≡◌ {A = List Token} [] (before ++ token ∷ after) → ⊥
nil_or_some [] after token e = cc
nil_or_some (x ∷ before) after token e = cc

last_alone : (before after : List Token) (token last : Token) → last ∷ [] ≡ before ++ token ∷ after → after ≡ []
last_alone [] after token last e = cc
last_alone (x ∷ before) after token last e = let rest : [] ≡ before ++ token ∷ after = cc in absurd (nil_or_some before after token rest)

pub no_fault : (kind : Shape) (bytes : List ℕ) → spells kind bytes ≡ true → is_fault kind ≡ false
unfolding spells
no_fault shape.Name bytes h = refl
no_fault shape.Escaped bytes h = refl
no_fault shape.Number bytes h = refl
no_fault shape.Constant bytes h = refl
no_fault shape.Timescale bytes h = refl
no_fault shape.Other bytes h = refl
no_fault shape.Unending bytes h = absurd (false≢true h)
no_fault shape.Stray bytes h = absurd (false≢true h)

behind_token : (before after more : List Token) (token first : Token) → first ∷ more ≡ before ++ token ∷ after → is_fault first.shape ≡ false →
    is_fault token.shape ≡ true → ((rest : List Token) → more ≡ rest ++ token ∷ after → after ≡ []) → after ≡ []
behind_token [] after more token first e sound fault h =
    let same : first ≡ token = cc in absurd (false≢true (sym sound ∙ (ap (λ t. is_fault t.shape) same ∙ fault)))
behind_token (x ∷ before) after more token first e sound fault h = h before cc

behind_fault : (text : List ℕ) {from : ℕ} {tokens : List Token} (after : List Token) (token : Token) → Spells text from tokens →
    is_fault token.shape ≡ true → (before : List Token) → tokens ≡ before ++ token ∷ after → after ≡ []
behind_fault text after token (at_end is) fault before e = absurd (nil_or_some before after token e)
behind_fault text after token (at_white n is rest) fault before e = behind_fault text after token rest fault before e
behind_fault text after token (at_unending is) fault before e = last_alone before after token _ e
behind_fault text after token (at_stray within is none) fault before e = last_alone before after token _ e
behind_fault text {from} after token (at_token {kind = kind} n {tokens = more} is found rest) fault before e =
    behind_token before after more token (token_at kind from (from + n)) e (no_fault kind (take n (drop from text)) found.token) fault
    (λ others same. behind_fault text after token rest fault others same)

-- nothing is behind a fault
pub nothing_behind : (text : List ℕ) (from : ℕ) (before after : List Token) (token : Token) → Spells text from (before ++ token ∷ after) →
    is_fault token.shape ≡ true → after ≡ []
nothing_behind text from before after token spelled fault = behind_fault text after token spelled fault before refl
