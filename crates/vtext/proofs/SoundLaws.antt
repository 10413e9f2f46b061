-- The modules of every text are sound.
use Rattle.std.proofs.Common.{◌≡◌, ℕ, ◌+◌, ◌-◌, ◌^◌, ◌<◌, ◌≤◌, List, Option, All, length, drop, sym, subst, arith}
use Rattle.std.proofs.lemmas.List.{length-drop, length-map}
use Rattle.lexing.specs.Texts.{Spells, at_end, at_stray, at_token, at_unending, at_white}
use Rattle.lexing.specs.declared.limits.TheConstants.{MAX_TEXT}
use Rattle.lexing.specs.declared.token.Token.{Token}
use Rattle.vtext.specs.Modules.{ModuleEntry, ModuleList}
use Rattle.vtext.specs.Reads.{Says}
use Rattle.vtext.specs.kept.Sound.{IsSoundModule}
use Rattle.vtext.specs.Words.{first_unit, names_of, word_of, words_of}
use Rattle.vtext.specs.Readings.{Reading}
use Rattle.vtext.proofs.GoodWords.{good_words}
use Rattle.vtext.proofs.ReadLemmas.{last_of, leads_by}
use Rattle.vtext.proofs.SoundWalks.{all_sound}

-- each token but the last has a byte of its own
few_tokens : (text : List ℕ) {from : ℕ} (tokens : List Token) → Spells text from tokens → length tokens ≤ length text - from + 1
few_tokens text tokens (at_end is) = omega arith
few_tokens text {from} tokens (at_white n is rest) =
    let more : length tokens ≤ length text - (from + n) + 1 = few_tokens text tokens rest in
    omega (arith, more)
few_tokens text tokens (at_unending is) = omega arith
few_tokens text tokens (at_stray within is none) = omega arith
few_tokens text {from} tokens (at_token n {tokens = others} is found rest) =
    let more : length others ≤ length text - (from + n) + 1 = few_tokens text others rest in
    let size : length (drop from text) ≡ length text - from = length-drop from text in
    omega (arith, more, size, found.some, found.within)

few_words : (text : List ℕ) (tokens : List Token) → length text ≤ MAX_TEXT → Spells text 0 tokens → length (words_of text tokens) < 2 ^ 64
few_words text tokens short spelled =
    let same : length (words_of text tokens) ≡ length tokens = length-map tokens (word_of (names_of text tokens) (first_unit text tokens) text) in
    let few : length tokens ≤ length text - 0 + 1 = few_tokens text tokens spelled in
    omega (arith, same, few, short)

pub modules_are_sound : (default : Option ℕ) (text : List ℕ) (list : ModuleList) → Says default text list → All (IsSoundModule list.names) list.modules
modules_are_sound default text list s =
    let names : List (List ℕ) = names_of text s.tokens in
    let good = good_words text s.tokens s.spelled in
    let P : List (List ℕ) → List (ℕ × ModuleEntry) → Type 0 = λ table ms. All (IsSoundModule table) ms in
    let last : Reading = last_of default text list s in
    let there : P names last.modules = all_sound default names (words_of text s.tokens) last (few_words text s.tokens s.short s.spelled) good (leads_by default text list s) in
    subst (λ (table : List (List ℕ)). P table list.modules) (sym s.names) (subst (P names) (sym s.modules) there)
