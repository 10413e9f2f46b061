-- Walks over lists of words.
use Rattle.std.proofs.Common.{◌≡◌, ◌≢◌, ℕ, ◌+◌, ◌<◌, ◌≤◌, ◌++◌, List, [], ◌∷◌, Option, Some, None, Ok, Err, length, take, get_or, refl, sym, subst, arith}
use Rattle.std.proofs.lemmas.List.{take_all, take_more}
use Rattle.std.proofs.lemmas.Option.{slice_get-get_or, slice_get_past}
use Rattle.std.specs.List.{slice_get}
use Rattle.std.specs.Option.{MatchOption, option_map}
use Rattle.vtext.specs.declared.cause.Cause.{Cause}
use Rattle.vtext.specs.declared.cause.Cause.TheVariants.{Syntax}
use Rattle.vtext.specs.declared.parser_state.ParserState.TheVariants.{Outside}
use Rattle.vtext.specs.declared.word.Word.{Word}
use Rattle.vtext.specs.declared.word.Placed.{Placed}
use Rattle.vtext.specs.Turns.{Walk, turn}
use Rattle.vtext.specs.Walks.{IsFault, Leads, first_word, start, word_at}

first_more : (words : List Placed) (p : Placed) (after : Option Word) → first_word words (Some p.word) ≡ first_word (words ++ p ∷ []) after
first_more [] p after = refl
first_more (q ∷ words) p after = refl

-- a walk over one word more
pub leads_more : (default : Option ℕ) (names : List (List ℕ)) (from middle to : Walk) (words : List Placed) (p : Placed) (after : Option Word)
    → Leads default names from words (Some p.word) middle → turn default names middle.so_far middle.state p after ≡ Ok to
    → Leads default names from (words ++ p ∷ []) after to
leads_more default names from middle to [] p after same turns =
    let P : Walk → Type 0 = λ w. turn default names w.so_far w.state p after ≡ Ok to in
    (to, subst P (sym same) turns, refl)
leads_more default names from middle to (q ∷ words) p after leads turns =
    let P : Option Word → Type 0 = λ first. turn default names from.so_far from.state q first ≡ Ok leads.0 in
    (leads.0, subst P (first_more words p after) leads.1, leads_more default names leads.0 middle to words p after leads.2 turns)

-- the same at a place of a list
pub turned : (default : Option ℕ) (names : List (List ℕ)) (words : List Placed) (i : ℕ) (d : Placed) (after : Option Word) (before to : Walk) → i < length words
    → Leads default names start (take i words) (word_at words i) before
    → after ≡ word_at words (i + 1)
    → turn default names before.so_far before.state (get_or words i d) after ≡ Ok to
    → Leads default names start (take (i + 1) words) (word_at words (i + 1)) to
turned default names words i d after before to within leads next goes =
    let P : Option Placed → Type 0 = λ p. Leads default names start (take i words) (option_map (λ (p : Placed). p.word) p) before in
    rw (take_more words i d within, ← next)
    (leads_more default names start before to (take i words) (get_or words i d) after (subst P (slice_get-get_or words i d within) leads) goes)

-- at the end of a list
pub ended : (default : Option ℕ) (names : List (List ℕ)) (words : List Placed) (i : ℕ) (to : Walk) → length words ≤ i
    → Leads default names start (take i words) (word_at words i) to → Leads default names start words None to
ended default names words i to past leads =
    let P : List Placed → Option Placed → Type 0 = λ these p. Leads default names start these (option_map (λ (p : Placed). p.word) p) to in
    subst (P words) (slice_get_past words i past) (subst (λ (these : List Placed). P these (slice_get words i)) (take_all i words past) leads)

-- Faults.

-- a word is refused
pub refused_at : (default : Option ℕ) (names : List (List ℕ)) (words : List Placed) (i : ℕ) (d : Placed) (after : Option Word) (before : Walk) (why : Cause) → i < length words
    → Leads default names start (take i words) (word_at words i) before
    → after ≡ word_at words (i + 1)
    → turn default names before.so_far before.state (get_or words i d) after ≡ Err why
    → IsFault default names words i why
refused_at default names words i d after before why within leads next refused =
    let Q : Option Word → Type 0 = λ word. turn default names before.so_far before.state (get_or words i d) word ≡ Err why in
    let P : Option Placed → Type 0 = λ p. MatchOption p ((before.state ≢ Outside) × (why ≡ Syntax)) (λ q. turn default names before.so_far before.state q (word_at words (i + 1)) ≡ Err why) in
    record { within = omega arith; before = before; leads = leads; refused = subst P (sym (slice_get-get_or words i d within)) (subst Q next refused) }

-- the list ends within a module
pub refused_end : (default : Option ℕ) (names : List (List ℕ)) (words : List Placed) (i : ℕ) (before : Walk) → i ≡ length words
    → Leads default names start (take i words) (word_at words i) before
    → before.state ≢ Outside
    → IsFault default names words i Syntax
refused_end default names words i before at leads inside =
    let P : Option Placed → Type 0 = λ p. MatchOption p ((before.state ≢ Outside) × (Syntax ≡ Syntax)) (λ q. turn default names before.so_far before.state q (word_at words (i + 1)) ≡ Err Syntax) in
    record { within = omega arith; before = before; leads = leads; refused = subst P (sym (slice_get_past words i (omega arith))) (inside, refl) }
