-- The first pass: the walk of a list of words over the states of the parser, and its first fault.
use Rattle.std.specs.Prelude.{◌≡◌, ◌≢◌, ℕ, ◌+◌, ◌≤◌, List, [], ◌∷◌, length, take, Option, option_map, slice_get, MatchOption, Some, Ok, Err}
use Rattle.vtext.specs.declared.cause.Cause.{Cause}
use Rattle.vtext.specs.declared.cause.Cause.TheVariants.{Syntax}
use Rattle.vtext.specs.declared.parser_state.ParserState.TheVariants.{Outside}
use Rattle.vtext.specs.declared.word.Word.{Word}
use Rattle.vtext.specs.declared.word.Placed.{Placed}
use Rattle.vtext.specs.Readings.{unread}
use Rattle.vtext.specs.Turns.{Walk, turn}

abbrev pub start : Walk
start = record { state = Outside; so_far = unread }

-- the word at a place of a list
abbrev pub word_at : List Placed → ℕ → Option Word
word_at words k = option_map (λ (p : Placed). p.word) (slice_get words k)

-- the first word of a list that is followed by this one
abbrev pub first_word : List Placed → Option Word → Option Word
first_word [] after = after
first_word (p ∷ words) after = Some p.word

-- Below, `default` is the delay of a gate item without one, and `names` the table of names.
module _ (default : Option ℕ) (names : List (List ℕ)) where
  -- a walk goes over a list of words, which is followed by another word or the end
  abbrev pub Leads : Walk → List Placed → Option Word → Walk → Type 0
  Leads from [] after to = from ≡ to
  Leads from (p ∷ words) after to =
      (next : Walk) × (turn default names from.so_far from.state p (first_word words after) ≡ Ok next) × Leads next words after to

  -- the words are refused at place k, and not before: a walk leads over those before it, and the word there has the cause, or they
  -- end there within a module
  pub record IsFault (words : List Placed) (k : ℕ) (why : Cause) : Type 0 where
    pub within : k ≤ length words
    pub before : Walk
    pub leads : Leads start (take k words) (word_at words k) before
    pub refused : MatchOption (slice_get words k) ((before.state ≢ Outside) × (why ≡ Syntax))
        (λ p. turn default names before.so_far before.state p (word_at words (k + 1)) ≡ Err why)
