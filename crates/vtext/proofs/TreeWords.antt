-- A word that a mark stands for is read as what its turn says.
use Rattle.std.proofs.Common.{◌≡◌, ℕ, List, [], ◌∷◌, MatchOption, Option, None, Result, sym, ap, subst, ◌∙◌}
use Rattle.vtext.specs.declared.cause.Cause.{Cause}
use Rattle.vtext.specs.declared.parser_state.ParserState.{ParserState}
use Rattle.vtext.specs.declared.word.Word.{Word}
use Rattle.vtext.specs.declared.word.Placed.{Placed}
use Rattle.vtext.specs.Readings.{Reading}
use Rattle.vtext.specs.Trees.{AreMarked, Mark, plain}
use Rattle.vtext.specs.Turns.{Walk, goes, turn, unless}
use Rattle.vtext.specs.Walks.{Leads}
use Rattle.vtext.proofs.MarkLemmas.{first_marked, first_of}

-- a walk goes over words that fit these marks, and on to `end`
pub record Reads (default : Option ℕ) (table : List (List ℕ)) (after : Option Word) (end : Walk) (at : ParserState) (r : Reading) (marks : List Mark) : Type 0 where
  pub leads : (words : List Placed) → AreMarked marks words → Leads default table (record { state = at; so_far = r }) words after end

pub mark_read : {default : Option ℕ} {table : List (List ℕ)} {after : Option Word} {end : Walk} {at : ParserState} {r : Reading} {m : Mark} {marks : List Mark}
    (to : ParserState) (next : Reading)
    → ((start : ℕ) → MatchOption m.start (Unit {0}) (λ there. start ≡ there)
    → turn default table r at (record { word = m.word; start = start }) (first_of marks after) ≡ goes to next)
    → Reads default table after end to next marks → Reads default table after end at r (m ∷ marks)
mark_read {default = default} {table = table} {after = after} {end = end} {at = at} {r = r} {m = m} {marks = marks} to next turns onward = record { leads = over }
  where
    over : (words : List Placed) → AreMarked (m ∷ marks) words → Leads default table (record { state = at; so_far = r }) words after end
    over [] marked = absurd marked
    over (p ∷ words) marked =
        let P : Word → Option Word → Type 0 = λ x y. turn default table r at (record { word = x; start = p.start }) y ≡ goes to next in
        let here : P m.word (first_of marks after) = turns p.start marked.0.1 in (
          record { state = to; so_far = next },
          subst (P p.word) (sym (first_marked marks words after marked.1)) (subst (λ (x : Word). P x (first_of marks after)) (sym marked.0.0) here),
          onward.leads words marked.1,
        )

pub word_read : {default : Option ℕ} {table : List (List ℕ)} {after : Option Word} {end : Walk} {at : ParserState} {r : Reading} {w : Word} {marks : List Mark}
    (to : ParserState) (next : Reading) → ((start : ℕ) → turn default table r at (record { word = w; start = start }) (first_of marks after) ≡ goes to next)
    → Reads default table after end to next marks → Reads default table after end at r (plain w ∷ marks)
word_read to next turns onward = mark_read to next (λ start there. turns start) onward

-- a cause that is excluded
pub free : (found : Option Cause) (turn : Result Walk Cause) → found ≡ None → unless found turn ≡ turn
free found turn none = ap (λ (o : Option Cause). unless o turn) none

-- a word that no cause refuses
pub free_word_read : {default : Option ℕ} {table : List (List ℕ)} {after : Option Word} {end : Walk} {at : ParserState} {r : Reading} {w : Word} {marks : List Mark}
    (to : ParserState) (next : Reading) (found : Option Cause) → found ≡ None
    → ((start : ℕ) → turn default table r at (record { word = w; start = start }) (first_of marks after) ≡ unless found (goes to next))
    → Reads default table after end to next marks → Reads default table after end at r (plain w ∷ marks)
free_word_read to next found none turns onward =
    word_read to next (λ start. turns start ∙ free found (goes to next) none) onward
