-- A short name is known by what is noted of it.
use Rattle.std.proofs.Common.{◌≡◌, ◌-◌, ◌<◌, ℕ, List, Some, get_or, length, sym, ap, ◌∙◌}
use Rattle.std.proofs.lemmas.List.Elements.{All-weaker}
use Rattle.catalog.specs.kept.Spellings.{four}
use Rattle.vtext.specs.declared.recent.Noted.{Noted}
use Rattle.vtext.specs.declared.recent.Recent.{Recent}
use Rattle.vtext.specs.Names.{number_of, with_name}
use Rattle.vtext.specs.kept.Recents.{AreRight, IsOf, IsRight}
use Rattle.vtext.proofs.SameBytes.{same_ends}
use Rattle.vtext.proofs.TableLemmas.{number_with}

abbrev pub AreBytes : List ℕ → Type 0
AreBytes name = (k : ℕ) → get_or name k 0 < 256

same_noted : (noted : Noted) (a b : List ℕ) → AreBytes a → AreBytes b → IsOf noted a → IsOf noted b → a ≡ b
same_noted noted a b bytes others one other =
    let long : length a ≡ length b = sym one.long ∙ other.long in
    same_ends a b bytes others one.short long (sym one.first ∙ other.first) (sym one.last ∙ (other.last ∙ ap (λ (n : ℕ). four b (n - 4)) (sym long)))

pub right_of : (names : List (List ℕ)) (noted : Noted) (name : List ℕ) → AreBytes name → IsOf noted name → number_of names name ≡ Some noted.number → IsRight names noted
right_of names noted name bytes is stands = λ other others one. ap (number_of names) (same_noted noted other name others bytes one is) ∙ stands

-- names keep their numbers where another one is added
pub right_with : (names : List (List ℕ)) (bytes : List ℕ) (recent : Recent) → AreRight names recent → AreRight (with_name names bytes) recent
right_with names bytes recent right =
    All-weaker (IsRight names) (IsRight (with_name names bytes)) (λ noted h name are is. number_with names bytes name noted.number (h name are is)) recent.entries.items right
