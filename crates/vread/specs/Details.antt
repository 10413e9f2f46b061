-- What a refused text's fault is told by: the word at which it lies, and what else it names.
use Rattle.std.specs.Prelude.{◌≡◌, ◌⊎◌, ℕ, ◌<◌, ◌≤◌, ◌==◌, ◌++◌, List, [], length, codes, Option, slice_get}
use Rattle.std.specs.List.{find}
use Rattle.std.specs.Option.{option_map_or}
use Rattle.lexing.specs.Texts as texts
use Rattle.lexing.specs.declared.limits.TheConstants.{MAX_TEXT}
use Rattle.lexing.specs.declared.token.Token as tokens
use Rattle.vtext.specs.declared.cause.Cause.{Cause}
use Rattle.vtext.specs.Modules.{ModuleList}
use Rattle.vtext.specs.Names.{name_at}
use Rattle.vtext.specs.Reads.{Says}
use Rattle.vtext.specs.Walks.{IsFault}
use Rattle.vtext.specs.Words.{names_of, words_of}
use Rattle.elaboration.specs.declared.fault_places.FaultPlace.{FaultPlace}
use Rattle.elaboration.specs.declared.fault_places.Party.{Party}
use Rattle.elaboration.specs.declared.fault_places.Party.TheVariants.{Module, Port}
use Rattle.elaboration.specs.FaultPlaces.{fault_place}
use Rattle.vread.specs.declared.detail.FaultDetail.{FaultDetail}
use Rattle.vread.specs.declared.detail.FaultWord.{FaultWord}
use Rattle.vread.specs.declared.detail.FaultWord.TheVariants.{Nothing, End, Token}
use Rattle.vread.specs.Drivers.{design_party}

-- The word.

-- a token that is refused; past the last one, the text's end
abbrev pub refused_word : Option tokens.Token → FaultWord
refused_word token = option_map_or Token token End

-- of these tokens the one that begins at a place of the text
abbrev pub token_from : List tokens.Token → ℕ → Option tokens.Token
token_from list start = find (λ token. token.start == start) list

abbrev pub word_from : List tokens.Token → ℕ → FaultWord
word_from list start = option_map_or Token (token_from list start) Nothing

abbrev pub place_word : List tokens.Token → Option FaultPlace → FaultWord
place_word list place = option_map_or (λ (p : FaultPlace). word_from list p.start) place Nothing

-- What else a fault names, as it follows the word: `, module NAME`, `, port NAME`, or `, net NAME, gate NAME`; nothing where it
-- names nothing else.

abbrev pub party_text : List (List ℕ) → Party → List ℕ
party_text names (Module n) = codes ", module " ++ name_at names n
party_text names (Port n) = codes ", port " ++ name_at names n

abbrev pub place_party : List (List ℕ) → Option FaultPlace → List ℕ
place_party names place = option_map_or (λ (p : FaultPlace). option_map_or (party_text names) p.party []) place []

-- of a fault of modules: only one of the two says anything
abbrev pub late_party : List ℕ → ModuleList → List ℕ
late_party text list = place_party list.names (fault_place list.modules) ++ design_party text list

-- The detail of a text's fault.

-- a text over its limit is looked at no further
pub record IsLong (text : List ℕ) (detail : FaultDetail) : Type 0 where
  pub long : MAX_TEXT < length text
  pub word : detail.word ≡ Nothing
  pub party : detail.party.items ≡ []

-- of a text one of whose tokens is refused: the first such one, or the text's end
pub record IsFirstDetail (default : Option ℕ) (text : List ℕ) (detail : FaultDetail) : Type 0 where
  pub short : length text ≤ MAX_TEXT
  pub list : List tokens.Token
  pub spelled : texts.Spells text 0 list
  pub place : ℕ
  pub why : Cause
  pub first : IsFault default (names_of text list) (words_of text list) place why
  pub word : detail.word ≡ refused_word (slice_get list place)
  pub party : detail.party.items ≡ []

-- of a text whose tokens have no fault: the one at which the fault of its modules lies
pub record IsLateDetail (default : Option ℕ) (text : List ℕ) (detail : FaultDetail) : Type 0 where
  pub modules : ModuleList
  pub says : Says default text modules
  pub list : List tokens.Token
  pub spelled : texts.Spells text 0 list
  pub word : detail.word ≡ place_word list (fault_place modules.modules)
  pub party : detail.party.items ≡ late_party text modules

-- `default` is the delay of a gate item without one
abbrev pub IsFaultDetail : Option ℕ → List ℕ → FaultDetail → Type 0
IsFaultDetail default text detail = IsLong text detail ⊎ (IsFirstDetail default text detail ⊎ IsLateDetail default text detail)
