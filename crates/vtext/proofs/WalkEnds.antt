-- A list of words is read to its end or has a first fault, and so does a text.
use Rattle.std.proofs.Common.{◌≡◌, ◌≢◌, ◌⊎◌, inl, inr, ℕ, zero, suc, ◌+◌, ◌<◌, ◌≤◌, List, Option, None, Result, Ok, Err, length, take, get_or, refl, subst, arith}
use Rattle.std.proofs.lemmas.Bool.{cases_lt}
use Rattle.lexing.specs.Lines.{line_of}
use Rattle.lexing.specs.Texts.{Spells}
use Rattle.lexing.specs.declared.limits.TheConstants.{MAX_TEXT}
use Rattle.lexing.specs.declared.token.Token.{Token}
use Rattle.vtext.specs.declared.cause.Cause.{Cause}
use Rattle.vtext.specs.declared.cause.Cause.TheVariants.{Syntax}
use Rattle.vtext.specs.declared.fault.ReadFault.{ReadFault}
use Rattle.vtext.specs.declared.parser_state.ParserState.{ParserState}
use Rattle.vtext.specs.declared.parser_state.ParserState.TheVariants.{Outside}
use Rattle.vtext.specs.declared.word.Word.TheVariants.{Module}
use Rattle.vtext.specs.declared.word.Placed.{Placed}
use Rattle.vtext.specs.Modules.{ModuleList}
use Rattle.vtext.specs.ReadFaults.{kind_of, too_long}
use Rattle.vtext.specs.Readings.{Reading}
use Rattle.vtext.specs.Reads.{IsFirstFault, Says, start_of}
use Rattle.vtext.specs.Turns.{Walk, turn}
use Rattle.vtext.specs.Walks.{IsFault, Leads, start, word_at}
use Rattle.vtext.specs.Words.{names_of, words_of}
use Rattle.vtext.proofs.ReadLemmas.{says_by}
use Rattle.vtext.proofs.WalkLemmas.{ended, refused_at, refused_end, turned}

outside_or_not : (at : ParserState) → (at ≡ Outside) ⊎ (at ≢ Outside)
outside_or_not Outside = inl refl
outside_or_not at = inr (λ e. cc)

ok_or_err : {A B : Type 0} (r : Result A B) → ((a : A) × (r ≡ Ok a)) ⊎ ((b : B) × (r ≡ Err b))
ok_or_err (Ok a) = inl (a, refl)
ok_or_err (Err b) = inr (b, refl)

module _ (default : Option ℕ) (names : List (List ℕ)) (words : List Placed) where
  abbrev IsDecided : Type 0
  IsDecided = ((last : Reading) × Leads default names start words None (record { state = Outside; so_far = last })) ⊎ ((k : ℕ) × ((why : Cause) × IsFault default names words k why))

  decided_at_end : (k : ℕ) (now : Walk) → k ≡ length words → Leads default names start (take k words) (word_at words k) now → (now.state ≡ Outside) ⊎ (now.state ≢ Outside) → IsDecided
  decided_at_end k now e leads (inl outside) =
      let P : ParserState → Type 0 = λ at. Leads default names start words None (record { state = at; so_far = now.so_far }) in
      inl (now.so_far, subst P outside (ended default names words k now (omega arith) leads))
  decided_at_end k now e leads (inr inside) = inr (k, (Syntax, refused_end default names words k now e leads inside))

  decided_from : (n k : ℕ) (now : Walk) → n + k ≡ length words → Leads default names start (take k words) (word_at words k) now → IsDecided
  decided_from zero k now e leads = decided_at_end k now (omega arith) leads (outside_or_not now.state)
  decided_from (suc n) k now e leads =
      let d : Placed = record { word = Module; start = 0 } in
      let p : Placed = get_or words k d in
      let within : k < length words = omega arith in
      elim (ok_or_err (turn default names now.so_far now.state p (word_at words (k + 1)))) [
        | inl ok ↦ decided_from n (k + 1) ok.0 (omega arith) (turned default names words k d (word_at words (k + 1)) now ok.0 within leads refl ok.1)
        | inr refused ↦ inr (k, (refused.0, refused_at default names words k d (word_at words (k + 1)) now refused.0 within leads refl refused.1))
      ]

  decided : IsDecided
  decided = decided_from (length words) 0 start (omega arith) refl

said : (default : Option ℕ) (text : List ℕ) (tokens : List Token) → length text ≤ MAX_TEXT → Spells text 0 tokens → IsDecided default (names_of text tokens) (words_of text tokens)
    → ((list : ModuleList) × Says default text list) ⊎ ((fault : ReadFault) × IsFirstFault default text fault)
said default text tokens short spelled (inl (last, leads)) =
    let list : ModuleList = record { names = names_of text tokens; unit = last.unit; modules = last.modules } in
    inl (list, says_by default text tokens last list short spelled leads refl)
said default text tokens short spelled (inr (k, (why, fault))) =
    inr (
      record { line = line_of text (start_of text tokens k); kind = kind_of why },
      inr (record { short = short; tokens = tokens; spelled = spelled; place = k; why = why; first = fault; line = refl; kind = refl }),
    )

pub some_reading : (default : Option ℕ) (text : List ℕ) → ((tokens : List Token) × Spells text 0 tokens)
    → ((list : ModuleList) × Says default text list) ⊎ ((fault : ReadFault) × IsFirstFault default text fault)
some_reading default text (tokens, spelled) =
    elim (cases_lt MAX_TEXT (length text)) [
      | inl long ↦ inr (too_long, inl (long, refl))
      | inr short ↦ said default text tokens short spelled (decided default (names_of text tokens) (words_of text tokens))
    ]
