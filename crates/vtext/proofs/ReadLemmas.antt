-- From the walk over words to what a text says.
use Rattle.std.proofs.Common.{◌≡◌, ℕ, ◌≤◌, List, Option, None, inr, length, ap, sym, subst, ◌∙◌}
use Rattle.lexing.specs.Lines.{line_of}
use Rattle.lexing.specs.Texts.{Spells}
use Rattle.lexing.specs.declared.limits.TheConstants.{MAX_TEXT}
use Rattle.lexing.specs.declared.token.Token.{Token}
use Rattle.vtext.specs.declared.cause.Cause.{Cause}
use Rattle.vtext.specs.declared.fault.ReadFault.{ReadFault}
use Rattle.vtext.specs.declared.parser_state.ParserState.TheVariants.{Outside}
use Rattle.vtext.specs.declared.word.Placed.{Placed}
use Rattle.vtext.specs.Modules.{ModuleList}
use Rattle.vtext.specs.ReadFaults.{kind_of}
use Rattle.vtext.specs.Readings.{Reading, unread}
use Rattle.vtext.specs.Reads.{IsFirstFault, Says, start_of}
use Rattle.vtext.specs.Trees.{after_parts}
use Rattle.vtext.specs.Walks.{IsFault, Leads, start}
use Rattle.vtext.specs.kept.Sound.{AreGoodWords}
use Rattle.vtext.specs.Words.{names_of, words_of}
use Rattle.vtext.specs.kept.Words.{AreSaid}
use Rattle.vtext.proofs.GoodWords.{good_words}
use Rattle.vtext.proofs.SpelledLemmas.{written}
use Rattle.vtext.proofs.TreeLemmas.{text_read}

-- The walk and the parts.

pub says_by : (default : Option ℕ) (text : List ℕ) (tokens : List Token) (last : Reading) (list : ModuleList) → length text ≤ MAX_TEXT → Spells text 0 tokens
    → Leads default (names_of text tokens) start (words_of text tokens) None (record { state = Outside; so_far = last })
    → list ≡ record { names = names_of text tokens; unit = last.unit; modules = last.modules } → Says default text list
says_by default text tokens last list short spelled leads e =
    let w = written default (names_of text tokens) (words_of text tokens) last leads in
    record {
      short = short;
      tokens = tokens;
      spelled = spelled;
      names = ap (λ (l : ModuleList). l.names) e;
      parts = w.0;
      written = w.1;
      admitted = w.2;
      unit = ap (λ (l : ModuleList). l.unit) e ∙ ap (λ (r : Reading). r.unit) w.3;
      modules = ap (λ (l : ModuleList). l.modules) e ∙ ap (λ (r : Reading). r.modules) w.3;
    }

-- what has been read in the end
abbrev pub last_of : (default : Option ℕ) (text : List ℕ) (list : ModuleList) → Says default text list → Reading
last_of default text list s = after_parts default (names_of text s.tokens) unread s.parts

pub leads_by : (default : Option ℕ) (text : List ℕ) (list : ModuleList) (s : Says default text list)
    → Leads default (names_of text s.tokens) start (words_of text s.tokens) None (record { state = Outside; so_far = last_of default text list s })
leads_by default text list s = text_read default (names_of text s.tokens) (words_of text s.tokens) s.parts s.written s.admitted

-- What the code has.

module _ (text : List ℕ) (names : List (List ℕ)) (words said : List Placed) (h : AreSaid text names words) (s : said ≡ words) where
  -- what holds of the names and the words of the tokens holds of what the code has
  has : (P : List (List ℕ) → List Placed → Type 0) → P names said → P (names_of text h.tokens) (words_of text h.tokens)
  has P leads = subst (P (names_of text h.tokens)) (s ∙ h.said) (subst (λ (ns : List (List ℕ)). P ns said) h.named leads)

  pub says : (default : Option ℕ) (last : Reading) (list : ModuleList) → length text ≤ MAX_TEXT
      → Leads default names start said None (record { state = Outside; so_far = last })
      → list ≡ record { names = names; unit = last.unit; modules = last.modules }
      → Says default text list
  says default last list short leads e =
      let Q : List (List ℕ) → Type 0 = λ ns. list ≡ record { names = ns; unit = last.unit; modules = last.modules } in
      says_by default text h.tokens last list short h.spelled (has (λ ns ws. Leads default ns start ws None (record { state = Outside; so_far = last })) leads) (subst Q h.named e)

  pub said_good : AreGoodWords names said
  said_good =
      subst (λ (ns : List (List ℕ)). AreGoodWords ns said) (sym h.named)
      (subst (λ (ws : List Placed). AreGoodWords (names_of text h.tokens) ws) (sym (s ∙ h.said)) (good_words text h.tokens h.spelled))

  pub refused : (default : Option ℕ) (again : List Placed) (place : ℕ) (why : Cause) (fault : ReadFault) → length text ≤ MAX_TEXT → again ≡ words
      → IsFault default names said place why
      → ((tokens : List Token) → again ≡ words_of text tokens → fault ≡ record { line = line_of text (start_of text tokens place); kind = kind_of why })
      → IsFirstFault default text fault
  refused default again place why fault short a first at =
      let e = at h.tokens (a ∙ h.said) in
      inr (record {
        short = short;
        tokens = h.tokens;
        spelled = h.spelled;
        place = place;
        why = why;
        first = has (λ ns ws. IsFault default ns ws place why) first;
        line = ap (λ (f : ReadFault). f.line) e;
        kind = ap (λ (f : ReadFault). f.kind) e;
      })
