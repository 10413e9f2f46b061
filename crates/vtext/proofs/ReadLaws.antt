-- A text says one list of modules or has one first fault, and not both.
use Rattle.std.proofs.Common.{◌≡◌, ℕ, List, Option, None, inl, inr, refl, sym, ap, subst, ◌∙◌, arith}
use Rattle.lexing.specs.Lines.{line_of}
use Rattle.lexing.specs.Texts.{Spells}
use Rattle.lexing.specs.declared.token.Token.{Token}
use Rattle.fourstate.specs.declared.unit.TimeUnit.{TimeUnit}
use Rattle.vtext.specs.declared.fault.ReadFault.{ReadFault}
use Rattle.vtext.specs.declared.fault.ReadFaultKind.{ReadFaultKind}
use Rattle.vtext.specs.declared.parser_state.ParserState.TheVariants.{Outside}
use Rattle.vtext.specs.Modules.{ModuleEntry, ModuleList}
use Rattle.vtext.specs.ReadFaults.{kind_of}
use Rattle.vtext.specs.Readings.{Reading}
use Rattle.vtext.specs.Reads.{IsFirstFault, IsRefusedAt, Says, start_of}
use Rattle.vtext.specs.Turns.{Walk}
use Rattle.vtext.specs.Walks.{IsFault, Leads, start}
use Rattle.vtext.specs.Words.{names_of, words_of}
use Rattle.vtext.proofs.ReadLemmas.{last_of, leads_by}
use Rattle.vtext.proofs.WalkLaws.{no_fault, one_fault, one_walk}

same_list : (a b : ModuleList) → a.names ≡ b.names → a.unit ≡ b.unit → a.modules ≡ b.modules → a ≡ b
same_list a b n u m =
    ap (λ (names : List (List ℕ)). record a { names = names }) n ∙ ap (λ (unit : Option TimeUnit). record a { names = b.names; unit = unit }) u
    ∙ ap (λ (modules : List (ℕ × ModuleEntry)). record b { modules = modules }) m

same_fault : (a b : ReadFault) → a.line ≡ b.line → a.kind ≡ b.kind → a ≡ b
same_fault a b l k = ap (λ (line : ℕ). record a { line = line }) l ∙ ap (λ (kind : ReadFaultKind). record b { kind = kind }) k

-- Below, a text spells one list of tokens.
module _ (default : Option ℕ) (text : List ℕ) (one : (a b : List Token) → Spells text 0 a → Spells text 0 b → a ≡ b) where
  pub one_list : (a b : ModuleList) → Says default text a → Says default text b → a ≡ b
  one_list a b s t =
      let e : s.tokens ≡ t.tokens = one s.tokens t.tokens s.spelled t.spelled in
      let first : Reading = last_of default text a s in
      let second : Reading = last_of default text b t in
      let P : List Token → Type 0 = λ tokens. Leads default (names_of text tokens) start (words_of text tokens) None (record { state = Outside; so_far = second }) in
      let last : first ≡ second = ap (λ (w : Walk). w.so_far)
      (one_walk default (names_of text s.tokens) (words_of text s.tokens) start None (record { state = Outside; so_far = first }) (record { state = Outside; so_far = second })
      (leads_by default text a s) (subst P (sym e) (leads_by default text b t))) in
      same_list a b (s.names ∙ ap (names_of text) e ∙ sym t.names) (s.unit ∙ ap (λ (r : Reading). r.unit) last ∙ sym t.unit) (s.modules ∙ ap (λ (r : Reading). r.modules) last ∙ sym t.modules)

  refused_once : (f g : ReadFault) → IsRefusedAt default text f → IsRefusedAt default text g → f ≡ g
  refused_once f g s t =
      let e : s.tokens ≡ t.tokens = one s.tokens t.tokens s.spelled t.spelled in
      let P : List Token → Type 0 = λ tokens. IsFault default (names_of text tokens) (words_of text tokens) t.place t.why in
      let same = one_fault default (names_of text s.tokens) (words_of text s.tokens) s.place t.place s.why t.why s.first (subst P (sym e) t.first) in
      same_fault f g
      (s.line ∙ ap (λ (tokens : List Token). line_of text (start_of text tokens s.place)) e ∙ ap (λ (k : ℕ). line_of text (start_of text t.tokens k)) same.0 ∙ sym t.line)
      (s.kind ∙ ap kind_of same.1 ∙ sym t.kind)

  pub one_first_fault : (f g : ReadFault) → IsFirstFault default text f → IsFirstFault default text g → f ≡ g
  one_first_fault f g (inl s) (inl t) = s.1 ∙ sym t.1
  one_first_fault f g (inl s) (inr t) = absurd (omega (arith, s.0, t.short))
  one_first_fault f g (inr s) (inl t) = absurd (omega (arith, s.short, t.0))
  one_first_fault f g (inr s) (inr t) = refused_once f g s t

  pub never_both : (a : ModuleList) (f : ReadFault) → Says default text a → IsFirstFault default text f → ⊥
  never_both a f s (inl t) = omega (arith, s.short, t.0)
  never_both a f s (inr t) =
      let e : s.tokens ≡ t.tokens = one s.tokens t.tokens s.spelled t.spelled in
      let P : List Token → Type 0 = λ tokens. IsFault default (names_of text tokens) (words_of text tokens) t.place t.why in
      no_fault default (names_of text s.tokens) (words_of text s.tokens) (record { state = Outside; so_far = last_of default text a s }) t.place t.why refl (leads_by default text a s) (subst P (sym e) t.first)
