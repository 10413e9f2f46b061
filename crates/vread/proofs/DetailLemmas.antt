-- The word of a fault is on its line, and within the text.
use Rattle.std.proofs.Common.{◌≡◌, inl, inr, ℕ, zero, suc, Bool, true, false, cond, ◌==◌, List, [], ◌∷◌, Option, Some, None, All, length, refl, sym, ap, subst, ◌∙◌}
use Rattle.std.specs.Prelude.{IfSome, option_map, slice_get}
use Rattle.std.specs.Option.{option_map_or, option_or}
use Rattle.std.proofs.lemmas.Bool.{eqb-true}
use Rattle.std.proofs.lemmas.List.Elements.{All-head, All-tail}
use Rattle.lexing.specs.Lines.{line_of}
use Rattle.lexing.specs.kept.Texts as texts
use Rattle.lexing.specs.declared.token.Token as tokens
use Rattle.vtext.specs.declared.fault.ReadFault.{ReadFault}
use Rattle.vtext.specs.declared.fault.ReadFaultKind.{ReadFaultKind}
use Rattle.vtext.specs.Modules.{ModuleEntry, ModuleList}
use Rattle.vtext.specs.ReadFaults.{kind_of}
use Rattle.vtext.specs.Reads.{IsFirstFault, start_of}
use Rattle.elaboration.specs.declared.fault_places.FaultPlace.{FaultPlace}
use Rattle.elaboration.specs.Elaborations.{elaboration_fault}
use Rattle.elaboration.specs.FaultPlaces.{fault_place, top_place}
use Rattle.elaboration.specs.Ports.{fault_at}
use Rattle.elaboration.specs.Tops.{top_of}
use Rattle.vread.specs.declared.detail.FaultDetail.{FaultDetail}
use Rattle.vread.specs.declared.detail.FaultWord.{FaultWord}
use Rattle.vread.specs.declared.detail.FaultWord.TheVariants.{Nothing, Token}
use Rattle.vread.specs.Details.{IsFaultDetail, IsFirstDetail, IsLateDetail, place_word, refused_word, token_from, word_from}
use Rattle.vread.specs.kept.Details.{IsOnLine, IsWordInside}
use Rattle.vread.specs.LateFaults.{design_fault, late_fault, scopes_fault}
use Rattle.vread.specs.Reads.{IsReadFault}
use Rattle.vread.proofs.AnswerLemmas.{Apart, OneList}

some_is : {X : Type 0} (x y : X) → Some x ≡ Some y → x ≡ y
some_is x y e = cc

none_is : {X : Type 0} (x : X) → ◌≡◌ {A = Option X} None (Some x) → ⊥
none_is x e = cc

-- Within the text.

module _ (size : ℕ) where
  from_inside : (list : List tokens.Token) (start : ℕ) → All (texts.IsInside size) list → IsWordInside size (word_from list start)
  from_inside [] start h = tt
  from_inside (t ∷ ts) start h = step (t.start == start) (from_inside ts start (All-tail (texts.IsInside size) t ts h))
    where
      step : (b : Bool) → IsWordInside size (word_from ts start) → IsWordInside size (option_map_or Token (cond b (Some t) (token_from ts start)) Nothing)
      step true rest = All-head (texts.IsInside size) t ts h
      step false rest = rest

  pub place_inside : (list : List tokens.Token) (place : Option FaultPlace) → All (texts.IsInside size) list → IsWordInside size (place_word list place)
  place_inside list None h = tt
  place_inside list (Some p) h = from_inside list p.start h

  pub refused_inside : (list : List tokens.Token) (k : ℕ) → All (texts.IsInside size) list → IsWordInside size (refused_word (slice_get list k))
  refused_inside [] k h = tt
  refused_inside (t ∷ ts) zero h = All-head (texts.IsInside size) t ts h
  refused_inside (t ∷ ts) (suc k) h = refused_inside ts k (All-tail (texts.IsInside size) t ts h)

-- On the line.

module _ (text : List ℕ) (fault : ReadFault) where
  refused_on : (token : Option tokens.Token) → fault.line ≡ line_of text (option_map_or (λ (t : tokens.Token). t.start) token (length text))
      → IsOnLine text fault (refused_word token)
  refused_on None h = h
  refused_on (Some token) h = h

  from_on : (list : List tokens.Token) (start : ℕ) → fault.line ≡ line_of text start → IsOnLine text fault (word_from list start)
  from_on [] start h = tt
  from_on (t ∷ ts) start h = step (t.start == start) refl (from_on ts start h)
    where
      step : (b : Bool) → (t.start == start) ≡ b → IsOnLine text fault (word_from ts start) → IsOnLine text fault (option_map_or Token (cond b (Some t) (token_from ts start)) Nothing)
      step true is rest = h ∙ ap (line_of text) (sym (eqb-true t.start start is))
      step false is rest = rest

  place_on : (list : List tokens.Token) (place : Option FaultPlace) → IfSome place (λ p. fault.line ≡ line_of text p.start) → IsOnLine text fault (place_word list place)
  place_on list None h = tt
  place_on list (Some p) h = from_on list p.start h

  -- `lines` and `at_top` are the laws of the places of faults of modules
  module _ (lines : (modules : List (ℕ × ModuleEntry)) (found : ReadFault) → elaboration_fault text modules ≡ Some found → IfSome (fault_place modules) (λ p. found.line ≡ line_of text p.start))
      (at_top : (modules : List (ℕ × ModuleEntry)) → elaboration_fault text modules ≡ None → (top : ℕ × ModuleEntry) → top_of modules ≡ Some top → fault_place modules ≡ Some (top_place top))
      (list : ModuleList) where
    top_line : (start : ℕ) (kind : Option ReadFaultKind) → option_map (fault_at text start) kind ≡ Some fault → fault.line ≡ line_of text start
    top_line start None e = absurd (none_is fault e)
    top_line start (Some kind) e = sym (ap (λ (f : ReadFault). f.line) (some_is _ fault e))

    late_by : (early : Option ReadFault) → elaboration_fault text list.modules ≡ early → (top : Option (ℕ × ModuleEntry)) → top_of list.modules ≡ top
        → option_or early (option_map_or (design_fault text list) top None) ≡ Some fault → IfSome (fault_place list.modules) (λ p. fault.line ≡ line_of text p.start)
    late_by (Some found) e top is h = lines list.modules fault (e ∙ h)
    late_by None e None is h = absurd (none_is fault h)
    late_by None e (Some top) is h =
        subst (λ (p : Option FaultPlace). IfSome p (λ q. fault.line ≡ line_of text q.start)) (sym (at_top list.modules e top is))
        (top_line top.1.start (scopes_fault list.names list.modules top.1) h)

    late_on : late_fault text list ≡ Some fault → IfSome (fault_place list.modules) (λ p. fault.line ≡ line_of text p.start)
    late_on h = late_by (elaboration_fault text list.modules) refl (top_of list.modules) refl h

module _ (default : Option ℕ) (text : List ℕ)
    (lines : (modules : List (ℕ × ModuleEntry)) (found : ReadFault) → elaboration_fault text modules ≡ Some found → IfSome (fault_place modules) (λ p. found.line ≡ line_of text p.start))
    (at_top : (modules : List (ℕ × ModuleEntry)) → elaboration_fault text modules ≡ None → (top : ℕ × ModuleEntry) → top_of modules ≡ Some top → fault_place modules ≡ Some (top_place top))
    (one_list : OneList default text) (apart : Apart default text)
    (one_fault : (f g : ReadFault) → IsReadFault default text f → IsReadFault default text g → f ≡ g) where
  first_on_line : (detail : FaultDetail) (fault : ReadFault) → IsFirstDetail default text detail → IsReadFault default text fault → IsOnLine text fault detail.word
  first_on_line detail fault d read =
      let told : ReadFault = record { line = line_of text (start_of text d.list d.place); kind = kind_of d.why } in
      let first : IsFirstFault default text told = inr (record { short = d.short; tokens = d.list; spelled = d.spelled; place = d.place; why = d.why; first = d.first; line = refl; kind = refl }) in
      subst (λ (w : FaultWord). IsOnLine text fault w) (sym d.word)
      (refused_on text fault (slice_get d.list d.place) (ap (λ (f : ReadFault). f.line) (one_fault fault told read (inl first))))

  late_on_line : (detail : FaultDetail) (fault : ReadFault) → IsLateDetail default text detail → IsReadFault default text fault → IsOnLine text fault detail.word
  late_on_line detail fault d (inl first) = absurd (apart d.modules fault d.says first)
  late_on_line detail fault d (inr late) =
      let same : late.list ≡ d.modules = one_list late.list d.modules late.says d.says in
      subst (λ (w : FaultWord). IsOnLine text fault w) (sym d.word)
      (place_on text fault d.list (fault_place d.modules.modules) (late_on text fault lines at_top d.modules (ap (late_fault text) (sym same) ∙ late.late)))

  pub detail_on_line : (detail : FaultDetail) (fault : ReadFault) → IsFaultDetail default text detail → IsReadFault default text fault → IsOnLine text fault detail.word
  detail_on_line detail fault (inl long) read = subst (λ (w : FaultWord). IsOnLine text fault w) (sym long.word) tt
  detail_on_line detail fault (inr (inl first)) read = first_on_line detail fault first read
  detail_on_line detail fault (inr (inr late)) read = late_on_line detail fault late read
