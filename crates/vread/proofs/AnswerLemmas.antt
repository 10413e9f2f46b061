-- A text has one answer: its design or its fault.
use Rattle.std.proofs.Common.{◌≡◌, ◌⊎◌, inl, inr, ℕ, List, Option, Some, None, IsSome, refl, sym, ap, ◌∙◌}
use Rattle.std.specs.Prelude.{option_map}
use Rattle.std.specs.Option.{option_map_or, option_or}
use Rattle.design.specs.Netlist.{Netlist}
use Rattle.vtext.specs.declared.fault.ReadFault.{ReadFault}
use Rattle.vtext.specs.Modules.{ModuleEntry, ModuleList}
use Rattle.vtext.specs.Reads.{IsFirstFault, Says}
use Rattle.elaboration.specs.Elaborations.{elaboration_fault}
use Rattle.elaboration.specs.Tops.{top_of}
use Rattle.vread.specs.LateFaults.{design_fault, late_fault}
use Rattle.vread.specs.Netlists.{design_of, netlist_of}
use Rattle.vread.specs.Reads.{IsLateFault, IsReadFault, Spells}

some_is : {X : Type 0} (x y : X) → Some x ≡ Some y → x ≡ y
some_is x y e = cc

none_is : {X : Type 0} (x : X) → ◌≡◌ {A = Option X} None (Some x) → ⊥
none_is x e = cc

module _ (default : Option ℕ) (text : List ℕ) where
  abbrev pub OneList : Type 0
  OneList = (a b : ModuleList) → Says default text a → Says default text b → a ≡ b

  abbrev pub OneFault : Type 0
  OneFault = (f g : ReadFault) → IsFirstFault default text f → IsFirstFault default text g → f ≡ g

  abbrev pub Apart : Type 0
  Apart = (a : ModuleList) (f : ReadFault) → Says default text a → IsFirstFault default text f → ⊥

  pub one_design : OneList → (a b : Netlist) → Spells default text a → Spells default text b → a ≡ b
  one_design one a b s t = some_is a b (sym s.whole ∙ ap design_of (one s.list t.list s.says t.says) ∙ t.whole)

  one_late : OneList → (f g : ReadFault) → IsLateFault default text f → IsLateFault default text g → f ≡ g
  one_late one f g s t = some_is f g (sym s.late ∙ ap (late_fault text) (one s.list t.list s.says t.says) ∙ t.late)

  pub one_read_fault : OneList → OneFault → Apart → (f g : ReadFault) → IsReadFault default text f → IsReadFault default text g → f ≡ g
  one_read_fault one fault apart f g (inl s) (inl t) = fault f g s t
  one_read_fault one fault apart f g (inl s) (inr t) = absurd (apart t.list f t.says s)
  one_read_fault one fault apart f g (inr s) (inl t) = absurd (apart s.list g s.says t)
  one_read_fault one fault apart f g (inr s) (inr t) = one_late one f g s t

  pub never_both : OneList → Apart → (a : Netlist) (f : ReadFault) → Spells default text a → IsReadFault default text f → ⊥
  never_both one apart a f s (inl t) = apart s.list f s.says t
  never_both one apart a f s (inr t) = none_is f (sym s.faultless ∙ ap (late_fault text) (one s.list t.list s.says t.says) ∙ t.late)

  -- `with_top` says that modules without a fault have a top
  module _ (with_top : (modules : List (ℕ × ModuleEntry)) → elaboration_fault text modules ≡ None → IsSome (top_of modules)) where
    early_none : (early late : Option ReadFault) → option_or early late ≡ None → early ≡ None
    early_none None late e = refl
    early_none (Some fault) late e = absurd (none_is fault (sym e))

    made_of : (list : ModuleList) (top : Option (ℕ × ModuleEntry)) → IsSome top → (netlist : Netlist) × (option_map (netlist_of list) top ≡ Some netlist)
    made_of list (Some top) there = (netlist_of list top, refl)
    made_of list None there = absurd (cc)

    answer_by : (list : ModuleList) → Says default text list → (late : Option ReadFault) → late_fault text list ≡ late
        → ((netlist : Netlist) × Spells default text netlist) ⊎ ((fault : ReadFault) × IsReadFault default text fault)
    answer_by list says (Some fault) e = inr (fault, inr (record { list = list; says = says; late = e }))
    answer_by list says None e =
        let early = early_none (elaboration_fault text list.modules) (option_map_or (design_fault text list) (top_of list.modules) None) e in
        let there : (netlist : Netlist) × (design_of list ≡ Some netlist) = made_of list (top_of list.modules) (with_top list.modules early) in
        inl (there.0, record { list = list; says = says; faultless = e; whole = there.1 })

    pub some_answer : ((list : ModuleList) × Says default text list) ⊎ ((fault : ReadFault) × IsFirstFault default text fault)
        → ((netlist : Netlist) × Spells default text netlist) ⊎ ((fault : ReadFault) × IsReadFault default text fault)
    some_answer (inl said) = answer_by said.0 said.1 (late_fault text said.0) refl
    some_answer (inr first) = inr (first.0, inl first.1)
