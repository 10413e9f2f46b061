-- Where the fault of modules lies: on the line of the fault.
use Rattle.std.proofs.Common.{◌≡◌, ℕ, ◌+◌, ◌<◌, Bool, true, false, cond, List, [], ◌∷◌, Option, Some, None, length, drop, get_or, refl, sym, ap, ◌∙◌}
use Rattle.std.specs.Prelude.{IfSome, option_map}
use Rattle.std.specs.List.{filter, find}
use Rattle.std.specs.Option.{option_map_or, option_or}
use Rattle.std.proofs.lemmas.List.{at_drop_more}
use Rattle.lexing.specs.Lines.{line_of}
use Rattle.edits.specs.declared.fault.EditFault.TheVariants.{TooMany}
use Rattle.vtext.specs.declared.fault.ReadFault.{ReadFault}
use Rattle.vtext.specs.declared.fault.ReadFaultKind.{ReadFaultKind}
use Rattle.vtext.specs.declared.fault.ReadFaultKind.TheVariants.{Edit, ManyTops, Recursive}
use Rattle.vtext.specs.declared.net.Net.{Net}
use Rattle.vtext.specs.Modules.{InstanceEntry, ModuleEntry}
use Rattle.elaboration.specs.declared.fault_places.FaultPlace.{FaultPlace}
use Rattle.elaboration.specs.Elaborations.{elaboration_fault, levels_fault}
use Rattle.elaboration.specs.FaultPlaces.{fault_place, instance_place, module_place, refused_from, refused_in, together_place, top_place, tops_place}
use Rattle.elaboration.specs.Levels.{has_many_instances}
use Rattle.elaboration.specs.Ports.{fault_at, first_instance_fault, instance_fault, second_pass, second_pass_from}
use Rattle.elaboration.specs.Tops.{is_recursive, is_top, no_top, third_pass, top_of, tops_fault, tops_of}
use Rattle.elaboration.proofs.PortLemmas.{blank}
use Rattle.elaboration.proofs.TopLemmas.{find_of_filter}

pub refused_next : (modules : List (ℕ × ModuleEntry)) (place : ℕ) (outer : ModuleEntry) → place < length modules → outer ≡ (get_or modules place blank).1
    → refused_from modules (drop place modules) ≡ option_or (refused_in modules outer.nets outer.instances) (refused_from modules (drop (place + 1) modules))
refused_next modules place outer within same =
    at_drop_more (refused_from modules) modules place blank within
    ∙ ap (λ (m : ModuleEntry). option_or (refused_in modules m.nets m.instances) (refused_from modules (drop (place + 1) modules))) (sym same)

some_is : {X : Type 0} (x y : X) → Some x ≡ Some y → x ≡ y
some_is x y e = cc

some_or_none : {X : Type 0} (x : X) → ◌≡◌ {A = Option X} (Some x) None → ⊥
some_or_none x e = cc

early_none : {X : Type 0} (a b : Option X) → option_or a b ≡ None → a ≡ None
early_none None b e = refl
early_none (Some x) b e = absurd (some_or_none x e)

-- Instances: there is a fault where there is a place, and on its line.

module _ (text : List ℕ) where
  abbrev pub Agree : Option ReadFault → Option FaultPlace → Type 0
  Agree None None = Unit {0}
  Agree None (Some place) = ⊥
  Agree (Some fault) None = ⊥
  Agree (Some fault) (Some place) = fault.line ≡ line_of text place.start

  agree_or : (a b : Option ReadFault) (p q : Option FaultPlace) → Agree a p → Agree b q → Agree (option_or a b) (option_or p q)
  agree_or None b None q h k = k
  agree_or None b (Some place) q h k = absurd h
  agree_or (Some fault) b None q h k = absurd h
  agree_or (Some fault) b (Some place) q h k = h

  instance_agree : (modules : List (ℕ × ModuleEntry)) (nets : List (ℕ × Net)) (i : InstanceEntry) (kind : Option ReadFaultKind)
      → Agree (option_map (fault_at text i.start) kind) (option_map (instance_place modules nets i) kind)
  instance_agree modules nets i None = tt
  instance_agree modules nets i (Some kind) = refl

  module _ (modules : List (ℕ × ModuleEntry)) where
    in_agree : (nets : List (ℕ × Net)) (instances : List InstanceEntry) → Agree (first_instance_fault text modules nets instances) (refused_in modules nets instances)
    in_agree nets [] = tt
    in_agree nets (i ∷ more) =
        agree_or (option_map (fault_at text i.start) (instance_fault modules nets i)) (first_instance_fault text modules nets more)
        (option_map (instance_place modules nets i) (instance_fault modules nets i)) (refused_in modules nets more)
        (instance_agree modules nets i (instance_fault modules nets i)) (in_agree nets more)

    from_agree : (some : List (ℕ × ModuleEntry)) → Agree (second_pass_from text modules some) (refused_from modules some)
    from_agree [] = tt
    from_agree (m ∷ more) =
        agree_or (first_instance_fault text modules m.1.nets m.1.instances) (second_pass_from text modules more)
        (refused_in modules m.1.nets m.1.instances) (refused_from modules more) (in_agree m.1.nets m.1.instances) (from_agree more)

    -- The modules together.

    abbrev IsAt : ReadFault → FaultPlace → Type 0
    IsAt fault place = fault.line ≡ line_of text place.start

    at_top : (top : ℕ × ModuleEntry) (many : Bool) (fault : ReadFault) → cond many (Some (fault_at text top.1.start (Edit TooMany))) None ≡ Some fault → IsAt fault (top_place top)
    at_top top true fault e = sym (ap (λ (f : ReadFault). f.line) (some_is _ fault e))
    at_top top false fault e = absurd (some_or_none fault (sym e))

    alone_at : (tops : List (ℕ × ModuleEntry)) → tops_of modules ≡ tops → (fault : ReadFault)
        → option_or (tops_fault text tops) (option_map_or (levels_fault text modules) (top_of modules) None) ≡ Some fault → IfSome (tops_place tops) (IsAt fault)
    alone_at [] is fault e = tt
    alone_at (top ∷ []) is fault e =
        at_top top (has_many_instances modules top.1) fault
        (sym (ap (λ (o : Option (ℕ × ModuleEntry)). option_map_or (levels_fault text modules) o None) (find_of_filter (is_top modules) modules top [] is)) ∙ e)
    alone_at (top ∷ second ∷ more) is fault e = sym (ap (λ (f : ReadFault). f.line) (some_is _ fault e))

    together_at : (ring : Option (ℕ × ModuleEntry)) (fault : ReadFault)
        → option_or (option_map_or (λ m. Some (fault_at text m.1.start Recursive)) ring (tops_fault text (tops_of modules))) (option_map_or (levels_fault text modules) (top_of modules) None) ≡ Some fault
        → IfSome (option_or (option_map module_place ring) (tops_place (tops_of modules))) (IsAt fault)
    together_at None fault e = alone_at (tops_of modules) refl fault e
    together_at (Some m) fault e = sym (ap (λ (f : ReadFault). f.line) (some_is _ fault e))

    all_at : (second : Option ReadFault) (place : Option FaultPlace) → Agree second place → (fault : ReadFault)
        → option_or second (option_or (third_pass text modules) (option_map_or (levels_fault text modules) (top_of modules) None)) ≡ Some fault
        → IfSome (option_or place (together_place modules)) (IsAt fault)
    all_at None None h fault e = together_at (find (is_recursive modules) modules) fault e
    all_at None (Some place) h fault e = absurd h
    all_at (Some found) None h fault e = absurd h
    all_at (Some found) (Some place) h fault e = sym (ap (λ (f : ReadFault). f.line) (some_is found fault e)) ∙ h

    pub fault_at_place : (fault : ReadFault) → elaboration_fault text modules ≡ Some fault → IfSome (fault_place modules) (IsAt fault)
    fault_at_place fault e = all_at (second_pass text modules) (refused_from modules modules) (from_agree modules) fault e

    -- without a fault

    alone_top : (tops : List (ℕ × ModuleEntry)) (top : ℕ × ModuleEntry) → tops_of modules ≡ tops → top_of modules ≡ Some top → tops_fault text tops ≡ None → tops_place tops ≡ Some (top_place top)
    alone_top [] top is first none = absurd (some_or_none no_top none)
    alone_top (m ∷ []) top is first none = ap (λ (found : ℕ × ModuleEntry). Some (top_place found)) (some_is m top (sym (find_of_filter (is_top modules) modules m [] is) ∙ first))
    alone_top (m ∷ second ∷ more) top is first none = absurd (some_or_none _ none)

    together_top : (ring : Option (ℕ × ModuleEntry)) (top : ℕ × ModuleEntry) (last : Option ReadFault) → top_of modules ≡ Some top
        → option_or (option_map_or (λ m. Some (fault_at text m.1.start Recursive)) ring (tops_fault text (tops_of modules))) last ≡ None
        → option_or (option_map module_place ring) (tops_place (tops_of modules)) ≡ Some (top_place top)
    together_top None top last first none = alone_top (tops_of modules) top refl first (early_none (tops_fault text (tops_of modules)) last none)
    together_top (Some m) top last first none = absurd (some_or_none _ none)

    all_top : (second : Option ReadFault) (place : Option FaultPlace) → Agree second place → (top : ℕ × ModuleEntry) (last : Option ReadFault) → top_of modules ≡ Some top
        → option_or second (option_or (third_pass text modules) last) ≡ None → option_or place (together_place modules) ≡ Some (top_place top)
    all_top None None h top last first none = together_top (find (is_recursive modules) modules) top last first none
    all_top None (Some place) h top last first none = absurd h
    all_top (Some found) place h top last first none = absurd (some_or_none found none)

    pub faultless_at_top : elaboration_fault text modules ≡ None → (top : ℕ × ModuleEntry) → top_of modules ≡ Some top → fault_place modules ≡ Some (top_place top)
    faultless_at_top none top first =
        all_top (second_pass text modules) (refused_from modules modules) (from_agree modules) top (option_map_or (levels_fault text modules) (top_of modules) None) first none
