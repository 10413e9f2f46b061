-- Instances of modules are read, with their port connections, and the items that they stand in.
use Rattle.std.proofs.Common.{◌≡◌, false, ℕ, List, [], ◌∷◌, Option, Some, None, fold, refl, ap, ◌∙◌}
use Rattle.vtext.specs.declared.gate.Terminal.{Terminal}
use Rattle.vtext.specs.declared.gate.Terminal.TheVariants.{Net, Bit, Constant}
use Rattle.vtext.specs.declared.parser_state.Indexed.TheVariants as indexed
use Rattle.vtext.specs.declared.parser_state.ParserState.{ParserState}
use Rattle.vtext.specs.declared.parser_state.ParserState.TheVariants.{Items, ModuleInstanceEnd, ModuleInstanceName, ModuleInstanceOpen, NamedClose, NamedEnd, NamedOpen, NamedStart, NamedTerminal, OrderedEnd, OrderedStart}
use Rattle.vtext.specs.declared.parser_state.ParserState.TheVariants as state
use Rattle.vtext.specs.declared.word.Word.{Word}
use Rattle.vtext.specs.declared.word.Word.TheVariants.{Name, Open, Close, Semicolon}
use Rattle.vtext.specs.Causes.{instance_cause, is_index, use_cause}
use Rattle.vtext.specs.Notes.{connect, instantiated, name_module_instance}
use Rattle.vtext.specs.Readings.{Reading}
use Rattle.vtext.specs.Trees.{AreConnectionsAdmitted, AreModuleInstancesAdmitted, AreNamedAdmitted, ArePlacesAdmitted, Connections, IsItemAdmitted, IsModuleInstanceAdmitted, IsPlaceAdmitted, Mark, ModuleInstance, NamedPort, after_connections, after_item, after_module_instance, after_named, connections_then, item_then, module_instance_then, module_instances_then, more_named_then, place_then, places_then, plain, terminal_then}
use Rattle.vtext.specs.Trees.Connections.{no_connections, by_order, by_order_late, by_name}
use Rattle.vtext.specs.Trees.Item.{instance_item}
use Rattle.vtext.specs.Turns.{Walk, goes}
use Rattle.vtext.proofs.MarkLemmas.{first_of}
use Rattle.vtext.proofs.TreeTerminals.{bit_read, net_read, places_end}
use Rattle.vtext.proofs.TreeWords as words
use Rattle.vtext.proofs.TreeWords.{free, free_word_read, mark_read, word_read}

module _ (default : Option ℕ) (table : List (List ℕ)) (after : Option Word) (end : Walk) where
  abbrev Reads : ParserState → Reading → List Mark → Type 0
  Reads = words.Reads default table after end

  -- By order.

  -- behind the opening parenthesis
  first_read : (r : Reading) (terminal : Terminal) (marks : List Mark) → is_index (first_of marks after) ≡ false → IsPlaceAdmitted table r (Some terminal)
      → Reads OrderedEnd (connect r (Some terminal)) marks → Reads state.Connections r (terminal_then terminal marks)
  first_read r (Net n) marks apart admitted onward =
      net_read default table after end state.Connections OrderedEnd r (connect r (Some (Net n))) n indexed.Ordered (use_cause table r n) marks apart admitted (λ start w. refl) onward
  first_read r (Bit n i) marks apart admitted onward =
      bit_read default table after end indexed.Ordered state.Connections r n i marks admitted (λ start. refl) onward
  first_read r (Constant value) marks apart admitted onward = word_read OrderedEnd (connect r (Some (Constant value))) (λ start. refl) onward

  -- behind a comma
  ordered_read : (r : Reading) (terminal : Terminal) (marks : List Mark) → is_index (first_of marks after) ≡ false → IsPlaceAdmitted table r (Some terminal)
      → Reads OrderedEnd (connect r (Some terminal)) marks → Reads OrderedStart r (terminal_then terminal marks)
  ordered_read r (Net n) marks apart admitted onward =
      net_read default table after end OrderedStart OrderedEnd r (connect r (Some (Net n))) n indexed.Ordered (use_cause table r n) marks apart admitted (λ start w. refl) onward
  ordered_read r (Bit n i) marks apart admitted onward =
      bit_read default table after end indexed.Ordered OrderedStart r n i marks admitted (λ start. refl) onward
  ordered_read r (Constant value) marks apart admitted onward = word_read OrderedEnd (connect r (Some (Constant value))) (λ start. refl) onward

  place_read : (r : Reading) (place : Option Terminal) (places : List (Option Terminal)) (rest : List Mark) → ArePlacesAdmitted table r (place ∷ places)
      → Reads ModuleInstanceEnd (instantiated (fold connect r (place ∷ places))) rest → Reads OrderedStart r (place_then place (places_then places rest))
  place_read r None [] rest admitted onward = word_read ModuleInstanceEnd (instantiated (connect r None)) (λ start. refl) onward
  place_read r None (place ∷ places) rest admitted onward =
      let now : Reading = connect r None in
      word_read OrderedStart now (λ start. refl) (place_read now place places rest admitted.1 onward)
  place_read r (Some terminal) [] rest admitted onward =
      let now : Reading = connect r (Some terminal) in
      ordered_read r terminal (plain Close ∷ rest) refl admitted.0 (word_read ModuleInstanceEnd (instantiated now) (λ start. refl) onward)
  place_read r (Some terminal) (place ∷ places) rest admitted onward =
      let now : Reading = connect r (Some terminal) in
      ordered_read r terminal (places_then (place ∷ places) rest) refl admitted.0
      (word_read OrderedStart now (λ start. refl) (place_read now place places rest admitted.1 onward))

  places_read : (r : Reading) (places : List (Option Terminal)) (rest : List Mark) → ArePlacesAdmitted table r places
      → Reads ModuleInstanceEnd (instantiated (fold connect r places)) rest → Reads OrderedEnd r (places_then places rest)
  places_read r [] rest admitted onward = word_read ModuleInstanceEnd (instantiated r) (λ start. refl) onward
  places_read r (place ∷ places) rest admitted onward = word_read OrderedStart r (λ start. refl) (place_read r place places rest admitted onward)

  -- By name.

  -- behind the opening parenthesis
  enclosed_read : (r : Reading) (terminal : Option Terminal) (marks : List Mark) → IsPlaceAdmitted table r terminal
      → Reads NamedEnd (connect r terminal) marks → Reads NamedTerminal r (place_then terminal (plain Close ∷ marks))
  enclosed_read r None marks admitted onward = word_read NamedEnd (connect r None) (λ start. refl) onward
  enclosed_read r (Some (Net n)) marks admitted onward =
      let now : Reading = connect r (Some (Net n)) in
      net_read default table after end NamedTerminal NamedClose r now n indexed.Named (use_cause table r n) (plain Close ∷ marks) refl admitted (λ start w. refl)
      (word_read NamedEnd now (λ start. refl) onward)
  enclosed_read r (Some (Bit n i)) marks admitted onward =
      let now : Reading = connect r (Some (Bit n i)) in
      bit_read default table after end indexed.Named NamedTerminal r n i (plain Close ∷ marks) admitted (λ start. refl) (word_read NamedEnd now (λ start. refl) onward)
  enclosed_read r (Some (Constant value)) marks admitted onward =
      let now : Reading = connect r (Some (Constant value)) in
      word_read NamedClose now (λ start. refl) (word_read NamedEnd now (λ start. refl) onward)

  -- behind the dot
  port_read : (r : Reading) (c : NamedPort) (marks : List Mark) → IsPlaceAdmitted table (record r { port = Some c.port }) c.terminal
      → Reads NamedEnd (after_named r c) marks → Reads state.NamedPort r (plain (Name c.port) ∷ plain Open ∷ place_then c.terminal (plain Close ∷ marks))
  port_read r c marks admitted onward =
      let now : Reading = record r { port = Some c.port } in
      word_read NamedOpen now (λ start. refl) (word_read NamedTerminal now (λ start. refl) (enclosed_read now c.terminal marks admitted onward))

  named_read : (r : Reading) (more : List NamedPort) (rest : List Mark) → AreNamedAdmitted table r more
      → Reads ModuleInstanceEnd (instantiated (fold after_named r more)) rest → Reads NamedEnd r (more_named_then more rest)
  named_read r [] rest admitted onward = word_read ModuleInstanceEnd (instantiated r) (λ start. refl) onward
  named_read r (c ∷ more) rest admitted onward =
      word_read NamedStart r (λ start. refl)
      (word_read state.NamedPort r (λ start. refl)
      (port_read r c (more_named_then more rest) admitted.0 (named_read (after_named r c) more rest admitted.1 onward)))

  -- NAME NAME ( optional(connections) ) { , NAME ( optional(connections) ) } ;

  connections_read : (r : Reading) (connections : Connections) (rest : List Mark) → AreConnectionsAdmitted table r connections
      → Reads ModuleInstanceEnd (instantiated (after_connections r connections)) rest → Reads state.Connections r (connections_then connections rest)
  connections_read r no_connections rest admitted onward = word_read ModuleInstanceEnd (instantiated r) (λ start. refl) onward
  connections_read r (by_order terminal places) rest admitted onward =
      first_read r terminal (places_then places rest) (places_end places rest after) admitted.0 (places_read (connect r (Some terminal)) places rest admitted.1 onward)
  connections_read r (by_order_late place places) rest admitted onward =
      let now : Reading = connect r None in
      word_read OrderedStart now (λ start. refl) (place_read now place places rest admitted.1 onward)
  connections_read r (by_name c more) rest admitted onward =
      word_read state.NamedPort r (λ start. refl)
      (port_read r c (more_named_then more rest) admitted.0 (named_read (after_named r c) more rest admitted.1 onward))

  module_instance_read : (r : Reading) (i : ModuleInstance) (rest : List Mark) → IsModuleInstanceAdmitted table r i
      → Reads ModuleInstanceEnd (after_module_instance r i) rest → Reads ModuleInstanceName r (module_instance_then i rest)
  module_instance_read r i rest admitted onward =
      let named : ℕ → Reading = λ place. name_module_instance r place i.name in
      let now : Reading = named i.start in
      mark_read ModuleInstanceOpen now
      (λ here there. free (instance_cause r i.name) (goes ModuleInstanceOpen (named here)) admitted.name ∙ ap (λ (place : ℕ). goes ModuleInstanceOpen (named place)) there)
      (word_read state.Connections now (λ start. refl) (connections_read now i.connections rest admitted.connections onward))

  more_module_instances : (r : Reading) (instances : List ModuleInstance) (rest : List Mark) → AreModuleInstancesAdmitted table r instances
      → Reads Items (fold after_module_instance r instances) rest → Reads ModuleInstanceEnd r (module_instances_then instances (plain Semicolon ∷ rest))
  more_module_instances r [] rest admitted onward = word_read Items r (λ start. refl) onward
  more_module_instances r (i ∷ instances) rest admitted onward =
      word_read ModuleInstanceName r (λ start. refl)
      (module_instance_read r i (module_instances_then instances (plain Semicolon ∷ rest)) admitted.0
      (more_module_instances (after_module_instance r i) instances rest admitted.1 onward))

  pub instance_item_read : (r : Reading) (of : ℕ) (i : ModuleInstance) (instances : List ModuleInstance) (rest : List Mark)
      → IsItemAdmitted default table r (instance_item of i instances) → Reads Items (after_item default table r (instance_item of i instances)) rest
      → Reads Items r (item_then (instance_item of i instances) rest)
  instance_item_read r of i instances rest admitted onward =
      let now : Reading = record r { of = of } in
      word_read ModuleInstanceName now (λ start. refl)
      (module_instance_read now i (module_instances_then instances (plain Semicolon ∷ rest)) admitted.0
      (more_module_instances (after_module_instance now i) instances rest admitted.1 onward))
