-- What the lines of the grammar write for the parts of a text is read as what these say.
use Rattle.std.proofs.Common.{ℕ, List, [], ◌∷◌, Option, Some, None, refl, ap}
use Rattle.vtext.specs.declared.parser_state.ParserState.{ParserState}
use Rattle.vtext.specs.declared.parser_state.ParserState.TheVariants.{Outside, ModuleHead, ModuleName, Items}
use Rattle.vtext.specs.declared.word.Word.{Word}
use Rattle.vtext.specs.declared.word.Word.TheVariants.{Endmodule, Name}
use Rattle.vtext.specs.declared.word.Placed.{Placed}
use Rattle.vtext.specs.Causes.{end_cause, module_cause}
use Rattle.vtext.specs.Notes.{finished}
use Rattle.vtext.specs.Readings.{Reading, unread}
use Rattle.vtext.specs.Trees.{AreItemsAdmitted, AreMarked, ArePartsAdmitted, AreWritten, IsItemAdmitted, IsModuleAdmitted, Item, Mark, ModuleTree, Part, after_body, after_header, after_item, after_items, after_parts, header_then, item_then, items_then, parts_then, plain}
use Rattle.vtext.specs.Trees.Item.{port_item, net_item, gate_item, instance_item}
use Rattle.vtext.specs.Trees.Part.{directive, module_part}
use Rattle.vtext.specs.Turns.{Walk, goes}
use Rattle.vtext.specs.Walks.{Leads, start}
use Rattle.vtext.proofs.TreeConnections.{instance_item_read}
use Rattle.vtext.proofs.TreeDeclarations.{net_item_read, port_item_read}
use Rattle.vtext.proofs.TreeGates.{gate_item_read}
use Rattle.vtext.proofs.TreeHeaders.{header_read}
use Rattle.vtext.proofs.TreeWords as words
use Rattle.vtext.proofs.TreeWords.{free_word_read, mark_read, word_read}

module _ (default : Option ℕ) (table : List (List ℕ)) where
  module _ (after : Option Word) (end : Walk) where
    abbrev Reads : ParserState → Reading → List Mark → Type 0
    Reads = words.Reads default table after end

    item_read : (r : Reading) (item : Item) (rest : List Mark) → IsItemAdmitted default table r item → Reads Items (after_item default table r item) rest
        → Reads Items r (item_then item rest)
    item_read r (port_item direction kind range n names) rest admitted onward = port_item_read default table after end r direction kind range n names rest admitted onward
    item_read r (net_item kind range n names) rest admitted onward = net_item_read default table after end r kind range n names rest admitted onward
    item_read r (gate_item kind delay i instances) rest admitted onward = gate_item_read default table after end r kind delay i instances rest admitted onward
    item_read r (instance_item of i instances) rest admitted onward = instance_item_read default table after end r of i instances rest admitted onward

    items_read : (r : Reading) (items : List Item) (rest : List Mark) → AreItemsAdmitted default table r items → Reads Items (after_items default table r items) rest
        → Reads Items r (items_then items rest)
    items_read r [] rest admitted onward = onward
    items_read r (item ∷ items) rest admitted onward =
        item_read r item (items_then items rest) admitted.0 (items_read (after_item default table r item) items rest admitted.1 onward)

    -- behind the word `module`
    body_read : (r : Reading) (m : ModuleTree) (rest : List Mark) → IsModuleAdmitted default table r m
        → Reads Outside (finished (after_body default table r m)) rest
        → Reads ModuleName (record r { start = m.start }) (plain (Name m.name) ∷ header_then m.header (items_then m.items (plain Endmodule ∷ rest)))
    body_read r m rest admitted onward =
        let named : Reading = record r { start = m.start; name = m.name } in
        let last : Reading = after_body default table r m in
        free_word_read ModuleHead named (module_cause r m.name) admitted.free (λ start. refl)
        (header_read default table after end named m.header (items_then m.items (plain Endmodule ∷ rest)) admitted.header_admitted
        (items_read (after_header named m.header) m.items (plain Endmodule ∷ rest) admitted.items_admitted
        (free_word_read Outside (finished last) (end_cause last) admitted.directed (λ start. refl) onward)))

  -- where the words of all parts lead
  abbrev over : Reading → List Part → Walk
  over r parts = record { state = Outside; so_far = after_parts default table r parts }

  parts_read : (r : Reading) (parts : List Part) → ArePartsAdmitted default table r parts → words.Reads default table None (over r parts) Outside r (parts_then parts [])
  parts_read r [] admitted = record { leads = nothing }
    where
      nothing : (words : List Placed) → AreMarked [] words → Leads default table (record { state = Outside; so_far = r }) words None (over r [])
      nothing [] marked = refl
      nothing (p ∷ words) marked = absurd marked
  parts_read r (directive unit ∷ parts) admitted = word_read Outside (record r { unit = Some unit }) (λ start. refl) (parts_read (record r { unit = Some unit }) parts admitted.1)
  parts_read r (module_part m ∷ parts) admitted =
      let last : Reading = finished (after_body default table r m) in
      mark_read ModuleName (record r { start = m.start }) (λ here there. ap (λ (place : ℕ). goes ModuleName (record r { start = place })) there)
      (body_read None (over last parts) r m (parts_then parts []) admitted.0 (parts_read last parts admitted.1))

  -- a text that parts write is read as what they say
  pub text_read : (words : List Placed) (parts : List Part) → AreWritten parts words → ArePartsAdmitted default table unread parts
      → Leads default table start words None (over unread parts)
  text_read words parts written admitted = (parts_read unread parts admitted).leads words written
