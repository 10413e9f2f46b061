-- What is left of the words behind each state of a walk: the rest of some tree, at which no cause holds.
use Rattle.std.proofs.Common.{◌≡◌, ◌⊎◌, inl, inr, ℕ, Bool, true, false, cond, List, [], ◌∷◌, Option, Some, None, Result, Ok, Err, refl}
use Rattle.vtext.specs.declared.cause.Cause.{Cause}
use Rattle.vtext.specs.declared.gate.Terminal.{Terminal}
use Rattle.vtext.specs.declared.parser_state.Declared.TheVariants as declared
use Rattle.vtext.specs.declared.parser_state.ParserState.{ParserState}
use Rattle.vtext.specs.declared.parser_state.ParserState.TheVariants as state
use Rattle.vtext.specs.declared.word.Word.{Word}
use Rattle.vtext.specs.declared.word.Word.TheVariants.{Name, Open, Close, Comma, Hash, Dot, Colon, OpenBracket, CloseBracket}
use Rattle.vtext.specs.declared.word.Placed.{Placed}
use Rattle.vtext.specs.Causes.{module_cause, header_cause}
use Rattle.vtext.specs.Notes.{connect, list_port}
use Rattle.vtext.specs.Readings.{Reading}
use Rattle.vtext.specs.Trees.{AreMarked, ArePartsAdmitted, IsModuleInstanceAdmitted, IsPlaceAdmitted, Mark, ModuleInstance, Part, after_module_instance, after_parts, module_instance_then, parts_then, place_then, plain}
use Rattle.vtext.specs.Turns.{Walk, goes, unless}
use Rattle.vtext.proofs.RestTrees.{Setting}
use Rattle.vtext.proofs.RestTrees as trees

-- words that stand behind one that was read
abbrev pub Follows : Word → List Mark → List Placed → Type 0
Follows w marks words = (place : ℕ) → AreMarked marks (record { word = w; start = place } ∷ words)

-- words that stand behind two
abbrev pub FollowsTwo : Word → Word → List Mark → List Placed → Type 0
FollowsTwo v w marks words = (place next : ℕ) → AreMarked marks (record { word = v; start = place } ∷ record { word = w; start = next } ∷ words)

module _ (s : Setting) where
  -- the words are the rest behind a state
  abbrev pub Rest : ParserState → Reading → List Placed → Type 0
  Rest state.Outside r words =
      (parts : List Part) × (AreMarked (parts_then parts []) words × (ArePartsAdmitted s.default s.table r parts × (s.last ≡ after_parts s.default s.table r parts)))
  Rest state.ModuleName r words =
      (n : ℕ) × ((module_cause r n ≡ None) × ((rest : trees.Head s (record r { name = n })) × AreMarked (plain (Name n) ∷ trees.head_marks s rest) words))
  Rest state.ModuleHead r words = (rest : trees.Head s r) × AreMarked (trees.head_marks s rest) words
  Rest state.Header r words = (rest : trees.Head s r) × Follows Open (trees.head_marks s rest) words
  Rest state.OlderNext r words = (rest : trees.Listed s r) × AreMarked (trees.listed_marks s rest) words
  Rest state.OlderName r words =
      (n : ℕ) × ((header_cause r n ≡ None) × ((rest : trees.Listed s (list_port r n)) × AreMarked (plain (Name n) ∷ trees.listed_marks s rest) words))
  Rest state.InlineStart r words = (rest : trees.Kinded s declared.InlinePort r) × AreMarked (trees.kinded_marks s declared.InlinePort r rest) words
  Rest state.InlineKind r words = (rest : trees.Ranged s declared.InlinePort r) × AreMarked (trees.ranged_marks s declared.InlinePort r rest) words
  Rest state.InlineName r words = (rest : trees.Declaration s declared.InlinePort r) × AreMarked (trees.declaration_marks s declared.InlinePort r rest) words
  Rest state.InlineNext r words = (rest : trees.Ports s r) × AreMarked (trees.ports_marks s rest) words
  Rest state.InlineMore r words = (rest : trees.Ports s r) × Follows Comma (trees.ports_marks s rest) words
  Rest state.HeaderEnd r words = (tail : trees.Tail s r) × AreMarked (trees.ended s tail) words
  Rest state.Items r words = (tail : trees.Tail s r) × AreMarked (trees.body s tail) words
  Rest state.PortStart r words = (rest : trees.Kinded s declared.Port r) × AreMarked (trees.kinded_marks s declared.Port r rest) words
  Rest state.PortKind r words = (rest : trees.Ranged s declared.Port r) × AreMarked (trees.ranged_marks s declared.Port r rest) words
  Rest state.PortName r words = (rest : trees.Declaration s declared.Port r) × AreMarked (trees.declaration_marks s declared.Port r rest) words
  Rest state.PortNext r words = (rest : trees.Directed s r) × AreMarked (trees.directed_marks s rest) words
  Rest state.NetStart r words = (rest : trees.Ranged s declared.Net r) × AreMarked (trees.ranged_marks s declared.Net r rest) words
  Rest state.NetName r words = (rest : trees.Declaration s declared.Net r) × AreMarked (trees.declaration_marks s declared.Net r rest) words
  Rest state.NetNext r words = (rest : trees.Nets s r) × AreMarked (trees.nets_marks s rest) words
  Rest (state.LeftBound of) r words = (rest : trees.Bounds s of r) × AreMarked (trees.bounds_marks s of r rest) words
  Rest (state.BoundColon of) r words = (rest : trees.Right s of r) × AreMarked (plain Colon ∷ trees.right_marks s of r rest) words
  Rest (state.RightBound of) r words = (rest : trees.Right s of r) × AreMarked (trees.right_marks s of r rest) words
  Rest (state.RangeEnd of) r words = (rest : trees.Declaration s of r) × AreMarked (plain CloseBracket ∷ trees.declaration_marks s of r rest) words
  Rest state.GateStart r words = (rest : trees.Delayed s r) × AreMarked (trees.delayed_marks s r rest) words
  Rest state.Delay r words = (rest : trees.Delayed s r) × Follows Hash (trees.delayed_marks s r rest) words
  Rest state.RiseDelay r words = (rest : trees.Delayed s r) × FollowsTwo Hash Open (trees.delayed_marks s r rest) words
  Rest state.RiseEnd r words =
      ((rest : trees.Gates s r) × AreMarked (plain Close ∷ trees.gates_marks s r rest) words)
      ⊎ ((rest : trees.Fall s r) × AreMarked (plain Comma ∷ trees.fall_marks s r rest) words)
  Rest state.FallDelay r words = (rest : trees.Fall s r) × AreMarked (trees.fall_marks s r rest) words
  Rest state.FallEnd r words = (rest : trees.Fallen s r) × AreMarked (trees.fallen_marks s r rest) words
  Rest state.OffDelay r words = (rest : trees.Off s r) × AreMarked (trees.off_marks s r rest) words
  Rest state.OffEnd r words = (rest : trees.Gates s r) × AreMarked (plain Close ∷ trees.gates_marks s r rest) words
  Rest state.InstanceStart r words = (rest : trees.Gates s r) × AreMarked (trees.gates_marks s r rest) words
  Rest state.InstanceOpen r words = (rest : trees.First s r) × AreMarked (plain Open ∷ trees.first_marks s r rest) words
  Rest state.TerminalStart r words = (rest : trees.First s r) × AreMarked (trees.first_marks s r rest) words
  Rest state.TerminalEnd r words = (rest : trees.Terminals s r) × AreMarked (trees.terminals_marks s rest) words
  Rest (state.IndexStart of) r words = (rest : trees.Index s of r) × AreMarked (plain OpenBracket ∷ trees.index_marks s of r rest) words
  Rest (state.Index of) r words = (rest : trees.Index s of r) × AreMarked (trees.index_marks s of r rest) words
  Rest (state.IndexEnd of) r words = (rest : trees.Behind s of r) × AreMarked (plain CloseBracket ∷ trees.behind_marks s of r rest) words
  Rest state.InstanceEnd r words = (rest : trees.Instances s r) × AreMarked (trees.instances_marks s rest) words
  Rest state.ModuleInstanceName r words =
      (i : ModuleInstance) × (IsModuleInstanceAdmitted s.table r i × ((rest : trees.ModuleInstances s (after_module_instance r i))
      × AreMarked (module_instance_then i (trees.module_instances_marks s rest)) words))
  Rest state.ModuleInstanceOpen r words = (rest : trees.Connected s r) × AreMarked (plain Open ∷ trees.connected_marks s r rest) words
  Rest state.Connections r words = (rest : trees.Connected s r) × AreMarked (trees.connected_marks s r rest) words
  Rest state.OrderedStart r words =
      (place : Option Terminal) × (IsPlaceAdmitted s.table r place × ((rest : trees.Places s (connect r place)) × AreMarked (place_then place (trees.places_marks s rest)) words))
  Rest state.OrderedEnd r words = (rest : trees.Places s r) × AreMarked (trees.places_marks s rest) words
  Rest state.NamedStart r words = (rest : trees.NamedConnection s r) × AreMarked (plain Dot ∷ trees.named_connection_marks s r rest) words
  Rest state.NamedPort r words = (rest : trees.NamedConnection s r) × AreMarked (trees.named_connection_marks s r rest) words
  Rest state.NamedOpen r words = (rest : trees.NamedPlace s r) × AreMarked (plain Open ∷ trees.named_place_marks s r rest) words
  Rest state.NamedTerminal r words = (rest : trees.NamedPlace s r) × AreMarked (trees.named_place_marks s r rest) words
  Rest state.NamedClose r words = (rest : trees.NamedPorts s r) × AreMarked (plain Close ∷ trees.named_marks s rest) words
  Rest state.NamedEnd r words = (rest : trees.NamedPorts s r) × AreMarked (trees.named_marks s rest) words
  Rest state.ModuleInstanceEnd r words = (rest : trees.ModuleInstances s r) × AreMarked (trees.module_instances_marks s rest) words

  -- the words are the rest behind where a turn leads
  abbrev pub RestIn : Result Walk Cause → List Placed → Type 0
  RestIn (Ok walk) words = Rest walk.state walk.so_far words
  RestIn (Err why) words = ⊥

  -- a turn that leads somewhere has no cause
  pub through : (found : Option Cause) (to : ParserState) (r : Reading) (words : List Placed) → RestIn (unless found (goes to r)) words
      → (found ≡ None) × Rest to r words
  through None to r words rest = (refl, rest)
  through (Some why) to r words rest = absurd rest

  -- one of two turns led there
  pub either : (b : Bool) (this that : Result Walk Cause) (words : List Placed) → RestIn (cond b this that) words → RestIn this words ⊎ RestIn that words
  either true this that words rest = inl rest
  either false this that words rest = inr rest
