-- Gate instances are read, and the items that they stand in.
use Rattle.std.proofs.Common.{◌≡◌, Bool, false, cond, ℕ, List, [], ◌∷◌, Option, Some, None, Err, fold, refl, ap, ◌∙◌}
use Rattle.fourstate.specs.declared.gate.GateKind.{GateKind}
use Rattle.vtext.specs.declared.gate.Terminal.{Terminal}
use Rattle.vtext.specs.declared.gate.Terminal.TheVariants.{Net, Bit, Constant}
use Rattle.vtext.specs.declared.parser_state.Indexed.TheVariants as indexed
use Rattle.vtext.specs.declared.parser_state.ParserState.{ParserState}
use Rattle.vtext.specs.declared.parser_state.ParserState.TheVariants.{FallDelay, FallEnd, GateStart, InstanceEnd, InstanceOpen, InstanceStart, Items, OffDelay, OffEnd, RiseDelay, RiseEnd, TerminalEnd, TerminalStart}
use Rattle.vtext.specs.declared.parser_state.ParserState.TheVariants as state
use Rattle.vtext.specs.declared.word.Word.{Word}
use Rattle.vtext.specs.declared.word.Word.TheVariants.{Name, Open, Close, Comma, Semicolon}
use Rattle.vtext.specs.Causes.{completed_cause, default_cause, delay_cause, gate_cause, instance_cause, is_hash, is_index, misfit, terminal_cause}
use Rattle.vtext.specs.Instances.{completed}
use Rattle.vtext.specs.Notes.{use_terminal}
use Rattle.vtext.specs.Readings.{Reading}
use Rattle.vtext.specs.Trees.{AreInstancesAdmitted, AreTerminalsAdmitted, Delay, Instance, IsInstanceAdmitted, IsItemAdmitted, IsTerminalAdmitted, Mark, after_gate, after_instance, after_item, after_name, instance_then, instances_then, item_then, name_then, plain, terminal_then, terminals_then}
use Rattle.vtext.specs.Trees.Delay.{no_delay, one_delay, enclosed_delay, two_delays, three_delays}
use Rattle.vtext.specs.Trees.Item.{gate_item}
use Rattle.vtext.specs.Turns.{Walk, goes, instance_start, turn}
use Rattle.vtext.proofs.MarkLemmas.{first_of}
use Rattle.vtext.proofs.TreeTerminals.{bit_read, net_read}
use Rattle.vtext.proofs.TreeWords as words
use Rattle.vtext.proofs.TreeWords.{free_word_read, word_read}

not_hash : (name : Option ℕ) (marks : List Mark) (after : Option Word) → is_hash (first_of (name_then name (plain Open ∷ marks)) after) ≡ false
not_hash None marks after = refl
not_hash (Some n) marks after = refl

module _ (default : Option ℕ) (table : List (List ℕ)) (after : Option Word) (end : Walk) where
  abbrev Reads : ParserState → Reading → List Mark → Type 0
  Reads = words.Reads default table after end

  -- optional(NAME) ( terminal { , terminal } )

  terminal_read : (r : Reading) (terminal : Terminal) (marks : List Mark) → is_index (first_of marks after) ≡ false → IsTerminalAdmitted table r terminal
      → Reads TerminalEnd (use_terminal r terminal) marks → Reads TerminalStart r (terminal_then terminal marks)
  terminal_read r (Net n) marks apart admitted onward =
      net_read default table after end TerminalStart TerminalEnd r (use_terminal r (Net n)) n indexed.Gate (terminal_cause table r n) marks apart admitted (λ start w. refl) onward
  terminal_read r (Bit n i) marks apart admitted onward =
      bit_read default table after end indexed.Gate TerminalStart r n i marks admitted (λ start. refl) onward
  terminal_read r (Constant value) marks apart admitted onward = word_read TerminalEnd (use_terminal r (Constant value)) (λ start. refl) onward

  terminals_read : (r : Reading) (terminal : Terminal) (terminals : List Terminal) (rest : List Mark) → AreTerminalsAdmitted table r (terminal ∷ terminals)
      → completed_cause table (fold use_terminal r (terminal ∷ terminals)) ≡ None
      → Reads InstanceEnd (completed table (fold use_terminal r (terminal ∷ terminals))) rest
      → Reads TerminalStart r (terminal_then terminal (terminals_then terminals rest))
  terminals_read r terminal [] rest admitted none onward =
      let now : Reading = use_terminal r terminal in
      terminal_read r terminal (plain Close ∷ rest) refl admitted.0
      (free_word_read InstanceEnd (completed table now) (completed_cause table now) none (λ start. refl) onward)
  terminals_read r terminal (t ∷ terminals) rest admitted none onward =
      let now : Reading = use_terminal r terminal in
      terminal_read r terminal (terminals_then (t ∷ terminals) rest) refl admitted.0
      (word_read TerminalStart now (λ start. refl) (terminals_read now t terminals rest admitted.1 none onward))

  -- where an instance may begin
  instance_read : (at : ParserState) (r : Reading) (name : Option ℕ) (first : Terminal) (more : List Terminal) (rest : List Mark)
      → ((start n : ℕ) (next : Option Word) → turn default table r at (record { word = Name n; start = start }) next ≡ instance_start r (Name n))
      → ((start : ℕ) (next : Option Word) → turn default table r at (record { word = Open; start = start }) next ≡ instance_start r Open)
      → IsInstanceAdmitted table r (record { name = name; first = first; more = more })
      → Reads InstanceEnd (after_instance table r (record { name = name; first = first; more = more })) rest
      → Reads at r (instance_then (record { name = name; first = first; more = more }) rest)
  instance_read at r None first more rest names opens admitted onward =
      let now : Reading = record r { instance = None } in
      word_read TerminalStart now (λ start. opens start _) (terminals_read now first more rest admitted.terminals admitted.whole onward)
  instance_read at r (Some n) first more rest names opens admitted onward =
      let now : Reading = after_name r (Some n) in
      free_word_read InstanceOpen now (instance_cause r n) admitted.name (λ start. names start n _)
      (word_read TerminalStart now (λ start. refl) (terminals_read now first more rest admitted.terminals admitted.whole onward))

  more_instances : (r : Reading) (instances : List Instance) (rest : List Mark) → AreInstancesAdmitted table r instances
      → Reads Items (fold (after_instance table) r instances) rest → Reads InstanceEnd r (instances_then instances (plain Semicolon ∷ rest))
  more_instances r [] rest admitted onward = word_read Items r (λ start. refl) onward
  more_instances r (i ∷ instances) rest admitted onward =
      word_read InstanceStart r (λ start. refl)
      (instance_read InstanceStart r i.name i.first i.more (instances_then instances (plain Semicolon ∷ rest)) (λ start n next. refl) (λ start next. refl) admitted.0
      (more_instances (after_instance table r i) instances rest admitted.1 onward))

  -- the instances of an item, where the first one may begin
  instances_read : (at : ParserState) (r : Reading) (i : Instance) (instances : List Instance) (rest : List Mark)
      → ((start n : ℕ) (next : Option Word) → turn default table r at (record { word = Name n; start = start }) next ≡ instance_start r (Name n))
      → ((start : ℕ) (next : Option Word) → turn default table r at (record { word = Open; start = start }) next ≡ instance_start r Open)
      → AreInstancesAdmitted table r (i ∷ instances) → Reads Items (fold (after_instance table) r (i ∷ instances)) rest
      → Reads at r (instance_then i (instances_then instances (plain Semicolon ∷ rest)))
  instances_read at r i instances rest names opens admitted onward =
      instance_read at r i.name i.first i.more (instances_then instances (plain Semicolon ∷ rest)) names opens admitted.0 (more_instances (after_instance table r i) instances rest admitted.1 onward)

  -- kind optional(delay) instance { , instance } ;

  pub gate_item_read : (r : Reading) (kind : GateKind) (delay : Delay) (i : Instance) (instances : List Instance) (rest : List Mark)
      → IsItemAdmitted default table r (gate_item kind delay i instances) → Reads Items (after_item default table r (gate_item kind delay i instances)) rest
      → Reads Items r (item_then (gate_item kind delay i instances) rest)
  gate_item_read r kind no_delay i instances rest admitted onward =
      let now : Reading = after_gate default r kind no_delay in
      let marks : List Mark = instance_then i (instances_then instances (plain Semicolon ∷ rest)) in
      let apart : is_hash (first_of marks after) ≡ false = not_hash i.name (terminal_then i.first (terminals_then i.more (instances_then instances (plain Semicolon ∷ rest)))) after in
      let none : gate_cause default (first_of marks after) ≡ None = ap (λ (hash : Bool). cond hash None (default_cause default)) apart ∙ admitted.0 in
      free_word_read GateStart now (gate_cause default (first_of marks after)) none (λ start. refl)
      (instances_read GateStart now i instances rest (λ start n next. refl) (λ start next. refl) admitted.1 onward)
  gate_item_read r kind (one_delay d) i instances rest admitted onward =
      let first : Reading = after_gate default r kind no_delay in
      let now : Reading = after_gate default r kind (one_delay d) in
      word_read GateStart first (λ start. refl)
      (word_read state.Delay first (λ start. refl)
      (free_word_read InstanceStart now (delay_cause d) admitted.0 (λ start. refl)
      (instances_read InstanceStart now i instances rest (λ start n next. refl) (λ start next. refl) admitted.1 onward)))
  gate_item_read r kind (enclosed_delay d) i instances rest admitted onward =
      let first : Reading = after_gate default r kind no_delay in
      let now : Reading = after_gate default r kind (enclosed_delay d) in
      word_read GateStart first (λ start. refl)
      (word_read state.Delay first (λ start. refl)
      (word_read RiseDelay first (λ start. refl)
      (free_word_read RiseEnd now (delay_cause d) admitted.0 (λ start. refl)
      (word_read InstanceStart now (λ start. refl)
      (instances_read InstanceStart now i instances rest (λ start n next. refl) (λ start next. refl) admitted.1 onward)))))
  gate_item_read r kind (two_delays rise fall) i instances rest admitted onward =
      let first : Reading = after_gate default r kind no_delay in
      let half : Reading = after_gate default r kind (one_delay rise) in
      let now : Reading = after_gate default r kind (two_delays rise fall) in
      word_read GateStart first (λ start. refl)
      (word_read state.Delay first (λ start. refl)
      (word_read RiseDelay first (λ start. refl)
      (free_word_read RiseEnd half (delay_cause rise) admitted.0.0 (λ start. refl)
      (word_read FallDelay half (λ start. refl)
      (free_word_read FallEnd now (delay_cause fall) admitted.0.1 (λ start. refl)
      (word_read InstanceStart now (λ start. refl)
      (instances_read InstanceStart now i instances rest (λ start n next. refl) (λ start next. refl) admitted.1 onward)))))))
  gate_item_read r kind (three_delays rise fall off) i instances rest admitted onward =
      let first : Reading = after_gate default r kind no_delay in
      let one : Reading = after_gate default r kind (one_delay rise) in
      let two : Reading = after_gate default r kind (two_delays rise fall) in
      let now : Reading = after_gate default r kind (three_delays rise fall off) in
      word_read GateStart first (λ start. refl)
      (word_read state.Delay first (λ start. refl)
      (word_read RiseDelay first (λ start. refl)
      (free_word_read RiseEnd one (delay_cause rise) admitted.0.1 (λ start. refl)
      (word_read FallDelay one (λ start. refl)
      (free_word_read FallEnd two (delay_cause fall) admitted.0.2 (λ start. refl)
      (word_read OffDelay two (λ start. ap (λ (takes : Bool). cond takes (goes OffDelay two) (Err (misfit Comma))) admitted.0.0)
      (free_word_read OffEnd now (delay_cause off) admitted.0.3 (λ start. refl)
      (word_read InstanceStart now (λ start. refl)
      (instances_read InstanceStart now i instances rest (λ start n next. refl) (λ start next. refl) admitted.1 onward)))))))))
