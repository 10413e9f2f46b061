-- The words of gates are those of the grammar.
use Rattle.std.proofs.Common.{◌≡◌, ◌⊎◌, inl, inr, ℕ, Bool, true, false, cond, Err, List, [], ◌∷◌, Option, Some, None, refl}
use Rattle.fourstate.specs.Delays.{uniform_delays, with_fall, with_off}
use Rattle.fourstate.specs.Gates.{takes_off}
use Rattle.vtext.specs.declared.gate.Terminal.TheVariants.{Net, Bit, Constant}
use Rattle.vtext.specs.declared.parser_state.DelayNumber.TheVariants as number
use Rattle.vtext.specs.declared.parser_state.Indexed.TheVariants as indexed
use Rattle.vtext.specs.declared.parser_state.ParserState.TheVariants as state
use Rattle.vtext.specs.declared.word.Word.{Word}
use Rattle.vtext.specs.declared.word.Word.TheVariants.{Name, Number, Literal, Open, Close, Comma, Semicolon, Hash}
use Rattle.vtext.specs.declared.word.Placed.{Placed}
use Rattle.vtext.specs.Causes.{completed_cause, delay_cause, instance_cause, is_index, misfit, terminal_cause, use_cause}
use Rattle.vtext.specs.Instances.{completed}
use Rattle.vtext.specs.Notes.{name_instance, note_index, use_terminal}
use Rattle.vtext.specs.Readings.{Reading}
use Rattle.vtext.specs.Trees.Delay.{no_delay, one_delay, enclosed_delay, two_delays, three_delays}
use Rattle.vtext.specs.Turns.{delay, delay_number, fall_end, gate_start, goes, index_name, instance_open, instance_start, list_next, off_end, plain_terminal, rise_end, terminal_end, terminal_start}
use Rattle.vtext.proofs.RestTrees.{Setting}
use Rattle.vtext.proofs.Rests.{Rest, RestIn, either, through}

module _ (s : Setting) (r : Reading) (start : ℕ) where
  -- Instances.

  pub instance_start_back : (w : Word) (words : List Placed) → RestIn s (instance_start r w) words → Rest s state.InstanceStart r (record { word = w; start = start } ∷ words)
  instance_start_back (Name n) words rest =
      let x = through s (instance_cause r n) state.InstanceOpen (name_instance r n) words rest in
      let first = x.1.0 in (
        (
          record { name = Some n; first = first.0; more = first.1.1.more },
          (record { name = x.0; terminals = (first.1.0, first.1.1.free); whole = first.1.1.whole }, first.1.1.instances),
        ),
        ((refl, tt), x.1.1),
      )
  instance_start_back Open words ((first, (free, rest)), e) = (
    (record { name = None; first = first; more = rest.more }, (record { name = tt; terminals = (free, rest.free); whole = rest.whole }, rest.instances)),
    ((refl, tt), e),
  )
  instance_start_back w words rest = absurd rest

  pub instance_open_back : (w : Word) (words : List Placed) → RestIn s (instance_open r w) words → Rest s state.InstanceOpen r (record { word = w; start = start } ∷ words)
  instance_open_back Open words (rest, e) = (rest, ((refl, tt), e))
  instance_open_back w words rest = absurd rest

  pub instance_end_back : (w : Word) (words : List Placed) → RestIn s (list_next state.InstanceStart r w) words → Rest s state.InstanceEnd r (record { word = w; start = start } ∷ words)
  instance_end_back Comma words ((i, (free, rest)), e) = (record { more = i ∷ rest.more; free = (free, rest.free); tail = rest.tail }, ((refl, tt), e))
  instance_end_back Semicolon words (tail, e) = (record { more = []; free = tt; tail = tail }, ((refl, tt), e))
  instance_end_back w words rest = absurd rest

  -- Delays.

  pub gate_start_back : (w : Word) (words : List Placed) → RestIn s (gate_start r w) words → Rest s state.GateStart r (record { word = w; start = start } ∷ words)
  gate_start_back Hash words (rest, e) = (rest, e start)
  gate_start_back w words rest = let x = instance_start_back w words rest in ((no_delay, (tt, x.0)), x.1)

  pub delay_back : (w : Word) (words : List Placed) → RestIn s (delay r w) words → Rest s state.Delay r (record { word = w; start = start } ∷ words)
  delay_back (Number d) words rest =
      let x = through s (delay_cause d) state.InstanceStart (record r { delays = uniform_delays d }) words rest in
      ((one_delay d, (x.0, x.1.0)), λ place. ((refl, tt), ((refl, tt), x.1.1)))
  delay_back Open words (rest, e) = (rest, λ hash. e hash start)
  delay_back w words rest = absurd rest

  -- behind the first number
  risen : (d : ℕ) (words : List Placed) → delay_cause d ≡ None → Rest s state.RiseEnd (record r { delays = uniform_delays d }) words
      → Rest s state.RiseDelay r (record { word = Number d; start = start } ∷ words)
  risen d words none (inl (gates, e)) = ((enclosed_delay d, (none, gates)), λ hash paren. ((refl, tt), ((refl, tt), ((refl, tt), e))))
  risen d words none (inr ((fall, (free, inl gates)), e)) = ((two_delays d fall, ((none, free), gates)), λ hash paren. ((refl, tt), ((refl, tt), ((refl, tt), e))))
  risen d words none (inr ((fall, (free, inr (takes, (off, (within, gates))))), e)) =
      ((three_delays d fall off, ((takes, none, free, within), gates)), λ hash paren. ((refl, tt), ((refl, tt), ((refl, tt), e))))

  pub rise_delay_back : (w : Word) (words : List Placed) → RestIn s (delay_number number.Rise state.RiseEnd r w) words → Rest s state.RiseDelay r (record { word = w; start = start } ∷ words)
  rise_delay_back (Number d) words rest = let x = through s (delay_cause d) state.RiseEnd (record r { delays = uniform_delays d }) words rest in risen d words x.0 x.1
  rise_delay_back w words rest = absurd rest

  pub rise_end_back : (w : Word) (words : List Placed) → RestIn s (rise_end r w) words → Rest s state.RiseEnd r (record { word = w; start = start } ∷ words)
  rise_end_back Comma words (rest, e) = inr (rest, ((refl, tt), e))
  rise_end_back Close words (rest, e) = inl (rest, ((refl, tt), e))
  rise_end_back w words rest = absurd rest

  pub fall_delay_back : (w : Word) (words : List Placed) → RestIn s (delay_number number.Fall state.FallEnd r w) words → Rest s state.FallDelay r (record { word = w; start = start } ∷ words)
  fall_delay_back (Number f) words rest =
      let x = through s (delay_cause f) state.FallEnd (record r { delays = with_fall r.delays f }) words rest in ((f, (x.0, x.1.0)), ((refl, tt), x.1.1))
  fall_delay_back w words rest = absurd rest

  -- a third number follows only for a kind that takes one
  third_back : (takes : Bool) (words : List Placed) → takes_off r.gate ≡ takes → RestIn s (cond takes (goes state.OffDelay r) (Err (misfit Comma))) words
      → Rest s state.FallEnd r (record { word = Comma; start = start } ∷ words)
  third_back true words takes (rest, e) = (inr (takes, rest), ((refl, tt), e))
  third_back false words takes rest = absurd rest

  pub fall_end_back : (w : Word) (words : List Placed) → RestIn s (fall_end r w) words → Rest s state.FallEnd r (record { word = w; start = start } ∷ words)
  fall_end_back Comma words rest = third_back (takes_off r.gate) words refl rest
  fall_end_back Close words (rest, e) = (inl rest, ((refl, tt), e))
  fall_end_back w words rest = absurd rest

  pub off_delay_back : (w : Word) (words : List Placed) → RestIn s (delay_number number.Off state.OffEnd r w) words → Rest s state.OffDelay r (record { word = w; start = start } ∷ words)
  off_delay_back (Number z) words rest =
      let x = through s (delay_cause z) state.OffEnd (record r { delays = with_off r.delays z }) words rest in ((z, (x.0, x.1.0)), ((refl, tt), x.1.1))
  off_delay_back w words rest = absurd rest

  pub off_end_back : (w : Word) (words : List Placed) → RestIn s (off_end r w) words → Rest s state.OffEnd r (record { word = w; start = start } ∷ words)
  off_end_back Close words (rest, e) = (rest, ((refl, tt), e))
  off_end_back w words rest = absurd rest

  -- Terminals.

  -- a net, with an index or without one
  net_back : (n : ℕ) (words : List Placed) → RestIn s (index_name indexed.Gate s.table r n) words ⊎ RestIn s (plain_terminal s.table r n) words
      → Rest s state.TerminalStart r (record { word = Name n; start = start } ∷ words)
  net_back n words (inl rest) =
      let x = through s (use_cause s.table r n) (state.IndexStart indexed.Gate) (note_index r n) words rest in
      ((Bit n x.1.0.0, ((x.0, x.1.0.1.0), x.1.0.1.1)), ((refl, tt), x.1.1))
  net_back n words (inr rest) =
      let x = through s (terminal_cause s.table r n) state.TerminalEnd (use_terminal r (Net n)) words rest in ((Net n, (x.0, x.1.0)), ((refl, tt), x.1.1))

  pub terminal_start_back : (after : Option Word) (w : Word) (words : List Placed) → RestIn s (terminal_start s.table r w after) words
      → Rest s state.TerminalStart r (record { word = w; start = start } ∷ words)
  terminal_start_back after (Name n) words rest =
      net_back n words (either s (is_index after) (index_name indexed.Gate s.table r n) (plain_terminal s.table r n) words rest)
  terminal_start_back after (Literal value) words (rest, e) = ((Constant value, (tt, rest)), ((refl, tt), e))
  terminal_start_back after w words rest = absurd rest

  pub terminal_end_back : (w : Word) (words : List Placed) → RestIn s (terminal_end s.table r w) words → Rest s state.TerminalEnd r (record { word = w; start = start } ∷ words)
  terminal_end_back Comma words ((first, (free, rest)), e) =
      (record { more = first ∷ rest.more; free = (free, rest.free); whole = rest.whole; instances = rest.instances }, ((refl, tt), e))
  terminal_end_back Close words rest =
      let x = through s (completed_cause s.table r) state.InstanceEnd (completed s.table r) words rest in
      (record { more = []; free = tt; whole = x.0; instances = x.1.0 }, ((refl, tt), x.1.1))
  terminal_end_back w words rest = absurd rest
