-- The line of a gate that another thread found.
use Rattle.std.specs.Prelude.{◌≡◌, ℕ, suc, List}
use Rattle.fourstate.specs.declared.value.Value.{Value}
use Rattle.gatestep.specs.Step.{Evaluation, State}
use Rattle.gateline.specs.declared.known_line.KnownLine.{KnownLine}
use Rattle.gateline.specs.kept.Line.{always_wanted, line_trace, line_work_from}
use Rattle.gateline.specs.kept.Reads.{reads_by}
use Rattle.gateline.specs.kept.Waves.{inputs_by}
use Rattle.scratch.specs.kept.Cells.{CellRecord}

-- its trace, where these are the answers
abbrev pub known_trace : (Evaluation → ℕ → State) → KnownLine → List (ℕ × State)
known_trace answer known = line_trace answer known.kind known.delays (reads_by known.reads.items) (suc known.last)

-- what is asked for it
abbrev pub known_work : (Evaluation → ℕ → State) → KnownLine → List (Evaluation × ℕ)
known_work answer known = line_work_from answer known.kind known.delays (reads_by known.reads.items) always_wanted known.begin (suc known.last)

-- it is that of this gate along these waves, asked from `begin` on up to and with `last`
pub record IsLineOf (known : KnownLine) (cell : CellRecord) (waves : List (List (ℕ × Value))) (begin last : ℕ) : Type 0 where
  pub kind : known.kind ≡ cell.kind
  pub delays : known.delays ≡ cell.delays
  pub reads : (t : ℕ) → reads_by known.reads.items t ≡ inputs_by waves cell.inputs t
  pub first : known.begin ≡ begin
  pub end : known.last ≡ last
