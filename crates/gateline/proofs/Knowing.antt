-- A line that another thread found is that of the gate.
use Rattle.std.proofs.Common.{◌≡◌, ◌≤◌, ◌+◌, ◌-◌, ◌∙◌, ap, sym, refl, Bool, true, false, ℕ, zero, suc, List, [], ◌++◌, append-nil, append_assoc, arith}
use Rattle.std.specs.Prelude.{nat_le, if◌then◌else◌}
use Rattle.std.proofs.lemmas.Bool.{leb-false, leb-true}
use Rattle.fourstate.specs.declared.delay_times.DelayTimes.{DelayTimes}
use Rattle.fourstate.specs.declared.gate.GateKind.{GateKind}
use Rattle.fourstate.specs.declared.value.Value.{Value}
use Rattle.gatestep.proofs.Jobs.{beginning_is_part}
use Rattle.gatestep.specs.Jobs.{IsBeginning}
use Rattle.gatestep.specs.Step.{Evaluation, State}
use Rattle.gateline.specs.declared.known_line.KnownLine.{KnownLine}
use Rattle.gateline.specs.kept.KnownLines.{IsLineOf, known_trace, known_work}
use Rattle.gateline.specs.kept.Line.{always_wanted, line_trace, line_work_from, work_at}
use Rattle.gateline.specs.kept.Waves.{inputs_by}
use Rattle.scratch.specs.Asked.{IsAskedInPart}
use Rattle.scratch.specs.kept.Cells.{CellRecord}

-- What is asked of a gate up to a moment is a beginning of what is asked of it up to a later one.
module _ (answer : Evaluation → ℕ → State) (kind : GateKind) (delays : DelayTimes) (inputs : ℕ → List Value) (wanted : Evaluation → ℕ → Bool) (a : ℕ) where
  abbrev from : ℕ → List (Evaluation × ℕ)
  from = line_work_from answer kind delays inputs wanted a

  none_before : (t : ℕ) → t ≤ a → from t ≡ []
  none_before zero low = refl
  none_before (suc t) low = by (nat_le a t) refl
    where
      by : (b : Bool) → nat_le a t ≡ b → (if b then from t ++ work_at answer kind delays inputs wanted t else []) ≡ []
      by true on = absurd (let high = leb-true a t on in omega arith)
      by false off = refl

  one_begins : (t : ℕ) → IsBeginning (from t) (from (suc t))
  one_begins t = by (nat_le a t) refl
    where
      by : (b : Bool) → nat_le a t ≡ b → IsBeginning (from t) (if b then from t ++ work_at answer kind delays inputs wanted t else [])
      by true on = (work_at answer kind delays inputs wanted t, refl)
      by false off = ([], sym (append-nil (from t) ∙ none_before t (let early = leb-false a t off in omega arith)))

  far_begins : (k n : ℕ) → IsBeginning (from n) (from (k + n))
  far_begins zero n = let none : 0 + n ≡ n = omega arith in ([], ap from none ∙ sym (append-nil (from n)))
  far_begins (suc k) n =
      let before = far_begins k n in let last = one_begins (k + n) in let more : suc k + n ≡ suc (k + n) = omega arith in
      (before.0 ++ last.0, ap from more ∙ last.1 ∙ ap (λ l. l ++ last.0) before.1 ∙ append_assoc (from n) before.0 last.0)

  -- so it is a part of that
  pub asked_in_part : (old new : List (Evaluation × ℕ)) (n m : ℕ) → n ≤ m → new ≡ old ++ from n → IsAskedInPart old new (from m)
  asked_in_part old new n m low is =
      let more = far_begins (m - n) n in let all : (m - n) + n ≡ m = omega arith in
      (from n, beginning_is_part (from n) (from m) (more.0, ap from (sym all) ∙ more.1), is)

-- What is known is what is asked.
module _ (answer : Evaluation → ℕ → State) (known : KnownLine) (cell : CellRecord) (waves : List (List (ℕ × Value))) (begin last : ℕ) (is : IsLineOf known cell waves begin last) where
  pub known_trace_is : known_trace answer known ≡ line_trace answer cell.kind cell.delays (inputs_by waves cell.inputs) (suc last)
  known_trace_is = λ i. line_trace answer (is.kind i) (is.delays i) (λ t. is.reads t i) (suc (is.end i))

  pub known_work_is : known_work answer known ≡ line_work_from answer cell.kind cell.delays (inputs_by waves cell.inputs) always_wanted begin (suc last)
  known_work_is = λ i. line_work_from answer (is.kind i) (is.delays i) (λ t. is.reads t i) always_wanted (is.first i) (suc (is.end i))
