-- What the inputs of a gate have over all of time.
use Rattle.std.specs.Prelude.{ℕ, List, map}
use Rattle.fourstate.specs.declared.value.Value.{Value}
use Rattle.gateline.specs.declared.reads.Read.{Read}
use Rattle.gateline.specs.declared.reads.Read.TheVariants.{Along, Steady}
use Rattle.waveform.specs.Changes.{wave_at}

-- the value of an input at t
abbrev pub read_at : Read → ℕ → Value
read_at (Steady v) t = v
read_at (Along wave) t = wave_at wave t

-- the values of the inputs at t
abbrev pub reads_by : List Read → ℕ → List Value
reads_by reads t = map (λ read. read_at read t) reads
