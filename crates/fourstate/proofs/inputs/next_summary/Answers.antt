use Rattle.std.proofs.Common.{◌≡◌, ◌+◌, ◌*◌, ap, refl, slice_index_or}
use Rattle.fourstate.specs.kept.Summaries.{number_of}
use Rattle.fourstate.specs.declared.inputs.TheConstants.{SUMMARIES}
use Rattle.fourstate.specs.declared.value.Value.{Value}
use Rattle.fourstate.specs.declared.value.Value.TheVariants.{Zero, One, Unknown, HighZ}
use Rattle.fourstate.specs.contracts.value.Value.{the_type}
use denote.Enum.Declared.{tag_of}
use Rattle.fourstate.proofs.inputs.next_summary.Goals as goal

tag_is : (v : Value) → tag_of the_type v ≡ number_of v
tag_is Zero = refl
tag_is One = refl
tag_is Unknown = refl
tag_is HighZ = refl

pub returns : goal.returns
returns c = ap (λ n. slice_index_or SUMMARIES (4 * c.args.summary + n) 0) (tag_is c.args.value)
