-- What a net has from the values that its drivers give (IEEE 1364-2005, 4.6.1, 4.6.2 and 4.6.4): it depends only on which
-- values other than z are among them.
use Rattle.std.specs.Prelude.{Bool, true, false, ◌&&◌, ◌||◌, if◌then◌else◌, List}
use Rattle.fourstate.specs.Values.{occurs}
use Rattle.fourstate.specs.declared.value.Value.{Value}
use Rattle.fourstate.specs.declared.value.Value.TheVariants.{Zero, One, Unknown, HighZ}
use Rattle.fourstate.specs.declared.net.NetKind.{NetKind}
use Rattle.fourstate.specs.declared.net.NetKind.TheVariants.{Wire, Tri, Wand, Triand, Wor, Trior, Tri0, Tri1}
use Rattle.fourstate.specs.declared.net.NetRule.{NetRule}
use Rattle.fourstate.specs.declared.net.NetRule.TheVariants as rules

-- an x, or a 0 beside a 1, gives x; else the one value that occurs; none gives z
abbrev pub wire_of : (zero one unknown : Bool) → Value
wire_of zero one unknown =
    if unknown || (zero && one) then Unknown else (if zero then Zero else (if one then One else HighZ))

-- a 0 gives 0; else an x gives x; else a 1 gives 1; none gives z
abbrev pub wand_of : (zero one unknown : Bool) → Value
wand_of zero one unknown = if zero then Zero else (if unknown then Unknown else (if one then One else HighZ))

-- a 1 gives 1; else an x gives x; else a 0 gives 0; none gives z
abbrev pub wor_of : (zero one unknown : Bool) → Value
wor_of zero one unknown = if one then One else (if unknown then Unknown else (if zero then Zero else HighZ))

-- a pull gives its value where no value other than z occurs; else it is as a wire
abbrev pub pulled_of : (pull : Value) → (zero one unknown : Bool) → Value
pulled_of pull zero one unknown = if zero || one || unknown then wire_of zero one unknown else pull

-- by which rule nets of a kind resolve their drivers
abbrev pub rule_of : NetKind → NetRule
rule_of Wire = rules.Wire
rule_of Tri = rules.Wire
rule_of Wand = rules.Wand
rule_of Triand = rules.Wand
rule_of Wor = rules.Wor
rule_of Trior = rules.Wor
rule_of Tri0 = rules.Pulldown
rule_of Tri1 = rules.Pullup

-- the rules are the same
abbrev pub same_rule : NetRule → NetRule → Bool
same_rule rules.Wire rules.Wire = true
same_rule rules.Wand rules.Wand = true
same_rule rules.Wor rules.Wor = true
same_rule rules.Pulldown rules.Pulldown = true
same_rule rules.Pullup rules.Pullup = true
same_rule _ _ = false

-- what a net has by a rule where these values other than z occur
abbrev pub resolved : NetRule → (zero one unknown : Bool) → Value
resolved rules.Wire = wire_of
resolved rules.Wand = wand_of
resolved rules.Wor = wor_of
resolved rules.Pulldown = pulled_of Zero
resolved rules.Pullup = pulled_of One

-- what a net of this kind has from the values of its drivers
abbrev pub net_of : NetKind → List Value → Value
net_of kind values = resolved (rule_of kind) (occurs Zero values) (occurs One values) (occurs Unknown values)
