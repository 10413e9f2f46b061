use Rattle.std.proofs.Common.{◌≡◌, ◌++◌, length}
use Rattle.std.specs.Prelude.{option_map}
use Rattle.session.specs.Pins.{pins_of}
use Rattle.session.specs.kept.Pins.{ArePins}
use Rattle.session.proofs.commands.pins.make_pins.Given as goal

-- the pins so far stand before those of the words that are left
abbrev pub invariant-loop-word : goal.invariant-loop-word
invariant-loop-word l = ArePins l.rest × (option_map (λ more. l.pins ++ more) (pins_of l.rest) ≡ pins_of l.fn.words)

abbrev pub decreases-loop-word : goal.decreases-loop-word
decreases-loop-word l = length l.rest
