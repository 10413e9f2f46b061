use Rattle.vtext.proofs.WalkEnds as ends
use Rattle.vtext.proofs.laws.some_reading.Goals as goal

pub returns : goal.returns
returns c = λ default. ends.some_reading default c.args.text.now c.some_spelling.ensures
