use Rattle.vtext.proofs.SoundLaws as sound
use Rattle.vtext.proofs.laws.modules_are_sound.Goals as goal

pub returns : goal.returns
returns c = λ default text list says. sound.modules_are_sound default text list says
