-- Why a walk over words ends early: a fault of the text, or memory.
use Rattle.std.specs.Prelude.{ℕ, List, Option}
use Rattle.vtext.specs.declared.word.Placed.{Placed}
use Rattle.vtext.specs.declared.walks.Refusal.{Refusal}
use Rattle.vtext.specs.declared.walks.Refusal.TheVariants.{OutOfMemory, Fault}
use Rattle.vtext.specs.Walks.{IsFault}

-- Below, `default` is the delay of a gate item without one, and `names` the table of names.
module _ (default : Option ℕ) (names : List (List ℕ)) where
  -- why the words were refused, if not because memory ran out
  abbrev pub IsRefusal : List Placed → Refusal → Type 0
  IsRefusal words OutOfMemory = Unit {0}
  IsRefusal words (Fault k why) = IsFault default names words k why
