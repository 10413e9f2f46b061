-- The first words of the questions that tools ask (own).
use Rattle.std.specs.Prelude.{ℕ, List, [], ◌∷◌, Option, codes, find}
use Rattle.session.specs.declared.commands.tool_verb.ToolVerb.{ToolVerb}
use Rattle.session.specs.declared.commands.tool_verb.ToolVerb.TheVariants as tool
use Rattle.session.specs.Words.{same_word}

abbrev pub tool_word : ToolVerb → List ℕ
tool_word tool.Nets = codes "nets"
tool_word tool.Inputs = codes "inputs"
tool_word tool.Gates = codes "gates"
tool_word tool.Gate = codes "gate"
tool_word tool.Drivers = codes "drivers"
tool_word tool.Readers = codes "readers"
tool_word tool.Points = codes "points"
tool_word tool.Window = codes "window"
tool_word tool.Why = codes "why"
tool_word tool.Reach = codes "reach"
tool_word tool.Diff = codes "diff"

abbrev pub tool_verbs : List ToolVerb
tool_verbs =
    tool.Nets ∷ tool.Inputs ∷ tool.Gates ∷ tool.Gate ∷ tool.Drivers ∷ tool.Readers ∷ tool.Points ∷ tool.Window
    ∷ tool.Why ∷ tool.Reach ∷ tool.Diff ∷ []

-- the verb that a word writes, if it writes one
abbrev pub tool_verb_of : List ℕ → Option ToolVerb
tool_verb_of word = find (λ v. same_word (tool_word v) word) tool_verbs
