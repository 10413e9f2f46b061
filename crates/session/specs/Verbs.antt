-- The first words of commands (own).
use Rattle.std.specs.Prelude.{ℕ, List, [], ◌∷◌, Option, codes, find}
use Rattle.session.specs.declared.commands.verb.AskVerb.{AskVerb}
use Rattle.session.specs.declared.commands.verb.AskVerb.TheVariants as ask
use Rattle.session.specs.declared.commands.verb.EditVerb.{EditVerb}
use Rattle.session.specs.declared.commands.verb.EditVerb.TheVariants as edit
use Rattle.session.specs.declared.commands.verb.Verb.{Verb}
use Rattle.session.specs.declared.commands.verb.Verb.TheVariants as verb
use Rattle.session.specs.Words.{same_word}

abbrev pub edit_word : EditVerb → List ℕ
edit_word edit.Net = codes "net"
edit_word edit.Input = codes "input"
edit_word edit.DropNet = codes "dropnet"
edit_word edit.Kind = codes "kind"
edit_word edit.Gate = codes "gate"
edit_word edit.Drop = codes "drop"
edit_word edit.Delay = codes "delay"
edit_word edit.Type = codes "type"
edit_word edit.Wire = codes "wire"
edit_word edit.Stim = codes "stim"
edit_word edit.Unstim = codes "unstim"
edit_word edit.Horizon = codes "horizon"

abbrev pub ask_word : AskVerb → List ℕ
ask_word ask.Value = codes "value"
ask_word ask.Wave = codes "wave"
ask_word ask.Next = codes "next"
ask_word ask.Prev = codes "prev"
ask_word ask.Seek = codes "seek"
ask_word ask.Vcd = codes "vcd"

abbrev pub verb_word : Verb → List ℕ
verb_word (verb.Edit v) = edit_word v
verb_word verb.Begin = codes "begin"
verb_word verb.Commit = codes "commit"
verb_word verb.Abort = codes "abort"
verb_word (verb.Ask v) = ask_word v
verb_word verb.Hold = codes "hold"
verb_word verb.Free = codes "free"
verb_word verb.At = codes "at"
verb_word verb.Quit = codes "quit"

abbrev pub verbs : List Verb
verbs =
    verb.Edit edit.Net ∷ verb.Edit edit.Input ∷ verb.Edit edit.DropNet ∷ verb.Edit edit.Kind ∷ verb.Edit edit.Gate ∷ verb.Edit edit.Drop
    ∷ verb.Edit edit.Delay ∷ verb.Edit edit.Type ∷ verb.Edit edit.Wire ∷ verb.Edit edit.Stim ∷ verb.Edit edit.Unstim ∷ verb.Edit edit.Horizon
    ∷ verb.Begin ∷ verb.Commit ∷ verb.Abort
    ∷ verb.Ask ask.Value ∷ verb.Ask ask.Wave ∷ verb.Ask ask.Next ∷ verb.Ask ask.Prev ∷ verb.Ask ask.Seek ∷ verb.Ask ask.Vcd
    ∷ verb.Hold ∷ verb.Free ∷ verb.At ∷ verb.Quit ∷ []

-- the verb that a word writes, if it writes one
abbrev pub verb_of : List ℕ → Option Verb
verb_of word = find (λ v. same_word (verb_word v) word) verbs
