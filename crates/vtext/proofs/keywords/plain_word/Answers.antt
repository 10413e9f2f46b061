use Rattle.std.proofs.Common.{rules, ◌≡◌, sym, ◌∙◌}
use Rattle.vtext.specs.Keywords.{unkept_word}
use Rattle.vtext.proofs.KeywordLemmas.{no_word}
use Rattle.vtext.proofs.keywords.plain_word.Goals as goal

pub returns-then-not-is_wordlike : goal.returns-then-not-is_wordlike
returns-then-not-is_wordlike c = λ names numbered. c.name_word.ensures names numbered ∙ sym (no_word names c.args.bytes.now (sym c.if-not-is_wordlike.ensures))

pub returns-in-Some-default : goal.returns-in-Some-default
returns-in-Some-default c = λ names numbered. search rules

pub returns-in-None-Some : goal.returns-in-None-Some
returns-in-None-Some c = λ names numbered. search rules

pub returns-in-None-None : goal.returns-in-None-None
returns-in-None-None c = λ names numbered. let unkept : c.unkept_word.result ≡ unkept_word names c.args.bytes.now = c.unkept_word.ensures names numbered in search rules
