-- The form of the command line is one of which `clap`'s answers are known.
use Rattle.std.proofs.Common.{◌≡◌, true, refl, subst, sym}
use Rattle.clap.specs.Words.{App, is_simple, is_simple_and_free}
use Rattle.clap.proofs.OnLiterals.{clap_on_literals}
use Rattle.racer.specs.CommandLine.{command_line}

simple : is_simple command_line ≡ true
unfolding clap_on_literals command_line
simple = refl

simple_and_free : is_simple_and_free command_line ≡ true
unfolding clap_on_literals command_line
simple_and_free = refl

pub simple_as : (a : App) → a ≡ command_line → is_simple a ≡ true
simple_as a same = subst (λ (b : App). is_simple b ≡ true) (sym same) simple

pub simple_and_free_as : (a : App) → a ≡ command_line → is_simple_and_free a ≡ true
simple_and_free_as a same = subst (λ (b : App). is_simple_and_free b ≡ true) (sym same) simple_and_free
