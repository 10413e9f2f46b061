-- What `clap` answers, against the form of the command line.
use Rattle.std.proofs.Common.{◌≡◌, ◌⊎◌, ◌==◌, true, false, List, [], ◌∷◌, length, refl, subst, sym, inl, inr, arith}
use Rattle.std.proofs.lemmas.Grind.{common_steps}
use Rattle.clap.specs.Words.{App, IsAmong, Kinds, Text, fault_of, is_simple, is_simple_and_free}
use Rattle.clap.specs.declared.error.ErrorKind.{ErrorKind}
use Rattle.clap.specs.declared.error.ErrorKind.TheVariants as kind
use Rattle.clap.proofs.OnLiterals.{clap_on_literals}
use Rattle.programs.specs.CommandLine as line
use Rattle.app.specs.kept.ArgsFaults.{fault_of_kind}
use Rattle.app.specs.CommandLine.{command_line, is_taken}
use Rattle.app.specs.declared.arguments.ArgsFault.TheVariants.{Refused}

simple : is_simple command_line ≡ true
unfolding clap_on_literals command_line
simple = refl

simple_and_free : is_simple_and_free command_line ≡ true
unfolding clap_on_literals command_line
simple_and_free = refl

pub simple_as : (a : App) → a ≡ command_line → is_simple a ≡ true
simple_as a same = subst (λ (b : App). is_simple b ≡ true) (sym same) simple

pub simple_and_free_as : (a : App) → a ≡ command_line → is_simple_and_free a ≡ true
simple_and_free_as a same = subst (λ (b : App). is_simple_and_free b ≡ true) (sym same) simple_and_free

some_kind : (kinds : Kinds) (k : ErrorKind) → (k ≡ kind.OutOfMemory) ⊎ IsAmong k kinds → fault_of_kind k ≡ Refused → (length kinds == 0) ≡ false
some_kind [] k (inl e) h = let bad : fault_of_kind kind.OutOfMemory ≡ Refused = rw e at h in cc
some_kind [] k (inr e) h = absurd e
some_kind (x ∷ xs) k e h = grind (arith, common_steps)

-- where `clap` refuses for another cause than memory it does not take the words
pub not_taken : (words : List Text) (k : ErrorKind) → (k ≡ kind.OutOfMemory) ⊎ IsAmong k (fault_of command_line words) → fault_of_kind k ≡ Refused → is_taken words ≡ false
unfolding line.is_taken
not_taken words k kinds refused = some_kind (fault_of command_line words) k kinds refused
