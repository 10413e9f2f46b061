-- What `clap` answers to one form of a command line it answers to an equal one.
use Rattle.std.specs.Prelude.{◌≡◌, Result, IfErr, IfOk, List, true}
use Rattle.std.proofs.Common.{subst}
use Rattle.clap.specs.Words.{App, HasKind, Text, fault_of, first_value, found_of}
use Rattle.clap.specs.declared.error.Error.{Error}
use Rattle.clap.specs.declared.ArgMatches.{ArgMatches}
use Rattle.programs.specs.CommandLine.{is_taken, value_of}

pub found_along : (a b : App) (words : List Text) (r : Result ArgMatches Error) → a ≡ b
    → IfOk r (λ m. (is_taken a words ≡ true) × ((name : Text) → first_value (found_of m) name ≡ value_of a name words))
    → IfOk r (λ m. (is_taken b words ≡ true) × ((name : Text) → first_value (found_of m) name ≡ value_of b name words))
found_along a b words r same found =
    subst (λ (c : App). IfOk r (λ m. (is_taken c words ≡ true) × ((name : Text) → first_value (found_of m) name ≡ value_of c name words))) same found

pub refused_along : (a b : App) (words : List Text) (r : Result ArgMatches Error) → a ≡ b → IfErr r (HasKind (fault_of a words)) → IfErr r (HasKind (fault_of b words))
refused_along a b words r same refused = subst (λ (c : App). IfErr r (HasKind (fault_of c words))) same refused
