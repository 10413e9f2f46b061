-- What `clap` answers, against the form of a command line.
use Rattle.std.proofs.Common.{◌≡◌, ◌⊎◌, ◌∙◌, ◌==◌, true, List, [], Result, Ok, Err, IfOk, length, ap, subst, sym, inl, inr}
use Rattle.clap.specs.Words.{App, FailsBy, HasMatchesOf, IsAmong, Kinds, Text, fault_of, first_of, first_value, found_of, is_simple, matches_of, rows_of}
use Rattle.clap.specs.declared.error.Error.{Error}
use Rattle.clap.specs.declared.error.ErrorKind.{ErrorKind}
use Rattle.clap.specs.declared.error.ErrorKind.TheVariants as kind
use Rattle.clap.specs.declared.ArgMatches.{ArgMatches}
use Rattle.clap.proofs.WalkLemmas.{first_value-rows}
use Rattle.programs.specs.CommandLine.{is_taken, value_of}

-- where `clap` gives matches it takes the words, and the values are its
found : (a : App) (words : List Text) (m : ArgMatches) → is_simple a ≡ true → fault_of a words ≡ [] → HasMatchesOf a words m
    → (is_taken a words ≡ true) × ((name : Text) → first_value (found_of m) name ≡ value_of a name words)
unfolding is_taken value_of
found a words m simple none matches =
    let same : rows_of (found_of m) ≡ matches_of a words = (matches simple).0 in (
      ap (λ (k : Kinds). length k == 0) none,
      λ name. first_value-rows (found_of m) name ∙ ap (first_of name) same,
    )

pub found_by : (a : App) (words : List Text) (r : Result ArgMatches Error) → is_simple a ≡ true → FailsBy (fault_of a words) r
    → IfOk r (HasMatchesOf a words) → IfOk r (λ m. (is_taken a words ≡ true) × ((name : Text) → first_value (found_of m) name ≡ value_of a name words))
found_by a words (Ok m) simple kinds matches = found a words m simple kinds matches
found_by a words (Err x) simple kinds matches = tt

-- an error of one of the kinds, that is not want of memory, is among them
pub among : (k k' : ErrorKind) (kinds : Kinds) → (k ≡ kind.OutOfMemory) ⊎ IsAmong k kinds → k' ≡ k → ¬ (k ≡ kind.OutOfMemory) → IsAmong k' kinds
among k k' kinds (inl memory) same other = absurd (other memory)
among k k' kinds (inr one) same other = subst (λ (x : ErrorKind). IsAmong x kinds) (sym same) one
