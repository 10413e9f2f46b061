-- What the words ask for, from what `clap` finds in them.
use Rattle.std.proofs.Common.{◌≡◌, ◌∙◌, ◌==◌, true, false, List, [], ◌∷◌, Option, Some, None, Result, Ok, Err, IfOk, IfErr, codes, length, subst, refl, arith}
use Rattle.std.proofs.lemmas.Grind.{common_steps}
use Rattle.clap.specs.Words.{IsAmong, Kinds, Text, fault_of}
use Rattle.clap.specs.declared.error.ErrorKind.{ErrorKind}
use Rattle.clap.specs.declared.error.ErrorKind.TheVariants as kind
use Rattle.programs.specs.CommandLine as line
use Rattle.programs.specs.declared.words_fault.WordsFault.TheVariants.{Help, Version, NotText, Form}
use Rattle.racer.specs.Arguments.{Arguments, arguments_by, asked}
use Rattle.racer.specs.CommandLine.{command_line, is_taken, value_of}
use Rattle.racer.specs.Complaints.{StopsBy}
use Rattle.racer.specs.kept.Complaints.{IsRefusedAmong, StopsValues}
use Rattle.racer.specs.declared.arguments.Args.{Args}
use Rattle.racer.specs.declared.complaint.Complaint.TheVariants.{Words, Missing, Viewers, Looks}
use Rattle.racer.specs.declared.complaint.StartFault.{StartFault}
use Rattle.racer.specs.declared.complaint.StartFault.TheVariants.{OutOfMemory, Refused}

asked_taken : (words : List Text) (d s v l : Option Text) → is_taken words ≡ true → value_of (codes "design") words ≡ d → value_of (codes "script") words ≡ s
    → value_of (codes "viewers") words ≡ v → value_of (codes "looks") words ≡ l → asked words ≡ arguments_by d s v l
unfolding asked
asked_taken words d s v l taken design script viewers looks = rw (taken, design, script, viewers, looks) refl

asked_not : (words : List Text) → is_taken words ≡ false → asked words ≡ None
unfolding asked
asked_not words taken = rw taken refl

-- what four words ask for that `clap` found
pub found_asks : (words : List Text) (d s v l : Option Text) (r : Result Args StartFault) (f : Args → Arguments) → is_taken words ≡ true
    → value_of (codes "design") words ≡ d → value_of (codes "script") words ≡ s → value_of (codes "viewers") words ≡ v → value_of (codes "looks") words ≡ l
    → IfOk r (λ args. arguments_by d s v l ≡ Some (f args)) → IfOk r (λ args. asked words ≡ Some (f args))
found_asks words d s v l (Ok args) f taken design script viewers looks asks = asked_taken words d s v l taken design script viewers looks ∙ asks
found_asks words d s v l (Err fault) f taken design script viewers looks asks = tt

-- a fault of the four words is one of all words
value_stops : (words : List Text) (fault : StartFault) → is_taken words ≡ true
    → StopsValues (value_of (codes "design") words) (value_of (codes "script") words) (value_of (codes "viewers") words) (value_of (codes "looks") words) fault
    → StopsBy words fault
value_stops words OutOfMemory taken why = tt
value_stops words (Refused (Words fault)) taken why = absurd why.1
value_stops words (Refused (Missing place)) taken why = (asked_taken words _ _ _ _ taken refl refl refl refl ∙ why.0, (taken, why.1))
value_stops words (Refused (Viewers value)) taken why = (asked_taken words _ _ _ _ taken refl refl refl refl ∙ why.0, (taken, why.1))
value_stops words (Refused (Looks value)) taken why = (asked_taken words _ _ _ _ taken refl refl refl refl ∙ why.0, (taken, why.1))

-- why they ask for nothing
pub found_stops : (words : List Text) (d s v l : Option Text) (r : Result Args StartFault) → is_taken words ≡ true
    → value_of (codes "design") words ≡ d → value_of (codes "script") words ≡ s → value_of (codes "viewers") words ≡ v → value_of (codes "looks") words ≡ l
    → IfErr r (StopsValues d s v l) → IfErr r (StopsBy words)
found_stops words d s v l (Ok args) taken design script viewers looks why = tt
found_stops words d s v l (Err fault) taken design script viewers looks why = value_stops words fault taken (rw (design, script, viewers, looks) why)

some_kind : (kinds : Kinds) (k : ErrorKind) → IsAmong k kinds → (length kinds == 0) ≡ false
some_kind [] k among = absurd among
some_kind (x ∷ xs) k among = grind (arith, common_steps)

not_taken : (words : List Text) (k : ErrorKind) → IsAmong k (fault_of command_line words) → is_taken words ≡ false
unfolding line.is_taken
not_taken words k among = some_kind (fault_of command_line words) k among

-- words that `clap` refuses ask for nothing
pub refused_stops : (words : List Text) (fault : StartFault) → IsRefusedAmong (fault_of command_line words) fault → StopsBy words fault
refused_stops words OutOfMemory why = tt
refused_stops words (Refused (Words Help)) why = (asked_not words (not_taken words kind.DisplayHelp why), why)
refused_stops words (Refused (Words Version)) why = (asked_not words (not_taken words kind.DisplayVersion why), why)
refused_stops words (Refused (Words (Form k lines))) why = (asked_not words (not_taken words k why.0), why)
refused_stops words (Refused (Words NotText)) why = absurd why
refused_stops words (Refused (Missing place)) why = absurd why
refused_stops words (Refused (Viewers value)) why = absurd why
refused_stops words (Refused (Looks value)) why = absurd why

-- what holds of some words holds of those that the system gave, where they are the same
pub along : {A E X : Type 0} (r : Result A E) (f : A → X) (x : X) (P : X → Type 0) → IfOk r (λ a. x ≡ f a) → P x → IfOk r (λ a. P (f a))
along (Ok a) f x P same holds = subst P same holds
along (Err e) f x P same holds = tt
