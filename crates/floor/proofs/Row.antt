-- Five tasks in two pieces, dealt and answered event by event, with strangers and doubles: the replies, worked out by hand.
use Rattle.std.proofs.Common.{◌≡◌, Option, Some, None, Ok, Err, List, [], ◌∷◌, refl}
use Rattle.gatestep.specs.Step.{State}
use Rattle.floor.specs.kept.Pieces.{Dealing, Event, Deal, Answer, Fail, Finish, opened, next_piece, answer_reply, fail_reply, finished, after}
use Rattle.floor.specs.declared.fault.FloorFault.TheVariants.{Stranger, Double, WrongLength}

-- the state after events, in order
abbrev after_all : Dealing → List Event → Dealing
after_all s [] = s
after_all s (event ∷ rest) = after_all (after s event) rest

-- nothing was dealt yet
early : (d e : State) → answer_reply (opened 5 2) 0 (d ∷ e ∷ []) ≡ Err Stranger
early d e = refl

first : next_piece (opened 5 2) ≡ Some (record { number = 0; first = 0; end = 2 })
first = refl

second : next_piece (after_all (opened 5 2) (Deal ∷ [])) ≡ Some (record { number = 1; first = 2; end = 5 })
second = refl

abbrev dealt : Dealing
dealt = after_all (opened 5 2) (Deal ∷ Deal ∷ [])

no_third : next_piece dealt ≡ None
no_third = refl

taken : (a b c : State) → answer_reply dealt 1 (a ∷ b ∷ c ∷ []) ≡ Ok tt
taken a b c = refl

abbrev one_answered : (a b c : State) → Dealing
one_answered a b c = after dealt (Answer 1 (a ∷ b ∷ c ∷ []))

again : (a b c : State) → answer_reply (one_answered a b c) 1 (a ∷ b ∷ c ∷ []) ≡ Err Double
again a b c = refl

failed_again : (a b c : State) → fail_reply (one_answered a b c) 1 ≡ Err Double
failed_again a b c = refl

stranger : (a b c : State) → answer_reply (one_answered a b c) 7 [] ≡ Err Stranger
stranger a b c = refl

wrong_length : (a b c : State) → answer_reply (one_answered a b c) 0 (a ∷ b ∷ c ∷ []) ≡ Err WrongLength
wrong_length a b c = refl

not_yet : (a b c : State) → finished (one_answered a b c) ≡ None
not_yet a b c = refl

taken_too : (a b c d e : State) → answer_reply (one_answered a b c) 0 (d ∷ e ∷ []) ≡ Ok tt
taken_too a b c d e = refl

all_five : (a b c d e : State) → finished (after (one_answered a b c) (Answer 0 (d ∷ e ∷ []))) ≡ Some (d ∷ e ∷ a ∷ b ∷ c ∷ [])
all_five a b c d e = refl

once : (a b c d e : State) → finished (after_all (one_answered a b c) (Answer 0 (d ∷ e ∷ []) ∷ Finish ∷ [])) ≡ None
once a b c d e = refl

nothing : finished (opened 0 0) ≡ Some []
nothing = refl

nothing_once : finished (after (opened 0 0) Finish) ≡ None
nothing_once = refl
