-- Each state that events reach is sound.
use Rattle.std.proofs.Common.{◌≡◌, ◌≤◌, ◌∷◌, [], Bool, true, false, ℕ, List, length, Option, Some, None, Result, Ok, Err, refl, subst, arith, nat_lt, if◌then◌else◌}
use Rattle.std.specs.List.{slice_get}
use Rattle.std.specs.Result.{IfOk, result_map_both}
use Rattle.std.proofs.lemmas.Grind.{common_steps}
use Rattle.std.proofs.lemmas.List.{length-append}
use Rattle.std.proofs.lemmas.List.Elements.{All-set, All-push, All-replicate, All-weaker, All-nil}
use Rattle.std.proofs.lemmas.Option.{get_or_from_slice_get, slice_get_within}
use Rattle.hubcore.specs.declared.event.Event.{Event}
use Rattle.hubcore.specs.declared.event.Event.TheVariants.{Submit, Show, Look, Learn, Release}
use Rattle.hubcore.specs.declared.fault.CoreFault.{CoreFault}
use Rattle.hubcore.specs.declared.fault.CoreFault.TheVariants.{AheadOfLog}
use Rattle.hubcore.specs.declared.reply.Reply.{Reply}
use Rattle.hubcore.specs.declared.reply.Reply.TheVariants.{Done}
use Rattle.hubcore.specs.States.{ViewerRecord, CoreRecord, opened, viewer}
use Rattle.hubcore.specs.kept.States.{IsWithin, IsSound}
use Rattle.hubcore.specs.Steps.{looked, learned, released, looks, learns, releases, step, with_viewer}
use Rattle.hubcore.specs.kept.Steps.{taken, state_after}
use Rattle.hubcore.proofs.Releases.{released_within}

-- What one viewer knows.

looked_within : (shown : ℕ) (v : ViewerRecord) → IsWithin shown v → IsWithin shown (looked shown v)
looked_within shown v within = (omega arith, All-push (λ length. length ≤ shown) v.held shown within.1 (omega arith))

learned_within : (shown length : ℕ) (v : ViewerRecord) → length ≤ shown → IsWithin shown v → IsWithin shown (learned length v)
learned_within shown length v below within = let seen = within.0 in (omega (arith, seen, below), within.1)

more_within : (shown more : ℕ) → shown ≤ more → (v : ViewerRecord) → IsWithin shown v → IsWithin more v
more_within shown more up v within =
    let seen = within.0 in
    (omega (arith, seen, up), All-weaker (λ length. length ≤ shown) (λ length. length ≤ more) (λ length below. omega (arith, below, up)) v.held within.1)

pub viewer_within : (s : CoreRecord) (number : ℕ) → IsSound s → (v : ViewerRecord) → slice_get s.viewers number ≡ Some v → IsWithin s.shown v
viewer_within s number sound v at =
    subst (IsWithin s.shown) (get_or_from_slice_get s.viewers number v v at) (sound.1 number v (slice_get_within s.viewers number v at))

-- One event.

abbrev EndsSound : Result (CoreRecord × Reply) CoreFault → Type 0
EndsSound r = IfOk r (λ done. IsSound done.0)

with_sound : (s : CoreRecord) (number : ℕ) (v : ViewerRecord) → IsSound s → IsWithin s.shown v → IsSound (with_viewer s number v)
with_sound s number v sound within = (sound.0, All-set (IsWithin s.shown) s.viewers number v within sound.1)

looks_sound : (s : CoreRecord) (number : ℕ) (o : Option ViewerRecord) → ((v : ViewerRecord) → o ≡ Some v → IsWithin s.shown v) → IsSound s → EndsSound (looks s number o)
looks_sound s number (Some v) here sound = with_sound s number (looked s.shown v) sound (looked_within s.shown v (here v refl))
looks_sound s number None here sound = tt

told_sound : (s : CoreRecord) (number length : ℕ) (v : ViewerRecord) → IsWithin s.shown v → IsSound s → (b : Bool) → nat_lt s.shown length ≡ b →
    EndsSound (if b then Err AheadOfLog else Ok (with_viewer s number (learned length v), Done))
told_sound s number length v within sound true is = tt
told_sound s number length v within sound false is =
    let below : length ≤ s.shown = grind (arith, common_steps) in
    with_sound s number (learned length v) sound (learned_within s.shown length v below within)

learns_sound : (s : CoreRecord) (number length : ℕ) (o : Option ViewerRecord) → ((v : ViewerRecord) → o ≡ Some v → IsWithin s.shown v) → IsSound s → EndsSound (learns s number length o)
learns_sound s number length (Some v) here sound = told_sound s number length v (here v refl) sound (nat_lt s.shown length) refl
learns_sound s number length None here sound = tt

let_go_sound : (s : CoreRecord) (number : ℕ) (r : Result ViewerRecord CoreFault) → IfOk r (IsWithin s.shown) → IsSound s →
    EndsSound (result_map_both (λ w. (with_viewer s number w, Done)) (λ fault. fault) r)
let_go_sound s number (Ok w) within sound = with_sound s number w sound within
let_go_sound s number (Err fault) within sound = tt

releases_sound : (s : CoreRecord) (number length : ℕ) (o : Option ViewerRecord) → ((v : ViewerRecord) → o ≡ Some v → IsWithin s.shown v) → IsSound s → EndsSound (releases s number length o)
releases_sound s number length (Some v) here sound = let_go_sound s number (released length v) (released_within s.shown length v (here v refl)) sound
releases_sound s number length None here sound = tt

-- an event keeps a state sound
pub step_sound : (s : CoreRecord) (event : Event) → IsSound s → EndsSound (step s event)
step_sound s (Submit edits (Ok version)) sound =
    let long = length-append s.log (edits.items ∷ []) in
    let shown = sound.0 in
    (omega (arith, long, shown), sound.1)
step_sound s (Submit edits (Err fault)) sound = sound
step_sound s Show sound = (omega arith, All-weaker (IsWithin s.shown) (IsWithin (length s.log)) (more_within s.shown (length s.log) sound.0) s.viewers sound.1)
step_sound s (Look number) sound = looks_sound s number (slice_get s.viewers number) (viewer_within s number sound) sound
step_sound s (Learn number length) sound = learns_sound s number length (slice_get s.viewers number) (viewer_within s number sound) sound
step_sound s (Release number length) sound = releases_sound s number length (slice_get s.viewers number) (viewer_within s number sound) sound

-- Lists of events.

pub taken_sound : (s : CoreRecord) (r : Result (CoreRecord × Reply) CoreFault) → EndsSound r → IsSound s → IsSound (taken s r)
taken_sound s (Ok done) ends sound = ends
taken_sound s (Err fault) ends sound = sound

pub after_sound : (s : CoreRecord) (events : List Event) → IsSound s → IsSound (state_after s events)
after_sound s [] sound = sound
after_sound s (event ∷ events) sound = after_sound (taken s (step s event)) events (taken_sound s (step s event) (step_sound s event sound) sound)

pub opened_sound : (viewers : ℕ) → IsSound (opened viewers)
opened_sound viewers = (omega arith, All-replicate (IsWithin 0) viewers (viewer 0 []) (omega arith, All-nil (λ length. length ≤ 0)))

-- from the opening on all states are sound
pub states_sound : (viewers : ℕ) (events : List Event) → IsSound (state_after (opened viewers) events)
states_sound viewers events = after_sound (opened viewers) events (opened_sound viewers)
