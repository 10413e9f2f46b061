-- How a writer's value and its invariant grow.
use Rattle.std.proofs.Common.{◌≡◌, ℕ, ◌+◌, ◌-◌, List, [], ◌++◌, length, take, drop, min, Bool, true, false, nat_lt, refl, sym, ap, ◌∙◌, append_assoc, append-nil, Option, arith, MatchBool}
use Rattle.std.proofs.Math.Seq.{take-add, take-append_seam}
use Rattle.std.proofs.lemmas.List.{take_rest, take_all, take-append-drop, length-append, length-take-le}
use Rattle.std.proofs.lemmas.Bool.{ltb-false}
use Rattle.std.specs.Io.{StartsWith}
use Rattle.devices.specs.Traffic.{SinkState}
use Rattle.devices.specs.kept.Traffic.{Sends}
use Rattle.devices.specs.Outgoing.{Outgoing, Adds}
use Rattle.devices.specs.kept.Outgoing.{StaysStopped, IsGoingOut}
use Rattle.devices.proofs.DeviceLemmas.{appends_both}

-- first n bytes are added, and then m of the rest
pub adds_more : (old mid new : Outgoing) (n m : ℕ) (xs : List ℕ) → Adds old mid (take n xs) → Adds mid new (take m (take (length xs - n) (drop n xs))) → Adds old new (take (n + m) xs)
adds_more old mid new n m xs p q =
    let rest = take m (drop n xs) in
    let joined : (old.text ++ take n xs) ++ rest ≡ old.text ++ take (n + m) xs =
    append_assoc old.text (take n xs) rest ∙ ap (λ ys. old.text ++ ys) (sym (take-add n m xs)) in
    let added : Adds mid new rest = rw (take_rest xs n) at q in
    added ∙ ap (λ (o : Outgoing). record o { text = o.text ++ rest; gone = new.gone; stopped = new.stopped }) p
    ∙ ap (λ (ys : List ℕ). record old { text = ys; gone = new.gone; stopped = new.stopped }) joined

-- a stop lasts through two calls
pub stays_through : (old mid new : Outgoing) → StaysStopped old mid → StaysStopped mid new → StaysStopped old new
stays_through old mid new p q stopped = ((q (p stopped).0).0, (q (p stopped).0).1 ∙ (p stopped).1)

-- what was sent of a text, when n bytes of what waited went out
waits_on : (text gone waiting : List ℕ) (n : ℕ) (late : Bool) → nat_lt n (length waiting) ≡ late → text ≡ gone ++ waiting
    → MatchBool late (StartsWith text (gone ++ take n waiting)) (text ≡ (gone ++ take n waiting) ++ [])
waits_on text gone waiting n true e p =
    let parts : text ≡ (gone ++ take n waiting) ++ drop n waiting = p ∙ ap (λ zs. gone ++ zs) (sym (take-append-drop n waiting)) ∙ sym (append_assoc gone (take n waiting) (drop n waiting)) in
    rw parts (take-append_seam (gone ++ take n waiting) (drop n waiting))
waits_on text gone waiting n false e p =
    p ∙ ap (λ zs. gone ++ zs) (sym (take_all n waiting (ltb-false n (length waiting) e))) ∙ sym (append-nil (gone ++ take n waiting))

-- a count that stops at a greatest value
counts_on : (a b c n most : ℕ) → a ≡ min b most → c ≡ b + n → min (a + n) most ≡ min c most
counts_on a b c n most p q = omega arith

-- a writer that did not stop sends what waits
pub sends_on : {loan : ℕ} {before : Option (List ℕ)} {failures : ℕ} {text gone waiting : List ℕ} {old new : SinkState} {sent n : ℕ}
    → IsGoingOut (record { loan = loan; before = before; failures_before = failures; text = text; gone = gone; stopped = false }) old waiting sent
    → Sends old new waiting n
    → IsGoingOut (record { loan = loan; before = before; failures_before = failures; text = text; gone = gone ++ take n waiting; stopped = nat_lt n (length waiting) })
    new [] (min (sent + n) 18446744073709551615)
sends_on {before = before} {text = text} {gone = gone} {waiting = waiting} {old = old} {new = new} {sent = sent} {n = n} was sends = record {
  out = appends_both before old.contents new.contents gone (take n waiting) was.out sends.out;
  failed = rw (← was.failed) sends.failed;
  waits = waits_on text gone waiting n (nat_lt n (length waiting)) refl was.waits;
  counted = counts_on sent (length gone) _ n _ was.counted (length-append gone (take n waiting) ∙ ap (λ k. length gone + k) (length-take-le n waiting sends.within));
}
