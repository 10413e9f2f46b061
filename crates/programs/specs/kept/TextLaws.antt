-- One text after another.
use Rattle.std.specs.Prelude.{◌++◌, ℕ, List}
use Rattle.std.proofs.Common.{◌∙◌, ap, append_assoc}
use Rattle.devices.specs.Outgoing.{Adds, Outgoing}

pub adds_then : (old mid new : Outgoing) (a b : List ℕ) → Adds old mid a → Adds mid new b → Adds old new (a ++ b)
adds_then old mid new a b p q =
    q ∙ ap (λ (o : Outgoing). record o { text = o.text ++ b; gone = new.gone; stopped = new.stopped }) p
    ∙ ap (λ (ys : List ℕ). record old { text = ys; gone = new.gone; stopped = new.stopped }) (append_assoc old.text a b)
