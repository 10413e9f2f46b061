-- Writing the pieces of a text one after another.
use Rattle.std.proofs.Common.{◌≡◌, ℕ, List, ◌++◌, append_assoc, ap, ◌∙◌}
use Rattle.devices.specs.Outgoing.{Outgoing, Adds}

-- What was written since `old`, with what is left to write, is all of it.
pub record IsOnWay (old now : Outgoing) (left all : List ℕ) : Type 0 where
  pub same : now ≡ record old { text = now.text; gone = now.gone; stopped = now.stopped }
  pub text : now.text ++ left ≡ old.text ++ all

-- a piece more
pub on : (old now then : Outgoing) (piece left all : List ℕ) → IsOnWay old now (piece ++ left) all → Adds now then piece → IsOnWay old then left all
on old now then piece left all way adds = record {
  same = cc (way.same, adds);
  text =
      let pieces : then.text ≡ now.text ++ piece = ap (λ w. w.text) adds in
      rw (pieces, append_assoc) way.text;
}

-- the last piece
pub arrived : (old now then : Outgoing) (left all : List ℕ) → IsOnWay old now left all → Adds now then left → Adds old then all
arrived old now then left all way adds =
    let whole : then.text ≡ old.text ++ all = ap (λ w. w.text) adds ∙ way.text in
    cc (way.same, adds)

-- two pieces
pub both : (a b c : Outgoing) (x y : List ℕ) → Adds a b x → Adds b c y → Adds a c (x ++ y)
both a b c x y first second =
    let texts : c.text ≡ a.text ++ (x ++ y) = ap (λ w. w.text) second ∙ (ap (λ t. t ++ y) (ap (λ w. w.text) first) ∙ append_assoc a.text x y) in
    cc (first, second)
