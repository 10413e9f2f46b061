use Rattle.std.proofs.Common.{◌≡◌, ◌∙◌, ap, ℕ, List, true, take_all, slice_index_or}
use Rattle.std.proofs.lemmas.Bool.{or_left, or_right}
use Rattle.design.specs.Keys.{netlist}
use Rattle.design.specs.Names.{same_name}
use Rattle.design.specs.kept.Places.{driver_places}
use Rattle.scratch.proofs.Stirred.{same_self_name}
use Rattle.rundiff.specs.kept.Places.{gate_at, is_among, net_at}
use Rattle.rundiff.proofs.Among.{live_net}
use Rattle.rundiff.proofs.Readers.{driver_at}
use Rattle.rundiff.proofs.Steps.{each_next}
use Rattle.rundiff.proofs.spreading.add_drivers.Goals as goal

pub loop-place-preserved : goal.loop-place-preserved
loop-place-preserved c =
    let xs = c.args.nets.now in let i = c.loop-place.place-index in let x = slice_index_or xs i 0 in
    let d = netlist c.args.new.now in
    let drivers : ℕ → List ℕ = λ p. driver_places d.gates (net_at d p).name in
    let before = c.loop-place.gates.items in
    let now = c.add_drivers_of.new.gates.items in
    let done = c.in_ok-add_drivers_of.ensures in
    record {
      more = λ q on. done q ∙ or_right (is_among (drivers x) q) (is_among before q) (c.loop-place.invariant.more q on);
      drivers =
          each_next (λ p. (q : ℕ) → is_among (drivers p) q ≡ true → is_among now q ≡ true) xs i c.loop-place-test.true
          (λ p was q drives. done q ∙ or_right (is_among (drivers x) q) (is_among before q) (c.loop-place.invariant.drivers p was q drives))
          (λ q drives. done q ∙ or_left (is_among (drivers x) q) (is_among before q) drives);
    }

pub returns-clause-drivers : goal.returns-clause-drivers
returns-clause-drivers c = λ q low on.
    let d = netlist c.args.new.now in
    let xs = c.args.nets.now in
    let out = (gate_at d q).output in
    let net = live_net d (is_among xs) out on in
    let p : ℕ = net.0 in
    c.loop-place.invariant.drivers p (ap (λ (l : List ℕ). is_among l p) (take_all c.loop-place.place-index xs c.loop-place-test.false) ∙ net.1) q
    (driver_at d (net_at d p).name q low ∙ ap (λ (name : List ℕ). same_name out name) net.2 ∙ same_self_name out)
