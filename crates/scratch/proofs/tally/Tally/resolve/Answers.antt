use Rattle.std.proofs.Common.{◌≡◌, ◌∙◌, ◌∷◌, [], ap}
use Rattle.std.specs.Prelude.{nat_lt}
use Rattle.fourstate.specs.Nets.{net_of}
use Rattle.scratch.proofs.Counting.{stand, stand_for}
use Rattle.scratch.proofs.tally.Tally.resolve.Goals as goal

pub returns : goal.returns
returns c = λ values is.
    let tally = c.args.self.now in
    let given : c.one_if-zero.result ∷ c.one_if-one.result ∷ c.one_if-unknown.result ∷ [] ≡ stand_for (nat_lt 0 tally.zeros) (nat_lt 0 tally.ones) (nat_lt 0 tally.unknowns) =
    (let zero = c.one_if-zero.ensures in let one = c.one_if-one.ensures in let unknown = c.one_if-unknown.ensures in cc) in
    c.resolve.ensures ∙ ap (net_of c.args.kind) given ∙ stand c.args.kind values tally is
