use Rattle.std.proofs.Common.{◌∙◌, ap}
use Rattle.design.specs.Keys.{netlist}
use Rattle.scratch.specs.kept.Kept.{places_at, values_at}
use Rattle.scratch.specs.kept.Tally.{tally_of}
use Rattle.scratch.proofs.Counting.{listed_drivers}
use Rattle.scratch.proofs.tallies.Tallies.count.Goals as goal

pub returns : goal.returns
returns c =
    let d = netlist c.args.design.now in let values = c.in_ok-counted.counted.items in
    record {
      nets = λ m tally n there net.
          c.in_ok-nets.ensures m tally there
          ∙ ap (λ vs. tally_of (values_at vs (places_at c.as_slice-2.result.now m))) c.as_slice-3.ensures.value
          ∙ ap (λ l. tally_of (values_at values l)) (ap (λ ls. places_at ls m) c.as_slice-2.ensures.value ∙ listed_drivers d c.args.wiring.now.drivers.items c.requires.wired.drivers m n net);
      counted = λ some. c.in_ok-counted.ensures;
    }
