use Rattle.std.proofs.Common.{[], ap, sym, subst, IsSome}
use Rattle.std.specs.Option.{option_map_or}
use Rattle.design.specs.Keys.{netlist}
use Rattle.vread.proofs.KeyLemmas.{some_within}
use Rattle.vread.proofs.net_keys.key_of.Goals as goal

pub net_key_at-requires : goal.net_key_at-requires
net_key_at-requires c = some_within (netlist c.args.design.now).nets c.args.run.place c.requires

pub returns : goal.returns
returns c =
    let net = c.net_key_at.ensures.net in
    record {
      net = net;
      name = ap (λ found. option_map_or (λ n. n.name) found []) net;
      there = subst IsSome (sym net) c.requires;
    }
