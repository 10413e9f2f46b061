use Rattle.std.proofs.Common.{◌∷◌, ◌++◌, [], refl}
use Rattle.hub.proofs.Beginnings.{starts_on}
use Rattle.hub.proofs.history.History.follow.Goals as goal

pub returns-else-len-clause-begins : goal.returns-else-len-clause-begins
returns-else-len-clause-begins g c =
    starts_on (c.args.log.now.items ++ c.args.entry.now ∷ []) c.args.log.now.items c.args.self.now (c.args.entry.now ∷ [], refl) c.requires.begins
