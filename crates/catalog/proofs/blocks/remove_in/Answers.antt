use Rattle.std.proofs.Common.{◌∙◌, ap}
use Rattle.std.specs.Result.{is_ok}
use Rattle.catalog.proofs.BlockLemmas.{same_slab}
use Rattle.catalog.proofs.blocks.remove_in.Goals as goal

pub returns : goal.returns
returns c =
    let same = same_slab _ _ c.in_ok-make_mut.ensures.value in
    rw (c.make_mut.follows.holds c.remove.new.self (ap is_ok c.in_ok-make_mut.was))
    (record { changed = c.remove.ensures.updates.changed; others = λ other apart. c.remove.ensures.updates.others other apart ∙ same other })
