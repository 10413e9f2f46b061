use Rattle.std.proofs.Common.{◌∙◌, ap}
use Rattle.std.specs.Result.{is_ok}
use Rattle.slab.proofs.SlabLemmas.{Updates-with_value}
use Rattle.slab.specs.Slab.{with_value}
use Rattle.catalog.proofs.BlockLemmas.{same_slab}
use Rattle.catalog.proofs.blocks.set_in.Goals as goal

pub returns : goal.returns
returns c =
    let slab = c.in_ok-slab.slab.now in
    let same = same_slab _ _ c.in_ok-slab.ensures.value in
    let set = Updates-with_value slab c.args.key c.args.index (rw same c.requires) in
    rw (c.make_mut.follows.holds (with_value slab c.args.key c.args.index) (ap is_ok c.in_ok-slab.was))
    (record { changed = set.changed; others = λ other apart. set.others other apart ∙ same other })
