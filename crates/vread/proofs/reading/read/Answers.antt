use Rattle.vread.proofs.reading.read.Goals as goal

pub design_of-requires : goal.design_of-requires
design_of-requires c = c.modules_are_sound.ensures c.args.default c.args.text.now c.in_ok-modules.modules c.in_ok-modules.ensures.list
