use Rattle.vread.proofs.detail.detail_of.Goals as goal

pub late_detail-requires-clause-sound : goal.late_detail-requires-clause-sound
late_detail-requires-clause-sound c = c.modules_are_sound.ensures c.args.default c.args.text.now c.in-Ok.modules c.in-Ok.ensures.list
