use Rattle.vtext.specs.Keywords.{is_refused}
use Rattle.vtext.proofs.keywords.is_refused.Goals as goal

pub returns : goal.returns
unfolding is_refused
returns c = c.is_among.ensures
