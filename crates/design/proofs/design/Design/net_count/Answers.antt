use Rattle.std.proofs.Common.{sym, ◌∙◌}
use Rattle.design.specs.kept.Shown.{design_of}
use Rattle.design.proofs.DesignLemmas.{net_count_is}
use Rattle.design.proofs.design.Design.net_count.Goals as goal

pub returns : goal.returns
returns c = rw (← c.self.view_is) (c.len.ensures ∙ sym (net_count_is (design_of c.self.inside)))
