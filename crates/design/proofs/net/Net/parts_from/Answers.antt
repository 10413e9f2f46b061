use Rattle.std.proofs.Common.{◌∙◌, ap, sym}
use Rattle.design.specs.Netlist.{NetEntry, stimulus}
use Rattle.design.proofs.net.Net.parts_from.Goals as goal

pub returns : goal.returns
returns c = λ m after early.
    ap (λ (n : NetEntry). stimulus n.points m) (sym c.self.view_is) ∙ c.parts_from.ensures m after early ∙ ap (λ (n : NetEntry). stimulus n.points m) c.other.view_is
