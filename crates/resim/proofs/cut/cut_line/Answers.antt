use Rattle.resim.proofs.Cutting.{whole_until}
use Rattle.resim.proofs.cut.cut_line.Goals as goal

pub returns-then-last-horizon-clause-whole : goal.returns-then-last-horizon-clause-whole
returns-then-last-horizon-clause-whole g c =
    whole_until c.args.horizon c.last-last.result.0 c.args.line.now c.if-last-horizon.true c.last-last.ensures.latest
