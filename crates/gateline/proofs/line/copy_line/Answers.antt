use Rattle.std.proofs.Common.{◌∙◌, suc, arith}
use Rattle.gateline.proofs.Copied.{same_begin}
use Rattle.gateline.proofs.Lists.{if_ok_then}
use Rattle.gateline.proofs.line.copy_line.Goals as goal
use Rattle.gateline.specs.kept.OldLines.{line_seen}

pub returns : goal.returns
returns g c =
    let answer = g.S.Stepper.answer in let cell = c.args.cell.now in let old = line_seen c.args.old in let last = c.args.last in
    let same = same_begin answer cell c.args.along.waves.now old (suc last) (λ t low. c.requires.beside.followed t (omega arith)) (λ some. c.requires.there)
    (λ t low. c.requires.inputs t (omega arith)) c.same_changes.ensures c.cut_of_changes.ensures last last c.requires.beside.whole (omega arith) (omega arith) in
    if_ok_then c.fork.result (λ trace copied. copied ∙ same) c.fork.ensures.entries
