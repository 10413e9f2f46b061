use Rattle.std.proofs.Common.{arith}
use Rattle.programs.proofs.FileLemmas.{consumes_more, consumes_none, first_of_all, first_of_most, length_more}
use Rattle.programs.proofs.file.first_bytes.Goals as goal

pub blocks-2-init : goal.blocks-2-init
blocks-2-init g c = rw c.new-text.ensures.items (consumes_none _, omega arith)

pub returns-then-count-eq0-clause-first : goal.returns-then-count-eq0-clause-first
returns-then-count-eq0-clause-first g c =
    let taken = c.in_ok-count.ensures.taken in
    let grown = length_more _ _ _ _ _ taken in
    first_of_all _ _ _ c.args.most (consumes_more _ _ _ _ _ _ c.blocks-2.invariant.0 taken) (taken.end c.if-count-eq0.true) (omega arith)

pub returns-then-count-eq0-clause-rest : goal.returns-then-count-eq0-clause-rest
returns-then-count-eq0-clause-rest g c = consumes_more _ _ _ _ _ _ c.blocks-2.invariant.0 c.in_ok-count.ensures.taken

pub blocks-2-smaller : goal.blocks-2-smaller
blocks-2-smaller g c =
    let taken = c.in_ok-count.ensures.taken in
    let grown = length_more _ _ _ _ _ taken in
    let held = c.blocks-2.text.ok.0 in omega arith

pub blocks-2-preserved : goal.blocks-2-preserved
blocks-2-preserved g c =
    let taken = c.in_ok-count.ensures.taken in
    let grown = length_more _ _ _ _ _ taken in
    let held = c.blocks-2.text.ok.0 in
    let bound = c.in_ok-count.ensures.bound in
    let within = c.blocks-2.invariant.1 in (consumes_more _ _ _ _ _ _ c.blocks-2.invariant.0 taken, omega arith)

pub returns-clause-first : goal.returns-clause-first
returns-clause-first g c =
    let held = c.blocks-2.text.ok.0 in
    let most = c.blocks-2.invariant.1 in first_of_most _ _ _ c.args.most c.blocks-2.invariant.0 (omega arith)

pub returns-clause-rest : goal.returns-clause-rest
returns-clause-rest g c = c.blocks-2.invariant.0

pub returns-clause-most : goal.returns-clause-most
returns-clause-most g c = c.blocks-2.invariant.1
