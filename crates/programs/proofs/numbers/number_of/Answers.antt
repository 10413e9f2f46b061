use Rattle.std.proofs.Common.{rules, ◌≡◌, ◌∙◌, ◌==◌, ◌<◌, ◌^◌, true, false, slice_index, arith}
use Rattle.programs.proofs.NumberLemmas.{plus_number, read_number, unread_number}
use Rattle.programs.proofs.numbers.number_of.Goals as goal

pub returns-then-starts_with-clause-written : goal.returns-then-starts_with-clause-written
returns-then-starts_with-clause-written c =
    let plus : (slice_index c.args.text.now 0 == 43) ≡ true = search rules in plus_number c.args.least c.args.most c.args.text.now plus

pub returns-in-Ok-clause-written : goal.returns-in-Ok-clause-written
returns-in-Ok-clause-written c =
    let plain : (slice_index c.args.text.now 0 == 43) ≡ false = search rules in
    let read = c.in-Ok.ensures.value.0 in
    c.within.ensures.kept ∙ read_number c.args.least c.args.most c.args.text.now c.in-Ok.number plain read.0.0 read.1

pub returns-in-Err-clause-written : goal.returns-in-Err-clause-written
returns-in-Err-clause-written c =
    let plain : (slice_index c.args.text.now 0 == 43) ≡ false = search rules in
    let fits : c.args.most < 2 ^ 64 = omega arith in
    unread_number c.args.least c.args.most c.args.text.now fits plain c.in-Err.ensures.value.0
