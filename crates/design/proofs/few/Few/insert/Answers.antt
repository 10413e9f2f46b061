use Rattle.std.proofs.Common.{◌∙◌, ◌+◌, ◌≡◌, ◌<◌, sym, ap, arith, insert, length, rules, take}
use Rattle.std.proofs.lemmas.List.{length-take-le}
use Rattle.std.specs.List.{slice_set}
use Rattle.design.proofs.FewLemmas.{insert_within}
use Rattle.design.proofs.few.Few.insert.Goals as goal

pub returns : goal.returns
returns c =
    let keys = c.self.inside.keys in
    let count = c.self.inside.count in
    let room : count < length keys = search rules in
    let total : length c.args.self.now ≡ count = sym (ap (λ l. length l) c.self.view_is) ∙ length-take-le count keys (omega arith) in
    ap (λ l. take (count + 1) (slice_set l c.args.at c.args.key)) c.copy_within.ensures.after
    ∙ insert_within keys c.args.at count c.args.key (omega (arith, c.requires.at, total)) room
    ∙ ap (λ l. insert l c.args.at c.args.key) c.self.view_is
