use Rattle.std.proofs.Common.{◌≡◌, length, sym, ap, ◌∙◌, arith}
use Rattle.std.proofs.lemmas.List.{length-map}
use Rattle.vtext.specs.Keywords.{plain_word}
use Rattle.vtext.specs.kept.Keywords.{meanings_of}
use Rattle.vtext.proofs.TableLemmas.{meanings_more, number_is_new, number_is_old}
use Rattle.vtext.proofs.table.Table.number.Goals as goal

pub returns-in_ok-push-clause-meanings : goal.returns-in_ok-push-clause-meanings
returns-in_ok-push-clause-meanings c =
    let names = c.args.self.now.names in let new = c.add.new.self in let meanings = c.args.self.now.meanings in
    let last : c.in_ok-number.number ≡ length names = omega (arith, c.if-number-len.true, c.len.ensures, meanings.ok.0, ap length c.requires, length-map names (plain_word names)) in
    c.in_ok-push.ensures.items
    ∙ meanings_more names new c.args.name.now meanings.items c.plain_word.result
    (number_is_new names new c.args.name.now c.in_ok-number.number c.in_ok-number.ensures.ok c.in_ok-number.ensures.number last) c.in_ok-number.ensures.ok c.requires
    (c.plain_word.ensures new c.in_ok-number.ensures.number)

pub returns-else-number-len-clause-meanings : goal.returns-else-number-len-clause-meanings
returns-else-number-len-clause-meanings c =
    let names = c.args.self.now.names in let meanings = c.args.self.now.meanings in
    c.requires
    ∙ ap meanings_of (sym (number_is_old names c.add.new.self c.args.name.now c.in_ok-number.number c.in_ok-number.ensures.ok c.in_ok-number.ensures.number
    (λ last. c.if-number-len.false (omega (arith, last, c.len.ensures, meanings.ok.0, ap length c.requires, length-map names (plain_word names))))))
