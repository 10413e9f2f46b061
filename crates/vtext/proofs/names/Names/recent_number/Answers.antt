use Rattle.std.proofs.Common.{◌≡◌, sym, ◌∙◌}
use Rattle.std.proofs.lemmas.Slice.Eq.{bytes_eq-Decides}
use Rattle.catalog.specs.declared.spelling.Spelling.{Spelling}
use Rattle.vtext.proofs.RecentLemmas.{text_stands}
use Rattle.vtext.proofs.names.Names.recent_number.Goals as goal

pub returns-in-Some : goal.returns-in-Some
returns-in-Some c =
    let text = c.in-Some.text.now in
    let named : text.bytes.now ≡ c.args.name.now = (bytes_eq-Decides text.bytes.now c.args.name.now).0 (sym c.eq.ensures ∙ c.if-eq.true) in
    rw (← c.self.view_is)
    (text_stands (λ (v : Spelling). v.bytes.now) c.self.inside.texts.keys c.in_ok-noted.noted.number text c.args.name.now c.len.ensures.unique (sym c.in-Some.ensures.key) named)
