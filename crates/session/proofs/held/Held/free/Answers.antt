use Rattle.std.proofs.Common.{not, ap, ◌∙◌, rules}
use Rattle.std.proofs.lemmas.Fn.{filter_same}
use Rattle.session.specs.Held.{without_held}
use Rattle.session.specs.Words.{same_word}
use Rattle.session.proofs.held.Held.free.Goals as goal

pub returns-clause-freed : goal.returns-clause-freed
returns-clause-freed c =
    filter_same _ (λ h. not (same_word h.0 c.args.name.now)) _ (λ h b f called. search rules) _ _ c.retain.ensures.filtered
    ∙ ap (λ held. without_held held c.args.name.now) c.self.view_is
