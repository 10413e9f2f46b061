use Rattle.std.proofs.Common.{◌∙◌, inl, inr, subst}
use Rattle.resim.specs.kept.Changes.{has_changed}
use Rattle.bench.specs.declared.simulated.Simulated.{Simulated}
use Rattle.bench.proofs.SinceLemmas.{IsLawful, has_since}
use Rattle.bench.proofs.bench.settle.Goals as goal

pub returns-clause-since : goal.returns-clause-since
returns-clause-since c =
    let old = c.args.old.now in
    let old_is : IsLawful old = record { design = c.lawful.ensures.design; keys = c.lawful.ensures.keys; names = c.names_are_keys.ensures.nets } in
    let seen : IsLawful c.deref.result.now.design = record { design = c.lawful-2.ensures.design; keys = c.lawful-2.ensures.keys; names = c.names_are_keys-2.ensures.nets } in
    let new_is = subst (λ (s : Simulated). IsLawful s.design) c.deref.ensures seen in
    has_since c.args.version old _ old_is new_is (has_changed c.args.changed.now) c.requires.changed c.args.since.now c.note.new.self c.note.ensures.changed
    (λ key off. c.note.ensures.others key off ∙ c.make_room.ensures.same key)
    (elim c.note.ensures.gone [
      | inl now ↦ inl now
      | inr both ↦ inr (both.0 ∙ c.make_room.ensures.gone, c.requires.gone both.1)
    ])
