use Rattle.std.proofs.Common.{◌≡◌, ◌∙◌, ap, sym, subst, map, [], ◌∷◌}
use Rattle.std.proofs.lemmas.List.{map-append}
use Rattle.waveform.specs.kept.Notes.{AreNoted, MayBeNoted, noted, with_note, with_notes}
use Rattle.waveform.proofs.Noting.{one_more, one_more_noted}
use Rattle.waveform.proofs.lines.Lines.note.Goals as goal
use Rattle.waveform.proofs.lines.Lines.note.Goals.{then-len-self+in_ok-write, else-len-self}

pub invariant_of-self-2 : goal.invariant_of-self-2
invariant_of-self-2 g c =
    let sample = g.V.Sample in
    let lines = c.self-2.inside.lines.items in
    let notes = c.self-2.inside.notes.items in
    let note = noted sample.stored (c.args.place, c.args.entry) in
    let left = map (noted sample.stored) notes in
    let kept : c.if-len-self.self ≡ c.args.self.now = elim c.if-len-self.branch [
      | then-len-self+in_ok-write w ↦ w.self-is ∙ w.in_ok-write.ensures
      | else-len-self w ↦ cc
    ] in
    let same : with_notes lines left ≡ c.args.self.now = c.self-2.view_is ∙ kept in
    let may = subst (λ ls. MayBeNoted sample.same sample.drift sample.can_store ls note) (sym same) c.requires in
    subst (AreNoted sample.same sample.drift sample.can_store lines)
    (sym (map-append (noted sample.stored) notes ((c.args.place, c.args.entry) ∷ [])) ∙ ap (map (noted sample.stored)) (sym c.in_ok-push.ensures.items))
    (one_more_noted sample.same sample.drift sample.can_store lines left note c.self-2.invariant may)

pub returns : goal.returns
returns g c =
    let sample = g.V.Sample in
    let lines = c.self-2.inside.lines.items in
    let notes = c.self-2.inside.notes.items in
    let note = noted sample.stored (c.args.place, c.args.entry) in
    let left = map (noted sample.stored) notes in
    let kept : c.if-len-self.self ≡ c.args.self.now = elim c.if-len-self.branch [
      | then-len-self+in_ok-write w ↦ w.self-is ∙ w.in_ok-write.ensures
      | else-len-self w ↦ cc
    ] in
    let same : with_notes lines left ≡ c.args.self.now = c.self-2.view_is ∙ kept in
    ap (λ ns. with_notes lines (map (noted sample.stored) ns)) c.in_ok-push.ensures.items
    ∙ ap (with_notes lines) (map-append (noted sample.stored) notes ((c.args.place, c.args.entry) ∷ []))
    ∙ one_more lines left note ∙ ap (λ ls. with_note ls note) same
