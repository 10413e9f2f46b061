use Rattle.std.proofs.Common.{◌≡◌, ◌<◌, ◌≤◌, ◌-◌, ◌∙◌, ap, sym, subst, refl, Some, length, slice_get, inl, inr, arith}
use Rattle.std.proofs.lemmas.Bool.{cases_lt}
use Rattle.std.proofs.lemmas.Option.{slice_get_read}
use Rattle.waveform.specs.Changes.{wave_at}
use Rattle.waveform.proofs.Partings.{ends_alike}
use Rattle.waveform.proofs.apart.Timeline+Value.meeting.Goals as goal

pub returns : goal.returns
returns c = λ t low.
    let mine = c.changes-mine.result.now in let theirs = c.changes.result.now in let count = c.common_end-count.result in
    let x = c.index-mine-mine.result in
    let within = c.common_end-count.ensures.within in
    let some : 0 < count = elim (cases_lt 0 count) [
      | inl lt ↦ lt
      | inr ge ↦ absurd (c.if-count-eq0.false (omega arith))
    ] in
    let there : slice_get mine (length mine - count) ≡ Some x = slice_get_read mine (length mine) (length mine - count) x refl (omega arith) c.index-mine-mine.is in
    let alike = ends_alike mine theirs (length mine - count) (length theirs - count) x c.common_end-count.ensures.alike there t (subst (λ m. m ≤ t) c.time.ensures low) in
    sym (ap (λ xs. wave_at xs t) c.changes-mine.ensures) ∙ alike ∙ ap (λ xs. wave_at xs t) c.changes.ensures
