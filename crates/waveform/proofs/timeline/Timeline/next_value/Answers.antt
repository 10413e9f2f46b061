use Rattle.std.proofs.Common.{◌≡◌, ◌∙◌, ℕ, map, nat_lt, sym, subst}
use Rattle.std.specs.Prelude.{◌&&◌, IfSome}
use Rattle.waveform.specs.Timelines.{next_to}
use Rattle.waveform.proofs.Lists.{found_holds}
use Rattle.waveform.proofs.Places.{next_to_is}
use Rattle.waveform.proofs.timeline.Timeline.next_value.Goals as goal

pub returns-clause-found : goal.returns-clause-found
returns-clause-found g c =
    let sample = g.V.Sample in
    let entries = c.as_slice-entries.result.now in
    let next = next_to_is sample.stored sample.same entries c.count_until.result c.args.t c.args.value c.count_until.ensures.after in
    rw (← c.self.view_is, ← c.as_slice-entries.ensures.value)
    (c.first_from.ensures ∙ sym next)

pub returns-clause-can : goal.returns-clause-can
returns-clause-can g c =
    let sample = g.V.Sample in
    let can = λ (e : ℕ × g.row.V.Denot). sample.can_store e.0 e.1 in
    let entries = map sample.stored c.self.inside.entries.items in
    let next = next_to_is sample.stored sample.same c.as_slice-entries.result.now c.count_until.result c.args.t c.args.value c.count_until.ensures.after in
    let found : c.first_from.result ≡ next_to sample.same entries c.args.t c.args.value =
    rw (← c.as_slice-entries.ensures.value)
    (c.first_from.ensures ∙ sym next) in
    subst (λ o. IfSome o can) (sym found) (found_holds can (λ e. nat_lt c.args.t e.0 && sample.same e.1 c.args.value) entries c.self.invariant.1)
