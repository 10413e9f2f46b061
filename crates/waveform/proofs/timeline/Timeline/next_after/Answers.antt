use Rattle.std.proofs.Common.{◌≡◌, ℕ, map, nat_lt, sym, subst}
use Rattle.std.specs.Prelude.{IfSome}
use Rattle.waveform.specs.Timelines.{first_after}
use Rattle.waveform.proofs.Lists.{found_holds}
use Rattle.waveform.proofs.Places.{first_after_is}
use Rattle.waveform.proofs.timeline.Timeline.next_after.Goals as goal

pub returns-clause-found : goal.returns-clause-found
returns-clause-found g c =
    let first = first_after_is g.V.Sample.stored c.as_slice-entries.result.now c.count_until.result c.args.t c.count_until.ensures.after in
    cc

pub returns-clause-can : goal.returns-clause-can
returns-clause-can g c =
    let sample = g.V.Sample in
    let can = λ (e : ℕ × g.row.V.Denot). sample.can_store e.0 e.1 in
    let entries = map sample.stored c.self.inside.entries.items in
    let first = first_after_is sample.stored c.as_slice-entries.result.now c.count_until.result c.args.t c.count_until.ensures.after in
    let found : c.entry_at.result ≡ first_after entries c.args.t = cc in
    subst (λ o. IfSome o can) (sym found) (found_holds can (λ e. nat_lt c.args.t e.0) entries c.self.invariant.1)
