use Rattle.std.proofs.Common.{◌≡◌, ◌-◌, ℕ, None, Some, map, nat_le, sym, subst, ap, arith}
use Rattle.std.specs.List.{last_or}
use Rattle.std.specs.Prelude.{IfSome}
use Rattle.std.proofs.lemmas.List.Elements.{All-filter}
use Rattle.waveform.specs.Timelines.{entries_until}
use Rattle.waveform.proofs.Lists.{last_holds}
use Rattle.waveform.proofs.Turns.{before_zero, before_is}
use Rattle.waveform.proofs.timeline.Timeline.last_before.Goals as goal

pub returns-then-t-eq0-clause-found : goal.returns-then-t-eq0-clause-found
returns-then-t-eq0-clause-found g c = rw c.if-t-eq0.true (sym (ap (last_or None) (before_zero c.args.self.now)))

pub returns-clause-found : goal.returns-clause-found
returns-clause-found g c =
    let before = ap (last_or None) (before_is (map g.V.Sample.stored c.self.inside.entries.items) c.args.t (omega arith)) in
    cc

pub returns-clause-can : goal.returns-clause-can
returns-clause-can g c =
    let sample = g.V.Sample in
    let can = λ (e : ℕ × g.row.V.Denot). sample.can_store e.0 e.1 in
    let entries = map sample.stored c.self.inside.entries.items in
    let found : last_or None (entries_until entries (c.args.t - 1)) ≡ Some c.latest_entry.result = cc in
    subst (λ o. IfSome o can) found
    (last_holds can None (entries_until entries (c.args.t - 1)) tt (All-filter (λ e. nat_le e.0 (c.args.t - 1)) can entries c.self.invariant.1))
