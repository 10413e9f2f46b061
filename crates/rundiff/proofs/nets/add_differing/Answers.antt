use Rattle.std.proofs.Common.{inr, ◌||◌, nat_cmp}
use Rattle.std.specs.BTreeSet.{contains}
use Rattle.std.proofs.lemmas.Bool.{or_left, or_right}
use Rattle.design.specs.Keys.{netlist}
use Rattle.event_queue.proofs.Changes.{by_ok}
use Rattle.rundiff.specs.kept.Places.{gate_at, is_among}
use Rattle.rundiff.proofs.Alike.{live_grows}
use Rattle.rundiff.proofs.nets.add_differing.Goals as goal

pub returns-then-readers_drive_live-clause-alike : goal.returns-then-readers_drive_live-clause-alike
returns-then-readers_drive_live-clause-alike g c =
    let new = netlist c.args.former.now.new.now in
    let live = contains nat_cmp c.args.all_live.now in
    let was = is_among c.args.found.now.items in
    inr (λ q low reading. live_grows new live (λ p. was p || live p) (λ p on. or_right (was p) (live p) on) (gate_at new q).output (c.readers_drive_live.ensures c.if-readers_drive_live.true q low reading))

pub returns-then-differs-clause-alike : goal.returns-then-differs-clause-alike
returns-then-differs-clause-alike g c =
    let new = netlist c.args.former.now.new.now in
    let live = contains nat_cmp c.args.all_live.now in
    let now = is_among c.add_readers.new.found.items in
    by_ok c.add_readers.result c.add_readers.ensures.readers
    (λ readers. inr (λ q low reading. live_grows new now (λ p. now p || live p) (λ p on. or_left (now p) (live p) on) (gate_at new q).output (readers q low reading)))
