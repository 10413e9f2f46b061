use Rattle.std.proofs.Common.{◌≡◌, ◌∙◌, refl, ◌-◌, ◌≤◌, ◌++◌, sym, subst, length, map, arith, get_or}
use Rattle.std.proofs.lemmas.List.{get_or_default}
use Rattle.waveform.specs.kept.Links.{IsChain}
use Rattle.waveform.specs.kept.Notes.{entries_at}
use Rattle.waveform.proofs.Remaining.{Turn, after_turn, end, fewer_after_turn, turn, within}
use Rattle.waveform.proofs.writing.write_line.Goals as goal

pub loop-number-init : goal.loop-number-init
loop-number-init g c =
    let sample = g.V.Sample in
    let notes = c.args.notes.now in
    let links = c.args.links.now in
    let entries = entries_at c.args.place notes in
    let first : get_or links.first.items c.args.place 0 ≡ c.index.result.now =
    get_or_default links.first.items c.args.place 0 c.index.result.now c.requires.place ∙ sym {b = get_or links.first.items c.args.place c.index.result.now} c.index.ensures in
    record {
      before = 0;
      left = entries;
      chain = subst (λ n. IsChain notes links.next.items 0 n entries) first (c.requires.links.2 c.args.place c.requires.place);
      follow = c.requires.follow;
      ends = refl;
    }

pub offset_bounds-notes-number : goal.offset_bounds-notes-number
offset_bounds-notes-number g c =
    let sample = g.V.Sample in
    let links = c.args.links.now in
    let whole = c.args.line.now ++ map sample.stored (entries_at c.args.place c.args.notes.now) in
    let within : c.loop-number.number ≤ length c.args.notes.now =
    within sample.same sample.drift sample.can_store sample.stored c.args.notes.now links.next.items c.loop-number.number c.loop-number.line whole c.loop-number-test.true c.loop-number.invariant in
    omega arith

pub bounds-notes-number : goal.bounds-notes-number
bounds-notes-number g c =
    let sample = g.V.Sample in
    let links = c.args.links.now in
    let whole = c.args.line.now ++ map sample.stored (entries_at c.args.place c.args.notes.now) in
    let within : c.loop-number.number ≤ length c.args.notes.now =
    within sample.same sample.drift sample.can_store sample.stored c.args.notes.now links.next.items c.loop-number.number c.loop-number.line whole c.loop-number-test.true c.loop-number.invariant in
    omega arith

pub bounds-notes-number-in-loop-number : goal.bounds-notes-number-in-loop-number
bounds-notes-number-in-loop-number g c =
    let sample = g.V.Sample in
    let links = c.args.links.now in
    let whole = c.args.line.now ++ map sample.stored (entries_at c.args.place c.args.notes.now) in
    let within : c.loop-number.number ≤ length c.args.notes.now =
    within sample.same sample.drift sample.can_store sample.stored c.args.notes.now links.next.items c.loop-number.number c.loop-number.line whole c.loop-number-test.true c.loop-number.invariant in
    omega arith

pub append-requires-clause-later : goal.append-requires-clause-later
append-requires-clause-later g c =
    let sample = g.V.Sample in
    let links = c.args.links.now in
    let whole = c.args.line.now ++ map sample.stored (entries_at c.args.place c.args.notes.now) in
    let turn : Turn sample.same sample.drift sample.can_store sample.stored c.args.notes.now links.next.items c.loop-number.number c.loop-number.line whole (get_or c.args.notes.now (c.loop-number.number - 1) c.index-notes-number.result).1 =
    turn sample.same sample.drift sample.can_store sample.stored c.args.notes.now links.next.items c.loop-number.number c.loop-number.line whole c.index-notes-number.result c.loop-number-test.true c.loop-number.invariant in
    turn.later

pub append-requires-clause-can : goal.append-requires-clause-can
append-requires-clause-can g c =
    let sample = g.V.Sample in
    let links = c.args.links.now in
    let whole = c.args.line.now ++ map sample.stored (entries_at c.args.place c.args.notes.now) in
    let turn : Turn sample.same sample.drift sample.can_store sample.stored c.args.notes.now links.next.items c.loop-number.number c.loop-number.line whole (get_or c.args.notes.now (c.loop-number.number - 1) c.index-notes-number.result).1 =
    turn sample.same sample.drift sample.can_store sample.stored c.args.notes.now links.next.items c.loop-number.number c.loop-number.line whole c.index-notes-number.result c.loop-number-test.true c.loop-number.invariant in
    turn.can_store

pub append-requires-clause-other : goal.append-requires-clause-other
append-requires-clause-other g c =
    let sample = g.V.Sample in
    let links = c.args.links.now in
    let whole = c.args.line.now ++ map sample.stored (entries_at c.args.place c.args.notes.now) in
    let turn : Turn sample.same sample.drift sample.can_store sample.stored c.args.notes.now links.next.items c.loop-number.number c.loop-number.line whole (get_or c.args.notes.now (c.loop-number.number - 1) c.index-notes-number.result).1 =
    turn sample.same sample.drift sample.can_store sample.stored c.args.notes.now links.next.items c.loop-number.number c.loop-number.line whole c.index-notes-number.result c.loop-number-test.true c.loop-number.invariant in
    turn.other

pub index-requires-in-loop-number : goal.index-requires-in-loop-number
index-requires-in-loop-number g c =
    let sample = g.V.Sample in
    let links = c.args.links.now in
    let whole = c.args.line.now ++ map sample.stored (entries_at c.args.place c.args.notes.now) in
    let within : c.loop-number.number ≤ length c.args.notes.now =
    within sample.same sample.drift sample.can_store sample.stored c.args.notes.now links.next.items c.loop-number.number c.loop-number.line whole c.loop-number-test.true c.loop-number.invariant in
    omega (arith, c.requires.links.1, links.next.ok.0)

pub loop-number-preserved : goal.loop-number-preserved
loop-number-preserved g c =
    let sample = g.V.Sample in
    let links = c.args.links.now in
    let whole = c.args.line.now ++ map sample.stored (entries_at c.args.place c.args.notes.now) in
    after_turn sample.same sample.drift sample.can_store sample.stored c.args.notes.now links.next.items c.loop-number.number c.loop-number.line whole c.index-notes-number.result
    c.index-in-loop-number.result.now c.append.new.self c.loop-number-test.true c.requires.links.1 c.index-in-loop-number.ensures c.in_ok-append.ensures.ok c.loop-number.invariant

pub loop-number-smaller : goal.loop-number-smaller
loop-number-smaller g c =
    let sample = g.V.Sample in
    let links = c.args.links.now in
    let whole = c.args.line.now ++ map sample.stored (entries_at c.args.place c.args.notes.now) in
    fewer_after_turn sample.same sample.drift sample.can_store sample.stored c.args.notes.now links.next.items c.loop-number.number c.loop-number.line whole c.index-notes-number.result
    c.index-in-loop-number.result.now c.loop-number-test.true c.requires.links.1 c.index-in-loop-number.ensures c.loop-number.invariant

pub returns : goal.returns
returns g c =
    let sample = g.V.Sample in
    let whole = c.args.line.now ++ map sample.stored (entries_at c.args.place c.args.notes.now) in
    end sample.same sample.drift sample.can_store sample.stored c.args.notes.now c.args.links.now.next.items c.loop-number.number c.loop-number.line whole c.loop-number-test.false c.loop-number.invariant
