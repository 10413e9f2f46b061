use Rattle.std.proofs.Common.{◌≡◌, ◌∙◌, ◌<◌, ◌+◌, ap, sym, subst, refl, All, map, drop, slice_index_or, [], ◌∷◌, ◌++◌, arith}
use Rattle.std.proofs.lemmas.List.{drop_more, drop_all, get_or_default}
use Rattle.std.specs.Prelude.{slice_set}
use Rattle.waveform.specs.kept.Notes.{AreNoted, MayBeNoted, noted, with_note, with_notes}
use Rattle.waveform.specs.kept.Timelines.{is_reached}
use Rattle.waveform.proofs.writing.write_one_by_one.Goals as goal

pub loop-i-init : goal.loop-i-init
loop-i-init g c = record { are = c.requires; whole = refl }

pub index_mut-line-requires : goal.index_mut-line-requires
index_mut-line-requires g c =
    let sample = g.V.Sample in
    let lines = c.loop-i.lines.items in
    let note = c.index-notes-i.result in
    let entry = sample.stored note.1 in
    let later = map (noted sample.stored) (drop (c.loop-i.i + 1) c.args.notes.now) in
    let left : map (noted sample.stored) (drop c.loop-i.i c.args.notes.now) ≡ noted sample.stored note ∷ later =
    ap (map (noted sample.stored)) (drop_more c.args.notes.now c.loop-i.i note c.loop-i-test.true ∙ ap (λ n. n ∷ drop (c.loop-i.i + 1) c.args.notes.now) (sym c.index-notes-i.is)) in
    let are : MayBeNoted sample.same sample.drift sample.can_store lines (noted sample.stored note) × AreNoted sample.same sample.drift sample.can_store (with_note lines (noted sample.stored note)) later =
    subst (AreNoted sample.same sample.drift sample.can_store lines) left c.loop-i.invariant.are in
    rw c.loop-i.lines.ok.0 are.0.0

pub append-requires-clause-later : goal.append-requires-clause-later
append-requires-clause-later g c =
    let sample = g.V.Sample in
    let lines = c.loop-i.lines.items in
    let note = c.index-notes-i.result in
    let entry = sample.stored note.1 in
    let later = map (noted sample.stored) (drop (c.loop-i.i + 1) c.args.notes.now) in
    let left : map (noted sample.stored) (drop c.loop-i.i c.args.notes.now) ≡ noted sample.stored note ∷ later =
    ap (map (noted sample.stored)) (drop_more c.args.notes.now c.loop-i.i note c.loop-i-test.true ∙ ap (λ n. n ∷ drop (c.loop-i.i + 1) c.args.notes.now) (sym c.index-notes-i.is)) in
    let are : MayBeNoted sample.same sample.drift sample.can_store lines (noted sample.stored note) × AreNoted sample.same sample.drift sample.can_store (with_note lines (noted sample.stored note)) later =
    subst (AreNoted sample.same sample.drift sample.can_store lines) left c.loop-i.invariant.are in
    let line : c.index_mut-line.result.now ≡ slice_index_or lines note.0 [] = c.index_mut-line.ensures.value ∙ get_or_default lines note.0 c.index_mut-line.result.now [] are.0.0 in
    subst (All (λ e. e.0 < entry.0)) (sym line) are.0.1

pub append-requires-clause-can : goal.append-requires-clause-can
append-requires-clause-can g c =
    let sample = g.V.Sample in
    let lines = c.loop-i.lines.items in
    let note = c.index-notes-i.result in
    let entry = sample.stored note.1 in
    let later = map (noted sample.stored) (drop (c.loop-i.i + 1) c.args.notes.now) in
    let left : map (noted sample.stored) (drop c.loop-i.i c.args.notes.now) ≡ noted sample.stored note ∷ later =
    ap (map (noted sample.stored)) (drop_more c.args.notes.now c.loop-i.i note c.loop-i-test.true ∙ ap (λ n. n ∷ drop (c.loop-i.i + 1) c.args.notes.now) (sym c.index-notes-i.is)) in
    let are : MayBeNoted sample.same sample.drift sample.can_store lines (noted sample.stored note) × AreNoted sample.same sample.drift sample.can_store (with_note lines (noted sample.stored note)) later =
    subst (AreNoted sample.same sample.drift sample.can_store lines) left c.loop-i.invariant.are in
    are.0.2

pub append-requires-clause-other : goal.append-requires-clause-other
append-requires-clause-other g c =
    let sample = g.V.Sample in
    let lines = c.loop-i.lines.items in
    let note = c.index-notes-i.result in
    let entry = sample.stored note.1 in
    let later = map (noted sample.stored) (drop (c.loop-i.i + 1) c.args.notes.now) in
    let left : map (noted sample.stored) (drop c.loop-i.i c.args.notes.now) ≡ noted sample.stored note ∷ later =
    ap (map (noted sample.stored)) (drop_more c.args.notes.now c.loop-i.i note c.loop-i-test.true ∙ ap (λ n. n ∷ drop (c.loop-i.i + 1) c.args.notes.now) (sym c.index-notes-i.is)) in
    let are : MayBeNoted sample.same sample.drift sample.can_store lines (noted sample.stored note) × AreNoted sample.same sample.drift sample.can_store (with_note lines (noted sample.stored note)) later =
    subst (AreNoted sample.same sample.drift sample.can_store lines) left c.loop-i.invariant.are in
    let line : c.index_mut-line.result.now ≡ slice_index_or lines note.0 [] = c.index_mut-line.ensures.value ∙ get_or_default lines note.0 c.index_mut-line.result.now [] are.0.0 in
    ap (λ l. is_reached sample.same sample.drift l entry.0 entry.1) line ∙ are.0.3

pub loop-i-preserved : goal.loop-i-preserved
loop-i-preserved g c =
    let sample = g.V.Sample in
    let lines = c.loop-i.lines.items in
    let note = c.index-notes-i.result in
    let entry = sample.stored note.1 in
    let later = map (noted sample.stored) (drop (c.loop-i.i + 1) c.args.notes.now) in
    let left : map (noted sample.stored) (drop c.loop-i.i c.args.notes.now) ≡ noted sample.stored note ∷ later =
    ap (map (noted sample.stored)) (drop_more c.args.notes.now c.loop-i.i note c.loop-i-test.true ∙ ap (λ n. n ∷ drop (c.loop-i.i + 1) c.args.notes.now) (sym c.index-notes-i.is)) in
    let are : MayBeNoted sample.same sample.drift sample.can_store lines (noted sample.stored note) × AreNoted sample.same sample.drift sample.can_store (with_note lines (noted sample.stored note)) later =
    subst (AreNoted sample.same sample.drift sample.can_store lines) left c.loop-i.invariant.are in
    let line : c.index_mut-line.result.now ≡ slice_index_or lines note.0 [] = c.index_mut-line.ensures.value ∙ get_or_default lines note.0 c.index_mut-line.result.now [] are.0.0 in
    let written : slice_set lines note.0 c.append.new.self ≡ with_note lines (noted sample.stored note) =
    ap (slice_set lines note.0) (c.in_ok-append.ensures.ok ∙ ap (λ l. l ++ entry ∷ []) line) in
    record {
      are = subst (λ ls. AreNoted sample.same sample.drift sample.can_store ls later) (sym written) are.1;
      whole = ap (λ ls. with_notes ls later) written ∙ ap (with_notes lines) (sym left) ∙ c.loop-i.invariant.whole;
    }

pub returns : goal.returns
returns g c =
    let sample = g.V.Sample in
    let none : drop c.loop-i.i c.args.notes.now ≡ [] = drop_all c.loop-i.i c.args.notes.now (let past = c.loop-i-test.false in omega arith) in
    ap (λ ns. with_notes c.loop-i.lines.items (map (noted sample.stored) ns)) (sym none) ∙ c.loop-i.invariant.whole
