use Rattle.std.proofs.Common.{◌≡◌, ◌∙◌, ◌+◌, ◌-◌, ◌<◌, ℕ, [], ap, sym, subst, arith, drop, get_or, length, replicate}
use Rattle.std.proofs.lemmas.List.{drop_all, get_or-replicate, length-replicate, length-set}
use Rattle.waveform.specs.kept.Links.{IsChain}
use Rattle.waveform.specs.kept.Notes.{entries_at}
use Rattle.waveform.proofs.Chains.{chains_more}
use Rattle.waveform.proofs.writing.link_notes.Goals as goal

pub loop-i-init : goal.loop-i-init
loop-i-init g c =
    let notes = c.args.notes.now in
    let first = c.in_ok-first.first.items in
    let next = c.in_ok-next.next.items in
    let no_first : first ≡ replicate c.args.places 0 = c.in_ok-first.ensures in
    let no_next : next ≡ replicate (length notes) 0 = c.in_ok-next.ensures in
    let places : length first ≡ c.args.places = ap length no_first ∙ length-replicate c.args.places 0 in
    let none : drop (length notes) notes ≡ [] = drop_all (length notes) notes (omega arith) in
    record {
      places = places;
      notes = ap length no_next ∙ length-replicate (length notes) 0;
      chains = λ place less. subst (λ ns. IsChain notes next (length notes) (get_or first place 0) (entries_at place ns)) (sym none)
          (ap (λ fs. get_or fs place 0) no_first ∙ get_or-replicate c.args.places place 0 0 (subst (λ n. place < n) places less));
    }

pub loop-i-preserved : goal.loop-i-preserved
loop-i-preserved g c =
    let notes = c.args.notes.now in
    let i = c.loop-i.i - 1 in
    let note = get_or notes i c.index-notes-i.result in
    let first = c.loop-i.first.items in
    let next = c.loop-i.next.items in
    let one_more : i + 1 ≡ c.loop-i.i = omega arith in
    let chains : (p : ℕ) → p < length first → IsChain notes next (i + 1) (get_or first p 0) (entries_at p (drop (i + 1) notes)) =
    subst (λ n. (p : ℕ) → p < length first → IsChain notes next n (get_or first p 0) (entries_at p (drop n notes))) (sym one_more) c.loop-i.invariant.chains in
    let within : note.0 < length first = subst (λ n. note.0 < n) (sym c.loop-i.invariant.places) (c.requires.within i c.index-notes-i.result (omega arith)) in
    record {
      places = length-set first note.0 (i + 1) ∙ c.loop-i.invariant.places;
      notes = length-set next i c.index.result.now ∙ c.loop-i.invariant.notes;
      chains = λ place less. chains_more notes first next i c.index.result.now c.index-notes-i.result place (omega arith) c.loop-i.invariant.notes within c.index.ensures chains
          (subst (λ n. place < n) (length-set first note.0 (i + 1)) less);
    }

pub returns : goal.returns
returns g c =
    let none : c.loop-i.i ≡ 0 = omega arith in (
      c.loop-i.invariant.places,
      c.loop-i.invariant.notes,
      subst (λ i. (place : ℕ) → place < c.args.places → IsChain c.args.notes.now c.loop-i.next.items i (get_or c.loop-i.first.items place 0) (entries_at place (drop i c.args.notes.now)))
          none (λ place less. c.loop-i.invariant.chains place (subst (λ n. place < n) (sym c.loop-i.invariant.places) less)),
    )
