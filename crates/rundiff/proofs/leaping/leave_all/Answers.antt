use Rattle.std.proofs.Common.{sym, subst, ℕ, Option, eqb-true, ◌≤◌, slice_index_or}
use Rattle.std.specs.Option.{ForSome}
use Rattle.std.proofs.lemmas.Option.{slice_get-get_or}
use Rattle.fourstate.specs.declared.value.Value.{Value}
use Rattle.fourstate.specs.Values.{same_value}
use Rattle.waveform.specs.Entries.{standing}
use Rattle.waveform.specs.kept.Patches.{Keeps, PatchRecord}
use Rattle.waveform.specs.kept.Timelines.{end_of}
use Rattle.rundiff.specs.kept.Fronts.{IsFree}
use Rattle.rundiff.specs.kept.PlaceMaps.{kept_at}
use Rattle.rundiff.proofs.Steps.{at_one, each_more, others_more}
use Rattle.rundiff.proofs.leaping.leave_all.Goals as goal

pub loop-place-preserved : goal.loop-place-preserved
loop-place-preserved c =
    let xs = c.args.places.now in let i = c.loop-place.place-index in let x = slice_index_or xs i 0 in
    let at = slice_get-get_or xs i 0 c.loop-place-test.true in
    let before : ℕ → Option (PatchRecord Value) = kept_at c.loop-place.waves in
    let now : ℕ → Option (PatchRecord Value) = kept_at c.leave.new.patches in
    let done = c.in_ok-leave.ensures in
    record {
      ends = λ p. at_one (λ q o. ForSome o (λ patch. end_of patch.line ≤ c.args.t)) before now x p done.others (λ same. done.end) (λ apart. c.loop-place.invariant.ends p);
      free = each_more (λ p. IsFree (now p)) xs i x at (λ p was apart. subst IsFree (sym (done.others p apart)) (c.loop-place.invariant.free p was)) done.free;
      others = others_more (kept_at c.args.waves.now) before now xs i c.loop-place-test.true done.others c.loop-place.invariant.others;
      made = λ p f g kept.
          let was = c.loop-place.invariant.made p f g kept in
          at_one (λ q o. Keeps same_value standing g f o c.args.t) before now x p done.others
          (λ same. done.made f g (subst (λ (q : ℕ). Keeps same_value standing g f (before q) c.args.t) (sym (eqb-true x p same)) was)) (λ apart. was);
    }
