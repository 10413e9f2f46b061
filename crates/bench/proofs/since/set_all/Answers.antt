use Rattle.std.proofs.Common.{◌≡◌, ◌∙◌, ◌<◌, ap, sym, subst, ℕ, List, length, inl, inr}
use Rattle.std.specs.Prelude.{slice_index_or}
use Rattle.std.proofs.lemmas.List.{take_all}
use Rattle.edits.specs.kept.Touched.{is_touched}
use Rattle.bench.proofs.TouchedLemmas.{item_is, same_or_not, touched_at, touched_more, untouched_more}
use Rattle.bench.proofs.since.set_all.Goals as goal

pub set_one-requires : goal.set_one-requires
set_one-requires c =
    let keys = c.args.keys.now in let i = c.loop-key.key-index in let low = c.loop-key-test.true in
    let size = length c.loop-key.versions.items in
    let there : slice_index_or keys i 0 < size =
    subst (λ (n : ℕ). slice_index_or keys i 0 < n) (sym c.loop-key.invariant.long) (c.requires (slice_index_or keys i 0) (touched_at keys i low)) in
    subst (λ (n : ℕ). n < size) (item_is keys i c.key-item.result low c.key-item.is) there

pub loop-key-preserved : goal.loop-key-preserved
loop-key-preserved c =
    let keys = c.args.keys.now in let i = c.loop-key.key-index in let low = c.loop-key-test.true in let x = c.key-item.result in
    let item : slice_index_or keys i 0 ≡ x = item_is keys i x low c.key-item.is in
    let now = c.set_one.new.versions.items in let version = c.args.version in
    let done = c.set_one.ensures in
    record {
      long = done.long ∙ c.loop-key.invariant.long;
      set = λ key base on.
          elim (same_or_not x key) [
            | inl same ↦ subst (λ (k : ℕ). slice_index_or now k base ≡ version) same (done.here base)
            | inr apart ↦ elim (touched_more keys i key low on) [
              | inl so_far ↦ done.others key base apart ∙ c.loop-key.invariant.set key base so_far
              | inr same ↦ absurd (apart (sym same ∙ item))
            ]
          ];
      others = λ key base off.
          let both = untouched_more keys i key low off in
          done.others key base (λ same. both.1 (same ∙ sym item)) ∙ c.loop-key.invariant.others key base both.0;
    }

pub returns-clause-set : goal.returns-clause-set
returns-clause-set c = λ key base on.
    c.loop-key.invariant.set key base (ap (λ (l : List ℕ). is_touched l key) (take_all c.loop-key.key-index c.args.keys.now c.loop-key-test.false) ∙ on)

pub returns-clause-others : goal.returns-clause-others
returns-clause-others c = λ key base off.
    c.loop-key.invariant.others key base (ap (λ (l : List ℕ). is_touched l key) (take_all c.loop-key.key-index c.args.keys.now c.loop-key-test.false) ∙ off)
