use Rattle.std.proofs.Common.{◌&&◌, ◌||◌, ℕ, nat_eq, true≢false, sym, ap, ◌∙◌, arith}
use Rattle.indexmap.specs.IndexSet.{contains}
use Rattle.vtext.specs.Modules.{ModuleEntry}
use Rattle.elaboration.specs.Tops.{instantiates}
use Rattle.elaboration.proofs.PortLemmas.{blank}
use Rattle.elaboration.proofs.RingLemmas.{any_next}
use Rattle.elaboration.proofs.rings.add_inner.Goals as goal
use Rattle.elaboration.proofs.rings.add_inner.Goals.{then-grew, else-grew}

pub loop-place-preserved : goal.loop-place-preserved
loop-place-preserved c = record {
  names = λ name.
      any_next (λ (m : ℕ × ModuleEntry). contains nat_eq c.args.before.now m.0 && instantiates m.1 name) c.args.modules.now.modules c.loop-place.place blank
      (omega (arith, c.loop-place-test.true, c.count-place-end.ensures)) (contains nat_eq c.args.names.now name) (contains nat_eq c.loop-place.names name) (contains nat_eq c.add_inner_of.new.names name)
      (c.in_ok-more.ensures.names name
      ∙ ap (λ (m : ℕ × ModuleEntry). contains nat_eq c.loop-place.names name || (contains nat_eq c.args.before.now m.0 && instantiates m.1 name)) (c.at-outer.ensures blank))
      (c.loop-place.invariant.names name);
  same = λ none name.
      elim c.if-grew.branch [
        | then-grew w ↦ absurd (true≢false (sym w.if-grew.true ∙ sym w.grew-is ∙ none))
        | else-grew w ↦ c.in_ok-more.ensures.same (sym w.grew-is ∙ none) name ∙ c.loop-place.invariant.same w.if-grew.false name
      ];
}
