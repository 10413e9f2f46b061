use Rattle.std.proofs.Common.{◌||◌, ℕ, false, List, nat_eq, ap, ◌∙◌, arith}
use Rattle.std.specs.List.{list_any}
use Rattle.indexmap.specs.IndexSet.{contains}
use Rattle.vtext.specs.Modules.{InstanceEntry, ModuleEntry}
use Rattle.elaboration.specs.Tops.{instantiates}
use Rattle.elaboration.proofs.PortLemmas.{blank}
use Rattle.elaboration.proofs.RingLemmas.{any_next}
use Rattle.elaboration.proofs.tops.instantiated.Goals as goal

pub loop-place-preserved : goal.loop-place-preserved
loop-place-preserved c = λ name.
    any_next (λ (m : ℕ × ModuleEntry). instantiates m.1 name) c.args.modules.now.modules c.loop-place.place blank
    (omega (arith, c.loop-place-test.true, c.count-place-end.ensures)) false (contains nat_eq c.loop-place.names name) (contains nat_eq c.add_modules.new.names name)
    (c.in_ok-add_modules.ensures.names name
    ∙ ap (λ (instances : List InstanceEntry). contains nat_eq c.loop-place.names name || list_any (λ (i : InstanceEntry). nat_eq name i.«module») instances) (c.instances_at.ensures blank))
    (c.loop-place.invariant name)
