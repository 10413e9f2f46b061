use Rattle.std.proofs.Common.{nat_eq, subst, sym}
use Rattle.std.specs.Prelude.{IfSome, Option}
use Rattle.std.proofs.lemmas.Map.Entries.{All-lookup}
use Rattle.vtext.specs.Modules.{ModuleEntry}
use Rattle.elaboration.specs.kept.Numbered.{AreDistinct}
use Rattle.vread.proofs.search.inner_of.Goals as goal

pub inner_alone-requires : goal.inner_alone-requires
inner_alone-requires c =
    subst (λ (found : Option ModuleEntry). IfSome found (λ m. AreDistinct m.nets)) (sym c.in-Some.ensures)
    (All-lookup (λ (m : ModuleEntry). AreDistinct m.nets) (nat_eq c.«module».result) c.args.modules.now.modules c.requires)
