use Rattle.std.proofs.Common.{nat_eq}
use Rattle.vtext.specs.Modules.{ModuleEntry}
use Rattle.elaboration.specs.kept.Numbered.{AreDistinct}
use Rattle.elaboration.proofs.PairLemmas.{found_holds}
use Rattle.elaboration.proofs.scopes.Scopes.start_of.Goals as goal

pub inner-requires : goal.inner-requires
inner-requires c = found_holds (λ (m : ModuleEntry). AreDistinct m.nets) (nat_eq c.«module».result) c.args.modules.now.modules c.in-Some.entry.now c.requires.distinct c.in-Some.ensures
