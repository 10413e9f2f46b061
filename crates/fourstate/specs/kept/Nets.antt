-- Which kinds of net pass what one driver alone gives.
use Rattle.std.specs.Prelude.{Bool, true, false}
use Rattle.fourstate.specs.declared.net.NetKind.{NetKind}
use Rattle.fourstate.specs.declared.net.NetKind.TheVariants.{Wire, Tri, Wand, Triand, Wor, Trior, Tri0, Tri1}

-- a net of this kind always has what its driver gives, where it has one alone; what rests on that has to ask, since a proof above
-- does not see which kinds these are
unfoldable pub passes_lone_driver : NetKind → Bool
passes_lone_driver Wire = true
passes_lone_driver Tri = true
passes_lone_driver Wand = true
passes_lone_driver Triand = true
passes_lone_driver Wor = true
passes_lone_driver Trior = true
passes_lone_driver Tri0 = false
passes_lone_driver Tri1 = false
