-- What a net has from one driver.
use Rattle.std.specs.Prelude.{◌≡◌, true, [], ◌∷◌, refl}
use Rattle.fourstate.specs.Nets.{net_of}
use Rattle.fourstate.specs.kept.Nets.{passes_lone_driver}
use Rattle.fourstate.specs.declared.net.NetKind.{NetKind}
use Rattle.fourstate.specs.declared.net.NetKind.TheVariants.{Wire, Tri, Wand, Triand, Wor, Trior, Tri0, Tri1}
use Rattle.fourstate.specs.declared.value.Value.{Value}
use Rattle.fourstate.specs.declared.value.Value.TheVariants.{Zero, One, Unknown, HighZ}

-- by each of the rules it has what the driver gives
by_rules : (v : Value) → (net_of Wire (v ∷ []) ≡ v) × (net_of Wand (v ∷ []) ≡ v) × (net_of Wor (v ∷ []) ≡ v)
by_rules Zero = (refl, refl, refl)
by_rules One = (refl, refl, refl)
by_rules Unknown = (refl, refl, refl)
by_rules HighZ = (refl, refl, refl)

-- one driver alone gives a net what it drives, where the net's kind passes it
pub lone_driver_passes : (kind : NetKind) (v : Value) → passes_lone_driver kind ≡ true → net_of kind (v ∷ []) ≡ v
unfolding passes_lone_driver
lone_driver_passes Wire v passes = (by_rules v).0
lone_driver_passes Tri v passes = (by_rules v).0
lone_driver_passes Wand v passes = (by_rules v).1
lone_driver_passes Triand v passes = (by_rules v).1
lone_driver_passes Wor v passes = (by_rules v).2
lone_driver_passes Trior v passes = (by_rules v).2
lone_driver_passes Tri0 v passes = cc
lone_driver_passes Tri1 v passes = cc
