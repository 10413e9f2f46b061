-- `same_kind` decides equality.
use Rattle.std.specs.Prelude.{◌≡◌, true, refl}
use Rattle.fourstate.specs.Gates.{same_kind}
use Rattle.fourstate.specs.declared.gate.GateKind.{GateKind}
use Rattle.fourstate.specs.declared.gate.GateKind.TheVariants.{And, Nand, Or, Nor, Xor, Xnor, Buf, Not, Bufif1, Bufif0, Notif1, Notif0}

-- kinds that are the same are equal
pub same_kind_equal : (a b : GateKind) → same_kind a b ≡ true → a ≡ b
same_kind_equal And And e = refl
same_kind_equal Nand Nand e = refl
same_kind_equal Or Or e = refl
same_kind_equal Nor Nor e = refl
same_kind_equal Xor Xor e = refl
same_kind_equal Xnor Xnor e = refl
same_kind_equal Buf Buf e = refl
same_kind_equal Not Not e = refl
same_kind_equal Bufif1 Bufif1 e = refl
same_kind_equal Bufif0 Bufif0 e = refl
same_kind_equal Notif1 Notif1 e = refl
same_kind_equal Notif0 Notif0 e = refl
same_kind_equal _ _ e = cc

-- a kind is the same as itself
pub kind_itself : (kind : GateKind) → same_kind kind kind ≡ true
kind_itself And = refl
kind_itself Nand = refl
kind_itself Or = refl
kind_itself Nor = refl
kind_itself Xor = refl
kind_itself Xnor = refl
kind_itself Buf = refl
kind_itself Not = refl
kind_itself Bufif1 = refl
kind_itself Bufif0 = refl
kind_itself Notif1 = refl
kind_itself Notif0 = refl
