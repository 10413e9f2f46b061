-- The words that write kinds (IEEE 1364-2005, annex B).
use Rattle.std.specs.Prelude.{ℕ, List, [], ◌∷◌, Option, find, codes, nat_eq}
use Rattle.std.specs.Cmp.Lexicographic.{pointwise}
use Rattle.fourstate.specs.declared.gate.GateKind.{GateKind}
use Rattle.fourstate.specs.declared.gate.GateKind.TheVariants.{And, Nand, Or, Nor, Xor, Xnor, Buf, Not, Bufif1, Bufif0, Notif1, Notif0}
use Rattle.fourstate.specs.declared.net.NetKind.{NetKind}
use Rattle.fourstate.specs.declared.net.NetKind.TheVariants.{Wire, Tri, Wand, Triand, Wor, Trior, Tri0, Tri1}

-- the twelve kinds of gates
abbrev pub gate_kinds : List GateKind
gate_kinds = And ∷ Nand ∷ Or ∷ Nor ∷ Xor ∷ Xnor ∷ Buf ∷ Not ∷ Bufif1 ∷ Bufif0 ∷ Notif1 ∷ Notif0 ∷ []

abbrev pub gate_keyword : GateKind → List ℕ
gate_keyword And = codes "and"
gate_keyword Nand = codes "nand"
gate_keyword Or = codes "or"
gate_keyword Nor = codes "nor"
gate_keyword Xor = codes "xor"
gate_keyword Xnor = codes "xnor"
gate_keyword Buf = codes "buf"
gate_keyword Not = codes "not"
gate_keyword Bufif1 = codes "bufif1"
gate_keyword Bufif0 = codes "bufif0"
gate_keyword Notif1 = codes "notif1"
gate_keyword Notif0 = codes "notif0"

-- the kind that a word writes, if it writes one
abbrev pub gate_kind_of : List ℕ → Option GateKind
gate_kind_of word = find (λ kind. pointwise nat_eq (gate_keyword kind) word) gate_kinds

-- the eight kinds of nets
abbrev pub net_kinds : List NetKind
net_kinds = Wire ∷ Tri ∷ Wand ∷ Triand ∷ Wor ∷ Trior ∷ Tri0 ∷ Tri1 ∷ []

abbrev pub net_keyword : NetKind → List ℕ
net_keyword Wire = codes "wire"
net_keyword Tri = codes "tri"
net_keyword Wand = codes "wand"
net_keyword Triand = codes "triand"
net_keyword Wor = codes "wor"
net_keyword Trior = codes "trior"
net_keyword Tri0 = codes "tri0"
net_keyword Tri1 = codes "tri1"

-- the kind that a word writes, if it writes one
abbrev pub net_kind_of : List ℕ → Option NetKind
net_kind_of word = find (λ kind. pointwise nat_eq (net_keyword kind) word) net_kinds
