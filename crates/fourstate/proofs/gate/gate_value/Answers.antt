use Rattle.std.proofs.Common.{◌≡◌, ◌∙◌, ap, refl}
use Rattle.fourstate.specs.kept.Rules.{result_of}
use Rattle.fourstate.specs.declared.gate.GateKind.{GateKind}
use Rattle.fourstate.specs.declared.gate.GateKind.TheVariants.{And, Nand, Or, Nor, Xor, Xnor, Buf, Not, Bufif1, Bufif0, Notif1, Notif0}
use Rattle.fourstate.specs.contracts.gate.GateKind.{the_type}
use denote.Enum.Declared.{tag_of}
use Rattle.fourstate.proofs.Rules.{alike, by_summary, number_of}
use Rattle.fourstate.proofs.gate.gate_value.Goals as goal

tag_is : (kind : GateKind) → tag_of the_type kind ≡ number_of kind
tag_is And = refl
tag_is Nand = refl
tag_is Or = refl
tag_is Nor = refl
tag_is Xor = refl
tag_is Xnor = refl
tag_is Buf = refl
tag_is Not = refl
tag_is Bufif1 = refl
tag_is Bufif0 = refl
tag_is Notif1 = refl
tag_is Notif0 = refl

pub returns-in_default : goal.returns-in_default
returns-in_default c =
    let d = c.in_default in let kind = c.args.kind in let inputs = c.args.inputs.now in
    c.result_of.ensures ∙ ap (λ n. result_of n c.summary.result) (tag_is kind) ∙ ap (result_of (number_of kind)) c.summary.ensures.value
    ∙ by_summary kind inputs (alike kind d.not-Bufif1 d.not-Bufif0 d.not-Notif1 d.not-Notif0) c.requires
