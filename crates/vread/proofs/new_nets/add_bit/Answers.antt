use Rattle.std.proofs.Common.{◌++◌, ◌∙◌, List, ℕ, [], ◌∷◌, IsTrue, ap, subst, sym}
use Rattle.design.specs.Names.{is_name}
use Rattle.design.specs.Netlist.{NetEntry, new_net}
use Rattle.vtext.specs.Bits.{bit_bytes}
use Rattle.vread.proofs.NetLemmas.{same_joined}
use Rattle.vread.proofs.new_nets.add_bit.Goals as goal

pub bit_in-requires : goal.bit_in-requires
bit_in-requires c = subst (λ (n : List ℕ). IsTrue (is_name n)) (sym (same_joined (λ (n : List ℕ). bit_bytes n c.args.index) _ _ _ _ c.path.ensures c.text.ensures)) c.requires

pub returns : goal.returns
returns c =
    c.in_ok-push.ensures.items
    ∙ ap (λ (net : NetEntry). c.args.nets.now.items ++ net ∷ [])
    (c.new_net.ensures ∙ ap (λ (n : List ℕ). new_net n c.args.run.kind c.args.run.is_input) (c.in_ok-name.ensures ∙ same_joined (λ (n : List ℕ). bit_bytes n c.args.index) _ _ _ _ c.path.ensures c.text.ensures))
