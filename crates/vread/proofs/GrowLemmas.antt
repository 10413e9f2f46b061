-- A design that grows by nets, then by gates, and is otherwise the same.
use Rattle.std.proofs.Common.{◌≡◌, List, [], ◌++◌, sym, ap, ◌∙◌, append_assoc}
use Rattle.std.proofs.lemmas.List.{append-nil}
use Rattle.design.specs.Netlist.{GateEntry, NetEntry, Netlist}

module _ (first made : Netlist) where
  -- Nets.
  module _ (others : made ≡ record first { nets = made.nets }) where
    pub nets_others : (now : Netlist) (part : List NetEntry) → now ≡ record made { nets = made.nets ++ part } → now ≡ record first { nets = now.nets }
    nets_others now part e =
        e ∙ ap (λ (m : Netlist). record m { nets = made.nets ++ part }) others ∙ ap (λ (ns : List NetEntry). record first { nets = ns }) (sym (ap (λ (m : Netlist). m.nets) e))

    pub nets_end : (whole : List NetEntry) → made.nets ++ [] ≡ whole → made ≡ record first { nets = whole }
    nets_end whole all = others ∙ ap (λ (ns : List NetEntry). record first { nets = ns }) (sym (append-nil made.nets) ∙ all)

  pub nets_more : (now : Netlist) (part rest all : List NetEntry) → now ≡ record made { nets = made.nets ++ part } → made.nets ++ (part ++ rest) ≡ all → now.nets ++ rest ≡ all
  nets_more now part rest all e before = ap (λ (m : Netlist). m.nets ++ rest) e ∙ append_assoc made.nets part rest ∙ before

  -- Gates.
  module _ (others : made ≡ record first { gates = made.gates }) where
    pub gates_others : (now : Netlist) (part : List GateEntry) → now ≡ record made { gates = made.gates ++ part } → now ≡ record first { gates = now.gates }
    gates_others now part e =
        e ∙ ap (λ (m : Netlist). record m { gates = made.gates ++ part }) others ∙ ap (λ (gs : List GateEntry). record first { gates = gs }) (sym (ap (λ (m : Netlist). m.gates) e))

    pub gates_end : (whole : List GateEntry) → made.gates ++ [] ≡ whole → made ≡ record first { gates = whole }
    gates_end whole all = others ∙ ap (λ (gs : List GateEntry). record first { gates = gs }) (sym (append-nil made.gates) ∙ all)

    pub same_nets : made.nets ≡ first.nets
    same_nets = ap (λ (m : Netlist). m.nets) others

  pub gates_more : (now : Netlist) (part rest all : List GateEntry) → now ≡ record made { gates = made.gates ++ part } → made.gates ++ (part ++ rest) ≡ all → now.gates ++ rest ≡ all
  gates_more now part rest all e before = ap (λ (m : Netlist). m.gates ++ rest) e ∙ append_assoc made.gates part rest ∙ before
