use Rattle.std.proofs.Common.{◌≡◌, ◌++◌, ℕ, List, flat_map, length, IsPermutation, ap, subst, ◌∙◌, arith}
use Rattle.devices.specs.Outgoing.{Adds}
use Rattle.design.specs.Keys.{netlist}
use Rattle.design.specs.Netlist.{Netlist}
use Rattle.differences.specs.declared.room.Difference.{Difference}
use Rattle.differences.specs.Differences.{difference_lines}
use Rattle.differences.specs.kept.Found.{all_found, line_of, names_in}
use Rattle.differences.proofs.WholeLemmas.{each_named, lines_are}
use Rattle.differences.proofs.lines.write_found.Goals as goal

pub write_all-requires : goal.write_all-requires
write_all-requires g c =
    let d = c.args.snapshot.now.design in
    let e = c.args.other.now.design in
    let sorted = c.sort.new.self.found.items in
    let moved : IsPermutation (all_found d e) sorted = subst (λ (xs : List Difference). IsPermutation xs sorted) c.requires c.sort.ensures.same in
    let named = each_named d e sorted moved in
    let own = ap (λ (q : Netlist). length q.nets) c.design.ensures in
    let its = ap (λ (q : Netlist). length q.nets) c.design-2.ensures in
    λ k x within. let low = named k x within in omega arith

pub returns : goal.returns
returns g c =
    let d = c.args.snapshot.now.design in
    let e = c.args.other.now.design in
    let sorted = c.sort.new.self.found.items in
    let moved : IsPermutation (all_found d e) sorted = subst (λ (xs : List Difference). IsPermutation xs sorted) c.requires c.sort.ensures.same in
    let lines : flat_map (line_of (names_in (netlist c.design.result.now) ++ names_in (netlist c.design-2.result.now))) sorted ≡ difference_lines d e
    = ap (λ (q : Netlist). flat_map (line_of (names_in q ++ names_in (netlist c.design-2.result.now))) sorted) c.design.ensures
    ∙ ap (λ (q : Netlist). flat_map (line_of (names_in d ++ names_in q)) sorted) c.design-2.ensures
    ∙ lines_are d e sorted c.sort.ensures.order moved in
    subst (λ (bytes : List ℕ). Adds c.args.writer.now c.write_all.new.writer bytes) lines c.write_all.ensures
