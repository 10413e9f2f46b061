use Rattle.std.proofs.Common.{◌+◌, ◌-◌, ◌++◌, ℕ, List, [], ◌∷◌, IsTrue, map, sym, ap, subst, ◌∙◌, arith}
use Rattle.design.specs.Names.{is_name}
use Rattle.design.specs.Netlist.{NetEntry}
use Rattle.vtext.specs.Bits.{bit_bytes}
use Rattle.vtext.specs.Names.{name_at}
use Rattle.vtext.specs.Ranges.{indexes_from, width}
use Rattle.vread.specs.kept.Parts.{AreNamed, bits_nets, run_net}
use Rattle.vread.proofs.NewNetLemmas.{all_right, bit_first, no_bit, part_end, part_more}
use Rattle.std.proofs.lemmas.List.Elements.{All-head}
use Rattle.vread.proofs.new_nets.add_bits.Goals as goal

pub add_bit-requires : goal.add_bit-requires
add_bit-requires c =
    let names = c.args.names.now in
    let range = c.args.range in
    let place = c.loop-place.place in
    let f : ℕ → NetEntry = λ i. run_net names c.args.scope.now.path c.args.run (bit_bytes (name_at names c.args.name) i) in
    All-head (λ (n : NetEntry). IsTrue (is_name n.name)) (f c.index-index.result) (map f (indexes_from range (place + 1) (width range - (place + 1))))
    (subst (λ (l : List NetEntry). AreNamed l) (bit_first f range place c.index-index.result c.index-index.ensures (omega (arith, c.loop-place-test.true))) c.loop-place.invariant.named)

pub loop-place-preserved : goal.loop-place-preserved
loop-place-preserved c =
    let names = c.args.names.now in
    let range = c.args.range in
    let place = c.loop-place.place in
    let f : ℕ → NetEntry = λ i. run_net names c.args.scope.now.path c.args.run (bit_bytes (name_at names c.args.name) i) in
    let part : List NetEntry = f c.index-index.result ∷ [] in
    let rest : List NetEntry = map f (indexes_from range (place + 1) (width range - (place + 1))) in
    let first = bit_first f range place c.index-index.result c.index-index.ensures (omega (arith, c.loop-place-test.true)) in
    record {
      all = part_more c.loop-place.nets.items c.add_bit.new.nets.items part rest (c.args.nets.now.items ++ bits_nets names c.args.scope.now.path c.args.run c.args.name range) c.in_ok-add_bit.ensures
          (ap (λ (l : List NetEntry). c.loop-place.nets.items ++ l) (sym first) ∙ c.loop-place.invariant.all);
      named = all_right (λ (n : NetEntry). IsTrue (is_name n.name)) part rest (subst (λ (l : List NetEntry). AreNamed l) first c.loop-place.invariant.named);
    }

pub returns : goal.returns
returns c =
    let names = c.args.names.now in
    let range = c.args.range in
    let f : ℕ → NetEntry = λ i. run_net names c.args.scope.now.path c.args.run (bit_bytes (name_at names c.args.name) i) in
    part_end c.loop-place.nets.items (map f (indexes_from range c.loop-place.place (width range - c.loop-place.place))) (c.args.nets.now.items ++ bits_nets names c.args.scope.now.path c.args.run c.args.name range)
    (no_bit f range c.loop-place.place (omega (arith, c.loop-place-test.false))) c.loop-place.invariant.all
