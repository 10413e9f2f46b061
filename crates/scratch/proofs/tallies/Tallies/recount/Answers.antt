use Rattle.std.proofs.Common.{◌≡◌, ◌<◌, ◌+◌, ◌^◌, ◌∙◌, ◌∷◌, [], sym, ap, refl, ℕ, Some, None, length, slice_get, arith}
use Rattle.std.specs.Option.{option_map_or}
use Rattle.std.proofs.lemmas.Grind.{common_steps}
use Rattle.std.proofs.lemmas.Option.{slice_get-get_or, slice_get_past, slice_get_read, slice_get_within}
use Rattle.fourstate.specs.declared.value.Value.TheVariants.{One, Unknown, Zero}
use Rattle.design.specs.Keys.{netlist}
use Rattle.scratch.specs.kept.Places.{has}
use Rattle.scratch.specs.kept.Tally.{times}
use Rattle.scratch.proofs.Counting.{all_kept, all_moved, ones_fit, ones_low, other_net, tally_there, unknowns_fit, unknowns_low, zeros_fit, zeros_low}
use Rattle.scratch.proofs.tallies.Tallies.recount.Goals as goal

pub returns-in_default-clause-nets : goal.returns-in_default-clause-nets
returns-in_default-clause-nets c =
    let d = netlist c.args.design.now in let outputs = c.args.wiring.now.outputs.items in let nets = c.args.self.now.nets.items in let values = c.args.self.now.counted.items in
    let gate = c.args.gate in let next = c.args.value in let former = c.index-former.result.now in let wired = c.requires.wired in
    let none : slice_get outputs gate ≡ None = ap (λ l. slice_get l gate) (sym c.deref.ensures.value) ∙ slice_get_past c.deref.result.now gate c.in_default.ensures.lookup.3 in
    all_kept d outputs wired.outputs wired.driven nets values c.requires.nets gate next
    (λ m tally there. ap (λ w. has m (option_map_or (λ (o : ℕ). o ∷ []) w [])) none)

-- the value, the net and the tally of the gate
counted : (c : goal.After-tally-in-Some-of_net-1) → (slice_get c.args.self.now.counted.items c.args.gate ≡ Some c.index-former.result.now) × (slice_get c.args.wiring.now.outputs.items c.args.gate ≡ Some c.in-Some.net.now) × (slice_get c.args.self.now.nets.items c.in-Some.net.now ≡ Some (Some c.in-Some-of_net.tally))
counted c =
    let outputs = c.args.wiring.now.outputs.items in let nets = c.args.self.now.nets.items in let values = c.args.self.now.counted.items in
    let gate = c.args.gate in let former = c.index-former.result.now in let net = c.in-Some.net.now in let tally = c.in-Some-of_net.tally in
    let within : gate < length values = let low = c.if-gate-len.false in let len = c.len.ensures in grind (arith, common_steps) in
    let output : slice_get outputs gate ≡ Some net =
    ap (λ l. slice_get l gate) (sym c.deref.ensures.value) ∙ slice_get-get_or c.deref.result.now gate net c.in-Some.ensures.lookup.3.0 ∙ ap (λ n. Some n) (sym c.in-Some.ensures.lookup.1) in
    (slice_get_read values (length values) gate former refl within c.index-former.ensures, output, tally_there (slice_get nets net) tally (sym c.in-Some-of_net.ensures))

pub remove-requires : goal.remove-requires
remove-requires c =
    let d = netlist c.args.design.now in let outputs = c.args.wiring.now.outputs.items in let nets = c.args.self.now.nets.items in let values = c.args.self.now.counted.items in
    let gate = c.args.gate in let next = c.args.value in let former = c.index-former.result.now in let wired = c.requires.wired in
    let net = c.in-Some.net.now in let tally = c.in-Some-of_net.tally in
    let at = counted c in
    record {
      zeros = zeros_low d outputs wired.outputs wired.driven nets values c.requires.nets gate next former at.0 net at.1 tally at.2;
      ones = ones_low d outputs wired.outputs wired.driven nets values c.requires.nets gate next former at.0 net at.1 tally at.2;
      unknowns = unknowns_low d outputs wired.outputs wired.driven nets values c.requires.nets gate next former at.0 net at.1 tally at.2;
    }

pub add-requires : goal.add-requires
add-requires c =
    let d = netlist c.args.design.now in let outputs = c.args.wiring.now.outputs.items in let nets = c.args.self.now.nets.items in let values = c.args.self.now.counted.items in
    let gate = c.args.gate in let next = c.args.value in let former = c.index-former.result.now in let wired = c.requires.wired in
    let net = c.in-Some.net.now in let tally = c.in-Some-of_net.tally in
    let at = counted c.before.before in
    let fits : length d.gates < 2 ^ 64 = (let each = c.requires.each in let len = c.len.ensures in omega (arith, each, len)) in
    record {
      zeros = rw c.remove.ensures.zeros (zeros_fit d outputs wired.outputs wired.driven nets values c.requires.nets gate next former at.0 net at.1 tally at.2 fits);
      ones = rw c.remove.ensures.ones (ones_fit d outputs wired.outputs wired.driven nets values c.requires.nets gate next former at.0 net at.1 tally at.2 fits);
      unknowns = rw c.remove.ensures.unknowns (unknowns_fit d outputs wired.outputs wired.driven nets values c.requires.nets gate next former at.0 net at.1 tally at.2 fits);
    }

pub index_mut-requires-in-Some-of_net : goal.index_mut-requires-in-Some-of_net
index_mut-requires-in-Some-of_net c =
    let d = netlist c.args.design.now in let outputs = c.args.wiring.now.outputs.items in let nets = c.args.self.now.nets.items in let values = c.args.self.now.counted.items in
    let gate = c.args.gate in let next = c.args.value in let former = c.index-former.result.now in let wired = c.requires.wired in
    let net = c.in-Some.net.now in let tally = c.in-Some-of_net.tally in
    let inside : net < length nets = slice_get_within nets net (Some tally) (tally_there (slice_get nets net) tally (sym c.in-Some-of_net.ensures)) in
    grind (arith, common_steps)

pub returns-in-Some-of_net-clause-nets : goal.returns-in-Some-of_net-clause-nets
returns-in-Some-of_net-clause-nets c =
    let d = netlist c.args.design.now in let outputs = c.args.wiring.now.outputs.items in let nets = c.args.self.now.nets.items in let values = c.args.self.now.counted.items in
    let gate = c.args.gate in let next = c.args.value in let former = c.index-former.result.now in let wired = c.requires.wired in
    let net = c.in-Some.net.now in let tally = c.in-Some-of_net.tally in
    let at = counted c.before.before.before.before.before.before in
    all_moved d outputs wired.outputs wired.driven nets values c.requires.nets gate next former at.0 net at.1 tally at.2 c.add.new.self
    (c.add.ensures.zeros ∙ ap (λ n. n + times Zero next) c.remove.ensures.zeros) (c.add.ensures.ones ∙ ap (λ n. n + times One next) c.remove.ensures.ones)
    (c.add.ensures.unknowns ∙ ap (λ n. n + times Unknown next) c.remove.ensures.unknowns)

pub returns-in_default-of_net-clause-nets : goal.returns-in_default-of_net-clause-nets
returns-in_default-of_net-clause-nets c =
    let d = netlist c.args.design.now in let outputs = c.args.wiring.now.outputs.items in let nets = c.args.self.now.nets.items in let values = c.args.self.now.counted.items in
    let gate = c.args.gate in let next = c.args.value in let former = c.index-former.result.now in let wired = c.requires.wired in
    let net = c.in-Some.net.now in
    let output : slice_get outputs gate ≡ Some net =
    ap (λ l. slice_get l gate) (sym c.deref.ensures.value) ∙ slice_get-get_or c.deref.result.now gate net c.in-Some.ensures.lookup.3.0 ∙ ap (λ n. Some n) (sym c.in-Some.ensures.lookup.1) in
    all_kept d outputs wired.outputs wired.driven nets values c.requires.nets gate next
    (other_net nets outputs gate net output (sym c.in_default-of_net.ensures))
