-- Lists of edits that are carried out edit by edit, with what they touched.
use Rattle.std.proofs.Common.{◌≡◌, ◌<◌, ◌≤◌, ◌+◌, ◌*◌, ℕ, List, ◌∷◌, ◌++◌, length, drop, get_or, None, sym, ap, subst, ◌∙◌, add-one, suc, arith, drop-cons, length-append}
use Rattle.design.specs.Keys.{Keyed, netlist}
use Rattle.design.specs.Netlist.{Netlist}
use Rattle.edits.specs.declared.changes.touch.Touch.{Touch}
use Rattle.edits.specs.declared.changes.touch.Touch.TheVariants.{Nothing, Net, Gate, Driver, Rewired}
use Rattle.edits.specs.declared.edit.Edit.{Edit}
use Rattle.edits.specs.Batches.{batch, batch_from, refusal}
use Rattle.edits.specs.Edits.{edited}
use Rattle.edits.specs.kept.Touched.{IsTouched, Touches, touched_gates, touched_nets}
use Rattle.edits.proofs.TouchLemmas.{touched_on}

-- the edits before this place of a list are carried out
pub record IsCarriedOut (d new : Keyed) (edits : List Edit) (place : ℕ) (nets gates : List ℕ) : Type 0 where
  pub batched : batch (netlist d) edits ≡ batch_from place (netlist new) (drop place edits)
  pub touched : IsTouched d new nets gates
  pub few_nets : length nets ≤ 2 * place
  pub few_gates : length gates ≤ place

two_nets : (touch : Touch) → length (touched_nets touch) ≤ 2
two_nets Nothing = omega arith
two_nets (Net net) = omega arith
two_nets (Gate gate) = omega arith
two_nets (Driver gate output) = omega arith
two_nets (Rewired gate from to) = omega arith

one_gate : (touch : Touch) → length (touched_gates touch) ≤ 1
one_gate Nothing = omega arith
one_gate (Net net) = omega arith
one_gate (Gate gate) = omega arith
one_gate (Driver gate output) = omega arith
one_gate (Rewired gate from to) = omega arith

next_edit : (edits : List Edit) (place : ℕ) (e : Edit) → place < length edits → e ≡ get_or edits place e → drop place edits ≡ e ∷ drop (place + 1) edits
next_edit edits place e within is = rw add-one (drop-cons edits place e within ∙ ap (λ x. x ∷ drop (suc place) edits) (sym is))

batched_on : (place : ℕ) (d next : Netlist) (e : Edit) (rest : List Edit) → refusal place d e ≡ None → next ≡ edited d e → batch_from place d (e ∷ rest) ≡ batch_from (place + 1) next rest
batched_on place d next e rest none is = rw none (ap (λ n. batch_from (place + 1) n rest) (sym is))

pub carried_on : (d new : Keyed) (edits : List Edit) (place : ℕ) (nets gates : List ℕ) (e : Edit) (made : Keyed × Touch) (all_nets all_gates : List ℕ) → IsCarriedOut d new edits place nets gates → place < length edits → e ≡ get_or edits place e → refusal place (netlist new) e ≡ None → netlist made.0 ≡ edited (netlist new) e → Touches new made → all_nets ≡ nets ++ touched_nets made.1 → all_gates ≡ gates ++ touched_gates made.1 → IsCarriedOut d made.0 edits (place + 1) all_nets all_gates
carried_on d new edits place nets gates e made all_nets all_gates before within is none named touched more_nets more_gates =
    let n : length all_nets ≡ length nets + length (touched_nets made.1) = ap length more_nets ∙ length-append nets (touched_nets made.1) in
    let g : length all_gates ≡ length gates + length (touched_gates made.1) = ap length more_gates ∙ length-append gates (touched_gates made.1) in
    record {
      batched =
          before.batched
          ∙ ap (λ l. batch_from place (netlist new) l) (next_edit edits place e within is)
          ∙ batched_on place (netlist new) (netlist made.0) e (drop (place + 1) edits) none named;
      touched =
          let P : List ℕ → Type 0 = λ l. IsTouched d made.0 l all_gates in
          let Q : List ℕ → Type 0 = λ l. IsTouched d made.0 (nets ++ touched_nets made.1) l in
          subst P (sym more_nets) (subst Q (sym more_gates) (touched_on d new made.0 nets (touched_nets made.1) gates (touched_gates made.1) before.touched touched));
      few_nets = omega (arith, n, two_nets made.1, before.few_nets);
      few_gates = omega (arith, g, one_gate made.1, before.few_gates);
    }
