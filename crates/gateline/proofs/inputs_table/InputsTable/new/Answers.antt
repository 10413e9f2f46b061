use Rattle.std.proofs.Common.{◌≡◌, ◌<◌, ◌/◌, ◌%◌, ◌+◌, ◌∙◌, ◌++◌, ap, sym, subst, refl, [], ◌∷◌, Some, get_or, length, slice_get, arith}
use Rattle.std.proofs.lemmas.List.{length_push}
use Rattle.std.proofs.lemmas.Option.{slice_get_read}
use Rattle.fourstate.specs.declared.value.Value.{Value}
use Rattle.gateline.proofs.Codes.{AreEntries, code_low, has_room, one_entry_more, two_entries}
use Rattle.gateline.proofs.inputs_table.InputsTable.new.Goals as goal
use Rattle.gateline.specs.kept.Codes.{value_of_digit}

pub loop-entries-init : goal.loop-entries-init
loop-entries-init c =
    let two : c.push-2.new.self.items ≡ [] ∷ [] ∷ [] =
    c.in_ok-push-2.ensures.items
    ∙ (λ i. (c.in_ok-push.ensures.items ∙ (λ j. c.in_ok-entries.ensures.items j ++ c.new.ensures j ∷ [])) i ++ c.new-2.ensures i ∷ []) in
    record {
      begun = let many = ap length two in omega arith;
      within = let many = ap length two in omega arith;
      are = subst AreEntries (sym two) two_entries;
    }

pub put_first-requires : goal.put_first-requires
put_first-requires c =
    let entries = c.loop-entries.entries.items in
    let inside : length entries < 512 = (let test = c.loop-entries-test.true in let count = c.len.ensures in let long = c.loop-entries.entries.ok.0 in omega arith) in
    let code : c.len-code.result ≡ length entries = (let count = c.len-code.ensures in let long = c.loop-entries.entries.ok.0 in omega arith) in
    let there : slice_get entries (length entries / 4) ≡ Some c.index.result.now =
    slice_get_read entries (length entries) (length entries / 4) c.index.result.now refl (let begun = c.loop-entries.invariant.begun in omega arith)
    (subst (λ n. c.index.result.now ≡ get_or entries (n / 4) c.index.result.now) code c.index.ensures) in
    has_room entries c.index.result.now c.loop-entries.invariant.are inside there

pub loop-entries-preserved : goal.loop-entries-preserved
loop-entries-preserved c =
    let entries = c.loop-entries.entries.items in let begun = c.loop-entries.invariant.begun in
    let inside : length entries < 512 = (let test = c.loop-entries-test.true in let count = c.len.ensures in let long = c.loop-entries.entries.ok.0 in omega arith) in
    let code : c.len-code.result ≡ length entries = (let count = c.len-code.ensures in let long = c.loop-entries.entries.ok.0 in omega arith) in
    let there : slice_get entries (length entries / 4) ≡ Some c.index.result.now =
    slice_get_read entries (length entries) (length entries / 4) c.index.result.now refl (omega arith)
    (subst (λ n. c.index.result.now ≡ get_or entries (n / 4) c.index.result.now) code c.index.ensures) in
    let grown : c.push-in-loop-entries.new.self.items ≡ entries ++ (value_of_digit (length entries % 4) ∷ c.index.result.now) ∷ [] =
    c.in_ok-push-3.ensures.items ∙ (λ i. entries ++ (c.put_first.ensures ∙ ap (λ (v : Value). v ∷ c.index.result.now) (c.value_of_digit.ensures ∙ ap (λ n. value_of_digit (n % 4)) code)) i ∷ []) in
    let many : length c.push-in-loop-entries.new.self.items ≡ length entries + 1 = ap length grown ∙ length_push entries _ in
    record {
      begun = omega arith;
      within = omega arith;
      are = subst AreEntries (sym grown) (one_entry_more entries c.index.result.now c.loop-entries.invariant.are begun there);
    }

pub invariant_of-result : goal.invariant_of-result
invariant_of-result c =
    let entries = c.loop-entries.entries.items in
    let many : length entries ≡ 512 = (let test = c.loop-entries-test.false in let count = c.len.ensures in let long = c.loop-entries.entries.ok.0 in let within = c.loop-entries.invariant.within in omega arith) in
    record {
      many = many;
      all = λ values few. c.loop-entries.invariant.are.all values (let low = code_low values few in omega arith);
    }
