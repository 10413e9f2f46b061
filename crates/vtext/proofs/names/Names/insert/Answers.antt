use Rattle.std.proofs.Common.{◌≡◌, ◌≤◌, ◌^◌, List, ℕ, length, map, refl, sym, ap, subst, ◌∙◌, arith}
use Rattle.std.proofs.lemmas.Grind.{common_steps}
use Rattle.catalog.specs.declared.spelling.Spelling.{Spelling}
use Rattle.vtext.specs.Names.{with_name}
use Rattle.vtext.specs.kept.Recents.{AreRight}
use Rattle.vtext.proofs.NameLemmas.{text_added}
use Rattle.vtext.proofs.NotedLemmas.{right_with}
use Rattle.vtext.proofs.NumberLemmas.{text_number}
use Rattle.vtext.proofs.names.Names.insert.Goals as goal

pub invariant_of-self-2 : goal.invariant_of-self-2
invariant_of-self-2 c =
    let texts : List (List ℕ) = map (λ (v : Spelling). v.bytes.now) c.self.inside.texts.keys in
    let added : map (λ (v : Spelling). v.bytes.now) c.insert_full.new.self.keys ≡ with_name texts c.args.name.now
    = ap (map (λ (v : Spelling). v.bytes.now)) c.in_ok-place.ensures.keys
    ∙ text_added (λ (v : Spelling). v.bytes.now) c.self.inside.texts.keys (record { bytes = c.args.name }) c.args.name.now refl in
    let most : length c.insert_full.new.self.keys ≤ 2 ^ 32 = grind (arith, common_steps, c.in_ok-place.ensures.len) in
    (most, subst (λ (names : List (List ℕ)). AreRight names c.make_room.new.self) (sym added) (right_with texts c.args.name.now c.make_room.new.self (c.make_room.ensures texts c.self.invariant.1)))

pub returns-clause-ok : goal.returns-clause-ok
returns-clause-ok c =
    rw (← c.self.view_is, c.in_ok-place.ensures.keys)
    (text_added (λ (v : Spelling). v.bytes.now) c.self.inside.texts.keys (record { bytes = c.args.name }) c.args.name.now refl)

pub returns-clause-number : goal.returns-clause-number
returns-clause-number c =
    rw c.in_ok-place.ensures.keys
    (text_number (λ (v : Spelling). v.bytes.now) c.self.inside.texts.keys (record { bytes = c.args.name }) c.args.name.now c.in_ok-place.place refl c.in_ok-place.ensures.index)
