use Rattle.std.proofs.Common.{◌≡◌, ◌<◌, ◌≤◌, length, sym, ap, ◌∙◌, set, All, is_none, [], arith}
use Rattle.std.proofs.lemmas.Grind.{common_steps}
use Rattle.std.proofs.lemmas.List.{length-set, set_past}
use Rattle.std.specs.Option.{option_map_or}
use Rattle.floor.specs.contracts.floor.Floor.{the_view}
use Rattle.floor.proofs.Standing.{count_of_pieces}
use Rattle.floor.proofs.Changes.{stage_set, waits_not_all, never_none, dealt_piece}
use Rattle.floor.specs.kept.Pieces.{Dealing, Out, first_waiting, after, Deal}
use Rattle.floor.specs.declared.stage.Stage.TheVariants as stage
use Rattle.floor.proofs.floor.Floor.deal.Goals as goal

pub returns-then-number-len-clause-state : goal.returns-then-number-len-clause-state
returns-then-number-len-clause-state c =
    let s : Dealing = c.args.self.now in
    let count : length s.pieces ≡ length c.self.inside.stages.items = ap (λ s. length s.pieces) (sym c.self.view_is) ∙ count_of_pieces _ _ 0 c.self.inside.stages.items _ in
    let past : length s.pieces ≤ first_waiting s.pieces = grind (arith, common_steps) in
    ap (λ it. record { tasks = s.tasks; pieces = it; given = s.given }) (sym (set_past s.pieces (first_waiting s.pieces) Out past))

pub index_mut-requires : goal.index_mut-requires
index_mut-requires c =
    let count : length c.args.self.now.pieces ≡ length c.self.inside.stages.items = ap (λ s. length s.pieces) (sym c.self.view_is) ∙ count_of_pieces _ _ 0 c.self.inside.stages.items _ in
    let within = c.first_waiting-number.ensures.within in
    grind (arith, common_steps)

pub invariant_of-self : goal.invariant_of-self
invariant_of-self c =
    let ss = c.self.inside.stages.items in
    let k = c.first_waiting-number.result in
    let count : length c.args.self.now.pieces ≡ length ss = ap (λ s. length s.pieces) (sym c.self.view_is) ∙ count_of_pieces _ _ 0 ss _ in
    let first = ap (λ s. first_waiting s.pieces) c.self.view_is ∙ sym c.first_waiting-number.ensures.number in
    let within = c.first_waiting-number.ensures.within in
    let below : k < length ss = grind (arith, common_steps) in
    let same : length (set ss k stage.Out) ≡ length ss = length-set ss k stage.Out in
    record {
      some = rw same c.self.invariant.some;
      few = rw same c.self.invariant.few;
      whole = c.self.invariant.whole;
      given = never_none (All (λ s. s ≡ stage.Answered) (set ss k stage.Out)) c.self.inside.answers c.self.invariant.given (waits_not_all c.self.inside.tasks (length ss) ss (option_map_or (λ v. v.items) c.self.inside.answers []) (omega (arith, first)));
    }

pub overflow_cast-number : goal.overflow_cast-number
overflow_cast-number c =
    let count : length c.args.self.now.pieces ≡ length c.self.inside.stages.items = ap (λ s. length s.pieces) (sym c.self.view_is) ∙ count_of_pieces _ _ 0 c.self.inside.stages.items _ in
    let within = c.first_waiting-number.ensures.within in
    let few = c.self.invariant.few in
    omega arith

pub piece-requires : goal.piece-requires
piece-requires c =
    let ss = c.self.inside.stages.items in
    let k = c.first_waiting-number.result in
    let count : length c.args.self.now.pieces ≡ length ss = ap (λ s. length s.pieces) (sym c.self.view_is) ∙ count_of_pieces _ _ 0 ss _ in
    let within = c.first_waiting-number.ensures.within in
    let below : k < length ss = grind (arith, common_steps) in
    let same : length (set ss k stage.Out) ≡ length ss = length-set ss k stage.Out in
    rw (count_of_pieces _ _ 0 (set ss k stage.Out) _, same) below

pub returns-clause-piece : goal.returns-clause-piece
returns-clause-piece c =
    let ss = c.self.inside.stages.items in
    let k = c.first_waiting-number.result in
    let old : length c.args.self.now.pieces ≡ length ss = ap (λ s. length s.pieces) (sym c.self.view_is) ∙ count_of_pieces _ _ 0 ss _ in
    let new = count_of_pieces c.self.inside.tasks (length (set ss k stage.Out)) 0 (set ss k stage.Out) (option_map_or (λ v. v.items) c.self.inside.answers []) ∙ length-set ss k stage.Out ∙ sym old in
    let tasks : c.self.inside.tasks ≡ c.args.self.now.tasks = ap (λ s. s.tasks) c.self.view_is in
    let within = c.first_waiting-number.ensures.within in
    let below : c.piece.result.number < length c.args.self.now.pieces = grind (arith, common_steps) in
    dealt_piece c.args.self.now c.piece.result below (grind (arith, common_steps))
    (c.piece.ensures.first ∙ grind (arith, common_steps)) (c.piece.ensures.end ∙ grind (arith, common_steps))

pub returns-clause-state : goal.returns-clause-state
returns-clause-state c =
    let ss = c.self.inside.stages.items in
    let k = c.first_waiting-number.result in
    ap (λ it. record { tasks = c.self.inside.tasks; pieces = it; given = is_none c.self.inside.answers }) (stage_set c.self.inside.tasks ss _ k stage.Out)
    ∙ ap (λ it. record { tasks = c.self.inside.tasks; pieces = set (the_view c.self.inside).pieces it Out; given = is_none c.self.inside.answers }) (c.first_waiting-number.ensures.number ∙ ap (λ s. first_waiting s.pieces) (sym c.self.view_is))
    ∙ ap (λ s. after s Deal) c.self.view_is
