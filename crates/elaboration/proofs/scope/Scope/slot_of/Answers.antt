use Rattle.std.proofs.Common.{ap, ◌∙◌}
use Rattle.std.specs.Prelude.{option_and_then, slice_get}
use Rattle.vtext.specs.Modules.{ModuleEntry}
use Rattle.vtext.specs.kept.Nets.{place_of}
use Rattle.elaboration.proofs.SlotLemmas.{slot_found}
use Rattle.elaboration.proofs.scope.Scope.slot_of.Goals as goal

pub returns-in_err-place : goal.returns-in_err-place
returns-in_err-place c =
    let scope = c.args.self.now in
    c.from_residual.ensures
    ∙ ap (option_and_then (slice_get scope.slots)) c.in_err-place.ensures.place
    ∙ ap (λ (m : ModuleEntry). option_and_then (slice_get scope.slots) (place_of m.nets c.args.name)) c.«module».ensures
    ∙ slot_found c.args.name scope.entry.nets scope.slots

pub returns : goal.returns
returns c =
    let scope = c.args.self.now in
    c.slot_at.ensures
    ∙ ap (option_and_then (slice_get scope.slots)) c.in_ok-place.ensures.place
    ∙ ap (λ (m : ModuleEntry). option_and_then (slice_get scope.slots) (place_of m.nets c.args.name)) c.«module».ensures
    ∙ slot_found c.args.name scope.entry.nets scope.slots
