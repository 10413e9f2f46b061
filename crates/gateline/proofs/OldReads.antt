-- What an input reads by the waves, at whose place there is a wave or none.
use Rattle.std.proofs.Common.{◌≡◌, ◌∙◌, ap, Option, ℕ, List, map, slice_get, unwrap_or}
use Rattle.std.specs.Borrow.{Bor}
use Rattle.std.specs.Option.{option_map}
use Rattle.std.proofs.lemmas.Option.{slice_get-map}
use Rattle.fourstate.specs.declared.value.Value.{Value}
use Rattle.fourstate.specs.declared.value.Value.TheVariants.{Unknown}
use Rattle.gateline.specs.kept.Waves.{input_at}
use Rattle.scratch.specs.declared.wiring.Input.{Input}
use Rattle.scratch.specs.declared.wiring.Input.TheVariants.{At}
use Rattle.waveform.specs.Changes.{wave_at}

pub reads : (waves : List (List (ℕ × Value))) (input : Input) (p : ℕ) (o : Option (List (ℕ × Value))) (t : ℕ) → input ≡ At p → slice_get waves p ≡ o →
    input_at waves input t ≡ unwrap_or (option_map (λ wave. wave_at wave t) o) Unknown
reads waves input p o t is there =
    ap (λ x. input_at waves x t) is
    ∙ ap (λ (v : Option Value). unwrap_or v Unknown) (slice_get-map (λ wave. wave_at wave t) waves p ∙ ap (option_map (λ wave. wave_at wave t)) there)

-- of lines that are lent
pub lent_at : {A : Type 0} (lent : List (Bor A)) (p : ℕ) (o : Option (Bor A)) → slice_get lent p ≡ o → slice_get (map (λ b. b.now) lent) p ≡ option_map (λ b. b.now) o
lent_at lent p o there = slice_get-map (λ b. b.now) lent p ∙ ap (option_map (λ b. b.now)) there
