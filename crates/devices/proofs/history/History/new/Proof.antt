-- `new` makes the value of no bytes, with no piece. Assumes `Logic`.
use Rattle.devices.proofs.GhostSteps.{[], ◌∷◌, refl, proved, ftrue, ‵, ◌⊛◌, ◌$◌, ◌∵◌, !, qed, done, move, keep, drop, split, fjoin, suffices, agg, enter, no_more, returns, alloc_all, pass_all, free_all, look_at, sets, nothing, Stays, walk_of, says, ends_at, none, none_made}
use Rattle.devices.specs.contracts.history.History.new as f
use Rattle.devices.proofs.history.History.new.Statement.{statement}
use Rattle.devices.proofs.history.History.new.Code as code

abbrev stayed : Stays f.ended.signature.params f.ended.kept
stayed = tt

pub new_spec : {M : Type 1} → statement M
new_spec 𝓤 𝓛 𝓜 𝓡 wired =
    let c = f.clauses 𝓛 𝓜.mem 𝓡.returns in let W = walk_of 𝓛 f.ended stayed c in
    proved 𝓛 f.ended stayed c 𝓜 𝓡 tt
    f.Key.name code.function (code.unfolded 𝓤 𝓛.H 𝓜 𝓡 wired)
    (λ κs. tt) (λ κs. tt) (λ κs qs bounds a _ are.
    let y : W.Ghost = ((κs, qs, bounds, a, tt), tt) in
    qed 𝓛 ((‵ ftrue ⊛ ‵ ftrue) ∷ ‵ ftrue ∷ []) ∵
    keep ! (0 ∷ []) $ split ! $ move ! (1 ∷ []) $ drop ! $
    enter ! _ _ _ _ _ $ alloc_all ! (λ l. pass_all ! refl tt $
    sets ! (agg ! (no_more !)) refl (tt, tt) $ nothing ! $ none_made ! $ fjoin ! $
    returns ! (look_at ! 0 refl) $ free_all ! refl $
    suffices ! _ (ends_at 𝓛 f.ended stayed c y none (record { pieces = [] }) tt tt) $ says ! refl $
    nothing ! $ move ! (2 ∷ 0 ∷ 1 ∷ []) $ done !))
