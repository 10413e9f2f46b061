-- `new` makes the empty struct, which keeps the fact that was asked for.
use Rattle.std.proofs.Common.{[], ◌∷◌, refl}
use Rattle.std.proofs.raw_atomic.Walks.{proved}
use Rattle.std.specs.Thread.{IsSync}
use Rattle.parstep.specs.kept.Shares.{Shares}
use mir.Syntax.{Args, a_type}
use mir.MapTy.{inst_fn}
use base.Fml.{ftrue}
use contract.Monad.{fact}
use types.Kit.{‵, raw, ◌⊛◌, ◌$◌, ◌∵◌, !, qed, move, drop, split, use1, fjoin, fpack, suffices, group, done}
use types.Part.{agg}
use types.Run.{enter, returns, and_then, no_more}
use types.ByLocal.{alloc_all, pass_all, free_all, look_at, get, sets}
use base.Logic.{id⊢}
use denote.RattleType.{RattleType, owns}
use denote.Signature.{types_at}
use denote.Laws.{Is}
use denote.Param.{param, layouts}
use denote.Steps.{nothing, owned, heard}
use denote.Struct.Laws.{makes}
use denote.Triple.Entry.{alive}
use denote.Triple.Walked.{Stays, walk_of, ends_at}
use Rattle.parstep.proofs.Walks.{none, one, one_made}
use Rattle.std.specs.contracts.marker.PhantomData as Mark
use Rattle.parstep.specs.contracts.shareable.Shareable as S
use Rattle.parstep.specs.contracts.shareable.Shareable.new as f
use Rattle.parstep.proofs.shareable.Shareable.new.Statement.{statement}
use Rattle.parstep.proofs.shareable.Shareable.new.Code as code

abbrev stayed : (R : RattleType) → Stays (f.ended R).signature.params (f.ended R).kept
stayed R = tt

pub new_spec : {M : Type 1} → statement M
new_spec 𝓤 𝓛 𝓜 𝓡 wired R L =
    let args : Args = layouts (a_type ∷ []) (R, tt) in
    let c = f.clauses R 𝓛 𝓜.mem 𝓡.returns in let W = walk_of 𝓛 (f.ended R) (stayed R) c in
    let made : (S.the_row (param 0 R)).Denot = record { of = record {} } in
    proved 𝓛 (f.ended R) (stayed R) c 𝓜 𝓡 tt
    (f.Key.name args) (inst_fn args code.function) (code.unfolded 𝓤 𝓛.H 𝓜 𝓡 wired (R, tt))
    (λ κs. tt) (λ κs. tt) (λ κs qs bounds a g are.
    let y : W.Ghost = ((κs, qs, bounds, a, tt), g) in
    qed 𝓛 ((raw (alive 𝓛 (f.signature R) κs qs) ⊛ ‵ (owns (types_at (f.ended R).signature.params κs) a tt)) ∷ raw ((c κs a).requires g) ∷ []) ∵
    move ! (1 ∷ []) $ use1 𝓛 (raw (fact 𝓤 _) ⊛ raw (fact 𝓤 (IsSync (param 0 R)))) (id⊢ 𝓤 _) $ split ! $ drop ! $ heard ! _ (λ shared.
    split ! $ enter ! _ _ _ _ _ $ alloc_all ! (λ l. pass_all ! refl tt $
    sets ! (agg ! (no_more !)) refl (tt, tt) $
    sets ! (agg ! (and_then ! (get ! refl) (no_more !))) refl (tt, (tt, tt)) $
    returns ! (look_at ! 0 refl) $ free_all ! refl $
    suffices ! _ (ends_at 𝓛 (f.ended R) (stayed R) c y (one none) made tt tt) $
    nothing ! $ fpack ! (Shares (param 0 R)) (λ _. ftrue) shared.shared $
    owned ! (Mark.the_row (param 0 R)) (Is (Mark.the_row (param 0 R))) (makes (Mark.the_type (param 0 R)) tt 𝓛) (record {}) (none ∷ []) (tt, (refl, tt)) $
    one_made ! (Mark.the_row (param 0 R)) (record {}) none $ fjoin ! $ move ! (1 ∷ 2 ∷ 0 ∷ []) $ group ! 3 $ nothing ! $ move ! (1 ∷ 0 ∷ []) $ done !)))
