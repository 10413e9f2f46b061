-- `says` reads the fact that the struct keeps, and leaves the struct as it is.
use Rattle.std.proofs.Common.{List, [], ◌∷◌, refl}
use Rattle.std.proofs.raw_atomic.Walks.{proved}
use Rattle.parstep.specs.kept.Shares.{Shares}
use mir.Syntax.{Args, a_type, named}
use mir.MapTy.{inst_fn}
use mir.Val.{Val, vunit}
use base.Fml.{ftrue, flft}
use types.Kit.{‵, raw, ◌⊛◌, ◌$◌, ◌∵◌, !, qed, move, keep, split, join, fsplit, fsplit3, fjoin, fpick, fpack, suffices, group, frame, feq_i, done}
use types.Run.{enter, of_opd, unit_lit, returns}
use types.ByLocal.{alloc_all, pass_all, free_all, look_at, sets}
use denote.RattleType.{RattleType, owns}
use denote.Param.{param, layouts}
use denote.Signature.{plain, types_at}
use denote.Ref.{mut_vals, mut_Tells}
use denote.Steps.{nothing, opens, closes}
use denote.Triple.Walked.{Stays, walk_of, says, stay_ref, Goes-ref, ends_at}
use Rattle.parstep.specs.contracts.shareable.Shareable as S
use Rattle.parstep.specs.contracts.shareable.Shareable.says as f
use Rattle.parstep.proofs.shareable.Shareable.says.Statement.{statement}
use Rattle.parstep.proofs.shareable.Shareable.says.Code as code

abbrev Row : RattleType → RattleType
Row R = S.the_row (param 0 R)

abbrev stayed : (R : RattleType) → Stays (f.ended R).signature.params (f.ended R).kept
stayed R = (stay_ref (0 ∷ []) tt (plain (λ _. Row R)), tt)

pub says_spec : {M : Type 1} → statement M
says_spec 𝓤 𝓛 𝓜 𝓡 wired R L =
    let args : Args = layouts (a_type ∷ []) (R, tt) in
    let c = f.clauses R 𝓛 𝓜.mem 𝓡.returns in let W = walk_of 𝓛 (f.ended R) (stayed R) c in
    proved 𝓛 (f.ended R) (stayed R) c 𝓜 𝓡 (Goes-ref 𝓛 2 0 tt (plain (λ _. Row R)), tt)
    (f.Key.name args) (inst_fn args code.function) (code.unfolded 𝓤 𝓛.H 𝓜 𝓡 wired (R, tt))
    (λ κs. (mut_vals, tt)) (λ κs. (mut_Tells (named 0) κs.0 (Row R), tt)) (λ κs qs bounds a g are.
    let b = a.0.ref_ptr.0 in let o = a.0.ref_ptr.1 in let h = a.0.now in
    let vss : List Val × Unit {0} = (mut_vals a.0, tt) in
    let y : W.Ghost = ((κs, qs, bounds, a, vss), g) in
    qed 𝓛 (((‵ (flft κs.0 qs.0) ⊛ ‵ (flft κs.1.0 qs.1.0) ⊛ ‵ ftrue) ⊛ ‵ (owns (types_at (f.ended R).signature.params κs) a vss)) ∷ raw ((c κs a).requires g) ∷ []) ∵
    split ! $ split ! $ move ! (2 ∷ []) $ fsplit ! $ keep ! (0 ∷ 2 ∷ 3 ∷ []) $
    enter ! _ _ _ _ _ $ alloc_all ! (λ l. pass_all ! refl ((tt, tt), tt) $
    fsplit3 ! $ move ! (1 ∷ 2 ∷ 3 ∷ []) $ opens ! tt (Row R) b o (λ us.
    move ! (1 ∷ []) $ fsplit ! $ move ! (1 ∷ []) $ fpick ! (λ shared.
    fpack ! (Shares (param 0 R)) (λ _. ftrue) shared $ move ! (1 ∷ 0 ∷ []) $ fjoin ! $ move ! (1 ∷ []) $
    closes ! tt (Row R) h us b o $
    sets ! (of_opd ! (unit_lit !)) refl (tt, tt) $
    returns ! (look_at ! 0 refl) $ free_all ! refl $
    move ! (3 ∷ []) $
    suffices ! _ (ends_at 𝓛 (f.ended R) (stayed R) c y vunit tt (h, tt) (tt, tt)) $ says ! (record { shared = shared }) $
    group ! 3 $ nothing ! $ move ! (1 ∷ 0 ∷ []) $ join ! $
    move ! (1 ∷ 2 ∷ 0 ∷ []) $ join ! $ frame ! $ frame ! $ feq_i ! _ (vunit ∷ []) _ refl $ done !))))
