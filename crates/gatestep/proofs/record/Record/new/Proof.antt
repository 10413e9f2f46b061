-- `new` makes the struct with the ghost fields that its clauses name.
use Rattle.std.proofs.Common.{[], ◌∷◌, refl}
use Rattle.std.proofs.raw_atomic.Walks.{proved}
use base.Fml.{ftrue}
use mir.Val.{vstruct, vcons, vunit, vnil}
use types.Kit.{‵, raw, ◌$◌, ◌∵◌, !, qed, suffices, drop, done}
use types.Run.{no_more, and_then, unit_lit, returns, enter}
use types.Part.{agg}
use types.ByLocal.{alloc_all, pass_all, free_all, look_at, sets}
use denote.Shadow.{pure_i}
use denote.Steps.{nothing}
use denote.Triple.Entry.{on_entry}
use denote.Triple.Walked.{Stays, walk_of, says, ends_at}
use Rattle.gatestep.specs.declared.record.Record.{Record}
use Rattle.gatestep.specs.contracts.record.Record.new as f
use Rattle.gatestep.specs.contracts.record.Record.{the_row as R}
use Rattle.gatestep.proofs.record.Record.new.Statement.{statement}
use Rattle.gatestep.proofs.record.Record.new.Code as code

abbrev stayed : Stays f.ended.signature.params f.ended.kept
stayed = tt

abbrev made : Record
made = record { seal = tt; asked = []; losses = 0 }

pub new_spec : {M : Type 1} → statement M
new_spec 𝓤 𝓛 𝓜 𝓡 wired =
    let c = f.clauses 𝓛 𝓜.mem 𝓡.returns in let W = walk_of 𝓛 f.ended stayed c in
    proved 𝓛 f.ended stayed c 𝓜 𝓡 tt
    f.Key.name code.function (code.unfolded 𝓤 𝓛.H 𝓜 𝓡 wired)
    (λ κs. tt) (λ κs. tt) (λ κs qs bounds a _ are.
    let y : W.Ghost = ((κs, qs, bounds, a, tt), tt) in
    qed 𝓛 (raw (on_entry 𝓛 f.signature κs qs a tt) ∷ ‵ ftrue ∷ []) ∵
    drop ! $ drop ! $ enter ! _ _ _ _ _ $ alloc_all ! (λ l. pass_all ! refl tt $ sets ! (agg ! (and_then ! (unit_lit !) (no_more !))) refl (tt, (tt, tt)) $
    returns ! (look_at ! 0 refl) $ free_all ! refl $
    suffices ! _ (ends_at 𝓛 f.ended stayed c y (vstruct (vcons vunit vnil)) made tt tt) $ says ! (refl, refl) $
    pure_i ! (R.own_val made (vstruct (vcons vunit vnil) ∷ [])) ((λ vss. (tt, (tt, tt))), tt) (((vunit ∷ [], tt), (refl, (refl, tt))), tt) $
    nothing ! $ nothing ! $ done !))
