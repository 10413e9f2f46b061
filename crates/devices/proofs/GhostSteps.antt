-- The steps of the walks over a value of no bytes, `History`. Assumes `Logic`.
pub use Rattle.std.proofs.Common.{ℕ, List, [], ◌∷◌, ◌++◌, length, ◌+◌, refl, MutBor}
pub use Rattle.std.proofs.raw_atomic.Walks.{proved}
pub use base.Fml.{ftrue, flft}
pub use base.Logic.{id⊢}
pub use mir.Syntax.{named}
pub use mir.Val.{vunit}
pub use contract.Running.{tables}
pub use types.Kit.{‵, ◌⊛◌, ◌$◌, ◌∵◌, !, qed, done, move, keep, drop, use1, split, join, fsplit, fsplit3, fjoin, feq_i, suffices, frame, group}
pub use types.Part.{agg}
pub use types.Run.{enter, of_opd, unit_lit, no_more, returns}
pub use types.ByLocal.{alloc_all, pass_all, free_all, look_at, sets}
pub use denote.Builtin.{u8}
pub use denote.Exit.{yes}
pub use denote.Ref.{MutRef, mut_vals, mut_Tells}
pub use denote.Slice.{ShrSlice, shr_slice_vals, shr_slice_Tells}
pub use denote.Signature.{plain}
pub use denote.Steps.{nothing, opens, closes}
pub use denote.Triple.Walked.{Stays, walk_of, says, stay_ref, Goes-ref, stay_none_slice, Goes-none_slice, ends_at}
use seplogic.Ra.Ura.{Ura}
use mir.Val.{Val, vstruct, vnil}
use types.Logic.{Logic}
use types.Kit.{Goal, Step, step, Item, fpack}
use denote.RattleType.{RattleType, Valss}
use denote.Struct.Struct.{Struct, within}

-- the value of a struct with no fields
abbrev pub none : Val
none = vstruct vnil

abbrev pub fieldless : RattleType
fieldless = Struct (record { name = []; args = []; types = []; fields = [] })

-- that value owns nothing
pub none_made : {M : Type 1} {𝓤 : Ura M} {𝓛 : Logic 𝓤} {K : Type 0} {Γ : List (Item 𝓤)} {G : Goal 𝓤 𝓛.H} → K → Step K 𝓛 (‵ (fieldless.own_val tt (none ∷ [])) ∷ Γ) G Γ G
none_made t = step (λ s.
    nothing t $ feq_i t (List Val) (none ∷ []) (none ∷ []) refl $ fjoin t $
    fpack t (Valss []) (within (record { name = []; args = []; types = []; fields = [] }) tt (none ∷ [])) tt $ s)
