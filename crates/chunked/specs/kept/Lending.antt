-- What a list ends as, where an element of it is given for writing in place: the element is the last value that was written through
-- the reference r. After an error the list is as it was.
use Rattle.std.specs.Prelude.{◌≡◌, ℕ, List, Result, slice_set}
use Rattle.std.specs.Borrow.{Fml, LendsIfOk, LendsSoOk, MutBor, RattleType}
use Rattle.std.specs.contracts.alloc.Global as global
use Rattle.std.specs.contracts.impls.GlobalAllocator.TheImpl.{ghosts}
use Rattle.std.specs.contracts.sync.Arc as arc
use Rattle.std.specs.contracts.vec.Vec as vec
use Rattle.chunked.specs.kept.Chunks.{items_in, row_in}
use Rattle.chunked.specs.contracts.list.Chunked as list
use Rattle.chunked.specs.contracts.row.Row as row

module _ (T : RattleType) where
  -- a chunk, as the logic holds it
  abbrev pub chunk_row : RattleType
  chunk_row = arc.the_row (vec.the_row T global.the_row ghosts) global.the_row ghosts

  -- a branch
  abbrev pub branch_row : RattleType
  branch_row = arc.the_row (row.the_row T) global.the_row ghosts

  abbrev pub lends_in_chunk : MutBor chunk_row.Denot → ℕ → {E : Type 0} → Result (MutBor T.Denot) E → Fml
  lends_in_chunk chunk index r =
      LendsSoOk chunk_row T chunk r (λ new w. items_in new ≡ slice_set (items_in chunk.now) index w) (λ new. items_in new ≡ items_in chunk.now)

  abbrev pub lends_in_row : MutBor (List T.Denot) → ℕ → {E : Type 0} → Result (MutBor T.Denot) E → Fml
  lends_in_row items index r = LendsIfOk (row.the_row T) T items r (slice_set items.now index) items.now

  abbrev pub lends_in_branch : MutBor branch_row.Denot → ℕ → {E : Type 0} → Result (MutBor T.Denot) E → Fml
  lends_in_branch branch index r =
      LendsSoOk branch_row T branch r (λ new w. row_in new ≡ slice_set (row_in branch.now) index w) (λ new. row_in new ≡ row_in branch.now)

  abbrev pub lends_in_list : MutBor (List T.Denot) → ℕ → {E : Type 0} → Result (MutBor T.Denot) E → Fml
  lends_in_list items index r = LendsIfOk (list.the_row T) T items r (slice_set items.now index) items.now
