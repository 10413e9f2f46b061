-- What is kept of the line that is being read.
use Rattle.std.specs.Prelude.{ℕ, ◌≤◌, vec_capacity, vec_len}
use Rattle.std.specs.declared.vec.Vec.{Vec}
use Rattle.std.specs.declared.alloc.Global.{Global}
use Rattle.session.specs.declared.talk.line_buffer.TheConstants.{ROOM}

-- there is room for a byte more than a line may have, and no more are kept
pub record HasRoom (bytes : Vec ℕ Global) : Type 0 where
  pub room : ROOM ≤ vec_capacity bytes
  pub short : vec_len bytes ≤ ROOM
