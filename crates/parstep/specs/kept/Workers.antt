-- How many workers a pool has.
use Rattle.std.specs.Prelude.{ℕ, vec_len}
use Rattle.parstep.specs.declared.pool.Pool.{Pool}

-- each worker of a pool has a seat
abbrev pub workers_of : {P R : Type 0} → Pool P R → ℕ
workers_of pool = vec_len pool.seats
