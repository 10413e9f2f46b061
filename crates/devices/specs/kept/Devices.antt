-- What is on record of a device over std's readers or writers.
use Rattle.std.specs.Prelude.{ℕ, List, length}
use Rattle.devices.specs.declared.device.Device.{Device}

-- the pieces that its takes brought so far
abbrev pub taken_pieces : {T : Type 0} → Device T → List (List ℕ)
taken_pieces d = d.takes.pieces

-- the failures so far
abbrev pub failure_count : {T : Type 0} → Device T → ℕ
failure_count d = length d.failures.pieces
