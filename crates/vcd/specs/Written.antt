-- A text that went out in part.
use Rattle.std.specs.Prelude.{◌≡◌, ◌≤◌, ◌+◌, ◌-◌, ◌^◌, ℕ, List, Option, length, take, min}
use Rattle.std.specs.Io.KnownBytes.{Appends}
use Rattle.vcd.specs.declared.fault.VcdFault.{VcdFault}
use Rattle.vcd.specs.declared.fault.VcdFault.TheVariants.{Write}

-- Exactly the first bytes of the text went out, as many as the fault says (a number that stops at the greatest `u64`), and
-- the device failed once.
abbrev pub IsCut : Option (List ℕ) → Option (List ℕ) → ℕ → ℕ → List ℕ → VcdFault → Type 0
IsCut old new failures failures' text (Write n) =
    (sent : ℕ) × (sent ≤ length text) × (n ≡ min sent (2 ^ 64 - 1)) × Appends old new (take sent text) × (failures' ≡ failures + 1)
