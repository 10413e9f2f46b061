-- The names of gates (own): unnamed instances are `$1`, `$2`, .. in order, and an instance of several outputs gives the gates
-- of its name and `$1`, `$2`, ..
use Rattle.std.specs.Prelude.{Bool, false, ℕ, zero, suc, nat_eq, ◌||◌, List, ◌∷◌, ◌++◌}
use Rattle.std.specs.Fmt.{decimal}
use Rattle.std.specs.List.{list_any}
use Rattle.std.specs.Option.{option_map_or}
use Rattle.indexmap.specs.IndexSet.{insert_key}
use Rattle.vtext.specs.declared.gate.InstanceName.{InstanceName}
use Rattle.vtext.specs.declared.gate.InstanceName.TheVariants.{Written, Unnamed}
use Rattle.vtext.specs.Modules.{GateEntry}
use Rattle.vtext.specs.Names.{name_at, number_of}

-- a dollar sign and a number
abbrev pub numbered : ℕ → List ℕ
numbered n = 36 ∷ decimal n

-- the name of an instance
abbrev pub instance_bytes : List (List ℕ) → InstanceName → List ℕ
instance_bytes names (Written n) = name_at names n
instance_bytes names (Unnamed n) = numbered n

-- the name of the gate of the output of this number of an instance of this name
abbrev pub part_bytes : List ℕ → ℕ → List ℕ
part_bytes base part = base ++ numbered part

-- the name of a gate
abbrev pub gate_bytes : List (List ℕ) → GateEntry → List ℕ
gate_bytes names gate =
    option_map_or (part_bytes (instance_bytes names gate.instance)) gate.part (instance_bytes names gate.instance)

-- The names that a module has taken are numbers too. A made name that the text writes nowhere is no number, and nothing else
-- can have it, since two made names differ where those that they are made from do.

-- the name of this number is taken
abbrev pub is_taken : List ℕ → ℕ → Bool
is_taken taken n = list_any (nat_eq n) taken

-- the name of these bytes is taken
abbrev pub is_name_taken : List (List ℕ) → List ℕ → List ℕ → Bool
is_name_taken names taken bytes = option_map_or (is_taken taken) (number_of names bytes) false

-- one of the names of the first so many outputs is taken
abbrev pub is_part_taken : List (List ℕ) → List ℕ → List ℕ → ℕ → Bool
is_part_taken names taken base zero = false
is_part_taken names taken base (suc count) = is_part_taken names taken base count || is_name_taken names taken (part_bytes base (suc count))

-- the name of this number is taken from now on
abbrev pub with_taken : List ℕ → ℕ → List ℕ
with_taken taken n = insert_key nat_eq taken n

-- the name of these bytes is taken from now on
abbrev pub with_name_taken : List (List ℕ) → List ℕ → List ℕ → List ℕ
with_name_taken names taken bytes = option_map_or (with_taken taken) (number_of names bytes) taken

-- so are the names of the first so many outputs
abbrev pub with_parts_taken : List (List ℕ) → List ℕ → List ℕ → ℕ → List ℕ
with_parts_taken names taken base zero = taken
with_parts_taken names taken base (suc count) = with_name_taken names (with_parts_taken names taken base count) (part_bytes base (suc count))
