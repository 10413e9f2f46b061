-- What a module says of a net (IEEE 1364-2005, 4.5, 6.1.1, 12.3).
use Rattle.std.specs.Prelude.{Bool, true, false, ℕ, nat_eq, ◌&&◌, ◌||◌, not, if◌then◌else◌, List, Option, Some, None, is_none, is_some, unwrap_or}
use Rattle.std.specs.Option.{option_or}
use Rattle.std.specs.Map.{lookup}
use Rattle.indexmap.specs.IndexMap.{insert_entry}
use Rattle.fourstate.specs.declared.net.NetKind.{NetKind}
use Rattle.fourstate.specs.declared.net.NetKind.TheVariants.{Wire}
use Rattle.vtext.specs.declared.word.Direction.{Direction}
use Rattle.vtext.specs.declared.word.Direction.TheVariants.{Input}
use Rattle.vtext.specs.declared.net.Net.{Net}
use Rattle.vtext.specs.declared.range.Range.{Range}

-- nothing is said of it
abbrev pub blank : Net
blank = record { port = false; direction = None; kind = None; range = None; implicit = false }

-- the header names it, and says no more
abbrev pub listed : Net
listed = record blank { port = true }

-- the header declares it
abbrev pub ported : Direction → Option NetKind → Option Range → Net
ported direction kind range = record { port = true; direction = Some direction; kind = kind; range = range; implicit = false }

-- its kind: the written one, else `wire`
abbrev pub net_kind : Net → NetKind
net_kind net = unwrap_or net.kind Wire

abbrev pub is_input_direction : Option Direction → Bool
is_input_direction (Some Input) = true
is_input_direction direction = false

-- an input port
abbrev pub is_input : Net → Bool
is_input net = is_input_direction net.direction

-- it has a direction or a net declaration
abbrev pub is_declared : Net → Bool
is_declared net = is_some net.direction || is_some net.kind

-- the header names it, and it has no direction
abbrev pub is_undirected : Net → Bool
is_undirected net = net.port && not (is_some net.direction)

-- after a port declaration, which may write a kind and a range
abbrev pub directed : Direction → Option NetKind → Option Range → Net → Net
directed direction kind range net = record net { direction = Some direction; kind = option_or kind net.kind; range = range }

-- after a net declaration, which writes a kind and may write a range
abbrev pub declared : Option NetKind → Option Range → Net → Net
declared kind range net = record net { kind = kind; range = range }

-- after its use as a terminal: without a declaration before, it is an implicit net
abbrev pub used : Net → Net
used net = if is_declared net then net else record net { implicit = true }

-- a declaration or a use was said of it: a further use says no more
abbrev pub is_used : Net → Bool
is_used net = is_declared net || net.implicit

-- a scalar that was declared or used
abbrev pub is_scalar : Net → Bool
is_scalar net = is_used net && is_none net.range

-- The nets of a module are a list of numbers of names, each with what is said of it.

-- what is said of a net so far
abbrev pub net_of : List (ℕ × Net) → ℕ → Option Net
net_of nets n = lookup (nat_eq n) nets

-- a net says so from now on: it keeps its place, and a new one goes last
abbrev pub with_net : List (ℕ × Net) → ℕ → Net → List (ℕ × Net)
with_net nets n net = insert_entry nat_eq nets n net

-- a net is a terminal from now on
abbrev pub with_use : List (ℕ × Net) → ℕ → List (ℕ × Net)
with_use nets n = with_net nets n (used (unwrap_or (net_of nets n) blank))
