-- Why what has been read refuses a word that the grammar admits. Of several causes at one word the first one here counts: Syntax,
-- BadName, ZeroDelay, DelayTooLarge, TooMany, DuplicateName, WidthMismatch, and at the end of a gate instance WrongArity, PortKind, DuplicateName (own).
use Rattle.std.specs.Prelude.{Bool, true, false, ℕ, ◌==◌, ◌&&◌, ◌||◌, not, nat_eq, nat_lt, if◌then◌else◌, List, Option, Some, None, is_some, length, unwrap_or}
use Rattle.std.specs.List.{list_any}
use Rattle.std.specs.Map.{lookup}
use Rattle.std.specs.Option.{option_map_or, option_or}
use Rattle.fourstate.specs.declared.limits.TheConstants.{MAX_DELAY}
use Rattle.fourstate.specs.declared.net.NetKind.{NetKind}
use Rattle.vtext.specs.declared.cause.Cause.{Cause}
use Rattle.vtext.specs.declared.cause.Cause.TheVariants.{Byte, Unsupported, Syntax, ZeroDelay, DelayTooLarge, TooMany, DuplicateName, WidthMismatch, WrongArity, PortKind}
use Rattle.vtext.specs.declared.net.Net.{Net}
use Rattle.vtext.specs.declared.range.Range.{Range}
use Rattle.vtext.specs.declared.range.TheConstants.{MAX_INDEX}
use Rattle.vtext.specs.declared.word.Word.{Word}
use Rattle.vtext.specs.declared.word.Word.TheVariants.{Hash, OpenBracket, Refused, Stray}
use Rattle.vtext.specs.Bits.{is_clash}
use Rattle.vtext.specs.GateNames.{is_taken}
use Rattle.vtext.specs.Instances.{instance_name, is_arity_wrong, is_constant_driven, is_made_taken, outputs_of}
use Rattle.vtext.specs.Nets.{blank, is_undirected, is_used, net_of}
use Rattle.vtext.specs.Ranges.{has_bit}
use Rattle.vtext.specs.Readings.{Reading}

-- Words that can't stand.

-- a byte that no text may hold, a form that is left out, or anything else
abbrev pub misfit : Word → Cause
misfit Stray = Byte
misfit Refused = Unsupported
misfit word = Syntax

-- Words that the grammar admits.

-- a cause where a test holds
abbrev pub when : Bool → Cause → Option Cause
when true cause = Some cause
when false cause = None

-- modules have different names
abbrev pub module_cause : Reading → ℕ → Option Cause
module_cause r n = when (is_some (lookup (nat_eq n) r.modules)) DuplicateName

-- a header names no port twice
abbrev pub header_cause : Reading → ℕ → Option Cause
header_cause r n = when (is_some (net_of r.nets n)) DuplicateName

-- Nets that come to be.

-- a net comes to be: neither its flat name nor one of its bits is that of another net
abbrev pub new_cause : List (List ℕ) → Reading → ℕ → Option Range → Option Cause
new_cause names r n range = when (is_clash names r.nets n range) DuplicateName

-- ranges are the same where both bounds are
abbrev pub same_range : Option Range → Option Range → Bool
same_range None None = true
same_range (Some a) (Some b) = nat_eq a.left b.left && nat_eq a.right b.right
same_range a b = false

-- a declaration of a net of which this was said: the first one is free, a further one writes the same range
abbrev pub declared_cause : List (List ℕ) → Reading → ℕ → Net → Option Cause
declared_cause names r n net =
    if is_used net then when (not (same_range r.range net.range)) WidthMismatch else new_cause names r n r.range

-- a header of the inline form names a port
abbrev pub inline_cause : List (List ℕ) → Reading → ℕ → Option Cause
inline_cause names r n = option_or (header_cause r n) (new_cause names r n r.range)

-- the first use of a net that is not declared makes a scalar
abbrev pub use_cause : List (List ℕ) → Reading → ℕ → Option Cause
use_cause names r n = if is_used (unwrap_or (net_of r.nets n) blank) then None else new_cause names r n None

abbrev pub is_vector : Net → Bool
is_vector net = is_some net.range

-- a terminal of a gate without an index is no vector
abbrev pub terminal_cause : List (List ℕ) → Reading → ℕ → Option Cause
terminal_cause names r n = option_or (use_cause names r n) (when (option_map_or is_vector (net_of r.nets n) false) WidthMismatch)

-- Ranges and indexes.

abbrev pub bound_cause : ℕ → Option Cause
bound_cause n = when (nat_lt MAX_INDEX n) TooMany

-- an index is that of a bit
abbrev pub index_cause : Reading → ℕ → Option Cause
index_cause r i =
    option_or (bound_cause i) (when (not (option_map_or (λ net. has_bit net.range i) (net_of r.nets r.indexed) false)) WidthMismatch)

abbrev pub is_index : Option Word → Bool
is_index (Some OpenBracket) = true
is_index word = false

-- a module of the inline form has no port declarations among its items
abbrev pub direction_cause : Reading → Option Cause
direction_cause r = when r.inline Syntax

-- each name of a header has a direction in the end
abbrev pub end_cause : Reading → Option Cause
end_cause r = when (list_any (λ net. is_undirected net.1) r.nets) Syntax

-- a delay is 1 to 1,000,000
abbrev pub delay_cause : ℕ → Option Cause
delay_cause n = if n == 0 then Some ZeroDelay else when (nat_lt MAX_DELAY n) DelayTooLarge

-- a gate item without a delay has the default one
abbrev pub default_cause : Option ℕ → Option Cause
default_cause None = Some ZeroDelay
default_cause (Some n) = delay_cause n

abbrev pub is_hash : Option Word → Bool
is_hash (Some Hash) = true
is_hash word = false

abbrev pub gate_cause : Option ℕ → Option Word → Option Cause
gate_cause default next = if is_hash next then None else default_cause default

-- a port declaration, with this net kind or none, comes too late for a net: it has a direction, or was used without a declaration,
-- or both write a net kind
abbrev pub is_port_late : Option NetKind → Net → Bool
is_port_late kind net = is_some net.direction || net.implicit || (is_some kind && is_some net.kind)

-- a direction is said of a name of the header, once, with a net kind only where none was said, and before its use
abbrev pub directed_again : Option NetKind → Net → Option Cause
directed_again kind net = if not net.port then Some Syntax else when (is_port_late kind net) DuplicateName

abbrev pub port_cause : List (List ℕ) → Reading → ℕ → Option Cause
port_cause names r n = option_map_or (λ net. option_or (directed_again r.kind net) (declared_cause names r n net)) (net_of r.nets n) (Some Syntax)

-- a net declaration comes too late for a net: it has one, or was used without a declaration
abbrev pub is_net_late : Net → Bool
is_net_late net = is_some net.kind || net.implicit

-- a net is declared once, and before its use
abbrev pub declared_again : Net → Option Cause
declared_again net = when (is_net_late net) DuplicateName

abbrev pub net_cause : List (List ℕ) → Reading → ℕ → Option Cause
net_cause names r n =
    option_or (declared_again (unwrap_or (net_of r.nets n) blank)) (declared_cause names r n (unwrap_or (net_of r.nets n) blank))

-- gates and instances have different names
abbrev pub instance_cause : Reading → ℕ → Option Cause
instance_cause r n = when (is_taken r.taken n) DuplicateName

-- the whole instance: its number of terminals, its outputs, the names that are made for its gates
abbrev pub completed_cause : List (List ℕ) → Reading → Option Cause
completed_cause names r =
    if is_arity_wrong r.gate r.terminals then Some WrongArity
    else if is_constant_driven r.gate r.terminals then Some PortKind
    else when (is_made_taken names r.taken (instance_name r) (length (outputs_of r.gate r.terminals))) DuplicateName
