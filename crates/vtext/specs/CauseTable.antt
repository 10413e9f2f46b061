-- The table of the causes for which a word is refused: at a word the first one that holds is told (own). Turns.antt and Causes.antt
-- have the same by the place, which a law says (`laws::first_cause_is_told`).
use Rattle.std.specs.Prelude.{◌≡◌, All, ◌++◌, Bool, true, false, ℕ, ◌==◌, ◌&&◌, not, nat_eq, nat_lt, if◌then◌else◌, List, [], ◌∷◌, Option, Some, None, is_some, length, Result, Ok, Err}
use Rattle.std.specs.List.{list_any}
use Rattle.std.specs.Map.{lookup}
use Rattle.std.specs.Option.{option_map_or}
use Rattle.fourstate.specs.Gates.{takes_off}
use Rattle.fourstate.specs.declared.limits.TheConstants.{MAX_DELAY}
use Rattle.vtext.specs.declared.cause.Cause.{Cause}
use Rattle.vtext.specs.declared.cause.Cause.TheVariants.{Byte, Unsupported, Syntax, BadName, ZeroDelay, DelayTooLarge, TooMany, DuplicateName, WidthMismatch, WrongArity, PortKind}
use Rattle.vtext.specs.declared.net.Net.{Net}
use Rattle.vtext.specs.declared.range.Range.{Range}
use Rattle.vtext.specs.declared.range.TheConstants.{MAX_INDEX}
use Rattle.vtext.specs.declared.word.Word.{Word}
use Rattle.vtext.specs.declared.word.Word.TheVariants as word
use Rattle.vtext.specs.Bits.{is_clash}
use Rattle.vtext.specs.Causes.{is_hash, is_net_late, is_port_late, is_vector, same_range}
use Rattle.vtext.specs.GateNames.{is_taken}
use Rattle.vtext.specs.Instances as instances
use Rattle.vtext.specs.Nets.{is_undirected, is_used, net_of}
use Rattle.vtext.specs.Ranges.{has_bit}
use Rattle.vtext.specs.Readings.{Reading}
use Rattle.vtext.specs.Roles.{Role, role_of}
use Rattle.vtext.specs.Roles.Role.{out_of_place, bad_name, module_name, module_end, header_name, inline_name, port_name, net_name, bound, item_direction, gate_word, delay_number, third_delay, instance_name, gate_net, other_net, index, instance_end}
use Rattle.vtext.specs.Turns.{Walk}

-- Text and Unsupported.

-- a byte that no text may hold
abbrev pub is_stray : Word → Bool
is_stray word.Stray = true
is_stray word = false

-- a form of Verilog that is left out, or a directive with another unit than the first one's
abbrev pub is_left_out : Word → Bool
is_left_out word.Refused = true
is_left_out word = false

-- Syntax. Below, `r` is what has been read before the word.

-- the word can't continue the text
abbrev pub is_out_of_place : Role → Bool
is_out_of_place out_of_place = true
is_out_of_place role = false

-- a third delay for a gate kind that takes no turn-off delay
abbrev pub is_delay_too_many : Reading → Role → Bool
is_delay_too_many r third_delay = not (takes_off r.gate)
is_delay_too_many r role = false

-- an item begins with a direction, in a module whose header is of the inline form
abbrev pub is_direction_too_late : Reading → Role → Bool
is_direction_too_late r item_direction = r.inline
is_direction_too_late r role = false

-- a port declaration names what the header doesn't
abbrev pub is_no_port : Reading → Role → Bool
is_no_port r (port_name n) = not (option_map_or (λ (net : Net). net.port) (net_of r.nets n) false)
is_no_port r role = false

-- the module ends, and a name of its header has no direction
abbrev pub is_direction_missing : Reading → Role → Bool
is_direction_missing r module_end = list_any (λ net. is_undirected net.1) r.nets
is_direction_missing r role = false

-- BadName.

-- a name that no design may have
abbrev pub is_bad_name : Role → Bool
is_bad_name bad_name = true
is_bad_name role = false

-- ZeroDelay and DelayTooLarge. `after` is the word behind this one.

-- a delay of 0; or a gate without a delay, and there is no default one, or it is 0
abbrev pub is_delay_zero : Option ℕ → Option Word → Role → Bool
is_delay_zero default after (delay_number n) = n == 0
is_delay_zero default after gate_word = not (is_hash after) && option_map_or (λ n. n == 0) default true
is_delay_zero default after role = false

-- a delay over the limit; or a gate without a delay, and the default one is over it
abbrev pub is_delay_too_large : Option ℕ → Option Word → Role → Bool
is_delay_too_large default after (delay_number n) = nat_lt MAX_DELAY n
is_delay_too_large default after gate_word = not (is_hash after) && option_map_or (λ n. nat_lt MAX_DELAY n) default false
is_delay_too_large default after role = false

-- TooMany.

-- a bound of a range, or an index, is over the limit
abbrev pub is_index_too_large : Role → Bool
is_index_too_large (bound n) = nat_lt MAX_INDEX n
is_index_too_large (index n) = nat_lt MAX_INDEX n
is_index_too_large role = false

-- DuplicateName.

-- a second module of this name
abbrev pub is_second_module : Reading → Role → Bool
is_second_module r (module_name n) = is_some (lookup (nat_eq n) r.modules)
is_second_module r role = false

-- the header has named this port before
abbrev pub is_second_port : Reading → Role → Bool
is_second_port r (header_name n) = is_some (net_of r.nets n)
is_second_port r (inline_name n) = is_some (net_of r.nets n)
is_second_port r role = false

-- a second direction or net declaration of this name, or one after its use
abbrev pub is_second_declaration : Reading → Role → Bool
is_second_declaration r (port_name n) = option_map_or (is_port_late r.kind) (net_of r.nets n) false
is_second_declaration r (net_name n) = option_map_or is_net_late (net_of r.nets n) false
is_second_declaration r role = false

-- the module has no net of this name yet, at most a port that its header names
abbrev pub is_new : Reading → ℕ → Bool
is_new r n = not (option_map_or is_used (net_of r.nets n) false)

-- a net comes to be, and its name or that of one of its bits is that of another net, or of a bit of one
abbrev pub is_name_of_another : List (List ℕ) → Reading → Role → Bool
is_name_of_another names r (inline_name n) = is_new r n && is_clash names r.nets n r.range
is_name_of_another names r (port_name n) = is_new r n && is_clash names r.nets n r.range
is_name_of_another names r (net_name n) = is_new r n && is_clash names r.nets n r.range
is_name_of_another names r (gate_net n) = is_new r n && is_clash names r.nets n None
is_name_of_another names r (other_net n) = is_new r n && is_clash names r.nets n None
is_name_of_another names r role = false

-- a gate or an instance of the module has this name
abbrev pub is_second_instance : Reading → Role → Bool
is_second_instance r (instance_name n) = is_taken r.taken n
is_second_instance r role = false

-- WidthMismatch.

-- a vector without an index, as a terminal of a gate
abbrev pub is_vector_whole : Reading → Role → Bool
is_vector_whole r (gate_net n) = option_map_or is_vector (net_of r.nets n) false
is_vector_whole r role = false

-- a net was declared with another range than this
abbrev pub has_other_range : Option Range → Net → Bool
has_other_range range net = is_used net && not (same_range range net.range)

-- a second declaration of this name, with another range
abbrev pub is_other_range : Reading → Role → Bool
is_other_range r (port_name n) = option_map_or (has_other_range r.range) (net_of r.nets n) false
is_other_range r (net_name n) = option_map_or (has_other_range r.range) (net_of r.nets n) false
is_other_range r role = false

-- an index on what is no vector, or outside its range
abbrev pub is_no_bit : Reading → Role → Bool
is_no_bit r (index i) = not (option_map_or (λ (net : Net). has_bit net.range i) (net_of r.nets r.indexed) false)
is_no_bit r role = false

-- WrongArity, PortKind and DuplicateName, where a gate instance ends.

-- the number of its terminals doesn't fit the gate
abbrev pub is_arity_wrong : Reading → Role → Bool
is_arity_wrong r instance_end = instances.is_arity_wrong r.gate r.terminals
is_arity_wrong r role = false

-- an output of it is a constant
abbrev pub is_constant_driven : Reading → Role → Bool
is_constant_driven r instance_end = instances.is_constant_driven r.gate r.terminals
is_constant_driven r role = false

-- a name that is made for its gates is taken
abbrev pub is_made_taken : List (List ℕ) → Reading → Role → Bool
is_made_taken names r instance_end =
    instances.is_made_taken names r.taken (instances.instance_name r) (length (instances.outputs_of r.gate r.terminals))
is_made_taken names r role = false

-- The table.

-- the causes for which a word may be refused, in order, each with the test whether it holds
abbrev pub rows : Option ℕ → List (List ℕ) → Reading → Word → Option Word → Role → List (Bool × Cause)
rows default names r this after role =
    (is_stray this, Byte)
    ∷ (is_left_out this, Unsupported)
    ∷ (is_out_of_place role, Syntax)
    ∷ (is_delay_too_many r role, Syntax)
    ∷ (is_direction_too_late r role, Syntax)
    ∷ (is_no_port r role, Syntax)
    ∷ (is_direction_missing r role, Syntax)
    ∷ (is_bad_name role, BadName)
    ∷ (is_delay_zero default after role, ZeroDelay)
    ∷ (is_delay_too_large default after role, DelayTooLarge)
    ∷ (is_index_too_large role, TooMany)
    ∷ (is_second_module r role, DuplicateName)
    ∷ (is_second_port r role, DuplicateName)
    ∷ (is_second_declaration r role, DuplicateName)
    ∷ (is_name_of_another names r role, DuplicateName)
    ∷ (is_second_instance r role, DuplicateName)
    ∷ (is_vector_whole r role, WidthMismatch)
    ∷ (is_other_range r role, WidthMismatch)
    ∷ (is_no_bit r role, WidthMismatch)
    ∷ (is_arity_wrong r role, WrongArity)
    ∷ (is_constant_driven r role, PortKind)
    ∷ (is_made_taken names r role, DuplicateName)
    ∷ []

-- the table at a word, in this state: `default` is the delay of a gate item without one, `names` the table of names
abbrev pub cause_table : Option ℕ → List (List ℕ) → Walk → Word → Option Word → List (Bool × Cause)
cause_table default names at this after = rows default names at.so_far this after (role_of at.state this after)

-- the cause of the first row that holds
abbrev pub first_cause : List (Bool × Cause) → Option Cause
first_cause [] = None
first_cause (row ∷ more) = if row.0 then Some row.1 else first_cause more

-- A row with this cause holds, and none above it.
pub record IsFirst (table : List (Bool × Cause)) (why : Cause) : Type 0 where
  pub above : List (Bool × Cause)
  pub below : List (Bool × Cause)
  pub row : table ≡ above ++ (true, why) ∷ below
  pub none_above : All (λ row. row.0 ≡ false) above

-- the cause for which a walk refuses a word, if it does
abbrev pub cause_in : Result Walk Cause → Option Cause
cause_in (Ok walk) = None
cause_in (Err why) = Some why
