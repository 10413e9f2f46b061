-- The same lines by the keys of a design, for what goes through its gates and their inputs.
use Rattle.std.specs.Prelude.{ℕ, List, [], if◌then◌else◌}
use Rattle.std.specs.List.{flat_map}
use Rattle.std.specs.Option.{option_map_or}
use Rattle.catalog.specs.Catalog.{record_at}
use Rattle.design.specs.declared.terminal.Terminal.{Terminal}
use Rattle.design.specs.declared.terminal.Terminal.TheVariants.{Net, Constant}
use Rattle.design.specs.Keys.{Keyed, KeyedGate, entry_in, netlist}
use Rattle.design.specs.kept.Keys.{is_among, net_by_key}
use Rattle.design.specs.Netlist.{GateEntry, NetEntry}
use Rattle.causes.specs.CauseLines.{net_words}
use Rattle.causes.specs.Causes.{changes_at}

-- the lines of the gate of a key
abbrev pub lines_at : (GateEntry → List ℕ) → List (ℕ × NetEntry) → List (ℕ × KeyedGate) → ℕ → List ℕ
lines_at lines nets gates key = option_map_or (λ g. lines (entry_in nets g)) (record_at gates key) []

-- those of the gates of these keys
abbrev pub lines_at_keys : (GateEntry → List ℕ) → List (ℕ × NetEntry) → List (ℕ × KeyedGate) → List ℕ → List ℕ
lines_at_keys lines nets gates keys = flat_map (lines_at lines nets gates) keys

-- the words of the net of a key, if it changes at u
abbrev pub changed_words : Keyed → ℕ → ℕ → List ℕ
changed_words d u key = option_map_or (λ n. if changes_at (netlist d) n u then net_words (netlist d) u n else []) (net_by_key d key) []

-- the words that an input of a gate adds to those of the inputs before it
abbrev pub input_words : Keyed → ℕ → List Terminal → Terminal → List ℕ
input_words d u earlier (Net key) = if is_among earlier key then [] else changed_words d u key
input_words d u earlier (Constant v) = []
