-- What has been read of a text, word by word: the finished modules, the module that is being read, and what the item that is
-- being read has said so far.
use Rattle.std.specs.Prelude.{Bool, false, ℕ, List, [], Option, None}
use Rattle.fourstate.specs.Delays.{uniform_delays}
use Rattle.fourstate.specs.declared.delay_times.DelayTimes.{DelayTimes}
use Rattle.fourstate.specs.declared.gate.GateKind.{GateKind}
use Rattle.fourstate.specs.declared.gate.GateKind.TheVariants.{And}
use Rattle.fourstate.specs.declared.net.NetKind.{NetKind}
use Rattle.fourstate.specs.declared.unit.TimeUnit.{TimeUnit}
use Rattle.vtext.specs.declared.word.Direction.{Direction}
use Rattle.vtext.specs.declared.word.Direction.TheVariants.{Input}
use Rattle.vtext.specs.declared.gate.Terminal.{Terminal}
use Rattle.vtext.specs.declared.module_instance.PortConnection.{PortConnection}
use Rattle.vtext.specs.declared.net.Net.{Net}
use Rattle.vtext.specs.declared.range.Range.{Range}
use Rattle.vtext.specs.Modules.{GateEntry, InstanceEntry, ModuleEntry}

pub record Reading : Type 0 where
  -- the unit of the directives, and the modules that are finished, each with its name
  pub unit : Option TimeUnit
  pub modules : List (ℕ × ModuleEntry)
  -- of the module that is being read: where it begins, its name, whether its header is of the inline form, its nets, gates and
  -- instances of modules, the names that gates and instances have, and how many gate instances are unnamed
  pub start : ℕ
  pub name : ℕ
  pub inline : Bool
  pub nets : List (ℕ × Net)
  pub gates : List GateEntry
  pub instances : List InstanceEntry
  pub taken : List ℕ
  pub unnamed : ℕ
  -- of a declaration: the direction, and the net kind and the range that are written
  pub direction : Direction
  pub kind : Option NetKind
  pub range : Option Range
  -- of a gate item: kind and delays
  pub gate : GateKind
  pub delays : DelayTimes
  -- of a gate instance: its name, if it has one, and the terminals so far
  pub instance : Option ℕ
  pub terminals : List Terminal
  -- of a terminal with an index: the net
  pub indexed : ℕ
  -- of an item that instantiates a module: the module's name
  pub of : ℕ
  -- of such an instance: where its name begins, its name, and the port connections so far
  pub instance_start : ℕ
  pub instance_name : ℕ
  pub connections : List PortConnection
  -- of a port connection: the port, if it names one
  pub port : Option ℕ

-- nothing was read
abbrev pub unread : Reading
unread = record {
  unit = None;
  modules = [];
  start = 0;
  name = 0;
  inline = false;
  nets = [];
  gates = [];
  instances = [];
  taken = [];
  unnamed = 0;
  direction = Input;
  kind = None;
  range = None;
  gate = And;
  delays = uniform_delays 0;
  instance = None;
  terminals = [];
  indexed = 0;
  of = 0;
  instance_start = 0;
  instance_name = 0;
  connections = [];
  port = None;
}
