-- Modules: what a text says of nets, gates and instances, names being numbers of a table (IEEE 1364-2005, 7.1, 12.1).
use Rattle.std.specs.Prelude.{ℕ, List, Option}
use Rattle.fourstate.specs.declared.delay_times.DelayTimes.{DelayTimes}
use Rattle.fourstate.specs.declared.gate.GateKind.{GateKind}
use Rattle.fourstate.specs.declared.unit.TimeUnit.{TimeUnit}
use Rattle.vtext.specs.declared.gate.Terminal.{Terminal}
use Rattle.vtext.specs.declared.gate.InstanceName.{InstanceName}
use Rattle.vtext.specs.declared.module_instance.PortConnection.{PortConnection}
use Rattle.vtext.specs.declared.net.Net.{Net}

-- a gate: the instance that it is of, and the number of its output in it, from 1, where the instance has several
pub record GateEntry : Type 0 where
  pub kind : GateKind
  pub delays : DelayTimes
  pub instance : InstanceName
  pub part : Option ℕ
  pub output : Terminal
  pub inputs : List Terminal

-- an instance of a module: where its name begins, its name, the name of the module, its port connections in order
pub record InstanceEntry : Type 0 where
  pub start : ℕ
  pub name : ℕ
  pub «module» : ℕ
  pub connections : List PortConnection

-- a module: where its word `module` begins, its nets in order, its gates in order, its instances of modules in order
pub record ModuleEntry : Type 0 where
  pub start : ℕ
  pub nets : List (ℕ × Net)
  pub gates : List GateEntry
  pub instances : List InstanceEntry

-- the modules of a text in order, each with its name, the table of the text's names, and the time unit of its directives
pub record ModuleList : Type 0 where
  pub names : List (List ℕ)
  pub unit : Option TimeUnit
  pub modules : List (ℕ × ModuleEntry)
