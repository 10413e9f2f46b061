-- The draft of a module as a reading.
use Rattle.vtext.specs.declared.draft.Draft.{Draft}
use Rattle.vtext.specs.Readings.{Reading}

-- a draft as a reading
abbrev pub view : Draft → Reading
view d = record {
  unit = d.unit;
  modules = d.modules.entries;
  start = d.module.start;
  name = d.module.name;
  inline = d.module.inline;
  nets = d.module.nets.entries;
  gates = d.module.gates.items;
  instances = d.module.instances.items;
  taken = d.module.taken.keys;
  unnamed = d.module.unnamed;
  direction = d.declaration.direction;
  kind = d.declaration.kind;
  range = d.declaration.range;
  gate = d.item.kind;
  delays = d.item.delays;
  instance = d.instance.name;
  terminals = d.instance.terminals.items;
  indexed = d.indexed;
  of = d.module_instance.of;
  instance_start = d.module_instance.start;
  instance_name = d.module_instance.name;
  connections = d.module_instance.connections.items;
  port = d.module_instance.port;
}
