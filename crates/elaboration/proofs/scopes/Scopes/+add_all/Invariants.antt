use Rattle.std.proofs.Common.{◌≡◌, ◌-◌, ◌<◌, ◌≤◌, Some, take}
use Rattle.std.specs.Prelude.{fold}
use Rattle.std.specs.List.{slice_get}
use Rattle.elaboration.specs.kept.Numbered.{placed, with_instance, with_scope}
use Rattle.elaboration.proofs.scopes.Scopes.+add_all.Given as goal

abbrev pub invariant-loop-instance : goal.invariant-loop-instance
invariant-loop-instance l = record {
  few : l.self.count ≤ l.most → (l.self ≡ fold (with_instance l.modules.names l.modules.modules (l.levels - 1) (placed l.fn.self.count l.fn.start)) (with_scope l.fn.self l.fn.start) (take l.instance-index l.instance-items))
      × (slice_get l.self.list l.place ≡ Some (placed l.fn.self.count l.fn.start));
  many : l.most < l.self.count
      → l.most < (fold (with_instance l.modules.names l.modules.modules (l.levels - 1) (placed l.fn.self.count l.fn.start)) (with_scope l.fn.self l.fn.start) (take l.instance-index l.instance-items)).count;
}

abbrev pub decreases-add_all : goal.decreases-add_all
decreases-add_all l = l.levels
