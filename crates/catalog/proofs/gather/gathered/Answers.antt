use Rattle.std.proofs.Common.{◌≡◌, ◌≤◌, ◌∙◌, ◌<◌, Some, sym, ap, take, length, subst, if◌then◌else◌, arith}
use Rattle.std.proofs.lemmas.List.{take_all}
use Rattle.catalog.specs.Catalog.{same_name}
use Rattle.catalog.specs.kept.Columns.{entries_in}
use Rattle.catalog.specs.kept.Found.{key_under}
use Rattle.catalog.specs.kept.Table.{AreFound}
use Rattle.catalog.proofs.GatherLemmas.{gathered_more, gathered_still}
use Rattle.catalog.proofs.gather.gathered.Goals as goal
use Rattle.catalog.proofs.gather.gathered.Goals.{in-Some+in_ok-record+in_ok-write, in_default}

pub loop-index-preserved : goal.loop-index-preserved
loop-index-preserved g c =
    let name_of = g.R.Named.name in
    let order = c.args.order.now in
    let index = c.loop-index.index in
    elim c.match-entry_at.branch [
      | in-Some+in_ok-record+in_ok-write w ↦
          let entry = w.in-Some.entry.now in
          gathered_more name_of (key_under name_of c.loop-index.map) (key_under name_of c.match-entry_at.map) order index entry c.requires (sym w.in-Some.ensures) c.loop-index.invariant
          (λ name. ap (λ m. key_under name_of m name) w.map-is ∙ w.in_ok-write.ensures name
          ∙ ap (λ r. if same_name (name_of r) name then Some entry.0 else key_under name_of c.loop-index.map name) w.in_ok-record.ensures.cases)
      | in_default w ↦
          let within : index < length order = omega arith in
          gathered_still name_of (key_under name_of c.match-entry_at.map) order index within (sym w.in_default.ensures) (subst (λ m. AreFound name_of (key_under name_of m) (entries_in (take index order))) (sym w.map-is) c.loop-index.invariant)
    ]

pub returns : goal.returns
returns g c =
    let name_of = g.R.Named.name in
    let order = c.args.order.now in
    let past : length order ≤ c.loop-index.index = omega arith in
    let all : take c.loop-index.index order ≡ order = take_all c.loop-index.index order past in
    subst (λ m. AreFound name_of (key_under name_of m) (entries_in order)) (sym c.in_ok-new.ensures.ok)
    (subst (λ l. AreFound name_of (key_under name_of c.loop-index.map) (entries_in l)) all c.loop-index.invariant)
