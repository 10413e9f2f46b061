use Rattle.catalog.proofs.TableLemmas.{table_distinct}
use Rattle.catalog.proofs.catalog.Catalog.lawful.Goals as goal

pub returns : goal.returns
returns g c = rw (← c.self.view_is) (table_distinct g.R.Named.name _ _ _ _ c.self.invariant)
