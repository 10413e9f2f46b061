use Rattle.std.proofs.Common.{◌∙◌, ap}
use Rattle.std.specs.Map.{lookup}
use Rattle.catalog.specs.Catalog.{same_name}
use Rattle.catalog.proofs.NameLemmas.{lookup_insert}
use Rattle.catalog.proofs.names.write.Goals as goal

pub returns : goal.returns
returns g c = λ other.
    ap (λ es. lookup (λ k. same_name other (g.R.Named.name k.record)) es) c.in_ok-insert.ensures.entries
    ∙ lookup_insert (λ k. g.R.Named.name k.record) c.args.map.now.entries c.args.name c.args.key other
