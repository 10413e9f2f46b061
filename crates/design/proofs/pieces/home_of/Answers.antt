use Rattle.std.proofs.Common.{◌≡◌, true, false, rules, arith}
use Rattle.std.proofs.lemmas.List.Sorted.{IsPartitionPoint-from_clause}
use Rattle.std.specs.List.Sorted.{IsPartitionPoint}
use Rattle.design.specs.kept.Pieces.{begins_by, points_in}
use Rattle.design.proofs.PieceLemmas.{begun_in_order, home_from}
use Rattle.design.proofs.pieces.home_of.Goals as goal

pub returns-clause-home : goal.returns-clause-home
returns-clause-home c =
    let t = c.args.t in
    let pieces = c.args.pieces.now in
    let split : IsPartitionPoint (λ p. begins_by t (points_in p) ≡ true) (λ p. begins_by t (points_in p) ≡ false) pieces c.partition_point-begun.result =
    IsPartitionPoint-from_clause (λ p. begins_by t (points_in p)) pieces _ c.partition_point-begun.ensures.partitioned (begun_in_order points_in t pieces c.requires.rising c.requires.filled) (λ a r f h. search rules) in
    home_from points_in t pieces c.partition_point-begun.result c.saturating_sub.result c.requires.rising c.requires.filled split c.saturating_sub.ensures c.requires.some c.partition_point-begun.ensures.bound

pub returns-clause-begun : goal.returns-clause-begun
returns-clause-begun c =
    let t = c.args.t in
    let pieces = c.args.pieces.now in
    let split : IsPartitionPoint (λ p. begins_by t (points_in p) ≡ true) (λ p. begins_by t (points_in p) ≡ false) pieces c.partition_point-begun.result =
    IsPartitionPoint-from_clause (λ p. begins_by t (points_in p)) pieces _ c.partition_point-begun.ensures.partitioned (begun_in_order points_in t pieces c.requires.rising c.requires.filled) (λ a r f h. search rules) in
    λ d above. split.0 c.saturating_sub.result d (omega arith) (omega (arith, c.saturating_sub.ensures))
