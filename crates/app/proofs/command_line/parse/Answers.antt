use Rattle.std.proofs.Common.{map}
use Rattle.programs.specs.kept.CommandLaws.{found_along, refused_along}
use Rattle.app.proofs.CommandLineLemmas.{simple_and_free_as, simple_as}
use Rattle.app.proofs.command_line.parse.Goals as goal

pub parse-requires-clause-simple : goal.parse-requires-clause-simple
parse-requires-clause-simple g c = simple_as _ c.in_ok-form.ensures

pub parse-requires-clause-free : goal.parse-requires-clause-free
parse-requires-clause-free g c = simple_and_free_as _ c.in_ok-form.ensures

pub returns-clause-ok : goal.returns-clause-ok
returns-clause-ok g c = found_along _ _ (map g.S.AsStr.text c.args.words.now) _ c.in_ok-form.ensures c.parse.ensures.ok

pub returns-clause-refused : goal.returns-clause-refused
returns-clause-refused g c = refused_along _ _ (map g.S.AsStr.text c.args.words.now) _ c.in_ok-form.ensures c.parse.ensures.refused
