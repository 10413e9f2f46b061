use Rattle.std.proofs.Common.{map}
use Rattle.clap.specs.Words.{app_of}
use Rattle.programs.proofs.CommandLineLemmas.{found_by}
use Rattle.programs.proofs.command_line.parse.Goals as goal

pub returns-clause-ok : goal.returns-clause-ok
returns-clause-ok g c =
    found_by (app_of c.args.form) (map g.S.AsStr.text c.args.words.now) _ c.requires.simple (c.try_get_matches_from.ensures.kinds c.requires.free)
    c.try_get_matches_from.ensures.matches
