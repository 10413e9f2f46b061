use Rattle.std.proofs.Common.{◌≡◌, true, length}
use Rattle.std.specs.List.{list_all}
use Rattle.session.specs.Words.{is_plain, words}
use Rattle.session.proofs.words.scan.without_blanks.Given as goal

abbrev pub invariant-loop-first : goal.invariant-loop-first
invariant-loop-first l = record {
  same : words l.rest ≡ words l.fn.text;
  plain : list_all is_plain l.fn.text ≡ true → list_all is_plain l.rest ≡ true;
}

abbrev pub decreases-loop-first : goal.decreases-loop-first
decreases-loop-first l = length l.rest
