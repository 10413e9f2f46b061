use Rattle.vtext.specs.kept.Readings.{view}
use Rattle.vtext.proofs.ReadLemmas.{said_good, says}
use Rattle.vtext.proofs.refusals.modules_or_refusal.Goals as goal

pub walk-requires : goal.walk-requires
walk-requires c = record { good = said_good c.args.text.now c.in_ok-names.names c.in_ok-names.words.items c.as_slice.result.now c.in_ok-names.ensures.said c.as_slice.ensures.value }

pub returns-clause-list : goal.returns-clause-list
returns-clause-list c =
    says c.args.text.now c.in_ok-names.names c.in_ok-names.words.items c.as_slice.result.now c.in_ok-names.ensures.said c.as_slice.ensures.value c.args.default
    (view c.in_ok-draft.draft) c.new.result c.requires c.in_ok-draft.ensures.text c.new.ensures
