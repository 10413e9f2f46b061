-- What one look, one viewer and one more tally add to what is counted.
use Rattle.std.specs.Prelude.{◌≡◌, ◌+◌, Bool, false, true, if◌then◌else◌, min}
use Rattle.racer.specs.Tallies.{TallyRecord, tally_of}

-- one look more
abbrev pub with_look : Bool → TallyRecord → TallyRecord
with_look right t = tally_of t.viewers (t.looks + 1) (if right then t.wrong else t.wrong + 1) t.submits

-- one viewer more that has ended; if not rightly, one look more is wrong, as long as one is right
abbrev pub with_viewer : Bool → TallyRecord → TallyRecord
with_viewer true t = tally_of (t.viewers + 1) t.looks t.wrong t.submits
with_viewer false t = tally_of (t.viewers + 1) t.looks (min (t.wrong + 1) t.looks) t.submits

-- one look more, right or wrong
abbrev pub HasLooked : (before now : TallyRecord) → Type 0
HasLooked before now = (right : Bool) × (now ≡ with_look right before)

-- two tallies as one
abbrev pub added : (s t : TallyRecord) → TallyRecord
added s t = tally_of (s.viewers + t.viewers) (s.looks + t.looks) (s.wrong + t.wrong) (s.submits + t.submits)
