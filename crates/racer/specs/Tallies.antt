-- What is counted in a race.
use Rattle.std.specs.Prelude.{◌≡◌, ℕ}

-- how many viewers have ended, how many looks there were, how many of these are wrong, and how many commits were submitted
pub record TallyRecord : Type 0 where
  pub viewers : ℕ
  pub looks : ℕ
  pub wrong : ℕ
  pub submits : ℕ

abbrev pub tally_of : (viewers looks wrong submits : ℕ) → TallyRecord
tally_of viewers looks wrong submits = record { viewers = viewers; looks = looks; wrong = wrong; submits = submits }

-- so many viewers have ended, there were so many looks, and so many commits were submitted
abbrev pub Counts : (viewers looks submits : ℕ) → TallyRecord → Type 0
Counts viewers looks submits t = t ≡ tally_of viewers looks t.wrong submits
