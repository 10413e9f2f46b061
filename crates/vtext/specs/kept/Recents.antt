-- What is noted of names that were found lately: a short name is known by its bytes there, without a look at its text.
use Rattle.std.specs.Prelude.{◌≡◌, ℕ, ◌-◌, ◌<◌, true, List, Some, All, length, slice_index}
use Rattle.catalog.specs.kept.Spellings.{four, is_short}
use Rattle.vtext.specs.declared.recent.Noted.{Noted}
use Rattle.vtext.specs.declared.recent.Recent.{Recent}
use Rattle.vtext.specs.Names.{number_of}

-- the bytes of this short name are noted
pub record IsOf (noted : Noted) (name : List ℕ) : Type 0 where
  pub short : is_short name ≡ true
  pub long : noted.length ≡ length name
  pub first : noted.first ≡ four name 0
  pub last : noted.last ≡ four name (length name - 4)

-- what is noted of a short name is its number
abbrev pub IsRight : List (List ℕ) → Noted → Type 0
IsRight names noted = (name : List ℕ) → ((k : ℕ) → slice_index name k < 256) → IsOf noted name → number_of names name ≡ Some noted.number

abbrev pub AreRight : List (List ℕ) → Recent → Type 0
AreRight names recent = All (IsRight names) recent.entries.items
