-- What is kept of the changes to come.
use Rattle.std.specs.Prelude.{◌≡◌, ◌≢◌, ◌<◌, ◌≤◌, ◌+◌, ◌-◌, ◌*◌, ◌/◌, ℕ, zero, suc, true, false, min, nat_lt, nat_le, if◌then◌else◌, List, [], ◌∷◌, ◌++◌, length, map, slice_index}
use Rattle.std.specs.Borrow.{Bor}
use Rattle.std.specs.List.{filter}
use Rattle.fourstate.specs.declared.value.Value.{Value}
use Rattle.devices.specs.Outgoing.{Adds, Outgoing}
use Rattle.vcd.specs.declared.upcoming.TheConstants.{NEVER, BLOCKS_IN_GROUP, NETS_IN_BLOCK, NETS_IN_GROUP}
use Rattle.vcd.specs.declared.upcoming.Upcoming.{Upcoming}
use Rattle.vcd.specs.Changes.{change_line, changes_at, some_changes_at}
use Rattle.vcd.specs.kept.Waves.{wave_in}

-- the changes of a wave from t on
abbrev pub changes_from : List (ℕ × Value) → ℕ → List (ℕ × Value)
changes_from wave t = filter (λ change. nat_le t change.0) wave

-- the time of the first of some changes, if there are any
abbrev pub time_of : List (ℕ × Value) → ℕ
time_of [] = NEVER
time_of (change ∷ changes) = change.0

-- of a wave: these changes are left from t on, the first one at this time; it has no change from t on before that, and one
-- then, if that is a moment
pub record IsNext (wave : List (ℕ × Value)) (t time : ℕ) (left : List (ℕ × Value)) : Type 0 where
  pub rest : left ≡ changes_from wave t
  pub first : time ≡ time_of left
  pub later : t ≤ time
  pub none : (s : ℕ) → t ≤ s → s < time → changes_at wave s ≡ false
  pub change : time < NEVER → changes_at wave time ≡ true

-- the lines at t of so many nets from net `first` on
abbrev pub lines_from : List (List (ℕ × Value)) → ℕ → ℕ → ℕ → List ℕ
lines_from waves t first zero = []
lines_from waves t first (suc n) = lines_from waves t first n ++ change_line (first + n) (wave_in waves (first + n)) t

-- of the first `passed` blocks, or groups, the moment t is past, of the others not
abbrev pub since : ℕ → ℕ → ℕ → ℕ
since t passed block = if nat_lt block passed then t + 1 else t

-- what is left of the waves
abbrev pub lefts : List (Bor (List (ℕ × Value))) → List (List (ℕ × Value))
lefts left = map (λ changes. changes.now) left

-- Of each net what is left of its wave is kept, with the time of its next change, and of each block of nets no later time than
-- the first of these, at which some net changes.
pub record AreBlocksAhead (waves : List (List (ℕ × Value))) (t passed : ℕ) (upcoming : Upcoming) (left : List (Bor (List (ℕ × Value)))) : Type 0 where
  pub room : length waves ≤ length left
  pub next : (k : ℕ) → k < length waves →
      IsNext (wave_in waves k) (since t passed (k / NETS_IN_BLOCK)) (slice_index upcoming.times k) (wave_in (lefts left) k)
  pub least : (k : ℕ) → k < length waves → slice_index upcoming.least (k / NETS_IN_BLOCK) ≤ slice_index upcoming.times k
  pub later : (block : ℕ) → block * NETS_IN_BLOCK < length waves → since t passed block ≤ slice_index upcoming.least block
  pub change : (block : ℕ) → block * NETS_IN_BLOCK < length waves → slice_index upcoming.least block < NEVER →
      some_changes_at waves (slice_index upcoming.least block) ≡ true

-- of each group of blocks no later time is kept than of each of its blocks, one at which some net changes
pub record AreGroupsAhead (waves : List (List (ℕ × Value))) (t passed : ℕ) (upcoming : Upcoming) : Type 0 where
  pub first : (block : ℕ) → block * NETS_IN_BLOCK < length waves →
      slice_index upcoming.first (block / BLOCKS_IN_GROUP) ≤ slice_index upcoming.least block
  pub later : (group : ℕ) → group * NETS_IN_GROUP < length waves → since t passed group ≤ slice_index upcoming.first group
  pub change : (group : ℕ) → group * NETS_IN_GROUP < length waves → slice_index upcoming.first group < NEVER →
      some_changes_at waves (slice_index upcoming.first group) ≡ true

-- so much is kept of nets, blocks and groups, of which the first `passed` groups are past the moment t
pub record IsAhead (waves : List (List (ℕ × Value))) (t passed : ℕ) (upcoming : Upcoming) (left : List (Bor (List (ℕ × Value)))) : Type 0 where
  pub blocks : AreBlocksAhead waves t (passed * BLOCKS_IN_GROUP) upcoming left
  pub groups : AreGroupsAhead waves t passed upcoming

-- of a net as much is kept as before
pub record IsSameAt (k : ℕ) (before upcoming : Upcoming) (left_before left : List (Bor (List (ℕ × Value)))) : Type 0 where
  pub time : slice_index upcoming.times k ≡ slice_index before.times k
  pub rest : wave_in (lefts left) k ≡ wave_in (lefts left_before) k

-- of each net but one, and of each block and group
pub record IsSameBut (place : ℕ) (before upcoming : Upcoming) (left_before left : List (Bor (List (ℕ × Value)))) : Type 0 where
  pub nets : (k : ℕ) → k ≢ place → IsSameAt k before upcoming left_before left
  pub blocks : upcoming.least ≡ before.least
  pub groups : upcoming.first ≡ before.first
  pub room : length left ≡ length left_before

-- of the nets from net `first` on the first n are past the moment t, and none of the others was touched
pub record IsPassing (waves : List (List (ℕ × Value))) (first t n : ℕ) (before upcoming : Upcoming) (left_before left : List (Bor (List (ℕ × Value))))
    (least : ℕ) (old now : Outgoing) : Type 0 where
  pub passed : (k : ℕ) → k < n → IsNext (wave_in waves (first + k)) (t + 1) (slice_index upcoming.times (first + k)) (wave_in (lefts left) (first + k))
  pub under : (k : ℕ) → k < first → IsSameAt k before upcoming left_before left
  pub over : (k : ℕ) → first + n ≤ k → IsSameAt k before upcoming left_before left
  pub blocks : upcoming.least ≡ before.least
  pub groups : upcoming.first ≡ before.first
  pub room : length left ≡ length left_before
  pub below : (k : ℕ) → k < n → least ≤ slice_index upcoming.times (first + k)
  pub later : t + 1 ≤ least
  pub change : least < NEVER → some_changes_at waves least ≡ true
  pub text : Adds old now (lines_from waves t first n)

-- of each block but one, and of each group, as much is kept as before
pub record IsSameBlockBut (at : ℕ) (before upcoming : Upcoming) : Type 0 where
  pub blocks : (block : ℕ) → block ≢ at → slice_index upcoming.least block ≡ slice_index before.least block
  pub groups : upcoming.first ≡ before.first

-- of the blocks from block `first` on the next n are past the moment t, as those before, and of none of the others another time is kept
pub record ArePassing (waves : List (List (ℕ × Value))) (first t n : ℕ) (before upcoming : Upcoming) (left : List (Bor (List (ℕ × Value))))
    (least : ℕ) (old now : Outgoing) : Type 0 where
  pub blocks : AreBlocksAhead waves t (first + n) upcoming left
  pub under : (block : ℕ) → block < first → slice_index upcoming.least block ≡ slice_index before.least block
  pub over : (block : ℕ) → first + n ≤ block → slice_index upcoming.least block ≡ slice_index before.least block
  pub groups : upcoming.first ≡ before.first
  pub below : (k : ℕ) → k < n → least ≤ slice_index upcoming.least (first + k)
  pub later : t + 1 ≤ least
  pub change : least < NEVER → some_changes_at waves least ≡ true
  pub text : Adds old now (lines_from waves t (first * NETS_IN_BLOCK) (min (n * NETS_IN_BLOCK) (length waves - first * NETS_IN_BLOCK)))
