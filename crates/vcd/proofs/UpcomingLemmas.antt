-- Tables of the changes to come.
use Rattle.std.proofs.Common.{Bor, ◌≡◌, ◌≢◌, ◌<◌, ◌≤◌, ℕ, zero, suc, ◌+◌, true, false, refl, ap, sym, subst, ◌∙◌, List, [], ◌∷◌, ◌++◌, length, get_or-set_other, get_or-set_same, below_more, append-nil, append_assoc, add-one, add-zero, add-suc, zero-add, ◌-◌, ◌*◌, ◌/◌, arith}
use Rattle.std.specs.Prelude.{◌==◌, min, nat_lt, slice_index, slice_set}
use Rattle.std.specs.List.{enumerate_from, flat_map}
use Rattle.std.proofs.lemmas.List.{get_or-replicate, map-set, length-map, length-set}
use Rattle.std.proofs.lemmas.Bool.{ltb-true, ltb-false, lt-ltb, le-ltb, eqb-true, eqb-false}
use Rattle.fourstate.specs.declared.value.Value.{Value}
use Rattle.fourstate.specs.Values.{same_value}
use Rattle.waveform.specs.Entries.{standing}
use Rattle.waveform.specs.kept.Timelines.{IsTimeline}
use Rattle.std.proofs.Math.ListN.{replicate}
use Rattle.devices.specs.Outgoing.{Adds, Outgoing}
use Rattle.vcd.specs.declared.upcoming.TheConstants.{NEVER}
use Rattle.vcd.specs.declared.upcoming.Upcoming.{Upcoming}
use Rattle.vcd.specs.Changes.{change_line, change_lines, changes_at, some_changes_at}
use Rattle.vcd.specs.kept.Kept.{AreBlocksAhead, AreGroupsAhead, ArePassing, IsAhead, IsNext, IsPassing, IsSameAt, IsSameBlockBut, IsSameBut, lefts, lines_from, since, time_of}
use Rattle.vcd.specs.kept.Waves.{wave_in}
use Rattle.vcd.proofs.WaveLemmas.{next_at_start, next_later, some_change}
use Rattle.vcd.proofs.Ways.{both}

-- what holds of both holds of the lesser
pub of_lesser : (P : ℕ → Type 0) (a b : ℕ) → P a → P b → P (min a b)
of_lesser P a b first second =
    elim (nat_lt a b) as (λ t. nat_lt a b ≡ t → P (min a b)) [
      | true ↦ λ is. let less : a < b = ltb-true a b is in let e : min a b ≡ a = omega arith in subst P (sym e) first
      | false ↦ λ is. let least : b ≤ a = ltb-false a b is in let e : min a b ≡ b = omega arith in subst P (sym e) second
    ] refl

-- Nets.

pub same_at : (k : ℕ) (upcoming : Upcoming) (left : List (Bor (List (ℕ × Value)))) → IsSameAt k upcoming upcoming left left
same_at k upcoming left = record { time = refl; rest = refl }

then_same : (k : ℕ) (a b c : Upcoming) (l m n : List (Bor (List (ℕ × Value)))) → IsSameAt k a b l m → IsSameAt k b c m n → IsSameAt k a c l n
then_same k a b c l m n first second = record { time = second.time ∙ first.time; rest = second.rest ∙ first.rest }

-- of a net as much is kept as before
pub next_same : (waves : List (List (ℕ × Value))) (t k : ℕ) (before upcoming : Upcoming) (left_before left : List (Bor (List (ℕ × Value)))) → IsSameAt k before upcoming left_before left →
    IsNext (wave_in waves k) t (slice_index before.times k) (wave_in (lefts left_before) k) →
    IsNext (wave_in waves k) t (slice_index upcoming.times k) (wave_in (lefts left) k)
next_same waves t k before upcoming left_before left same next = rw (same.time, same.rest) next

left_set : (place : ℕ) (left : Bor (List (ℕ × Value))) (all : List (Bor (List (ℕ × Value)))) → place < length all →
    wave_in (lefts (slice_set all place left)) place ≡ left.now
left_set place left all inside =
    let room : place < length (lefts all) = rw (length-map) inside in
    ap (λ lefts. wave_in lefts place) (map-set (λ l. l.now) all place left) ∙ get_or-set_same (lefts all) place left.now [] room

left_other : (k place : ℕ) (left : Bor (List (ℕ × Value))) (all : List (Bor (List (ℕ × Value)))) → k ≢ place →
    wave_in (lefts (slice_set all place left)) k ≡ wave_in (lefts all) k
left_other k place left all other =
    ap (λ lefts. wave_in lefts k) (map-set (λ l. l.now) all place left) ∙ get_or-set_other (lefts all) place k left.now [] other

-- one wave more
pub waves_more : (waves : List (List (ℕ × Value))) (place : ℕ) (left : Bor (List (ℕ × Value))) (all : List (Bor (List (ℕ × Value)))) → place < length all →
    left.now ≡ wave_in waves place → ((k : ℕ) → k < place → wave_in (lefts all) k ≡ wave_in waves k) →
    (k : ℕ) → k < place + 1 → wave_in (lefts (slice_set all place left)) k ≡ wave_in waves k
waves_more waves place left all inside is before =
    below_more _ _
    (λ k less. left_other k place left all (omega arith) ∙ before k less)
    (left_set place left all inside ∙ is)

-- what a net is left with
pub next_set : (waves : List (List (ℕ × Value))) (t place : ℕ) (rest : Bor (List (ℕ × Value))) (times : List ℕ) (left : List (Bor (List (ℕ × Value)))) → place < length times →
    place < length left → IsNext (wave_in waves place) t (time_of rest.now) rest.now →
    IsNext (wave_in waves place) t (slice_index (slice_set times place (time_of rest.now)) place) (wave_in (lefts (slice_set left place rest)) place)
next_set waves t place rest times left inside inside_left next = rw (get_or-set_same, left_set place rest left inside_left) next

-- a net moves on
pub one_passed : (place time : ℕ) (rest : Bor (List (ℕ × Value))) (upcoming : Upcoming) (left : List (Bor (List (ℕ × Value)))) →
    IsSameBut place upcoming (record upcoming { times = slice_set upcoming.times place time }) left (slice_set left place rest)
one_passed place time rest upcoming left = record {
  nets = λ k other.
      record { time = get_or-set_other upcoming.times place k time 0 other; rest = left_other k place rest left other };
  blocks = refl;
  groups = refl;
  room = length-set left place rest;
}

pub none_moved : (place : ℕ) (upcoming : Upcoming) (left : List (Bor (List (ℕ × Value)))) → IsSameBut place upcoming upcoming left left
none_moved place upcoming left = record { nets = λ k other. same_at k upcoming left; blocks = refl; groups = refl; room = refl }

-- before any net
pub none_passed : (waves : List (List (ℕ × Value))) (first t : ℕ) (upcoming : Upcoming) (left : List (Bor (List (ℕ × Value)))) (now : Outgoing) → t < NEVER →
    IsPassing waves first t 0 upcoming upcoming left left NEVER now now
none_passed waves first t upcoming left now moment = record {
  passed = λ k h. absurd (omega arith);
  under = λ k h. same_at k upcoming left;
  over = λ k h. same_at k upcoming left;
  blocks = refl;
  groups = refl;
  room = refl;
  below = λ k h. absurd (omega arith);
  later = omega arith;
  change = λ never. absurd (omega arith);
  text = rw append-nil refl;
}

-- the next net is past the moment
pub passed_more : (waves : List (List (ℕ × Value))) (first t i : ℕ) (before upcoming next : Upcoming) (left_before left left_next : List (Bor (List (ℕ × Value))))
    (least : ℕ) (old now then : Outgoing) →
    IsPassing waves first t i before upcoming left_before left least old now → first + i < length waves →
    IsNext (wave_in waves (first + i)) (t + 1) (slice_index next.times (first + i)) (wave_in (lefts left_next) (first + i)) →
    IsSameBut (first + i) upcoming next left left_next → Adds now then (change_line (first + i) (wave_in waves (first + i)) t) →
    IsPassing waves first t (i + 1) before next left_before left_next (min least (slice_index next.times (first + i))) old then
passed_more waves first t i before upcoming next left_before left left_next least old now then passing below is same adds = record {
  passed =
      below_more _ _
      (λ k h. next_same waves (t + 1) (first + k) upcoming next left left_next (same.nets (first + k) (omega arith)) (passing.passed k h))
      is;
  under = λ k h. then_same k before upcoming next left_before left left_next (passing.under k h) (same.nets k (omega arith));
  over = λ k h. then_same k before upcoming next left_before left left_next (passing.over k (omega arith)) (same.nets k (omega arith));
  blocks = same.blocks ∙ passing.blocks;
  groups = same.groups ∙ passing.groups;
  room = same.room ∙ passing.room;
  below =
      below_more _ _
      (λ k h.
      let as_before : slice_index next.times (first + k) ≡ slice_index upcoming.times (first + k) = (same.nets (first + k) (omega arith)).time in
      let le : least ≤ slice_index upcoming.times (first + k) = passing.below k h in
      omega arith)
      (omega arith);
  later = let a : t + 1 ≤ least = passing.later in let b : t + 1 ≤ slice_index next.times (first + i) = is.later in omega arith;
  change =
      of_lesser (λ s. s < NEVER → some_changes_at waves s ≡ true) least (slice_index next.times (first + i)) passing.change
      (λ moment. some_change waves (first + i) (slice_index next.times (first + i)) below (is.change moment));
  text = rw add-one (both old now then (lines_from waves t first i) (change_line (first + i) (wave_in waves (first + i)) t) passing.text adds);
}

pub lines_add : (waves : List (List (ℕ × Value))) (t first m n : ℕ) → lines_from waves t first (m + n) ≡ lines_from waves t first m ++ lines_from waves t (first + m) n
lines_add waves t first m zero = rw (add-zero, append-nil) refl
lines_add waves t first m (suc n) =
    let place : first + (m + n) ≡ first + m + n = omega arith in
    rw (add-suc, lines_add waves t first m n, append_assoc, place) refl

-- Blocks.

since_passed : (t passed block : ℕ) → block < passed → since t passed block ≡ t + 1
since_passed t passed block less = rw (lt-ltb block passed less) refl

pub since_left : (t passed block : ℕ) → passed ≤ block → since t passed block ≡ t
since_left t passed block le = rw (le-ltb block passed le) refl

-- one block more makes no difference to the others
since_other : (t passed block : ℕ) → block ≢ passed → since t (passed + 1) block ≡ since t passed block
since_other t passed block other =
    elim (nat_lt block passed) as (λ b. nat_lt block passed ≡ b → since t (passed + 1) block ≡ since t passed block) [
      | true ↦ λ is.
          let less : block < passed = ltb-true block passed is in
          since_passed t (passed + 1) block (omega arith) ∙ sym (since_passed t passed block less)
      | false ↦ λ is.
          let least : passed ≤ block = ltb-false block passed is in
          since_left t (passed + 1) block (omega arith) ∙ sym (since_left t passed block least)
    ] refl

none_from : (waves : List (List (ℕ × Value))) (t first n : ℕ) → ((k : ℕ) → k < n → changes_at (wave_in waves (first + k)) t ≡ false) →
    lines_from waves t first n ≡ []
none_from waves t first zero none = refl
none_from waves t first (suc n) none =
    rw (none n (omega arith)) (rw append-nil (none_from waves t first n (λ k h. none k (omega arith))))

-- a block of which nothing changes at t has no lines there
pub nothing_added : (waves : List (List (ℕ × Value))) (t block : ℕ) (upcoming : Upcoming) (left : List (Bor (List (ℕ × Value)))) (now : Outgoing) → AreBlocksAhead waves t block upcoming left →
    slice_index upcoming.least block ≢ t → block * 16 < length waves →
    Adds now now (lines_from waves t (block * 16) (min 16 (length waves - block * 16)))
nothing_added waves t block upcoming left now ahead other inside =
    let later : since t block block ≤ slice_index upcoming.least block = ahead.later block inside in
    let here : since t block block ≡ t = since_left t block block (omega arith) in
    rw (none_from waves t (block * 16) (min 16 (length waves - block * 16))
    (λ k h.
    let same : (block * 16 + k) / 16 ≡ block = omega arith in
    let least : slice_index upcoming.least ((block * 16 + k) / 16) ≤ slice_index upcoming.times (block * 16 + k) = ahead.least (block * 16 + k) (omega arith) in
    let least' : slice_index upcoming.least block ≤ slice_index upcoming.times (block * 16 + k) = rw same at least in
    let next : IsNext (wave_in waves (block * 16 + k)) t (slice_index upcoming.times (block * 16 + k)) (wave_in (lefts left) (block * 16 + k)) =
    rw (same, here) at (ahead.next (block * 16 + k) (omega arith)) in
    next.none t (omega arith) (omega arith)))
    (rw append-nil refl)

-- each number lies before a stretch, in it or behind it
in_stretch : (P : ℕ → Type 0) (first count k : ℕ) → (k < first → P k) → ((j : ℕ) → j < count → P (first + j)) → (first + count ≤ k → P k) → P k
in_stretch P first count k under within over =
    elim (nat_lt k first) as (λ b. nat_lt k first ≡ b → P k) [
      | true ↦ λ is. under (ltb-true k first is)
      | false ↦ λ is.
          let from : first ≤ k = ltb-false k first is in
          elim (nat_lt k (first + count)) as (λ b. nat_lt k (first + count) ≡ b → P k) [
            | true ↦ λ to.
                let less : k < first + count = ltb-true k (first + count) to in
                let back : first + (k - first) ≡ k = omega arith in
                subst P back (within (k - first) (omega arith))
            | false ↦ λ to. over (ltb-false k (first + count) to)
          ] refl
    ] refl

-- one number, and each other
one_or_other : (P : ℕ → Type 0) (a b : ℕ) → P b → (a ≢ b → P a) → P a
one_or_other P a b one other =
    elim (a == b) as (λ t. (a == b) ≡ t → P a) [
      | true ↦ λ is. subst P (sym (eqb-true a b is)) one
      | false ↦ λ is. other (eqb-false a b is)
    ] refl

-- the tables after a block of which nothing changes at t
pub block_left : (waves : List (List (ℕ × Value))) (t block : ℕ) (upcoming : Upcoming) (left : List (Bor (List (ℕ × Value)))) → AreBlocksAhead waves t block upcoming left →
    slice_index upcoming.least block ≢ t → block * 16 < length waves → AreBlocksAhead waves t (block + 1) upcoming left
block_left waves t block upcoming left ahead other inside =
    let here : since t block block ≡ t = since_left t block block (omega arith) in
    let least : t ≤ slice_index upcoming.least block = rw here at (ahead.later block inside) in
    record {
      room = ahead.room;
      next = λ k h.
          one_or_other (λ at. k / 16 ≡ at → IsNext (wave_in waves k) (since t (block + 1) at) (slice_index upcoming.times k) (wave_in (lefts left) k)) (k / 16) block
          (λ same.
          let later : slice_index upcoming.least block ≤ slice_index upcoming.times k = rw same at (ahead.least k h) in
          let next : IsNext (wave_in waves k) t (slice_index upcoming.times k) (wave_in (lefts left) k) = rw (same, here) at (ahead.next k h) in
          rw (since_passed t (block + 1) block (omega arith)) (next_later (wave_in waves k) t (t + 1) _ _ next (omega arith) (omega arith)))
          (λ apart same. rw (since_other t block (k / 16) apart) (ahead.next k h)) refl;
      least = ahead.least;
      later = λ at.
          one_or_other (λ at. at * 16 < length waves → since t (block + 1) at ≤ slice_index upcoming.least at) at block
          (λ h. rw (since_passed t (block + 1) block (omega arith)) (omega arith))
          (λ apart h. rw (since_other t block at apart) (ahead.later at h));
      change = ahead.change;
    }

-- the tables after a block
pub block_passed : (waves : List (List (ℕ × Value))) (t block count : ℕ) (before upcoming : Upcoming) (left_before left : List (Bor (List (ℕ × Value)))) (least : ℕ) (old now : Outgoing) →
    AreBlocksAhead waves t block before left_before → block * 16 < length waves → block < length before.least → count ≡ min 16 (length waves - block * 16) →
    IsPassing waves (block * 16) t count before upcoming left_before left least old now →
    AreBlocksAhead waves t (block + 1) (record upcoming { least = slice_set upcoming.least block least }) left
block_passed waves t block count before upcoming left_before left least old now ahead inside room all passing =
    let inside_least : block < length upcoming.least = rw passing.blocks room in
    record {
      room = let room : length waves ≤ length left_before = ahead.room in rw passing.room room;
      next = λ k.
          in_stretch (λ k. k < length waves → IsNext (wave_in waves k) (since t (block + 1) (k / 16)) (slice_index upcoming.times k) (wave_in (lefts left) k)) (block * 16) count k
          (λ less h. let other : k / 16 ≢ block = omega arith in
          rw (since_other t block (k / 16) other) (next_same waves _ k before upcoming left_before left (passing.under k less) (ahead.next k h)))
          (λ j less h. rw (since_passed t (block + 1) ((block * 16 + j) / 16) (omega arith)) (passing.passed j less))
          (λ le h. let other : k / 16 ≢ block = omega arith in
          rw (since_other t block (k / 16) other) (next_same waves _ k before upcoming left_before left (passing.over k le) (ahead.next k h)));
      least = λ k.
          in_stretch (λ k. k < length waves → slice_index (slice_set upcoming.least block least) (k / 16) ≤ slice_index upcoming.times k) (block * 16) count k
          (λ less h. let other : k / 16 ≢ block = omega arith in rw (get_or-set_other, passing.blocks, (passing.under k less).time) (ahead.least k h))
          (λ j less h. let same : (block * 16 + j) / 16 ≡ block = omega arith in rw (same, get_or-set_same) (passing.below j less))
          (λ le h. let other : k / 16 ≢ block = omega arith in rw (get_or-set_other, passing.blocks, (passing.over k le).time) (ahead.least k h));
      later = λ at.
          one_or_other (λ at. at * 16 < length waves → since t (block + 1) at ≤ slice_index (slice_set upcoming.least block least) at) at block
          (λ h. rw (since_passed t (block + 1) block (omega arith), get_or-set_same) passing.later)
          (λ other h. rw (since_other t block at other, get_or-set_other, passing.blocks) (ahead.later at h));
      change = λ at.
          one_or_other
          (λ at. at * 16 < length waves → slice_index (slice_set upcoming.least block least) at < NEVER →
          some_changes_at waves (slice_index (slice_set upcoming.least block least) at) ≡ true) at block
          (λ h. rw get_or-set_same passing.change)
          (λ other h. rw (get_or-set_other, passing.blocks) (ahead.change at h));
    }

-- another block keeps its time
pub one_block : (before upcoming : Upcoming) (block least : ℕ) → upcoming.least ≡ before.least → upcoming.first ≡ before.first →
    IsSameBlockBut block before (record upcoming { least = slice_set upcoming.least block least })
one_block before upcoming block least blocks groups = record {
  blocks = λ at other. get_or-set_other upcoming.least block at least 0 other ∙ ap (λ l. slice_index l at) blocks;
  groups = groups;
}

pub same_blocks : (block : ℕ) (upcoming : Upcoming) → IsSameBlockBut block upcoming upcoming
same_blocks block upcoming = record { blocks = λ at other. refl; groups = refl }

-- behind the last block there is none
past_end : (waves : List (List (ℕ × Value))) (t block : ℕ) (upcoming : Upcoming) (left : List (Bor (List (ℕ × Value)))) → AreBlocksAhead waves t block upcoming left →
    length waves ≤ block * 16 → AreBlocksAhead waves t (block + 1) upcoming left
past_end waves t block upcoming left ahead over = record {
  room = ahead.room;
  next = λ k h. rw (since_other t block (k / 16) (omega arith)) (ahead.next k h);
  least = ahead.least;
  later = λ at h. rw (since_other t block at (omega arith)) (ahead.later at h);
  change = ahead.change;
}

-- the tables after some blocks of which nothing changes at t
pub blocks_left : (waves : List (List (ℕ × Value))) (t first n : ℕ) (upcoming : Upcoming) (left : List (Bor (List (ℕ × Value)))) → AreBlocksAhead waves t first upcoming left →
    ((k : ℕ) → k < n → (first + k) * 16 < length waves → slice_index upcoming.least (first + k) ≢ t) → AreBlocksAhead waves t (first + n) upcoming left
blocks_left waves t first zero upcoming left ahead other = rw add-zero ahead
blocks_left waves t first (suc n) upcoming left ahead other =
    let before : AreBlocksAhead waves t (first + n) upcoming left = blocks_left waves t first n upcoming left ahead (λ k h. other k (omega arith)) in
    let more : first + suc n ≡ first + n + 1 = omega arith in
    elim (nat_lt ((first + n) * 16) (length waves)) as (λ b. nat_lt ((first + n) * 16) (length waves) ≡ b → AreBlocksAhead waves t (first + suc n) upcoming left) [
      | true ↦ λ is.
          let inside : (first + n) * 16 < length waves = ltb-true ((first + n) * 16) (length waves) is in
          rw more (block_left waves t (first + n) upcoming left before (other n (omega arith) inside) inside)
      | false ↦ λ is. rw more (past_end waves t (first + n) upcoming left before (ltb-false ((first + n) * 16) (length waves) is))
    ] refl

-- before any block
pub no_block_passed : (waves : List (List (ℕ × Value))) (first t : ℕ) (upcoming : Upcoming) (left : List (Bor (List (ℕ × Value)))) (now : Outgoing) → t < NEVER →
    AreBlocksAhead waves t first upcoming left → ArePassing waves first t 0 upcoming upcoming left NEVER now now
no_block_passed waves first t upcoming left now moment ahead =
    let none : min (0 * 16) (length waves - first * 16) ≡ 0 = omega arith in
    record {
      blocks = rw add-zero ahead;
      under = λ block h. refl;
      over = λ block h. refl;
      groups = refl;
      below = λ k h. absurd (omega arith);
      later = omega arith;
      change = λ never. absurd (omega arith);
      text = rw (none, append-nil) refl;
    }

-- the next block is past the moment
pub blocks_more : (waves : List (List (ℕ × Value))) (first t i : ℕ) (before upcoming next : Upcoming) (left left_next : List (Bor (List (ℕ × Value)))) (least : ℕ) (old now then : Outgoing) →
    ArePassing waves first t i before upcoming left least old now → (first + i) * 16 < length waves →
    AreBlocksAhead waves t (first + i + 1) next left_next → IsSameBlockBut (first + i) upcoming next →
    Adds now then (lines_from waves t ((first + i) * 16) (min 16 (length waves - (first + i) * 16))) →
    ArePassing waves first t (i + 1) before next left_next (min least (slice_index next.least (first + i))) old then
blocks_more waves first t i before upcoming next left left_next least old now then passing inside ahead same adds =
    let place : first + (i + 1) ≡ first + i + 1 = omega arith in
    let here : t + 1 ≤ slice_index next.least (first + i) = rw (since_passed t (first + i + 1) (first + i) (omega arith)) at (ahead.later (first + i) inside) in
    let lines : lines_from waves t (first * 16) (min (i * 16) (length waves - first * 16)) ++ lines_from waves t ((first + i) * 16) (min 16 (length waves - (first + i) * 16))
    ≡ lines_from waves t (first * 16) (min ((i + 1) * 16) (length waves - first * 16)) =
    let so_far : min (i * 16) (length waves - first * 16) ≡ i * 16 = omega arith in
    let then : min ((i + 1) * 16) (length waves - first * 16) ≡ i * 16 + min 16 (length waves - (first + i) * 16) = omega arith in
    let start : first * 16 + i * 16 ≡ (first + i) * 16 = omega arith in
    rw (so_far, then) (sym (rw start at (lines_add waves t (first * 16) (i * 16) (min 16 (length waves - (first + i) * 16))))) in
    record {
      blocks = rw place ahead;
      under = λ block h. same.blocks block (omega arith) ∙ passing.under block h;
      over = λ block h. same.blocks block (omega arith) ∙ passing.over block (omega arith);
      groups = same.groups ∙ passing.groups;
      below =
          below_more _ _
          (λ k h.
          let as_before : slice_index next.least (first + k) ≡ slice_index upcoming.least (first + k) = same.blocks (first + k) (omega arith) in
          let le : least ≤ slice_index upcoming.least (first + k) = passing.below k h in
          omega arith)
          (omega arith);
      later = let a : t + 1 ≤ least = passing.later in omega arith;
      change = of_lesser (λ s. s < NEVER → some_changes_at waves s ≡ true) least (slice_index next.least (first + i)) passing.change (ahead.change (first + i) inside);
      text = rw (← lines) (both old now then _ _ passing.text adds);
    }

-- Groups.

-- a group of which nothing changes at t has no lines there
pub no_lines_of_group : (waves : List (List (ℕ × Value))) (t group : ℕ) (upcoming : Upcoming) (left : List (Bor (List (ℕ × Value)))) (now : Outgoing) → IsAhead waves t group upcoming left →
    slice_index upcoming.first group ≢ t → group * 256 < length waves →
    Adds now now (lines_from waves t (group * 256) (min 256 (length waves - group * 256)))
no_lines_of_group waves t group upcoming left now ahead other inside =
    let here : since t group group ≡ t = since_left t group group (omega arith) in
    let later : t ≤ slice_index upcoming.first group = rw here at (ahead.groups.later group inside) in
    rw (none_from waves t (group * 256) (min 256 (length waves - group * 256))
    (λ k h.
    let block : ℕ = (group * 256 + k) / 16 in
    let at : block / 16 ≡ group = omega arith in
    let first : slice_index upcoming.first group ≤ slice_index upcoming.least block = rw at at (ahead.groups.first block (omega arith)) in
    let least : slice_index upcoming.least block ≤ slice_index upcoming.times (group * 256 + k) = ahead.blocks.least (group * 256 + k) (omega arith) in
    let next : IsNext (wave_in waves (group * 256 + k)) t (slice_index upcoming.times (group * 256 + k)) (wave_in (lefts left) (group * 256 + k)) =
    rw (since_left t (group * 16) block (omega arith)) at (ahead.blocks.next (group * 256 + k) (omega arith)) in
    next.none t (omega arith) (omega arith)))
    (rw append-nil refl)

-- the tables after a group of which nothing changes at t
pub group_left : (waves : List (List (ℕ × Value))) (t group : ℕ) (upcoming : Upcoming) (left : List (Bor (List (ℕ × Value)))) → IsAhead waves t group upcoming left →
    slice_index upcoming.first group ≢ t → group * 256 < length waves → IsAhead waves t (group + 1) upcoming left
group_left waves t group upcoming left ahead other inside =
    let here : since t group group ≡ t = since_left t group group (omega arith) in
    let first : t ≤ slice_index upcoming.first group = rw here at (ahead.groups.later group inside) in
    let next : (group + 1) * 16 ≡ group * 16 + 16 = omega arith in
    record {
      blocks =
          rw next
          (blocks_left waves t (group * 16) 16 upcoming left ahead.blocks
          (λ k h inside.
          let at : (group * 16 + k) / 16 ≡ group = omega arith in
          let least : slice_index upcoming.first group ≤ slice_index upcoming.least (group * 16 + k) = rw at at (ahead.groups.first (group * 16 + k) inside) in
          omega arith));
      groups = record {
        first = ahead.groups.first;
        later = λ at.
            one_or_other (λ at. at * 256 < length waves → since t (group + 1) at ≤ slice_index upcoming.first at) at group
            (λ h. rw (since_passed t (group + 1) group (omega arith)) (omega arith))
            (λ apart h. rw (since_other t group at apart) (ahead.groups.later at h));
        change = ahead.groups.change;
      };
    }

-- what is kept of groups is apart from what is kept of blocks
beside_groups : (waves : List (List (ℕ × Value))) (t passed : ℕ) (upcoming : Upcoming) (left : List (Bor (List (ℕ × Value)))) (first : List ℕ) →
    AreBlocksAhead waves t passed upcoming left → AreBlocksAhead waves t passed (record upcoming { first = first }) left
beside_groups waves t passed upcoming left first ahead = record { room = ahead.room; next = ahead.next; least = ahead.least; later = ahead.later; change = ahead.change }

-- the tables after a group
pub group_passed : (waves : List (List (ℕ × Value))) (t group count : ℕ) (before upcoming : Upcoming) (left_before left : List (Bor (List (ℕ × Value)))) (least : ℕ) (old now : Outgoing) →
    IsAhead waves t group before left_before → group * 256 < length waves → group < length before.first → count ≤ 16 →
    ((block : ℕ) → group * 16 + count ≤ block → block < group * 16 + 16 → length waves ≤ block * 16) →
    ArePassing waves (group * 16) t count before upcoming left least old now →
    IsAhead waves t (group + 1) (record upcoming { first = slice_set upcoming.first group least }) left
group_passed waves t group count before upcoming left_before left least old now ahead inside room few over passing =
    let inside_first : group < length upcoming.first = rw passing.groups room in
    let next : (group + 1) * 16 ≡ group * 16 + 16 = omega arith in
    let rest : group * 16 + 16 ≡ group * 16 + count + (16 - count) = omega arith in
    record {
      blocks =
          beside_groups waves t ((group + 1) * 16) upcoming left (slice_set upcoming.first group least)
          (rw (next, rest)
          (blocks_left waves t (group * 16 + count) (16 - count) upcoming left passing.blocks
          (λ k h more. let none : length waves ≤ (group * 16 + count + k) * 16 = over (group * 16 + count + k) (omega arith) (omega arith) in absurd (omega arith))));
      groups = record {
        first = λ block h.
            one_or_other (λ at. block / 16 ≡ at → slice_index (slice_set upcoming.first group least) at ≤ slice_index upcoming.least block) (block / 16) group
            (λ same.
            let back : group * 16 + (block - group * 16) ≡ block = omega arith in
            rw (get_or-set_same, ← back)
            (passing.below (block - group * 16)
            (elim (nat_lt (block - group * 16) count) as (λ b. nat_lt (block - group * 16) count ≡ b → block - group * 16 < count) [
              | true ↦ λ is. ltb-true (block - group * 16) count is
              | false ↦ λ is.
                  let from : count ≤ block - group * 16 = ltb-false (block - group * 16) count is in
                  let none : length waves ≤ block * 16 = over block (omega arith) (omega arith) in
                  absurd (omega arith)
            ] refl)))
            (λ apart same.
            let kept : slice_index upcoming.least block ≡ slice_index before.least block =
            elim (nat_lt block (group * 16)) as (λ b. nat_lt block (group * 16) ≡ b → slice_index upcoming.least block ≡ slice_index before.least block) [
              | true ↦ λ is. passing.under block (ltb-true block (group * 16) is)
              | false ↦ λ is. let from : group * 16 ≤ block = ltb-false block (group * 16) is in passing.over block (omega arith)
            ] refl in
            rw (get_or-set_other, passing.groups, kept) (ahead.groups.first block h)) refl;
        later = λ at.
            one_or_other (λ at. at * 256 < length waves → since t (group + 1) at ≤ slice_index (slice_set upcoming.first group least) at) at group
            (λ h. rw (since_passed t (group + 1) group (omega arith), get_or-set_same) passing.later)
            (λ other h. rw (since_other t group at other, get_or-set_other, passing.groups) (ahead.groups.later at h));
        change = λ at.
            one_or_other
            (λ at. at * 256 < length waves → slice_index (slice_set upcoming.first group least) at < NEVER →
            some_changes_at waves (slice_index (slice_set upcoming.first group least) at) ≡ true) at group
            (λ h. rw get_or-set_same passing.change)
            (λ other h. rw (get_or-set_other, passing.groups) (ahead.groups.change at h));
      };
    }

-- the tables after all groups
pub all_passed : (waves : List (List (ℕ × Value))) (t passed : ℕ) (upcoming : Upcoming) (left : List (Bor (List (ℕ × Value)))) → IsAhead waves t passed upcoming left →
    length waves ≤ passed * 256 → IsAhead waves (t + 1) 0 upcoming left
all_passed waves t passed upcoming left ahead all =
    let block : (k : ℕ) → k * 16 < length waves → since t (passed * 16) k ≡ since (t + 1) (0 * 16) k = λ k h.
    since_passed t (passed * 16) k (omega arith) ∙ sym (since_left (t + 1) (0 * 16) k (omega arith)) in
    record {
      blocks = record {
        room = ahead.blocks.room;
        next = λ k h. rw (← block (k / 16) (omega arith)) (ahead.blocks.next k h);
        least = ahead.blocks.least;
        later = λ at h. rw (← block at h) (ahead.blocks.later at h);
        change = ahead.blocks.change;
      };
      groups = record {
        first = ahead.groups.first;
        later = λ group h.
            let same : since t passed group ≡ since (t + 1) 0 group = since_passed t passed group (omega arith) ∙ sym (since_left (t + 1) 0 group (omega arith)) in
            rw (← same) (ahead.groups.later group h);
        change = ahead.groups.change;
      };
    }

-- before moment 0
pub ahead_at_start : (waves : List (List (ℕ × Value))) (left : List (Bor (List (ℕ × Value)))) (m n o : ℕ) → length waves ≤ m → length waves ≤ n * 16 → length waves ≤ o * 256 →
    ((k : ℕ) → k < length waves → IsTimeline same_value standing (wave_in waves k)) →
    ((k : ℕ) → k < length waves → wave_in (lefts left) k ≡ wave_in waves k) → length waves ≤ length left →
    IsAhead waves 0 0 (record { times = replicate m 0; least = replicate n 0; first = replicate o 0 }) left
ahead_at_start waves left m n o nets blocks groups lines each room =
    let first : (block : ℕ) → block < length waves → some_changes_at waves 0 ≡ true = λ block h.
    let next : IsNext (wave_in waves 0) 0 0 (wave_in waves 0) = next_at_start (wave_in waves 0) (lines 0 (omega arith)) in
    some_change waves 0 0 (omega arith) (next.change (omega arith)) in
    record {
      blocks = record {
        room = room;
        next = λ k h.
            rw (since_left 0 (0 * 16) (k / 16) (omega arith), get_or-replicate {A = ℕ} m k 0 0 (omega arith), each k h) (next_at_start (wave_in waves k) (lines k h));
        least = λ k h. rw (get_or-replicate {A = ℕ} n (k / 16) 0 0 (omega arith)) (omega arith);
        later = λ block h. rw (since_left 0 (0 * 16) block (omega arith)) (omega arith);
        change = λ block h moment. rw (get_or-replicate {A = ℕ} n block 0 0 (omega arith)) (first block (omega arith));
      };
      groups = record {
        first = λ block h. rw (get_or-replicate {A = ℕ} o (block / 16) 0 0 (omega arith)) (omega arith);
        later = λ group h. rw (since_left 0 0 group (omega arith)) (omega arith);
        change = λ group h moment. rw (get_or-replicate {A = ℕ} o group 0 0 (omega arith)) (first group (omega arith));
      };
    }

-- Lines.

-- what the groups up to one write, and what that one writes
pub lines_of_group : (waves : List (List (ℕ × Value))) (t group : ℕ) → group * 256 < length waves →
    lines_from waves t 0 (min (group * 256) (length waves)) ++ lines_from waves t (group * 256) (min 256 (length waves - group * 256)) ≡
    lines_from waves t 0 (min ((group + 1) * 256) (length waves))
lines_of_group waves t group inside =
    let before : min (group * 256) (length waves) ≡ group * 256 = omega arith in
    let after : min ((group + 1) * 256) (length waves) ≡ group * 256 + min 256 (length waves - group * 256) = omega arith in
    let start : 0 + group * 256 ≡ group * 256 = omega arith in
    rw (before, after) (sym (rw start at (lines_add waves t 0 (group * 256) (min 256 (length waves - group * 256)))))

lines_enumerated : (all waves : List (List (ℕ × Value))) (t n : ℕ) → ((k : ℕ) → k < length waves → wave_in all (n + k) ≡ wave_in waves k) →
    lines_from all t n (length waves) ≡ flat_map (λ e. change_line e.0 e.1 t) (enumerate_from n waves)
lines_enumerated all [] t n each = refl
lines_enumerated all (wave ∷ waves) t n each =
    let first : wave_in all (n + 0) ≡ wave = each 0 (omega arith) in
    let count : length (wave ∷ waves) ≡ 1 + length waves = omega arith in
    let rest : lines_from all t (n + 1) (length waves) ≡ flat_map (λ e. change_line e.0 e.1 t) (enumerate_from (n + 1) waves) =
    lines_enumerated all waves t (n + 1) (λ k h. let place : n + 1 + k ≡ n + suc k = omega arith in rw place (each (suc k) (omega arith))) in
    ap (λ m. lines_from all t n m) count ∙ (lines_add all t n 1 (length waves) ∙ rw (rest, first, add-zero) refl)

-- the lines of all nets
pub lines_whole : (waves : List (List (ℕ × Value))) (t : ℕ) → lines_from waves t 0 (length waves) ≡ change_lines waves t
lines_whole waves t = lines_enumerated waves waves t 0 (λ k h. rw zero-add refl)
