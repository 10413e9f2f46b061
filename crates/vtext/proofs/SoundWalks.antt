-- A walk over good words reads sound modules.
use Rattle.std.proofs.Common.{◌≡◌, ℕ, suc, ◌+◌, ◌-◌, ◌^◌, ◌<◌, true, List, [], ◌∷◌, Option, Some, None, Result, All, length, length-take, min, take, refl, subst, arith}
use Rattle.std.proofs.lemmas.List.Elements.{All-head, All-nil, All-tail, All-take}
use Rattle.vtext.specs.declared.cause.Cause.{Cause}
use Rattle.vtext.specs.declared.parser_state.ParserState.TheVariants.{Outside}
use Rattle.vtext.specs.declared.word.Word.{Word}
use Rattle.vtext.specs.declared.word.Placed.{Placed}
use Rattle.vtext.specs.GateNames.{is_taken}
use Rattle.vtext.specs.Modules.{InstanceEntry}
use Rattle.vtext.specs.Readings.{Reading}
use Rattle.vtext.specs.kept.Sound.{AreGoodWords, IsGoodWord, IsSoundGate, IsSoundInstance, IsSoundModule}
use Rattle.vtext.specs.Turns.{Walk}
use Rattle.vtext.specs.Walks.{Leads, first_word, start, word_at}
use Rattle.vtext.proofs.FreshLemmas.{IsSettled}
use Rattle.vtext.proofs.NetReadings.{no_nets}
use Rattle.vtext.proofs.SoundStates.{Stands, StandsAfter}
use Rattle.vtext.proofs.SoundSteps.{turn_stands}

module _ (default : Option ℕ) (names : List (List ℕ)) where
  walk_stands : (words : List Placed) (left : ℕ) (from to : Walk) (after : Option Word) → AreGoodWords names words
      → Stands names (length words + left) from (first_word words after) → Leads default names from words after to → Stands names left to after
  walk_stands [] left from to after good stands leads =
      let none : length {A = Placed} [] + left ≡ left = omega arith in
      subst (λ (w : Walk). Stands names left w after) leads (subst (λ (n : ℕ). Stands names n from after) none stands)
  walk_stands (p ∷ words) left from to after good stands leads =
      let Q : Placed → Type 0 = λ q. IsGoodWord names q.word in
      let room : ℕ = length words + left in
      let next : Option Word = first_word words after in
      let more : length (p ∷ words) + left ≡ suc room = omega arith in
      let here : Stands names (suc room) from (Some p.word) = subst (λ (n : ℕ). Stands names n from (Some p.word)) more stands in
      let led = turn_stands names room next from.so_far default from.state p (All-head Q p words good) here.0 here.1 in
      let there : Stands names room leads.0 next = subst (λ (t : Result Walk Cause). StandsAfter names room t next) leads.1 led in
      walk_stands words left leads.0 to after (All-tail Q p words good) there leads.2

  begun : (room : ℕ) (next : Option Word) → room < 2 ^ 64 → Stands names room start next
  begun room next small = (
    record {
      finished = All-nil (IsSoundModule names);
      sound_nets = no_nets names;
      fitting = All-nil (IsSoundGate names []);
      instantiated = All-nil (IsSoundInstance names []);
      instances_apart = λ i j d low high. absurd (omega arith);
      instances_taken = All-nil (λ (i : InstanceEntry). is_taken [] i.name ≡ true);
      names_apart = record {
        apart = λ i j d low high. absurd (omega arith);
        settled = All-nil (IsSettled names [] 0);
        few = omega arith;
        short = omega arith;
      };
    },
    refl,
  )

  -- the length has a bound since a number of more than 64 digits is written by its last 64
  pub all_sound : (words : List Placed) (last : Reading) → length words < 2 ^ 64 → AreGoodWords names words
      → Leads default names start words None (record { state = Outside; so_far = last }) → All (IsSoundModule names) last.modules
  all_sound words last small good leads =
      (walk_stands words 0 start (record { state = Outside; so_far = last }) None good (begun (length words + 0) (first_word words None) (omega arith)) leads).0.finished

  -- a word is left, so there is room for one unnamed instance more
  pub room_left : (words : List Placed) (i : ℕ) (now : Walk) → i < length words → length words < 2 ^ 64 → AreGoodWords names words
      → Leads default names start (take i words) (word_at words i) now → now.so_far.unnamed < 2 ^ 64 - 1
  room_left words i now within small good leads =
      let left : ℕ = length words - i in
      let read : List Placed = take i words in
      let size : length read ≡ min i (length words) = length-take i words in
      let fits : length read + left < 2 ^ 64 = omega (arith, size, within, small) in
      let stands = walk_stands read left start now (word_at words i) (All-take (λ (p : Placed). IsGoodWord names p.word) i words good)
      (begun (length read + left) (first_word read (word_at words i)) fits) leads in
      omega (arith, stands.0.names_apart.few, within)
