-- A list of words has one walk, and one first fault or none.
use Rattle.std.proofs.Common.{◌≡◌, ◌≢◌, ℕ, zero, suc, ◌+◌, ◌<◌, ◌≤◌, inl, inr, List, [], ◌∷◌, Option, Some, None, Result, Ok, Err, length, take, refl, sym, ap, subst, ◌∙◌, arith, add-one}
use Rattle.std.proofs.lemmas.Bool.{cases_lt, cases_order}
use Rattle.std.proofs.lemmas.List.{take_all}
use Rattle.std.proofs.lemmas.Option.{slice_get_past}
use Rattle.std.specs.List.{slice_get}
use Rattle.std.specs.Option.{MatchOption, option_map}
use Rattle.vtext.specs.declared.cause.Cause.{Cause}
use Rattle.vtext.specs.declared.cause.Cause.TheVariants.{Syntax}
use Rattle.vtext.specs.declared.parser_state.ParserState.TheVariants.{Outside}
use Rattle.vtext.specs.declared.word.Word.{Word}
use Rattle.vtext.specs.declared.word.Placed.{Placed}
use Rattle.vtext.specs.Turns.{Walk, turn}
use Rattle.vtext.specs.Walks.{IsFault, Leads, first_word, start, word_at}

ok_same : {A B : Type 0} (r : Result A B) (a b : A) → r ≡ Ok a → r ≡ Ok b → a ≡ b
ok_same r a b p q = cc

err_same : {A B : Type 0} (r : Result A B) (a b : B) → r ≡ Err a → r ≡ Err b → a ≡ b
err_same r a b p q = cc

pub never_both : {A B : Type 0} (r : Result A B) (a : A) (b : B) → r ≡ Ok a → r ≡ Err b → ⊥
never_both r a b p q = cc

pub one_walk : (default : Option ℕ) (names : List (List ℕ)) (words : List Placed) (from : Walk) (after : Option Word) (a b : Walk)
    → Leads default names from words after a → Leads default names from words after b → a ≡ b
one_walk default names [] from after a b s t = sym s ∙ t
one_walk default names (p ∷ words) from after a b s t =
    let P : Walk → Type 0 = λ next. Leads default names next words after b in
    let same : s.0 ≡ t.0 = ok_same (turn default names from.so_far from.state p (first_word words after)) s.0 t.0 s.1 t.1 in
    one_walk default names words s.0 after a b s.2 (subst P (sym same) t.2)

-- the first of some words, which is followed by the next one, is the first of all
first_taken : (words : List Placed) (k : ℕ) → first_word (take k words) (word_at words k) ≡ word_at words 0
first_taken [] zero = refl
first_taken [] (suc k) = refl
first_taken (p ∷ words) zero = refl
first_taken (p ∷ words) (suc k) = refl

-- a walk over some words went over each of them
passed : (default : Option ℕ) (names : List (List ℕ)) (words : List Placed) (from to : Walk) (k j : ℕ) → k < j → j ≤ length words
    → Leads default names from (take j words) (word_at words j) to
    → (middle : Walk) × Leads default names from (take k words) (word_at words k) middle
    × ((p : Placed) × (slice_get words k ≡ Some p) × ((next : Walk) × (turn default names middle.so_far middle.state p (word_at words (suc k)) ≡ Ok next)))
passed default names [] from to k j less within leads = absurd (omega arith)
passed default names (p ∷ words) from to k zero less within leads = absurd (omega arith)
passed default names (p ∷ words) from to zero (suc j) less within leads =
    let P : Option Word → Type 0 = λ first. turn default names from.so_far from.state p first ≡ Ok leads.0 in
    (from, refl, (p, refl, (leads.0, subst P (first_taken words j) leads.1)))
passed default names (p ∷ words) from to (suc k) (suc j) less within leads =
    let P : Option Word → Type 0 = λ first. turn default names from.so_far from.state p first ≡ Ok leads.0 in
    let rest = passed default names words leads.0 to k j (omega arith) (omega arith) leads.2 in
    (rest.0, (leads.0, subst P (first_taken words j ∙ sym (first_taken words k)) leads.1, rest.1), rest.2)

-- where a walk goes on there is no fault
no_fault_before : (default : Option ℕ) (names : List (List ℕ)) (words : List Placed) (to : Walk) (k j : ℕ) (why : Cause) → k < j → j ≤ length words
    → Leads default names start (take j words) (word_at words j) to → IsFault default names words k why → ⊥
no_fault_before default names words to k j why less within leads fault =
    let there = passed default names words start to k j less within leads in
    let p = there.2.0 in
    let same : fault.before ≡ there.0 = one_walk default names (take k words) start (word_at words k) fault.before there.0 fault.leads there.1 in
    let P : Option Placed → Type 0 = λ q. MatchOption q ((fault.before.state ≢ Outside) × (why ≡ Syntax)) (λ r. turn default names fault.before.so_far fault.before.state r (word_at words (k + 1)) ≡ Err why) in
    let refused : turn default names fault.before.so_far fault.before.state p (word_at words (k + 1)) ≡ Err why = subst P there.2.1 fault.refused in
    let Q : Walk → ℕ → Type 0 = λ walk next. turn default names walk.so_far walk.state p (word_at words next) ≡ Err why in
    let here : turn default names there.0.so_far there.0.state p (word_at words (suc k)) ≡ Err why = subst (λ (next : ℕ). Q there.0 next) (add-one k) (subst (λ (walk : Walk). Q walk (k + 1)) same refused) in
    never_both (turn default names there.0.so_far there.0.state p (word_at words (suc k))) there.2.2.0 why there.2.2.1 here

-- what refuses a word has one cause
one_cause : (default : Option ℕ) (names : List (List ℕ)) (word : Option Placed) (after : Option Word) (a b : Walk) (why because : Cause) → a ≡ b
    → MatchOption word ((a.state ≢ Outside) × (why ≡ Syntax)) (λ p. turn default names a.so_far a.state p after ≡ Err why)
    → MatchOption word ((b.state ≢ Outside) × (because ≡ Syntax)) (λ p. turn default names b.so_far b.state p after ≡ Err because)
    → why ≡ because
one_cause default names None after a b why because same s t = s.1 ∙ sym t.1
one_cause default names (Some p) after a b why because same s t =
    let P : Walk → Type 0 = λ walk. turn default names walk.so_far walk.state p after ≡ Err because in
    err_same (turn default names a.so_far a.state p after) why because s (subst P (sym same) t)

same_place : (default : Option ℕ) (names : List (List ℕ)) (words : List Placed) (j : ℕ) (why because : Cause)
    → IsFault default names words j why → IsFault default names words j because → why ≡ because
same_place default names words j why because s t =
    one_cause default names (slice_get words j) (word_at words (j + 1)) s.before t.before why because
    (one_walk default names (take j words) start (word_at words j) s.before t.before s.leads t.leads) s.refused t.refused

pub one_fault : (default : Option ℕ) (names : List (List ℕ)) (words : List Placed) (k j : ℕ) (why because : Cause)
    → IsFault default names words k why → IsFault default names words j because → (k ≡ j) × (why ≡ because)
one_fault default names words k j why because s t =
    let P : ℕ → Type 0 = λ place. IsFault default names words place why in
    elim (cases_order k j) [
      | inl same ↦ (same, same_place default names words j why because (subst P same s) t)
      | inr apart ↦ absurd (elim apart [
        | inl less ↦ no_fault_before default names words t.before k j why less t.within t.leads s
        | inr less ↦ no_fault_before default names words s.before j k because less s.within s.leads t
      ])
    ]

at_end : (default : Option ℕ) (names : List (List ℕ)) (words : List Placed) (to : Walk) (k : ℕ) → length words ≤ k
    → Leads default names start words None to → Leads default names start (take k words) (word_at words k) to
at_end default names words to k past leads =
    let P : List Placed → Option Placed → Type 0 = λ these p. Leads default names start these (option_map (λ (p : Placed). p.word) p) to in
    subst (λ (these : List Placed). P these (slice_get words k)) (sym (take_all k words past)) (subst (P words) (sym (slice_get_past words k past)) leads)

-- a list that is read to its end has no fault
pub no_fault : (default : Option ℕ) (names : List (List ℕ)) (words : List Placed) (to : Walk) (k : ℕ) (why : Cause) → to.state ≡ Outside
    → Leads default names start words None to → IsFault default names words k why → ⊥
no_fault default names words to k why outside leads fault =
    elim (cases_lt k (length words)) [
      | inl less ↦ no_fault_before default names words to k (length words) why less (omega arith) (at_end default names words to (length words) (omega arith) leads) fault
      | inr past ↦
          let same : fault.before ≡ to = one_walk default names (take k words) start (word_at words k) fault.before to fault.leads (at_end default names words to k past leads) in
          let P : Option Placed → Type 0 = λ q. MatchOption q ((fault.before.state ≢ Outside) × (why ≡ Syntax)) (λ r. turn default names fault.before.so_far fault.before.state r (word_at words (k + 1)) ≡ Err why) in
          (subst P (slice_get_past words k past) fault.refused).0 (ap (λ (walk : Walk). walk.state) same ∙ outside)
    ]
