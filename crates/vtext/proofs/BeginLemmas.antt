-- Where a word is refused no text that begins so is written by parts without a cause.
use Rattle.std.proofs.Common.{◌≡◌, ◌≢◌, ℕ, ◌+◌, ◌<◌, ◌++◌, List, [], ◌∷◌, Option, Some, None, Ok, Err, length, length-append, refl, ap, subst, ◌∙◌, arith}
use Rattle.std.proofs.Math.Seq.{get_or-append_seam, take-append_seam}
use Rattle.std.proofs.lemmas.List.{get_or-append-add}
use Rattle.std.proofs.lemmas.Option.{slice_get-get_or, slice_get_past}
use Rattle.std.specs.List.{slice_get}
use Rattle.std.specs.Option.{MatchOption, option_map}
use Rattle.vtext.specs.declared.cause.Cause.{Cause}
use Rattle.vtext.specs.declared.cause.Cause.TheVariants.{Syntax}
use Rattle.vtext.specs.declared.parser_state.ParserState.TheVariants.{Outside}
use Rattle.vtext.specs.declared.word.Word.{Word}
use Rattle.vtext.specs.declared.word.Placed.{Placed}
use Rattle.vtext.specs.Readings.{unread}
use Rattle.vtext.specs.Trees.{ArePartsAdmitted, AreWritten, Part, after_parts}
use Rattle.vtext.specs.Turns.{Walk, turn}
use Rattle.vtext.specs.Walks.{IsFault, Leads, first_word, start, word_at}
use Rattle.vtext.proofs.TreeLemmas.{text_read}
use Rattle.vtext.proofs.WalkLaws.{never_both, one_walk}

-- the word at a place, and the one behind it
word_there : (before : List Placed) (p : Placed) (after : List Placed) → slice_get (before ++ p ∷ after) (length before) ≡ Some p
word_there before p after =
    let size : length (before ++ p ∷ after) ≡ length before + length (p ∷ after) = length-append before (p ∷ after) in
    let within : length before < length (before ++ p ∷ after) = omega (arith, size) in
    slice_get-get_or (before ++ p ∷ after) (length before) p within ∙ ap (λ (q : Placed). Some q) (get_or-append_seam before p after p)

word_behind : (before : List Placed) (p : Placed) (after : List Placed) → word_at (before ++ p ∷ after) (length before + 1) ≡ first_word after None
word_behind before p [] =
    let size : length (before ++ p ∷ []) ≡ length before + length (p ∷ []) = length-append before (p ∷ []) in
    ap (λ (q : Option Placed). option_map (λ (p : Placed). p.word) q) (slice_get_past (before ++ p ∷ []) (length before + 1) (omega (arith, size)))
word_behind before p (q ∷ after) =
    let size : length (before ++ p ∷ q ∷ after) ≡ length before + length (p ∷ q ∷ after) = length-append before (p ∷ q ∷ after) in
    let within : length before + 1 < length (before ++ p ∷ q ∷ after) = omega (arith, size) in
    let there : slice_get (before ++ p ∷ q ∷ after) (length before + 1) ≡ Some q =
    slice_get-get_or (before ++ p ∷ q ∷ after) (length before + 1) p within ∙ ap (λ (w : Placed). Some w) (get_or-append-add before (p ∷ q ∷ after) 1 p) in
    ap (λ (w : Option Placed). option_map (λ (p : Placed). p.word) w) there

module _ (default : Option ℕ) (names : List (List ℕ)) where
  first_kept : (before : List Placed) (p : Placed) (more : List Placed) (after : Option Word) → first_word (before ++ p ∷ more) after ≡ first_word before (Some p.word)
  first_kept [] p more after = refl
  first_kept (q ∷ before) p more after = refl

  -- a walk over a list went over a word of it
  went_over : (before : List Placed) (p : Placed) (more : List Placed) (from to : Walk) (after : Option Word) → Leads default names from (before ++ p ∷ more) after to
      → (middle : Walk) × Leads default names from before (Some p.word) middle × ((next : Walk) × (turn default names middle.so_far middle.state p (first_word more after) ≡ Ok next))
  went_over [] p more from to after leads = (from, refl, (leads.0, leads.1))
  went_over (q ∷ before) p more from to after leads =
      let rest = went_over before p more leads.0 to after leads.2 in
      let P : Option Word → Type 0 = λ next. turn default names from.so_far from.state q next ≡ Ok leads.0 in
      (rest.0, (leads.0, subst P (first_kept before p more after) leads.1, rest.1), rest.2)

  -- what stands before a word that is refused
  refused_there : (before : List Placed) (p : Placed) (after : List Placed) (why : Cause) → IsFault default names (before ++ p ∷ after) (length before) why
      → (middle : Walk) × Leads default names start before (Some p.word) middle × (turn default names middle.so_far middle.state p (first_word after None) ≡ Err why)
  refused_there before p after why fault =
      let said : List Placed = before ++ p ∷ after in
      let P : List Placed → Option Placed → Type 0 = λ these q. Leads default names start these (option_map (λ (p : Placed). p.word) q) fault.before in
      let Q : Option Placed → Type 0 =
      λ q. MatchOption q ((fault.before.state ≢ Outside) × (why ≡ Syntax)) (λ p. turn default names fault.before.so_far fault.before.state p (word_at said (length before + 1)) ≡ Err why) in
      let R : Option Word → Type 0 = λ next. turn default names fault.before.so_far fault.before.state p next ≡ Err why in
      let there : slice_get said (length before) ≡ Some p = word_there before p after in
      let leads : P before (Some p) = subst (P before) there (subst (λ (these : List Placed). P these (slice_get said (length before))) (take-append_seam before (p ∷ after)) fault.leads) in
      let refused : Q (Some p) = subst Q there fault.refused in
      (fault.before, leads, subst R (word_behind before p after) refused)

  pub no_parts : (before : List Placed) (p : Placed) (after other : List Placed) (why : Cause) (parts : List Part) → IsFault default names (before ++ p ∷ after) (length before) why
      → first_word other None ≡ first_word after None → AreWritten parts (before ++ p ∷ other) → ArePartsAdmitted default names unread parts → ⊥
  no_parts before p after other why parts fault same written admitted =
      let end : Walk = record { state = Outside; so_far = after_parts default names unread parts } in
      let went = went_over before p other start end None (text_read default names (before ++ p ∷ other) parts written admitted) in
      let there = refused_there before p after why fault in
      let one : went.0 ≡ there.0 = one_walk default names before start (Some p.word) went.0 there.0 went.1 there.1 in
      let P : Walk → Option Word → Type 0 = λ walk next. turn default names walk.so_far walk.state p next ≡ Ok went.2.0 in
      let goes : P there.0 (first_word after None) = subst (P there.0) same (subst (λ (walk : Walk). P walk (first_word other None)) one went.2.1) in
      never_both (turn default names there.0.so_far there.0.state p (first_word after None)) went.2.0 why goes there.2
