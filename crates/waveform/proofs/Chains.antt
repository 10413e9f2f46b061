-- Chains of the numbers of notes.
use Rattle.std.proofs.Common.{◌≡◌, ◌∙◌, ℕ, ◌+◌, ◌-◌, ◌<◌, ◌≤◌, ◌==◌, List, [], ◌∷◌, ap, sym, subst, cond, map, filter, length, drop, get_or, set, arith, inl, inr}
use Rattle.std.proofs.lemmas.Bool.{cases_eq, eq-eqb, ne_eqb}
use Rattle.std.proofs.lemmas.List.{drop_more, get_or_default, get_or-set_same, get_or-set_other}
use Rattle.waveform.specs.kept.Links.{IsChain}
use Rattle.waveform.specs.kept.Notes.{entries_at}

-- the first of the notes is one of the place, or it is not
pub entries_here : {E : Type 0} (place : ℕ) (note : ℕ × E) (notes : List (ℕ × E)) → note.0 ≡ place →
    entries_at place (note ∷ notes) ≡ note.1 ∷ entries_at place notes
entries_here place note notes here =
    ap (λ b. map (λ n. n.1) (cond b (note ∷ filter (λ n. n.0 == place) notes) (filter (λ n. n.0 == place) notes))) (eq-eqb note.0 place here)

pub entries_elsewhere : {E : Type 0} (place : ℕ) (note : ℕ × E) (notes : List (ℕ × E)) → (note.0 ≡ place → ⊥) →
    entries_at place (note ∷ notes) ≡ entries_at place notes
entries_elsewhere place note notes other =
    ap (λ b. map (λ n. n.1) (cond b (note ∷ filter (λ n. n.0 == place) notes) (filter (λ n. n.0 == place) notes))) (ne_eqb note.0 place other)

-- a chain of later notes does not change where the link of an earlier one does
pub chain_kept : {E : Type 0} (notes : List (ℕ × E)) (next : List ℕ) (i v before at : ℕ) (entries : List E) → i < before →
    IsChain notes next before at entries → IsChain notes (set next i v) before at entries
chain_kept notes next i v before at [] less chain = chain
chain_kept notes next i v before at (e ∷ entries) less chain =
    let same : get_or (set next i v) (at - 1) 0 ≡ get_or next (at - 1) 0 = get_or-set_other next i (at - 1) v 0 (λ h. omega arith) in (
      chain.0,
      chain.1,
      chain.2,
      subst (λ n. IsChain notes (set next i v) at n entries) (sym same)
          (chain_kept notes next i v at (get_or next (at - 1) 0) entries (omega arith) chain.3),
    )

-- a chain of later notes is one of notes from an earlier one on
pub chain_sooner : {E : Type 0} (notes : List (ℕ × E)) (next : List ℕ) (sooner before at : ℕ) (entries : List E) → sooner ≤ before →
    IsChain notes next before at entries → IsChain notes next sooner at entries
chain_sooner notes next sooner before at [] less chain = chain
chain_sooner notes next sooner before at (e ∷ entries) less chain = (omega arith, chain.1, chain.2, chain.3)

-- the chains of all places, once the note at `i` is linked before those of its place
pub chains_more : {E : Type 0} (notes : List (ℕ × E)) (first next : List ℕ) (i head : ℕ) (d : ℕ × E) (place : ℕ) →
    i < length notes → length next ≡ length notes → (get_or notes i d).0 < length first → head ≡ get_or first (get_or notes i d).0 head →
    ((p : ℕ) → p < length first → IsChain notes next (i + 1) (get_or first p 0) (entries_at p (drop (i + 1) notes))) → place < length first →
    IsChain notes (set next i head) i (get_or (set first (get_or notes i d).0 (i + 1)) place 0) (entries_at place (drop i notes))
chains_more {E} notes first next i head d place within long first_within is chains less =
    let note = get_or notes i d in
    let later = drop (i + 1) notes in
    let left : drop i notes ≡ note ∷ later = drop_more notes i d within in
    let now = set next i head in
    let kept : (p : ℕ) → p < length first → IsChain notes now (i + 1) (get_or first p 0) (entries_at p later) =
    λ p l. chain_kept notes next i head (i + 1) (get_or first p 0) (entries_at p later) (omega arith) (chains p l) in
    elim (cases_eq note.0 place) [
      | inl here ↦
          let entries : entries_at place (drop i notes) ≡ note.1 ∷ entries_at place later = ap (entries_at place) left ∙ entries_here place note later here in
          let at : get_or (set first note.0 (i + 1)) place 0 ≡ i + 1 =
          subst (λ p. get_or (set first note.0 (i + 1)) p 0 ≡ i + 1) here (get_or-set_same first note.0 (i + 1) 0 first_within) in
          let less_one : i + 1 - 1 ≡ i = omega arith in
          let entry : note.1 ≡ (get_or notes (i + 1 - 1) (0, note.1)).1 =
          subst (λ k. note.1 ≡ (get_or notes k (0, note.1)).1) (sym less_one) (ap (λ n. n.1) (get_or_default notes i d (0, note.1) within)) in
          let link : get_or now (i + 1 - 1) 0 ≡ get_or first place 0 =
          subst (λ k. get_or now k 0 ≡ get_or first place 0) (sym less_one)
          (get_or-set_same next i head 0 (omega arith) ∙ is ∙ get_or_default first note.0 head 0 first_within ∙ ap (λ p. get_or first p 0) here) in
          let chain : IsChain notes now i (i + 1) (note.1 ∷ entries_at place later) =
          (omega arith, omega arith, entry, subst (λ n. IsChain notes now (i + 1) n (entries_at place later)) (sym link) (kept place less)) in
          subst (λ a. IsChain notes now i a (entries_at place (drop i notes))) (sym at)
          (subst (λ es. IsChain notes now i (i + 1) es) (sym entries) chain)
      | inr other ↦
          let entries : entries_at place (drop i notes) ≡ entries_at place later = ap (entries_at place) left ∙ entries_elsewhere place note later other in
          let at : get_or (set first note.0 (i + 1)) place 0 ≡ get_or first place 0 = get_or-set_other first note.0 place (i + 1) 0 (λ h. other (sym h)) in
          let chain : IsChain notes now i (get_or first place 0) (entries_at place later) =
          chain_sooner notes now i (i + 1) (get_or first place 0) (entries_at place later) (omega arith) (kept place less) in
          subst (λ a. IsChain notes now i a (entries_at place (drop i notes))) (sym at)
          (subst (λ es. IsChain notes now i (get_or first place 0) es) (sym entries) chain)
    ]
