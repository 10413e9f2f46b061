-- The entries that are left of a chain while they are written.
use Rattle.std.proofs.Common.{◌≡◌, ◌∙◌, ℕ, ◌+◌, ◌-◌, ◌<◌, ◌≤◌, ◌==◌, ◌⊎◌, Bool, false, List, [], ◌∷◌, ◌++◌, All, ap, sym, subst, cond, map, length, get_or, append_assoc, arith, inl, inr}
use Rattle.std.proofs.lemmas.Bool.{eq-eqb, ne_eqb}
use Rattle.std.proofs.lemmas.List.{append-nil, get_or_default}
use Rattle.waveform.specs.kept.Links.{IsChain}
use Rattle.waveform.specs.kept.Notes.{MayFollow}
use Rattle.waveform.specs.kept.Timelines.{is_reached}

-- `left` are the entries of the chain from a number on; they may be written behind those of a timeline, which then is `whole`
pub record Remains {A E : Type 0} (same : A → A → Bool) (drift : A → ℕ → A) (can : ℕ → A → Type 0) (stored : E → ℕ × A)
    (notes : List (ℕ × E)) (next : List ℕ) (number : ℕ) (line whole : List (ℕ × A)) : Type 0 where
  pub before : ℕ
  pub left : List E
  pub chain : IsChain notes next before number left
  pub follow : MayFollow same drift can line (map stored left)
  pub ends : line ++ map stored left ≡ whole

-- the note of the number is written, and the number of the next one is taken
pub record Turn {A E : Type 0} (same : A → A → Bool) (drift : A → ℕ → A) (can : ℕ → A → Type 0) (stored : E → ℕ × A)
    (notes : List (ℕ × E)) (next : List ℕ) (number : ℕ) (line whole : List (ℕ × A)) (entry : E) : Type 0 where
  pub later : All (λ e. e.0 < (stored entry).0) line
  pub can_store : can (stored entry).0 (stored entry).1
  pub other : is_reached same drift line (stored entry).0 (stored entry).1 ≡ false
  pub rises : (get_or next (number - 1) 0 ≡ 0) ⊎ (number < get_or next (number - 1) 0)
  pub after : Remains same drift can stored notes next (get_or next (number - 1) 0) (line ++ stored entry ∷ []) whole

-- a chain goes up to its end
rises_or_ends : {E : Type 0} (notes : List (ℕ × E)) (next : List ℕ) (before at : ℕ) (entries : List E) → IsChain notes next before at entries →
    (at ≡ 0) ⊎ (before < at)
rises_or_ends notes next before at [] chain = inl chain
rises_or_ends notes next before at (e ∷ entries) chain = inr chain.0

turn_of : {A E : Type 0} (same : A → A → Bool) (drift : A → ℕ → A) (can : ℕ → A → Type 0) (stored : E → ℕ × A)
    (notes : List (ℕ × E)) (next : List ℕ) (number : ℕ) (line whole : List (ℕ × A)) (d : ℕ × E) (before : ℕ) (left : List E) → 0 < number →
    IsChain notes next before number left → MayFollow same drift can line (map stored left) → line ++ map stored left ≡ whole →
    Turn same drift can stored notes next number line whole (get_or notes (number - 1) d).1
turn_of same drift can stored notes next number line whole d before [] some chain follow ends = absurd (omega arith)
turn_of same drift can stored notes next number line whole d before (e ∷ left) some chain follow ends =
    let is : e ≡ (get_or notes (number - 1) d).1 = chain.2 ∙ ap (λ n. n.1) (get_or_default notes (number - 1) (0, e) d (omega arith)) in
    subst (λ entry. Turn same drift can stored notes next number line whole entry) is
    (record {
      later = follow.0;
      can_store = follow.1;
      other = follow.2;
      rises = rises_or_ends notes next number (get_or next (number - 1) 0) left chain.3;
      after = record {
        before = number;
        left = left;
        chain = chain.3;
        follow = follow.3;
        ends = append_assoc line (stored e ∷ []) (map stored left) ∙ ends;
      };
    })

pub turn : {A E : Type 0} (same : A → A → Bool) (drift : A → ℕ → A) (can : ℕ → A → Type 0) (stored : E → ℕ × A)
    (notes : List (ℕ × E)) (next : List ℕ) (number : ℕ) (line whole : List (ℕ × A)) (d : ℕ × E) → 0 < number →
    Remains same drift can stored notes next number line whole → Turn same drift can stored notes next number line whole (get_or notes (number - 1) d).1
turn same drift can stored notes next number line whole d some remains =
    turn_of same drift can stored notes next number line whole d remains.before remains.left some remains.chain remains.follow remains.ends

-- a number that is left is that of a note
is_of_note : {E : Type 0} (notes : List (ℕ × E)) (next : List ℕ) (before number : ℕ) (left : List E) → 0 < number →
    IsChain notes next before number left → number ≤ length notes
is_of_note notes next before number [] some chain = absurd (omega arith)
is_of_note notes next before number (e ∷ left) some chain = chain.1

pub within : {A E : Type 0} (same : A → A → Bool) (drift : A → ℕ → A) (can : ℕ → A → Type 0) (stored : E → ℕ × A)
    (notes : List (ℕ × E)) (next : List ℕ) (number : ℕ) (line whole : List (ℕ × A)) → 0 < number →
    Remains same drift can stored notes next number line whole → number ≤ length notes
within same drift can stored notes next number line whole some remains = is_of_note notes next remains.before number remains.left some remains.chain

-- no number is left, and the timeline is whole
none_left : {A E : Type 0} (stored : E → ℕ × A) (notes : List (ℕ × E)) (next : List ℕ) (line whole : List (ℕ × A)) (before number : ℕ) (left : List E) →
    number ≤ 0 → IsChain notes next before number left → line ++ map stored left ≡ whole → line ≡ whole
none_left stored notes next line whole before number [] none chain ends = sym (append-nil line) ∙ ends
none_left stored notes next line whole before number (e ∷ left) none chain ends = absurd (omega arith)

pub end : {A E : Type 0} (same : A → A → Bool) (drift : A → ℕ → A) (can : ℕ → A → Type 0) (stored : E → ℕ × A)
    (notes : List (ℕ × E)) (next : List ℕ) (number : ℕ) (line whole : List (ℕ × A)) → number ≤ 0 →
    Remains same drift can stored notes next number line whole → line ≡ whole
end same drift can stored notes next number line whole none remains =
    none_left stored notes next line whole remains.before number remains.left none remains.chain remains.ends

-- how many notes there are from a number on; a later number has fewer, and none has none
abbrev pub left_from : ℕ → ℕ → ℕ
left_from notes number = cond (number == 0) 0 (notes + 1 - number)

fewer_left : (notes number later : ℕ) → 0 < number → number ≤ notes → (later ≡ 0) ⊎ (number < later) → left_from notes later < left_from notes number
fewer_left notes number later some within rises =
    let now : left_from notes number ≡ notes + 1 - number = ap (λ b. cond b 0 (notes + 1 - number)) (ne_eqb number 0 (λ h. omega arith)) in
    elim rises [
      | inl ends ↦
          let none : left_from notes later ≡ 0 = ap (λ b. cond b 0 (notes + 1 - later)) (eq-eqb later 0 ends) in
          omega (arith, none, now)
      | inr above ↦
          let then : left_from notes later ≡ notes + 1 - later = ap (λ b. cond b 0 (notes + 1 - later)) (ne_eqb later 0 (λ h. omega arith)) in
          omega (arith, then, now)
    ]

-- the note of a number is written, and `later` is read as the number of the next one: the rest is left, which is less
number_read : (next : List ℕ) (number later : ℕ) → 0 < number → number ≤ length next → later ≡ get_or next (number - 1) later →
    get_or next (number - 1) 0 ≡ later
number_read next number later some long read = get_or_default next (number - 1) 0 later (omega arith) ∙ sym read

pub after_turn : {A E : Type 0} (same : A → A → Bool) (drift : A → ℕ → A) (can : ℕ → A → Type 0) (stored : E → ℕ × A)
    (notes : List (ℕ × E)) (next : List ℕ) (number : ℕ) (line whole : List (ℕ × A)) (d : ℕ × E) (later : ℕ) (written : List (ℕ × A)) →
    0 < number → length next ≡ length notes → later ≡ get_or next (number - 1) later → written ≡ line ++ stored (get_or notes (number - 1) d).1 ∷ [] →
    Remains same drift can stored notes next number line whole → Remains same drift can stored notes next later written whole
after_turn same drift can stored notes next number line whole d later written some long read is remains =
    let among : number ≤ length notes = within same drift can stored notes next number line whole some remains in
    let turn : Turn same drift can stored notes next number line whole (get_or notes (number - 1) d).1 =
    turn same drift can stored notes next number line whole d some remains in
    subst (λ l. Remains same drift can stored notes next later l whole) (sym is)
    (subst (λ n. Remains same drift can stored notes next n (line ++ stored (get_or notes (number - 1) d).1 ∷ []) whole)
    (number_read next number later some (omega arith) read) turn.after)

pub fewer_after_turn : {A E : Type 0} (same : A → A → Bool) (drift : A → ℕ → A) (can : ℕ → A → Type 0) (stored : E → ℕ × A)
    (notes : List (ℕ × E)) (next : List ℕ) (number : ℕ) (line whole : List (ℕ × A)) (d : ℕ × E) (later : ℕ) →
    0 < number → length next ≡ length notes → later ≡ get_or next (number - 1) later →
    Remains same drift can stored notes next number line whole → left_from (length notes) later < left_from (length notes) number
fewer_after_turn same drift can stored notes next number line whole d later some long read remains =
    let among : number ≤ length notes = within same drift can stored notes next number line whole some remains in
    let turn : Turn same drift can stored notes next number line whole (get_or notes (number - 1) d).1 =
    turn same drift can stored notes next number line whole d some remains in
    fewer_left (length notes) number later some among
    (subst (λ n. (n ≡ 0) ⊎ (number < n)) (number_read next number later some (omega arith) read) turn.rises)
