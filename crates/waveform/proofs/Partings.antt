-- From which moment on two waves differ, and from which on they are the same again.
use Rattle.std.proofs.Common.{◌≡◌, ◌==◌, ◌<◌, ◌≤◌, ℕ, suc, min, nat_le, List, [], ◌∷◌, true, false, Option, Some, None, refl, ap, add-one, arith, drop, option_map, slice_get, zero, ◌+◌, ◌*◌, sym, subst, ◌∙◌, inl, inr}
use Rattle.std.specs.Prelude.{IfSome}
use Rattle.std.specs.List.{AllByRecursion, last_or}
use Rattle.std.specs.Option.{option_map_or}
use Rattle.std.proofs.lemmas.Bool.{and_parts, and_cases, and_from, cases_lt, cases_order, eqb-true, eq-eqb, le-leb, lt-leb}
use Rattle.fourstate.specs.declared.value.Value.{Value}
use Rattle.fourstate.specs.declared.value.Value.TheVariants.{HighZ, One, Unknown, Zero}
use Rattle.fourstate.specs.kept.ValueLaws.{is_same, same_self}
use Rattle.fourstate.specs.Values.{same_value}
use Rattle.waveform.specs.Changes.{wave_at}
use Rattle.waveform.specs.kept.Digits.{digit_low, digit_of, value_of_digit}
use Rattle.waveform.specs.Entries.{standing}
use Rattle.waveform.specs.Timelines.{entries_until}
use Rattle.waveform.specs.kept.Partings.{ArePartedAtOnce, earlier, parting, same_change}
use Rattle.waveform.specs.kept.Timelines.{AreInTurn, IsTimeline}

abbrev pub AreAbove : ℕ → List (ℕ × Value) → Type 0
AreAbove t xs = AllByRecursion (λ q. t < q.0) xs

-- the changes xs may follow the change d
abbrev pub MayGoOn : ℕ × Value → List (ℕ × Value) → Type 0
MayGoOn d xs = AreInTurn same_value standing (Some d) xs

-- the value at t, where d is the change before the changes xs
abbrev pub value_after : ℕ × Value → List (ℕ × Value) → ℕ → Value
value_after d xs t = option_map_or (λ e. e.1) (last_or (Some d) (entries_until xs t)) Unknown

above : (d : ℕ × Value) (t : ℕ) (xs : List (ℕ × Value)) → t ≤ d.0 → MayGoOn d xs → AreAbove t xs
above d t [] low turns = tt
above d t (x ∷ xs) low turns = let later : d.0 < x.0 = turns.1.0 in (omega arith, above x t xs (omega arith) turns.2)

lower : (t u : ℕ) (xs : List (ℕ × Value)) → u ≤ t → AreAbove t xs → AreAbove u xs
lower t u [] le over = tt
lower t u (x ∷ xs) le over = (let h : t < x.0 = over.0 in omega arith, lower t u xs le over.1)

none_until : (t : ℕ) (xs : List (ℕ × Value)) → AreAbove t xs → entries_until xs t ≡ []
none_until t [] over = refl
none_until t (x ∷ xs) over = let h : nat_le x.0 t ≡ false = lt-leb x.0 t over.0 in rw h (none_until t xs over.1)

-- before the first change
before_all : (d : ℕ × Value) (xs : List (ℕ × Value)) (t : ℕ) → AreAbove t xs → value_after d xs t ≡ d.1
before_all d xs t over = rw (none_until t xs over) refl

-- from the first change on
behind_first : (d x : ℕ × Value) (xs : List (ℕ × Value)) (t : ℕ) → x.0 ≤ t → value_after d (x ∷ xs) t ≡ value_after x xs t
behind_first d x xs t le = let h : nat_le x.0 t ≡ true = le-leb x.0 t le in rw h refl

at_first : (d x : ℕ × Value) (xs : List (ℕ × Value)) → MayGoOn x xs → value_after d (x ∷ xs) x.0 ≡ x.1
at_first d x xs turns = behind_first d x xs x.0 (omega arith) ∙ before_all x xs x.0 (above x x.0 xs (omega arith) turns)

above_first : (t : ℕ) (x : ℕ × Value) (xs : List (ℕ × Value)) → t < x.0 → MayGoOn x xs → AreAbove t (x ∷ xs)
above_first t x xs lt turns = (lt, above x t xs (omega arith) turns)

-- Values and changes that are the same.

other_way : (v w : Value) → same_value v w ≡ false → same_value w v ≡ false
other_way v w differ =
    elim (same_value w v) as (λ b. same_value w v ≡ b → same_value w v ≡ false) [
      | true ↦ λ h. absurd (let e = is_same w v h in let self = same_self v in let at : same_value v v ≡ false = subst (λ (u : Value). same_value v u ≡ false) e differ in cc)
      | false ↦ λ h. h
    ] refl

pair : (a b : ℕ) (v w : Value) → a ≡ b → v ≡ w → ◌≡◌ {A = ℕ × Value} (a, v) (b, w)
pair a b v w e f = cc

pub same_pair : (x y : ℕ × Value) → same_change x y ≡ true → x ≡ y
same_pair x y h =
    let both = and_parts (x.0 == y.0) (same_value x.1 y.1) h in
    pair x.0 y.0 x.1 y.1 (eqb-true x.0 y.0 both.0) (is_same x.1 y.1 both.1)

other_value : (x y : ℕ × Value) → same_change x y ≡ false → x.0 ≡ y.0 → same_value x.1 y.1 ≡ false
other_value x y h at =
    elim (and_cases (x.0 == y.0) (same_value x.1 y.1) h) [
      | inl differ ↦ absurd (let yes = eq-eqb x.0 y.0 at in cc)
      | inr differ ↦ differ
    ]

min_left : (a b : ℕ) → a ≤ b → min a b ≡ a
min_left a b le = omega arith

min_right : (a b : ℕ) → b ≤ a → min a b ≡ b
min_right a b le = omega arith

some_is : (a b : ℕ) → ◌≡◌ {A = Option ℕ} (Some a) (Some b) → a ≡ b
some_is a b e = cc

-- Two lists that begin behind the same change.

-- they part behind it
parting_later : (d : ℕ × Value) (xs ys : List (ℕ × Value)) (m : ℕ) → MayGoOn d xs → MayGoOn d ys → parting xs ys ≡ Some m → d.0 < m
parting_later d [] [] m tx ty e = absurd (cc)
parting_later d [] (y ∷ ys) m tx ty e = let at = some_is y.0 m e in let later : d.0 < y.0 = ty.1.0 in omega arith
parting_later d (x ∷ xs) [] m tx ty e = let at = some_is x.0 m e in let later : d.0 < x.0 = tx.1.0 in omega arith
parting_later d (x ∷ xs) (y ∷ ys) m tx ty e =
    let later : d.0 < x.0 = tx.1.0 in
    let later' : d.0 < y.0 = ty.1.0 in
    elim (same_change x y) as (λ b. same_change x y ≡ b → d.0 < m) [
      | true ↦ λ h.
          let same = same_pair x y h in
          let rest : d.0 < m = (let behind = parting_later x xs ys m tx.2 (subst (λ (z : ℕ × Value). MayGoOn z ys) (sym same) ty.2) (rw h at e) in omega arith) in
          rest
      | false ↦ λ h. let at = some_is (min x.0 y.0) m (rw h at e) in omega arith
    ] refl

-- where they do not part, they have the same value
pub alike : (d : ℕ × Value) (xs ys : List (ℕ × Value)) → MayGoOn d xs → MayGoOn d ys → parting xs ys ≡ None → (t : ℕ) → value_after d xs t ≡ value_after d ys t
alike d [] [] tx ty e t = refl
alike d [] (y ∷ ys) tx ty e t = absurd (cc)
alike d (x ∷ xs) [] tx ty e t = absurd (cc)
alike d (x ∷ xs) (y ∷ ys) tx ty e t =
    elim (same_change x y) as (λ b. same_change x y ≡ b → value_after d (x ∷ xs) t ≡ value_after d (y ∷ ys) t) [
      | true ↦ λ h.
          let same = same_pair x y h in
          let turns : MayGoOn x ys = subst (λ (z : ℕ × Value). MayGoOn z ys) (sym same) ty.2 in
          let rest : parting xs ys ≡ None = rw h at e in
          subst (λ (z : ℕ × Value). value_after d (x ∷ xs) t ≡ value_after d (z ∷ ys) t) same
          (elim (cases_lt t x.0) [
            | inl lt ↦ before_all d (x ∷ xs) t (above_first t x xs lt tx.2) ∙ sym (before_all d (x ∷ ys) t (above_first t x ys lt turns))
            | inr le ↦ behind_first d x xs t le ∙ alike x xs ys tx.2 turns rest t ∙ sym (behind_first d x ys t le)
          ])
      | false ↦ λ h. absurd (let at = rw h at e in cc)
    ] refl

-- before they part, they have the same value
pub alike_before : (d : ℕ × Value) (xs ys : List (ℕ × Value)) (m : ℕ) → MayGoOn d xs → MayGoOn d ys → parting xs ys ≡ Some m → (t : ℕ) → t < m → value_after d xs t ≡ value_after d ys t
alike_before d [] [] m tx ty e t lt = absurd (cc)
alike_before d [] (y ∷ ys) m tx ty e t lt = let at = some_is y.0 m e in sym (before_all d (y ∷ ys) t (above_first t y ys (omega arith) ty.2))
alike_before d (x ∷ xs) [] m tx ty e t lt = let at = some_is x.0 m e in before_all d (x ∷ xs) t (above_first t x xs (omega arith) tx.2)
alike_before d (x ∷ xs) (y ∷ ys) m tx ty e t lt =
    elim (same_change x y) as (λ b. same_change x y ≡ b → value_after d (x ∷ xs) t ≡ value_after d (y ∷ ys) t) [
      | true ↦ λ h.
          let same = same_pair x y h in
          let turns : MayGoOn x ys = subst (λ (z : ℕ × Value). MayGoOn z ys) (sym same) ty.2 in
          let rest : parting xs ys ≡ Some m = rw h at e in
          subst (λ (z : ℕ × Value). value_after d (x ∷ xs) t ≡ value_after d (z ∷ ys) t) same
          (elim (cases_lt t x.0) [
            | inl low ↦ before_all d (x ∷ xs) t (above_first t x xs low tx.2) ∙ sym (before_all d (x ∷ ys) t (above_first t x ys low turns))
            | inr le ↦ behind_first d x xs t le ∙ alike_before x xs ys m tx.2 turns rest t lt ∙ sym (behind_first d x ys t le)
          ])
      | false ↦ λ h.
          let at = some_is (min x.0 y.0) m (rw h at e) in
          before_all d (x ∷ xs) t (above_first t x xs (omega arith) tx.2) ∙ sym (before_all d (y ∷ ys) t (above_first t y ys (omega arith) ty.2))
    ] refl

-- Where they part, they have other values.

alone_left : (d x : ℕ × Value) (xs ys : List (ℕ × Value)) → MayGoOn d (x ∷ xs) → AreAbove x.0 ys → same_value (value_after d (x ∷ xs) x.0) (value_after d ys x.0) ≡ false
alone_left d x xs ys tx over =
    let mine = at_first d x xs tx.2 in
    let old = before_all d ys x.0 over in
    let other : same_value x.1 d.1 ≡ false = tx.1.1 in
    rw (mine, old) other

alone_right : (d y : ℕ × Value) (xs ys : List (ℕ × Value)) → MayGoOn d (y ∷ ys) → AreAbove y.0 xs → same_value (value_after d xs y.0) (value_after d (y ∷ ys) y.0) ≡ false
alone_right d y xs ys ty over = other_way (value_after d (y ∷ ys) y.0) (value_after d xs y.0) (alone_left d y ys xs ty over)

both_there : (d x y : ℕ × Value) (xs ys : List (ℕ × Value)) → MayGoOn d (x ∷ xs) → MayGoOn d (y ∷ ys) → same_change x y ≡ false
    → same_value (value_after d (x ∷ xs) (min x.0 y.0)) (value_after d (y ∷ ys) (min x.0 y.0)) ≡ false
both_there d x y xs ys tx ty differ =
    elim (cases_order x.0 y.0) [
      | inl at ↦
          let left = min_left x.0 y.0 (omega arith) in
          let mine = at_first d x xs tx.2 in
          let its : value_after d (y ∷ ys) x.0 ≡ y.1 = subst (λ (n : ℕ). value_after d (y ∷ ys) n ≡ y.1) (sym at) (at_first d y ys ty.2) in
          subst (λ (n : ℕ). same_value (value_after d (x ∷ xs) n) (value_after d (y ∷ ys) n) ≡ false) (sym left)
          (subst (λ (v : Value). same_value v (value_after d (y ∷ ys) x.0) ≡ false) (sym mine)
          (subst (λ (w : Value). same_value x.1 w ≡ false) (sym its) (other_value x y differ at)))
      | inr order ↦ elim order [
        | inl lt ↦
            let left = min_left x.0 y.0 (omega arith) in
            subst (λ (n : ℕ). same_value (value_after d (x ∷ xs) n) (value_after d (y ∷ ys) n) ≡ false) (sym left)
            (alone_left d x xs (y ∷ ys) tx (above_first x.0 y ys lt ty.2))
        | inr gt ↦
            let right = min_right x.0 y.0 (omega arith) in
            subst (λ (n : ℕ). same_value (value_after d (x ∷ xs) n) (value_after d (y ∷ ys) n) ≡ false) (sym right)
            (alone_right d y (x ∷ xs) ys ty (above_first y.0 x xs gt tx.2))
      ]
    ]

pub apart_there : (d : ℕ × Value) (xs ys : List (ℕ × Value)) (m : ℕ) → MayGoOn d xs → MayGoOn d ys → parting xs ys ≡ Some m → same_value (value_after d xs m) (value_after d ys m) ≡ false
apart_there d [] [] m tx ty e = absurd (cc)
apart_there d [] (y ∷ ys) m tx ty e = subst (λ (n : ℕ). same_value (value_after d [] n) (value_after d (y ∷ ys) n) ≡ false) (some_is y.0 m e) (alone_right d y [] ys ty tt)
apart_there d (x ∷ xs) [] m tx ty e = subst (λ (n : ℕ). same_value (value_after d (x ∷ xs) n) (value_after d [] n) ≡ false) (some_is x.0 m e) (alone_left d x xs [] tx tt)
apart_there d (x ∷ xs) (y ∷ ys) m tx ty e =
    elim (same_change x y) as (λ b. same_change x y ≡ b → same_value (value_after d (x ∷ xs) m) (value_after d (y ∷ ys) m) ≡ false) [
      | true ↦ λ h.
          let same = same_pair x y h in
          let turns : MayGoOn x ys = subst (λ (z : ℕ × Value). MayGoOn z ys) (sym same) ty.2 in
          let rest : parting xs ys ≡ Some m = rw h at e in
          let later : x.0 < m = parting_later x xs ys m tx.2 turns rest in
          let mine = behind_first d x xs m (omega arith) in
          let its : value_after d (y ∷ ys) m ≡ value_after x ys m = subst (λ (z : ℕ × Value). value_after d (z ∷ ys) m ≡ value_after x ys m) same (behind_first d x ys m (omega arith)) in
          rw (mine, its) (apart_there x xs ys m tx.2 turns rest)
      | false ↦ λ h. subst (λ (n : ℕ). same_value (value_after d (x ∷ xs) n) (value_after d (y ∷ ys) n) ≡ false) (some_is (min x.0 y.0) m (rw h at e)) (both_there d x y xs ys tx ty h)
    ] refl

-- Two waves.

wave_behind : (x : ℕ × Value) (xs : List (ℕ × Value)) (t : ℕ) → x.0 ≡ 0 → wave_at (x ∷ xs) t ≡ value_after x xs t
wave_behind x xs t at = let h : nat_le x.0 t ≡ true = le-leb x.0 t (omega arith) in rw h refl

begin_alike : (x : ℕ × Value) (xs ys : List (ℕ × Value)) (o : Option ℕ) → MayGoOn x xs → MayGoOn x ys → x.0 ≡ 0 → parting xs ys ≡ o → (t : ℕ) → IfSome o (λ m. t < m)
    → wave_at (x ∷ xs) t ≡ wave_at (x ∷ ys) t
begin_alike x xs ys None tx ty at is t before = wave_behind x xs t at ∙ alike x xs ys tx ty is t ∙ sym (wave_behind x ys t at)
begin_alike x xs ys (Some m) tx ty at is t before = wave_behind x xs t at ∙ alike_before x xs ys m tx ty is t before ∙ sym (wave_behind x ys t at)

part_there : (x : ℕ × Value) (xs ys : List (ℕ × Value)) (o : Option ℕ) → MayGoOn x xs → MayGoOn x ys → x.0 ≡ 0 → parting xs ys ≡ o
    → IfSome o (λ m. same_value (wave_at (x ∷ xs) m) (wave_at (x ∷ ys) m) ≡ false)
part_there x xs ys None tx ty at is = tt
part_there x xs ys (Some m) tx ty at is =
    let mine = wave_behind x xs m at in
    let its = wave_behind x ys m at in
    rw (mine, its) (apart_there x xs ys m tx ty is)

-- before they part they have the same values
pub parted_before : (xs ys : List (ℕ × Value)) → IsTimeline same_value standing xs → IsTimeline same_value standing ys → (t : ℕ) → IfSome (parting xs ys) (λ m. t < m) → wave_at xs t ≡ wave_at ys t
parted_before [] ys tx ty t before = absurd (let begins = tx.begins in omega arith)
parted_before (x ∷ xs) [] tx ty t before = absurd (let begins = ty.begins in omega arith)
parted_before (x ∷ xs) (y ∷ ys) tx ty t before =
    let turns = tx.in_turn in
    let turns' = ty.in_turn in
    let at : x.0 ≡ 0 = turns.1 in
    let at' : y.0 ≡ 0 = turns'.1 in
    elim (same_change x y) as (λ b. same_change x y ≡ b → wave_at (x ∷ xs) t ≡ wave_at (y ∷ ys) t) [
      | true ↦ λ h.
          let same = same_pair x y h in
          let behind : MayGoOn x ys = subst (λ (z : ℕ × Value). MayGoOn z ys) (sym same) turns'.2 in
          let early : IfSome (parting xs ys) (λ m. t < m) = rw h at before in
          subst (λ (z : ℕ × Value). wave_at (x ∷ xs) t ≡ wave_at (z ∷ ys) t) same (begin_alike x xs ys (parting xs ys) turns.2 behind at refl t early)
      | false ↦ λ h. absurd (let early : t < min x.0 y.0 = rw h at before in omega arith)
    ] refl

-- where they part they have not
pub parted_there : (xs ys : List (ℕ × Value)) → IsTimeline same_value standing xs → IsTimeline same_value standing ys → IfSome (parting xs ys) (λ m. same_value (wave_at xs m) (wave_at ys m) ≡ false)
parted_there [] ys tx ty = absurd (let begins = tx.begins in omega arith)
parted_there (x ∷ xs) [] tx ty = absurd (let begins = ty.begins in omega arith)
parted_there (x ∷ xs) (y ∷ ys) tx ty =
    let turns = tx.in_turn in
    let turns' = ty.in_turn in
    let at : x.0 ≡ 0 = turns.1 in
    let at' : y.0 ≡ 0 = turns'.1 in
    elim (same_change x y) as (λ b. same_change x y ≡ b → IfSome (parting (x ∷ xs) (y ∷ ys)) (λ m. same_value (wave_at (x ∷ xs) m) (wave_at (y ∷ ys) m) ≡ false)) [
      | true ↦ λ h.
          let same = same_pair x y h in
          let behind : MayGoOn x ys = subst (λ (z : ℕ × Value). MayGoOn z ys) (sym same) turns'.2 in
          rw h (subst (λ (z : ℕ × Value). IfSome (parting xs ys) (λ m. same_value (wave_at (x ∷ xs) m) (wave_at (z ∷ ys) m) ≡ false)) same (part_there x xs ys (parting xs ys) turns.2 behind at refl))
      | false ↦ λ h.
          let first : min x.0 y.0 ≡ 0 = omega arith in
          let own : wave_at (x ∷ xs) 0 ≡ x.1 = wave_behind x xs 0 at ∙ before_all x xs 0 (above x 0 xs (omega arith) turns.2) in
          let its : wave_at (y ∷ ys) 0 ≡ y.1 = wave_behind y ys 0 at' ∙ before_all y ys 0 (above y 0 ys (omega arith) turns'.2) in
          let differ = other_value x y h (omega arith) in
          rw h (subst (λ (n : ℕ). same_value (wave_at (x ∷ xs) n) (wave_at (y ∷ ys) n) ≡ false) (sym first) (rw (own, its) differ))
    ] refl

-- Places in lists of changes.

drop_there : (xs : List (ℕ × Value)) (k : ℕ) (x : ℕ × Value) → slice_get xs k ≡ Some x → drop k xs ≡ x ∷ drop (suc k) xs
drop_there [] k x at = absurd (cc)
drop_there (y ∷ xs) zero x at = let e : y ≡ x = cc in ap (λ z. z ∷ xs) e
drop_there (y ∷ xs) (suc k) x at = drop_there xs k x at

drop_past : (xs : List (ℕ × Value)) (k : ℕ) → slice_get xs k ≡ None → drop k xs ≡ []
drop_past [] zero at = refl
drop_past [] (suc k) at = refl
drop_past (y ∷ xs) zero at = absurd (cc)
drop_past (y ∷ xs) (suc k) at = drop_past xs k at

abbrev moment_at : List (ℕ × Value) → ℕ → Option ℕ
moment_at xs k = option_map (λ x. x.0) (slice_get xs k)

parted_by : (xs ys : List (ℕ × Value)) (o p : Option (ℕ × Value)) (k : ℕ) → slice_get xs k ≡ o → slice_get ys k ≡ p → ArePartedAtOnce (drop k xs) (drop k ys)
    → parting (drop k xs) (drop k ys) ≡ earlier (option_map (λ x. x.0) o) (option_map (λ x. x.0) p)
parted_by xs ys None None k is is' parted = rw (drop_past xs k is, drop_past ys k is') refl
parted_by xs ys None (Some y) k is is' parted = rw (drop_past xs k is, drop_there ys k y is') refl
parted_by xs ys (Some x) None k is is' parted = rw (drop_there xs k x is, drop_past ys k is') refl
parted_by xs ys (Some x) (Some y) k is is' parted =
    let own = drop_there xs k x is in
    let its = drop_there ys k y is' in
    let differ : same_change x y ≡ false = rw (own, its) at parted in
    rw (own, its, differ) refl

-- where lists part at once, it is at the earlier of their first changes
pub parting_at : (xs ys : List (ℕ × Value)) (k : ℕ) → ArePartedAtOnce (drop k xs) (drop k ys) → parting (drop k xs) (drop k ys) ≡ earlier (moment_at xs k) (moment_at ys k)
parting_at xs ys k parted = parted_by xs ys (slice_get xs k) (slice_get ys k) k refl refl parted

-- A step of the comparison.

digit_back : (v : Value) → value_of_digit (digit_of v) ≡ v
digit_back Zero = refl
digit_back One = refl
digit_back Unknown = refl
digit_back HighZ = refl

-- changes that are stored alike are the same
pub same_stored : (x y : ℕ × Value) → x.0 * 4 + digit_of x.1 ≡ y.0 * 4 + digit_of y.1 → x ≡ y
same_stored x y e =
    let low = digit_low x.1 in
    let low' = digit_low y.1 in
    let times : x.0 ≡ y.0 = omega arith in
    let digits : digit_of x.1 ≡ digit_of y.1 = omega arith in
    pair x.0 y.0 x.1 y.1 times (sym (digit_back x.1) ∙ ap value_of_digit digits ∙ digit_back y.1)

pub same_itself : (x : ℕ × Value) → same_change x x ≡ true
same_itself x = and_from (x.0 == x.0) (same_value x.1 x.1) (eq-eqb x.0 x.0 refl) (same_self x.1)

-- other changes that are stored otherwise
pub other_stored : (x y : ℕ × Value) → ((x.0 * 4 + digit_of x.1) == (y.0 * 4 + digit_of y.1)) ≡ false → same_change x y ≡ false
other_stored x y apart =
    elim (same_change x y) as (λ b. same_change x y ≡ b → same_change x y ≡ false) [
      | true ↦ λ h.
          let same = same_pair x y h in
          let number : x.0 * 4 + digit_of x.1 ≡ y.0 * 4 + digit_of y.1 = ap (λ (z : ℕ × Value). z.0 * 4 + digit_of z.1) same in
          absurd (let yes' = eq-eqb (x.0 * 4 + digit_of x.1) (y.0 * 4 + digit_of y.1) number in cc)
      | false ↦ λ h. h
    ] refl

-- one more change that both have
pub parting_next : (xs ys : List (ℕ × Value)) (k : ℕ) (x y : ℕ × Value) → slice_get xs k ≡ Some x → slice_get ys k ≡ Some y → x ≡ y → parting (drop k xs) (drop k ys) ≡ parting (drop (k + 1) xs) (drop (k + 1) ys)
parting_next xs ys k x y is is' same =
    let own = drop_there xs k x is in
    let its = drop_there ys k y is' in
    let alike : same_change x y ≡ true = subst (λ (z : ℕ × Value). same_change x z ≡ true) same (same_itself x) in
    rw (own, its, alike, add-one k) refl

-- Changes that both lists end with.

last_from : (before : Option (ℕ × Value)) (xs : List (ℕ × Value)) (k : ℕ) (x : ℕ × Value) (t : ℕ) → slice_get xs k ≡ Some x → x.0 ≤ t → last_or before (entries_until xs t) ≡ last_or None (entries_until (drop k xs) t)
last_from before [] k x t at low = absurd (cc)
last_from before (y ∷ ys) zero x t at low =
    let same : y ≡ x = cc in
    let time : y.0 ≡ x.0 = ap (λ (z : ℕ × Value). z.0) same in
    let h : nat_le y.0 t ≡ true = le-leb y.0 t (omega arith) in
    rw h refl
last_from before (y ∷ ys) (suc k) x t at low =
    elim (nat_le y.0 t) as (λ b. nat_le y.0 t ≡ b → last_or before (entries_until (y ∷ ys) t) ≡ last_or None (entries_until (drop k ys) t)) [
      | true ↦ λ h. rw h (last_from (Some y) ys k x t at low)
      | false ↦ λ h. rw h (last_from before ys k x t at low)
    ] refl

-- from a change on the value is that by the changes from it on
pub value_from : (xs : List (ℕ × Value)) (k : ℕ) (x : ℕ × Value) (t : ℕ) → slice_get xs k ≡ Some x → x.0 ≤ t → wave_at xs t ≡ wave_at (drop k xs) t
value_from xs k x t at low = ap (λ o. option_map_or (λ e. e.1) o Unknown) (last_from None xs k x t at low)

get_drop : (xs : List (ℕ × Value)) (k : ℕ) → slice_get xs k ≡ slice_get (drop k xs) 0
get_drop [] zero = refl
get_drop [] (suc k) = refl
get_drop (y ∷ xs) zero = refl
get_drop (y ∷ xs) (suc k) = get_drop xs k

-- two waves whose changes from some places on are the same
pub ends_alike : (xs ys : List (ℕ × Value)) (k l : ℕ) (x : ℕ × Value) → drop k xs ≡ drop l ys → slice_get xs k ≡ Some x → (t : ℕ) → x.0 ≤ t → wave_at xs t ≡ wave_at ys t
ends_alike xs ys k l x same at t low =
    let theirs : slice_get ys l ≡ Some x = get_drop ys l ∙ ap (λ (zs : List (ℕ × Value)). slice_get zs 0) (sym same) ∙ sym (get_drop xs k) ∙ at in
    value_from xs k x t at low ∙ ap (λ zs. wave_at zs t) same ∙ sym (value_from ys l x t theirs low)

-- one more change before the same ones
pub one_before : (xs ys : List (ℕ × Value)) (k l : ℕ) (x y : ℕ × Value) → slice_get xs k ≡ Some x → slice_get ys l ≡ Some y → x ≡ y → drop (suc k) xs ≡ drop (suc l) ys → drop k xs ≡ drop l ys
one_before xs ys k l x y at at' same rest = drop_there xs k x at ∙ (λ i. same i ∷ rest i) ∙ sym (drop_there ys l y at')
