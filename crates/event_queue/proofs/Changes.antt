-- What becomes of numbers that are noted.
use Rattle.std.proofs.Common.{◌≡◌, ◌≢◌, ◌<◌, ◌∙◌, ap, sym, subst, refl, Bool, true, false, cond, ℕ, List, [], ◌∷◌, ◌++◌, Option, Some, None, IfSome, IfNone, Result, Ok, Err, OnOk, OnErr, ◌⊎◌, inl, inr, unwrap_or, append-nil, append_assoc, arith}
use Rattle.std.specs.Map.{lookup}
use Rattle.std.specs.Option.{option_map_or}
use Rattle.std.specs.Ordering.{is_eq, nat_cmp}
use Rattle.std.specs.Prelude.{nat_eq, min}
use Rattle.std.proofs.lemmas.Bool.Decides.{nat_tests}
use Rattle.event_queue.specs.kept.Noted.{AreSame, IsAdded, IsTaken, noted}
use Rattle.event_queue.specs.kept.Lists.{IsFirst, joined}
use Rattle.event_queue.proofs.Moments.{not_empty, same_moment}

abbrev Queue : Type 0
Queue = List (ℕ × List ℕ)

pub held_err : {A E P : Type 0} (r : Result A E) → P → OnErr r P
held_err (Ok x) p = tt
held_err (Err e) p = p

pub by_ok : {A E P Q : Type 0} (r : Result A E) → OnOk r P → (P → Q) → OnOk r Q
by_ok (Ok x) p f = f p
by_ok (Err e) p f = tt

pub by_err : {A E P Q : Type 0} (r : Result A E) → OnErr r P → (P → Q) → OnErr r Q
by_err (Ok x) p f = tt
by_err (Err e) p f = f p

pub by_some : (P Q : ℕ → Type 0) (r : Option ℕ) → IfSome r P → ((t : ℕ) → P t → Q t) → IfSome r Q
by_some P Q None p f = tt
by_some P Q (Some t) p f = f t p

pub by_none : {P Q : Type 0} (r : Option ℕ) → IfNone r P → (P → Q) → IfNone r Q
by_none None p f = f p
by_none (Some t) p f = tt

lesser_by : (P : ℕ → Type 0) (a b : ℕ) → P a → P b → (min a b ≡ a) ⊎ (min a b ≡ b) → P (min a b)
lesser_by P a b pa pb (inl e) = subst P (sym e) pa
lesser_by P a b pa pb (inr e) = subst P (sym e) pb

pub lesser : (P : ℕ → Type 0) (a b : ℕ) → P a → P b → P (min a b)
lesser P a b pa pb = lesser_by P a b pa pb (search arith)

pub same_after : (a b c : Queue) → AreSame a b → AreSame b c → AreSame a c
same_after a b c one two u = two u ∙ one u

pub added_after : (t number : ℕ) (a b c : Queue) → AreSame a b → IsAdded t number b c → IsAdded t number a c
added_after t number a b c same added u = added u ∙ ap (λ l. cond (nat_eq t u) (l ++ number ∷ []) l) (same u)

nothing_by : (t : ℕ) (queue : Queue) → noted queue t ≡ [] → (u : ℕ) (b : Bool) → nat_eq t u ≡ b → noted queue u ≡ cond b [] (noted queue u)
nothing_by t queue none u true same = let is : t ≡ u = grind (arith, nat_tests) in ap (noted queue) (sym is) ∙ none
nothing_by t queue none u false apart = refl

-- where there is nothing, nothing is taken
pub nothing_taken : (t : ℕ) (queue : Queue) → noted queue t ≡ [] → IsTaken t queue queue
nothing_taken t queue none u = nothing_by t queue none u (nat_eq t u) refl

-- The first moment.

pub first_same : (old new : Queue) (first : Option ℕ) → AreSame old new → IsFirst old first → IsFirst new first
first_same old new None same is = record { there = tt; least = tt; none = λ u. same u ∙ is.none u }
first_same old new (Some t) same is = record { there = λ e. is.there (sym (same t) ∙ e); least = λ u low. same u ∙ is.least u low; none = tt }

-- before it there is nothing
pub none_under : (queue : Queue) (first : Option ℕ) (t : ℕ) → IsFirst queue first → (u : ℕ) → u < unwrap_or first t → noted queue u ≡ []
none_under queue None t is u low = is.none u
none_under queue (Some f) t is u low = is.least u low

module _ (old new : Queue) (t number : ℕ) (added : IsAdded t number old new) where
  stays_by : (l : List ℕ) (b : Bool) → l ≢ [] → cond b (l ++ number ∷ []) l ≢ []
  stays_by l true some = not_empty l number
  stays_by l false some = some

  stays : (u : ℕ) → noted old u ≢ [] → noted new u ≢ []
  stays u some e = stays_by (noted old u) (nat_eq t u) some (sym (added u) ∙ e)

  comes : noted new t ≢ []
  comes e =
      let is : nat_eq t t ≡ true = grind (arith, nat_tests) in
      not_empty (noted old t) number (ap (λ (b : Bool). cond b (noted old t ++ number ∷ []) (noted old t)) (sym is) ∙ sym (added t) ∙ e)

  under : (u : ℕ) → u < t → noted old u ≡ [] → noted new u ≡ []
  under u low none =
      let apart : nat_eq t u ≡ false = grind (arith, nat_tests) in
      added u ∙ ap (λ (b : Bool). cond b (noted old u ++ number ∷ []) (noted old u)) apart ∙ none

  first_of_both : (f : ℕ) → noted new f ≢ [] → ((u : ℕ) → u < f → noted old u ≡ []) → IsFirst new (Some (min f t))
  first_of_both f some none = record { there = lesser (λ v. noted new v ≢ []) f t some comes; least = λ u low. under u (omega arith) (none u (omega arith)); none = tt }

  pub first_added : (first : Option ℕ) → IsFirst old first → IsFirst new (Some (min (unwrap_or first t) t))
  first_added None is = first_of_both t comes (λ u low. is.none u)
  first_added (Some f) is = first_of_both f (stays f is.there) is.least

-- Two queues as one.

both_by : (first rest : Queue) (t m : ℕ) (list : List ℕ) (b : Bool) → nat_eq t m ≡ b → noted (joined first rest) t ≡ noted first t ++ noted rest t →
    option_map_or (λ numbers. numbers) (cond b (Some (noted first m ++ list)) (lookup (λ moment. is_eq (nat_cmp t moment)) (joined first rest))) []
    ≡ noted first t ++ option_map_or (λ numbers. numbers) (cond b (Some list) (lookup (λ moment. is_eq (nat_cmp t moment)) rest)) []
both_by first rest t m list true same others = let is : m ≡ t = grind (arith, nat_tests) in ap (λ v. noted first v ++ list) is
both_by first rest t m list false apart others = others

pub noted_joined : (first second : Queue) (t : ℕ) → noted (joined first second) t ≡ noted first t ++ noted second t
noted_joined first [] t = sym (append-nil (noted first t))
noted_joined first (e ∷ rest) t =
    let test : is_eq (nat_cmp t e.0) ≡ nat_eq t e.0 = same_moment t e.0 in
    ap (λ (b : Bool). option_map_or (λ numbers. numbers) (cond b (Some (noted first e.0 ++ e.1)) (lookup (λ moment. is_eq (nat_cmp t moment)) (joined first rest))) []) test
    ∙ both_by first rest t e.0 e.1 (nat_eq t e.0) refl (noted_joined first rest t)
    ∙ ap (λ (b : Bool). noted first t ++ option_map_or (λ numbers. numbers) (cond b (Some e.1) (lookup (λ moment. is_eq (nat_cmp t moment)) rest)) []) (sym test)

module _ (first second first_new second_new : Queue) where
  pub joined_same : AreSame first first_new → AreSame second second_new → AreSame (joined first second) (joined first_new second_new)
  joined_same one two u =
      noted_joined first_new second_new u ∙ ap (λ l. l ++ noted second_new u) (one u) ∙ ap (λ l. noted first u ++ l) (two u) ∙ sym (noted_joined first second u)

  taken_by : (b : Bool) (one two : List ℕ) → cond b [] one ++ cond b [] two ≡ cond b [] (one ++ two)
  taken_by true one two = refl
  taken_by false one two = refl

  pub joined_taken : (t : ℕ) → IsTaken t first first_new → IsTaken t second second_new → IsTaken t (joined first second) (joined first_new second_new)
  joined_taken t one two u =
      noted_joined first_new second_new u ∙ ap (λ l. l ++ noted second_new u) (one u) ∙ ap (λ l. cond (nat_eq t u) [] (noted first u) ++ l) (two u)
      ∙ taken_by (nat_eq t u) (noted first u) (noted second u) ∙ ap (λ l. cond (nat_eq t u) [] l) (sym (noted_joined first second u))

  behind_by : (b : Bool) (number : ℕ) (one two : List ℕ) → one ++ cond b (two ++ number ∷ []) two ≡ cond b ((one ++ two) ++ number ∷ []) (one ++ two)
  behind_by true number one two = sym (append_assoc one two (number ∷ []))
  behind_by false number one two = refl

  -- a number more behind the others
  pub joined_behind : (t number : ℕ) → AreSame first first_new → IsAdded t number second second_new → IsAdded t number (joined first second) (joined first_new second_new)
  joined_behind t number one two u =
      noted_joined first_new second_new u ∙ ap (λ l. l ++ noted second_new u) (one u) ∙ ap (λ l. noted first u ++ l) (two u)
      ∙ behind_by (nat_eq t u) number (noted first u) (noted second u) ∙ ap (λ l. cond (nat_eq t u) (l ++ number ∷ []) l) (sym (noted_joined first second u))

  ahead_by : (t number u : ℕ) (b : Bool) → nat_eq t u ≡ b → noted second t ≡ [] →
      cond b (noted first u ++ number ∷ []) (noted first u) ++ noted second u ≡ cond b ((noted first u ++ noted second u) ++ number ∷ []) (noted first u ++ noted second u)
  ahead_by t number u true same none =
      let is : t ≡ u = grind (arith, nat_tests) in
      let here : noted second u ≡ [] = ap (noted second) (sym is) ∙ none in
      ap (λ l. (noted first u ++ number ∷ []) ++ l) here ∙ append-nil (noted first u ++ number ∷ []) ∙ ap (λ l. l ++ number ∷ []) (sym (append-nil (noted first u)) ∙ ap (λ l. noted first u ++ l) (sym here))
  ahead_by t number u false apart none = refl

  -- a number more, where no others are behind it
  pub joined_ahead : (t number : ℕ) → IsAdded t number first first_new → AreSame second second_new → noted second_new t ≡ [] → IsAdded t number (joined first second) (joined first_new second_new)
  joined_ahead t number one two none u =
      noted_joined first_new second_new u ∙ ap (λ l. l ++ noted second_new u) (one u) ∙ ap (λ l. cond (nat_eq t u) (noted first u ++ number ∷ []) (noted first u) ++ l) (two u)
      ∙ ahead_by t number u (nat_eq t u) refl (sym (two t) ∙ none) ∙ ap (λ l. cond (nat_eq t u) (l ++ number ∷ []) l) (sym (noted_joined first second u))

-- one of them has no number where both together have none
pub none_first : (first second : Queue) (t : ℕ) → noted (joined first second) t ≡ [] → noted first t ≡ []
none_first first second t none = left (noted first t) (noted second t) (sym (noted_joined first second t) ∙ none)
  where
    left : (one two : List ℕ) → one ++ two ≡ [] → one ≡ []
    left [] two e = refl
    left (x ∷ one) two e = absurd (cc)

pub none_second : (first second : Queue) (t : ℕ) → noted (joined first second) t ≡ [] → noted second t ≡ []
none_second first second t none = right (noted first t) (noted second t) (sym (noted_joined first second t) ∙ none)
  where
    right : (one two : List ℕ) → one ++ two ≡ [] → two ≡ []
    right [] two e = e
    right (x ∷ one) two e = absurd (cc)

pub none_both : (first second : Queue) (t : ℕ) → noted first t ≡ [] → noted second t ≡ [] → noted (joined first second) t ≡ []
none_both first second t one two = noted_joined first second t ∙ ap (λ l. l ++ noted second t) one ∙ two

-- Where the first queue has nothing for a moment, and nothing is there, the numbers of the second one are all.
pub exchanged : (old new : List ℕ) (first second now : Queue) (t : ℕ) → joined first second ≡ now → old ≡ [] → noted first t ≡ [] → new ≡ noted second t → new ≡ old ++ noted now t
exchanged old new first second now t view empty none is =
    is ∙ sym (ap (λ l. l ++ noted second t) none) ∙ sym (noted_joined first second t) ∙ ap (λ q. noted q t) view ∙ sym (ap (λ l. l ++ noted now t) empty)
