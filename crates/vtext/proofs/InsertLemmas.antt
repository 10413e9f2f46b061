-- A list of nets keeps what it has where one is added or said more of.
use Rattle.std.proofs.Common.{◌≡◌, ◌≢◌, ℕ, zero, suc, Bool, true, false, cond, ◌||◌, List, [], ◌∷◌, Option, None, Some, unwrap_or, IsSome, All, AllPairs, nat_eq, refl, sym, subst, ap, ◌∙◌, arith, true≢false}
use Rattle.std.proofs.lemmas.Bool.Decides.{nat_tests}
use Rattle.std.proofs.lemmas.List.Elements.{All-nil, All-cons, All-head, All-tail}
use Rattle.indexmap.specs.IndexMap.{insert_entry}
use Rattle.vtext.specs.declared.net.Net.{Net}
use Rattle.vtext.specs.Nets.{blank, is_declared, is_used, net_of, used, with_net, with_use}

same_number : (n : ℕ) → nat_eq n n ≡ true
same_number n = grind (arith, nat_tests)

apart_numbers : (a b : ℕ) → nat_eq a b ≡ false → b ≢ a
apart_numbers a b h e = true≢false (sym (ap (λ (n : ℕ). nat_eq n b) (sym e) ∙ same_number b) ∙ h)

pub same_numbers : (a b : ℕ) → nat_eq a b ≡ true → a ≡ b
same_numbers a b h = grind (arith, nat_tests)

-- what holds of each entry, and of the one that is put in
pub entries_kept : {V : Type 0} (P : ℕ × V → Type 0) (es : List (ℕ × V)) (n : ℕ) (v : V) → P (n, v) → All P es → All P (insert_entry nat_eq es n v)
entries_kept P [] n v good all = All-cons P (n, v) [] good all
entries_kept {V} P (e ∷ es) n v good all = step (nat_eq n e.0) refl (All-head P e es all) (All-tail P e es all) (entries_kept P es n v good (All-tail P e es all))
  where
    step : (b : Bool) → nat_eq n e.0 ≡ b → P e → All P es → All P (insert_entry nat_eq es n v) → All P (cond b ((e.0, v) ∷ es) (e ∷ insert_entry nat_eq es n v))
    step true same first rest more = All-cons P (e.0, v) es (subst (λ (k : ℕ). P (k, v)) (same_numbers n e.0 same) good) rest
    step false same first rest more = All-cons P e (insert_entry nat_eq es n v) first more

-- the nets that are there stay there
pub net_kept : (nets : List (ℕ × Net)) (n : ℕ) (net : Net) (q : ℕ) → IsSome (net_of nets q) → IsSome (net_of (with_net nets n net) q)
net_kept [] n net q h = absurd cc
net_kept (e ∷ es) n net q h = step (nat_eq n e.0) (net_kept es n net q)
  where
    here : (b : Bool) → IsSome (cond b (Some e.1) (net_of es q)) → IsSome (cond b (Some net) (net_of es q))
    here true h = refl
    here false h = h

    there : (b : Bool) → (IsSome (net_of es q) → IsSome (net_of (with_net es n net) q))
        → IsSome (cond b (Some e.1) (net_of es q)) → IsSome (cond b (Some e.1) (net_of (with_net es n net) q))
    there true rest h = refl
    there false rest h = rest h

    step : (b : Bool) → (IsSome (net_of es q) → IsSome (net_of (with_net es n net) q))
        → IsSome (net_of (cond b ((e.0, net) ∷ es) (e ∷ with_net es n net)) q)
    step true rest = here (nat_eq q e.0) h
    step false rest = there (nat_eq q e.0) rest h

-- and the one is there
pub net_there : (nets : List (ℕ × Net)) (n : ℕ) (net : Net) → IsSome (net_of (with_net nets n net) n)
net_there [] n net = rw (same_number n) refl
net_there (e ∷ es) n net = step (nat_eq n e.0) refl (net_there es n net)
  where
    there : (b : Bool) → IsSome (net_of (with_net es n net) n) → IsSome (cond b (Some e.1) (net_of (with_net es n net) n))
    there true h = refl
    there false h = h

    step : (b : Bool) → nat_eq n e.0 ≡ b → IsSome (net_of (with_net es n net) n) → IsSome (net_of (cond b ((e.0, net) ∷ es) (e ∷ with_net es n net)) n)
    step true same rest = rw same refl
    step false same rest = there (nat_eq n e.0) rest

-- A net that says what it said leaves the list as it was.

same_net : (nets : List (ℕ × Net)) (n : ℕ) (net : Net) → net_of nets n ≡ Some net → with_net nets n net ≡ nets
same_net [] n net h = absurd cc
same_net (e ∷ es) n net h = step (nat_eq n e.0) (same_net es n net) h
  where
    step : (b : Bool) → (net_of es n ≡ Some net → with_net es n net ≡ es) → cond b (Some e.1) (net_of es n) ≡ Some net → cond b ((e.0, net) ∷ es) (e ∷ with_net es n net) ≡ e ∷ es
    step true rest h = let same : e.1 ≡ net = cc in ap (λ (x : Net). (e.0, x) ∷ es) (sym same)
    step false rest h = ap (λ (more : List (ℕ × Net)). e ∷ more) (rest h)

used_again : (net : Net) → is_used net ≡ true → used net ≡ net
used_again net h = step (is_declared net) net.implicit refl h
  where
    step : (declared implicit : Bool) → net.implicit ≡ implicit → (declared || implicit) ≡ true → cond declared net (record net { implicit = true }) ≡ net
    step true implicit e h = refl
    step false true e h = ap (λ (b : Bool). record net { implicit = b }) (sym e)
    step false false e h = absurd cc

pub use_again : (nets : List (ℕ × Net)) (n : ℕ) → is_used (unwrap_or (net_of nets n) blank) ≡ true → with_use nets n ≡ nets
use_again nets n h = step (net_of nets n) refl h
  where
    step : (found : Option Net) → net_of nets n ≡ found → is_used (unwrap_or found blank) ≡ true → with_net nets n (used (unwrap_or found blank)) ≡ nets
    step None e h = absurd cc
    step (Some net) e h = ap (with_net nets n) (used_again net h) ∙ same_net nets n net e

-- what holds of each number, and of the one
pub numbers_kept : (P : ℕ → Type 0) (nets : List (ℕ × Net)) (n : ℕ) (net : Net) → P n → All (λ x. P x.0) nets → All (λ x. P x.0) (with_net nets n net)
numbers_kept P [] n net good all = All-cons (λ (x : ℕ × Net). P x.0) (n, net) [] good all
numbers_kept P (e ∷ es) n net good all =
    let Q : ℕ × Net → Type 0 = λ x. P x.0 in
    let first : P e.0 = All-head Q e es all in
    let rest : All Q es = All-tail Q e es all in
    step (nat_eq n e.0) first rest (numbers_kept P es n net good rest)
  where
    step : (b : Bool) → P e.0 → All (λ x. P x.0) es → All (λ x. P x.0) (with_net es n net) → All (λ x. P x.0) (cond b ((e.0, net) ∷ es) (e ∷ with_net es n net))
    step true first rest more = All-cons (λ (x : ℕ × Net). P x.0) (e.0, net) es first rest
    step false first rest more = All-cons (λ (x : ℕ × Net). P x.0) e (with_net es n net) first more

-- The numbers differ.

abbrev pub AreApart : List (ℕ × Net) → Type 0
AreApart [] = Unit {0}
AreApart (e ∷ es) = All (λ x. e.0 ≢ x.0) es × AreApart es

pub apart_kept : (nets : List (ℕ × Net)) (n : ℕ) (net : Net) → AreApart nets → AreApart (with_net nets n net)
apart_kept [] n net h = (All-nil (λ (x : ℕ × Net). n ≢ x.0), tt)
apart_kept (e ∷ es) n net h = step (nat_eq n e.0) refl (apart_kept es n net h.1)
  where
    step : (b : Bool) → nat_eq n e.0 ≡ b → AreApart (with_net es n net) → AreApart (cond b ((e.0, net) ∷ es) (e ∷ with_net es n net))
    step true same rest = h
    step false other rest = (numbers_kept (λ (k : ℕ). e.0 ≢ k) es n net (apart_numbers n e.0 other) h.0, rest)

pub pairs_apart : (nets : List (ℕ × Net)) → AreApart nets → AllPairs (λ a b. a.0 ≢ b.0) nets
pairs_apart [] h i j d less within = absurd (omega arith)
pairs_apart (e ∷ es) h zero zero d less within = absurd (omega arith)
pairs_apart (e ∷ es) h zero (suc j) d less within = h.0 j d (omega arith)
pairs_apart (e ∷ es) h (suc i) zero d less within = absurd (omega arith)
pairs_apart (e ∷ es) h (suc i) (suc j) d less within = pairs_apart es h.1 i j d (omega arith) (omega arith)
