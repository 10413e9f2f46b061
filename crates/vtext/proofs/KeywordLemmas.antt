-- Bytes that are not like a word are none of the words.
use Rattle.std.proofs.Common.{◌≡◌, ◌≢◌, ℕ, Bool, true, false, ◌&&◌, ◌||◌, cond, List, [], ◌∷◌, Some, None, nat_eq, refl, ap, codes}
use Rattle.std.proofs.lemmas.Slice.Eq.{bytes_eq-Decides}
use Rattle.std.specs.Cmp.Lexicographic.{pointwise}
use Rattle.std.specs.List.{find, list_all, list_any}
use Rattle.std.specs.Str.{bytes_eq}
use Rattle.fourstate.specs.Keywords.{gate_keyword, gate_kinds, net_keyword, net_kinds}
use Rattle.fourstate.specs.declared.gate.GateKind.{GateKind}
use Rattle.fourstate.specs.declared.net.NetKind.{NetKind}
use Rattle.vtext.specs.Keywords.{is_refused, name_word, plain_word, refused_words}
use Rattle.vtext.specs.kept.Keywords.{is_wordlike}

-- What all like a word fail.

none_found : {X : Type 0} (like test : X → Bool) → ((x : X) → like x ≡ true → test x ≡ false) → (xs : List X) → list_all like xs ≡ true → find test xs ≡ None
none_found like test fails [] h = refl
none_found like test fails (x ∷ xs) h = step (like x) (fails x) (none_found like test fails xs) h
  where
    step : (b : Bool) → (b ≡ true → test x ≡ false) → (list_all like xs ≡ true → find test xs ≡ None) → (b && list_all like xs) ≡ true → cond (test x) (Some x) (find test xs) ≡ None
    step true here rest h = rw (here refl) (rest h)
    step false here rest h = absurd cc

none_passes : {X : Type 0} (like test : X → Bool) → ((x : X) → like x ≡ true → test x ≡ false) → (xs : List X) → list_all like xs ≡ true → list_any test xs ≡ false
none_passes like test fails [] h = refl
none_passes like test fails (x ∷ xs) h = step (like x) (fails x) (none_passes like test fails xs) h
  where
    step : (b : Bool) → (b ≡ true → test x ≡ false) → (list_all like xs ≡ true → list_any test xs ≡ false) → (b && list_all like xs) ≡ true → (test x || list_any test xs) ≡ false
    step true here rest h = rw (here refl) (rest h)
    step false here rest h = absurd cc

-- Bytes that are not like a word.

differs : (a b : List ℕ) → is_wordlike a ≢ is_wordlike b → bytes_eq a b ≡ false
differs a b other = step (bytes_eq a b) refl
  where
    step : (same : Bool) → bytes_eq a b ≡ same → bytes_eq a b ≡ false
    step true e = absurd (other (ap is_wordlike ((bytes_eq-Decides a b).0 e)))
    step false e = e

module _ (names : List (List ℕ)) (bytes : List ℕ) (unlike : is_wordlike bytes ≡ false) where
  is_no : (word : List ℕ) → is_wordlike word ≡ true → bytes_eq bytes word ≡ false
  is_no word like = differs bytes word (λ (same : is_wordlike bytes ≡ is_wordlike word). cc)

  no_word_is : (word : List ℕ) → is_wordlike word ≡ true → bytes_eq word bytes ≡ false
  no_word_is word like = differs word bytes (λ (same : is_wordlike word ≡ is_wordlike bytes). cc)

  no_net : find (λ kind. pointwise nat_eq (net_keyword kind) bytes) net_kinds ≡ None
  no_net =
      none_found (λ kind. is_wordlike (net_keyword kind)) (λ kind. pointwise nat_eq (net_keyword kind) bytes) (λ (kind : NetKind). no_word_is (net_keyword kind)) net_kinds refl

  no_gate : find (λ kind. pointwise nat_eq (gate_keyword kind) bytes) gate_kinds ≡ None
  no_gate =
      none_found (λ kind. is_wordlike (gate_keyword kind)) (λ kind. pointwise nat_eq (gate_keyword kind) bytes) (λ (kind : GateKind). no_word_is (gate_keyword kind)) gate_kinds refl

  not_refused : is_refused bytes ≡ false
  unfolding is_refused
  not_refused = none_passes is_wordlike (bytes_eq bytes) is_no refused_words refl

  pub no_word : plain_word names bytes ≡ name_word names bytes
  no_word = rw (is_no (codes "module") refl, is_no (codes "endmodule") refl, is_no (codes "input") refl, is_no (codes "output") refl, no_net, no_gate, not_refused) refl
