-- White space in front of bytes stays so whatever stands behind the byte that follows it.
use Rattle.std.proofs.Common.{◌≡◌, ◌≢◌, ◌+◌, ◌-◌, ◌<◌, ◌≤◌, ℕ, zero, suc, Bool, true, false, cond, not, List, [], ◌∷◌, ◌++◌, Option, None, Some, length, take, drop, get_or, refl, sym, ap, ◌∙◌, arith, length-append, nat_eq, nat_le}
use Rattle.std.specs.List.{prefix_len}
use Rattle.std.specs.Str.{bytes_eq}
use Rattle.std.proofs.lemmas.Bool.{false≢true}
use Rattle.std.proofs.lemmas.Bool.Decides.{nat_tests}
use Rattle.std.proofs.lemmas.List.{take-append-le, drop-append-le, get_or_at, length-drop}
use Rattle.std.proofs.lemmas.List.Sums.{prefix_len_stops}
use Rattle.memchr.specs.Find.{occurs_at, matches, matches_from, first_of}
use Rattle.lexing.proofs.SpaceLemmas.{next_behind, behind-cons, none_in_front}
use Rattle.lexing.specs.Classes.{is_space}
use Rattle.lexing.specs.Spaces.{white_space, opening_of, opened, pair_opening, behind, line_length, enclosed, enclosed_up_to}
use Rattle.lexing.specs.declared.spaces.Opening.{Opening}
use Rattle.lexing.specs.declared.spaces.Opening.TheVariants as opens
use Rattle.lexing.specs.declared.spaces.White.{White}
use Rattle.lexing.specs.declared.spaces.White.TheVariants as piece

-- the first place of a needle

first_if : (test : Bool) (i : ℕ) (here later : List ℕ) → first_of (cond test (i ∷ here) later) ≡ cond test (Some i) (first_of later)
unfolding first_of
first_if true i here later = refl
first_if false i here later = refl

first_from : (hay needle : List ℕ) (i n : ℕ) →
    first_of (matches_from hay needle 0 i (suc n)) ≡ cond (occurs_at hay needle i) (Some i) (first_of (matches_from hay needle 0 (i + 1) n))
unfolding matches_from
first_from hay needle i n = first_if (occurs_at hay needle i) i _ _

no_first : (hay needle : List ℕ) (i : ℕ) → first_of (matches_from hay needle 0 i 0) ≡ None
unfolding matches_from first_of
no_first hay needle i = refl

low_by : (test : Bool) (i at : ℕ) (later : Option ℕ) → cond test (Some i) later ≡ Some at → (later ≡ Some at → i + 1 ≤ at) → i ≤ at
low_by true i at later e h = let same : i ≡ at = cc in omega (arith, same)
low_by false i at later e h = let le = h e in omega (arith, le)

none_or_some : (read : Option ℕ) (at : ℕ) → read ≡ None → read ≡ Some at → ⊥
none_or_some read at none some = cc

first_low : (hay needle : List ℕ) (i n at : ℕ) → first_of (matches_from hay needle 0 i n) ≡ Some at → i ≤ at
first_low hay needle i zero at e = absurd (none_or_some _ at (no_first hay needle i) e)
first_low hay needle i (suc n) at e =
    low_by (occurs_at hay needle i) i at _ (sym (first_from hay needle i n) ∙ e) (λ later. first_low hay needle (i + 1) n at later)

again_by : (test same : Bool) (i at : ℕ) (later others : Option ℕ) → test ≡ same → cond test (Some i) later ≡ Some at →
    (later ≡ Some at → others ≡ Some at) → cond same (Some i) others ≡ Some at
again_by true same i at later others e is h = rw (← e) is
again_by false same i at later others e is h = rw (← e) (h is)

first_again : (hay others needle : List ℕ) (at i n m : ℕ) → ((k : ℕ) → k ≤ at → occurs_at hay needle k ≡ occurs_at others needle k) → at < i + m →
    first_of (matches_from hay needle 0 i n) ≡ Some at → first_of (matches_from others needle 0 i m) ≡ Some at
first_again hay others needle at i zero m same room e = absurd (none_or_some _ at (no_first hay needle i) e)
first_again hay others needle at i (suc n) zero same room e = let low = first_low hay needle i (suc n) at e in absurd (omega (arith, low, room))
first_again hay others needle at i (suc n) (suc m) same room e =
    let low = first_low hay needle i (suc n) at e in
    first_from others needle i m
    ∙ again_by (occurs_at hay needle i) (occurs_at others needle i) i at _ _ (same i low) (sym (first_from hay needle i n) ∙ e)
    (λ later. first_again hay others needle at (i + 1) n m same (omega (arith, room)) later)

occurs_front : (xs ys needle : List ℕ) (k : ℕ) → k + length needle ≤ length xs →
    occurs_at (xs ++ ys) needle k ≡ bytes_eq (take (length needle) (drop k xs)) needle
occurs_front xs ys needle k fits =
    let enough : nat_le (k + length needle) (length (xs ++ ys)) ≡ true = grind (arith, nat_tests, length-append xs ys) in
    let dropped : drop k (xs ++ ys) ≡ drop k xs ++ ys = drop-append-le k xs ys (omega arith) in
    let taken : take (length needle) (drop k xs ++ ys) ≡ take (length needle) (drop k xs) =
    take-append-le (length needle) (drop k xs) ys (omega (arith, length-drop k xs)) in
    rw (enough, dropped, taken) refl

closing_again : (xs ys zs closing : List ℕ) (at : ℕ) → at + length closing ≤ length xs → first_of (matches (xs ++ ys) closing 0) ≡ Some at →
    first_of (matches (xs ++ zs) closing 0) ≡ Some at
closing_again xs ys zs closing at fits e =
    first_again (xs ++ ys) (xs ++ zs) closing at 0 _ _
    (λ k le. occurs_front xs ys closing k (omega arith) ∙ sym (occurs_front xs zs closing k (omega arith)))
    (omega (arith, length-append xs zs)) e

-- the end of a line

prefix_by : (p : ℕ → Bool) (x : ℕ) (v : Bool) (m n size : ℕ) → p x ≡ v → cond v (1 + m) 0 < suc size → (m < size → n ≡ m) → cond v (1 + n) 0 ≡ cond v (1 + m) 0
prefix_by p x true m n size is less h = ap (λ k. 1 + k) (h (omega arith))
prefix_by p x false m n size is less h = refl

prefix_again : (p : ℕ → Bool) (xs ys zs : List ℕ) → prefix_len p (xs ++ ys) < length xs → prefix_len p (xs ++ zs) ≡ prefix_len p (xs ++ ys)
prefix_again p [] ys zs less = absurd (omega arith)
prefix_again p (x ∷ xs) ys zs less =
    prefix_by p x (p x) (prefix_len p (xs ++ ys)) (prefix_len p (xs ++ zs)) (length xs) refl less (λ h. prefix_again p xs ys zs h)

line_feed_is_space : (t : ℕ) → not (nat_eq t 10) ≡ false → is_space t ≡ true
unfolding is_space
line_feed_is_space t h = grind (arith, nat_tests)

line_at : (xs rest : List ℕ) (t : ℕ) → line_length (xs ++ t ∷ rest) ≡ length xs → is_space t ≡ true
line_at xs rest t is =
    let less : line_length (xs ++ t ∷ rest) < length (xs ++ t ∷ rest) = omega (arith, is, length-append xs (t ∷ rest)) in
    let stops = prefix_len_stops (λ b. not (nat_eq b 10)) (xs ++ t ∷ rest) 0 less in
    let byte : get_or (xs ++ t ∷ rest) (line_length (xs ++ t ∷ rest)) 0 ≡ t = rw is (get_or_at xs t rest 0 (length xs) refl) in
    line_feed_is_space t (sym (ap (λ b. not (nat_eq b 10)) byte) ∙ stops)

line_within : (xs rest : List ℕ) (t : ℕ) → is_space t ≡ false → line_length (xs ++ t ∷ rest) ≤ length xs → line_length (xs ++ t ∷ rest) < length xs
line_within xs rest t solid le =
    let other : line_length (xs ++ t ∷ rest) ≢ length xs = λ is. false≢true (sym solid ∙ line_at xs rest t is) in
    omega (arith, le, other)

line_again : (xs rest more : List ℕ) (t : ℕ) → is_space t ≡ false → line_length (xs ++ t ∷ rest) ≤ length xs →
    line_length (xs ++ t ∷ more) ≡ line_length (xs ++ t ∷ rest)
line_again xs rest more t solid le =
    prefix_again _ xs (t ∷ rest) (t ∷ more) (line_within xs rest t solid le)

-- a piece of white space

takes_value : (m n : ℕ) → piece.Takes m ≡ piece.Takes n → m ≡ n
takes_value m n e = cc

pub nothing_takes : (n : ℕ) → piece.Nothing ≡ piece.Takes n → ⊥
nothing_takes n e = cc

unending_takes : (n : ℕ) → piece.Unending ≡ piece.Takes n → ⊥
unending_takes n e = cc

enclosed_at : (found : Option ℕ) (n : ℕ) → enclosed_up_to found ≡ piece.Takes n → (at : ℕ) × (found ≡ Some at) × (at + 4 ≡ n)
enclosed_at None n e = absurd (unending_takes n e)
enclosed_at (Some at) n e = (at, refl, takes_value (at + 4) n e)

enclosed_again : (xs rest more closing : List ℕ) (n : ℕ) → length closing ≡ 2 → enclosed (xs ++ rest) closing ≡ piece.Takes n → n ≤ 2 + length xs →
    enclosed (xs ++ more) closing ≡ piece.Takes n
enclosed_again xs rest more closing n two e fits =
    let found = enclosed_at _ n e in
    let at = found.0 in
    let same = found.2 in
    ap enclosed_up_to (closing_again xs rest more closing at (omega (arith, two, same, fits)) found.1) ∙ ap piece.Takes same

opened_again : (o : Opening) (xs rest more : List ℕ) (t n : ℕ) → is_space t ≡ false → opened o (xs ++ t ∷ rest) ≡ piece.Takes n → n ≤ 2 + length xs →
    opened o (xs ++ t ∷ more) ≡ piece.Takes n
opened_again opens.Nothing xs rest more t n solid e fits = absurd (nothing_takes n e)
opened_again opens.Space xs rest more t n solid e fits = e
opened_again opens.Line xs rest more t n solid e fits =
    let same = takes_value _ n e in
    ap (λ k. piece.Takes (2 + k)) (line_again xs rest more t solid (omega (arith, same, fits))) ∙ e
opened_again opens.Block xs rest more t n solid e fits = enclosed_again xs (t ∷ rest) (t ∷ more) _ n refl e fits
opened_again opens.Attribute xs rest more t n solid e fits = enclosed_again xs (t ∷ rest) (t ∷ more) _ n refl e fits

opened_if : (space : Bool) (o : Opening) (bytes : List ℕ) → opened (cond space opens.Space o) bytes ≡ cond space (piece.Takes 1) (opened o bytes)
opened_if true o bytes = refl
opened_if false o bytes = refl

-- white space by the first two bytes
pub white_pair : (a b : ℕ) (bytes : List ℕ) → white_space (a ∷ b ∷ bytes) ≡ cond (is_space a) (piece.Takes 1) (opened (pair_opening a b) bytes)
unfolding white_space opening_of
white_pair a b bytes = opened_if (is_space a) (pair_opening a b) bytes

closed_length : (found : Option ℕ) (n : ℕ) → enclosed_up_to found ≡ piece.Takes n → 2 ≤ n
closed_length found n e = let parts = enclosed_at found n e in let same = parts.2 in omega (arith, same)

pair_by : (x y z : Bool) (bytes : List ℕ) (n : ℕ) →
    opened (cond x opens.Line (cond y opens.Block (cond z opens.Attribute opens.Nothing))) bytes ≡ piece.Takes n → 2 ≤ n
pair_by true y z bytes n e = let same = takes_value _ n e in omega (arith, same)
pair_by false true z bytes n e = closed_length _ n e
pair_by false false true bytes n e = closed_length _ n e
pair_by false false false bytes n e = absurd (nothing_takes n e)

pair_length : (a b : ℕ) (bytes : List ℕ) (n : ℕ) → opened (pair_opening a b) bytes ≡ piece.Takes n → 2 ≤ n
pair_length a b bytes n e = pair_by _ _ _ bytes n e

pair_again : (space : Bool) (a c t n : ℕ) (xs rest more : List ℕ) → is_space t ≡ false → n ≤ 2 + length xs →
    cond space (piece.Takes 1) (opened (pair_opening a c) (xs ++ t ∷ rest)) ≡ piece.Takes n →
    cond space (piece.Takes 1) (opened (pair_opening a c) (xs ++ t ∷ more)) ≡ piece.Takes n
pair_again true a c t n xs rest more solid fits e = e
pair_again false a c t n xs rest more solid fits e = opened_again (pair_opening a c) xs rest more t n solid e fits

single_again : (space : Bool) (a t n : ℕ) (rest more : List ℕ) → n ≤ 1 → cond space (piece.Takes 1) (opened (pair_opening a t) rest) ≡ piece.Takes n →
    cond space (piece.Takes 1) (opened (pair_opening a t) more) ≡ piece.Takes n
single_again true a t n rest more fits e = e
single_again false a t n rest more fits e = let long = pair_length a t rest n e in absurd (omega (arith, long, fits))

pub white_again : (xs rest more : List ℕ) (t n : ℕ) → is_space t ≡ false → white_space (xs ++ t ∷ rest) ≡ piece.Takes n → 0 < n → n ≤ length xs →
    white_space (xs ++ t ∷ more) ≡ piece.Takes n
white_again [] rest more t n solid e some fits = absurd (omega arith)
white_again (a ∷ []) rest more t n solid e some fits =
    white_pair a t more ∙ single_again (is_space a) a t n rest more (omega arith) (sym (white_pair a t rest) ∙ e)
white_again (a ∷ c ∷ xs) rest more t n solid e some fits =
    white_pair a c (xs ++ t ∷ more) ∙ pair_again (is_space a) a c t n xs rest more solid (omega arith) (sym (white_pair a c (xs ++ t ∷ rest)) ∙ e)

takes_some_of : (o : Opening) (bytes : List ℕ) (n : ℕ) → opened o bytes ≡ piece.Takes n → 0 < n
takes_some_of opens.Nothing bytes n e = absurd (nothing_takes n e)
takes_some_of opens.Space bytes n e = let same = takes_value _ n e in omega (arith, same)
takes_some_of opens.Line bytes n e = let same = takes_value _ n e in omega (arith, same)
takes_some_of opens.Block bytes n e = let long = closed_length _ n e in omega (arith, long)
takes_some_of opens.Attribute bytes n e = let long = closed_length _ n e in omega (arith, long)

takes_some : (bytes : List ℕ) (n : ℕ) → white_space bytes ≡ piece.Takes n → 0 < n
unfolding white_space
takes_some bytes n e = takes_some_of (opening_of bytes) (drop 2 bytes) n e

-- all white space in front

-- bytes in front, then the byte t and the tail, which stand behind all white space; so they do before whatever follows t
pub record HasGap (known : ℕ) (bytes : List ℕ) (t : ℕ) (tail : List ℕ) : Type 0 where
  pub front : List ℕ
  pub whole : bytes ≡ front ++ t ∷ tail
  pub enough : known ≤ length front
  pub again : (more : List ℕ) → ((n : ℕ) → white_space (t ∷ more) ≢ piece.Takes n) → behind known (front ++ t ∷ more) ≡ t ∷ more

no_gap : (b : ℕ) (bs : List ℕ) (t : ℕ) (tail : List ℕ) → b ∷ bs ≡ t ∷ tail → HasGap 0 (b ∷ bs) t tail
no_gap b bs t tail e = record { front = []; whole = e; enough = omega arith; again = λ more h. none_in_front (t ∷ more) h }

gap_by : (b : ℕ) (bs : List ℕ) (t : ℕ) (tail : List ℕ) (w : White) → white_space (b ∷ bs) ≡ w → is_space t ≡ false → next_behind b bs w ≡ t ∷ tail →
    ((k : ℕ) → behind k bs ≡ t ∷ tail → HasGap k bs t tail) → HasGap 0 (b ∷ bs) t tail
gap_by b bs t tail piece.Nothing is solid e h = no_gap b bs t tail e
gap_by b bs t tail piece.Unending is solid e h = no_gap b bs t tail e
gap_by b bs t tail (piece.Takes n) is solid e h =
    let gap = h (n - 1) e in
    let enough = gap.enough in
    let some = takes_some (b ∷ bs) n is in
    let whole : b ∷ bs ≡ (b ∷ gap.front) ++ t ∷ tail = ap (λ l. b ∷ l) gap.whole in
    let here : white_space ((b ∷ gap.front) ++ t ∷ tail) ≡ piece.Takes n = ap white_space (sym whole) ∙ is in
    record {
      front = b ∷ gap.front;
      whole = whole;
      enough = omega arith;
      again = λ more stands.
          behind-cons b (gap.front ++ t ∷ more)
          ∙ (ap (next_behind b (gap.front ++ t ∷ more)) (white_again (b ∷ gap.front) tail more t n solid here some (omega (arith, enough, some)))
          ∙ gap.again more stands);
    }

longer_gap : (known b : ℕ) (bs : List ℕ) (t : ℕ) (tail : List ℕ) → HasGap known bs t tail → HasGap (suc known) (b ∷ bs) t tail
unfolding behind
longer_gap known b bs t tail gap =
    let enough = gap.enough in
    record {
      front = b ∷ gap.front;
      whole = ap (λ l. b ∷ l) gap.whole;
      enough = omega arith;
      again = gap.again;
    }

nil_or_cons : (t : ℕ) (tail : List ℕ) → ◌≡◌ {A = List ℕ} [] (t ∷ tail) → ⊥
nil_or_cons t tail e = cc

pub gap_of : (known : ℕ) (bytes : List ℕ) (t : ℕ) (tail : List ℕ) → is_space t ≡ false → behind known bytes ≡ t ∷ tail → HasGap known bytes t tail
unfolding behind
gap_of known [] t tail solid e = absurd (nil_or_cons t tail e)
gap_of (suc known) (b ∷ bs) t tail solid e = longer_gap known b bs t tail (gap_of known bs t tail solid e)
gap_of zero (b ∷ bs) t tail solid e =
    gap_by b bs t tail (white_space (b ∷ bs)) refl solid (sym (behind-cons b bs) ∙ e) (λ k later. gap_of k bs t tail solid later)

-- what is behind all white space begins with no piece of it

done_by : (b : ℕ) (bs : List ℕ) (w : White) (n : ℕ) → white_space (b ∷ bs) ≡ w → white_space (next_behind b bs w) ≡ piece.Takes n →
    ((k : ℕ) → white_space (behind k bs) ≢ piece.Takes n) → ⊥
done_by b bs piece.Nothing n is e h = nothing_takes n (sym is ∙ e)
done_by b bs piece.Unending n is e h = unending_takes n (sym is ∙ e)
done_by b bs (piece.Takes m) n is e h = h (m - 1) e

no_bytes : (n : ℕ) → white_space [] ≢ piece.Takes n
unfolding white_space opening_of
no_bytes n e = nothing_takes n e

pub behind_done : (known : ℕ) (bytes : List ℕ) (n : ℕ) → white_space (behind known bytes) ≢ piece.Takes n
unfolding behind
behind_done known [] n e = no_bytes n e
behind_done (suc known) (b ∷ bs) n e = behind_done known bs n e
behind_done zero (b ∷ bs) n e =
    done_by b bs (white_space (b ∷ bs)) n refl (ap white_space (sym (behind-cons b bs)) ∙ e) (λ k later. behind_done k bs n later)
