-- Lists of edits.
use Rattle.std.proofs.Common.{◌≡◌, ◌≢◌, ◌<◌, ◌≤◌, ◌+◌, ℕ, List, [], ◌∷◌, ◌++◌, length, Bool, true, false, ◌||◌, nat_lt, find, Option, Some, None, option_map, refl, sym, ap, subst, ◌∙◌, arith}
use Rattle.std.specs.Prelude.{IfErr, IfOk, IfSome, MatchResult, Result, Ok, Err}
use Rattle.std.specs.List.{list_any}
use Rattle.std.specs.Option.{option_map_or}
use Rattle.std.proofs.lemmas.Bool.{false≢true, ltb-true}
use Rattle.design.specs.Netlist.{Netlist}
use Rattle.edits.specs.declared.edit.Edit.{Edit}
use Rattle.edits.specs.declared.edit.Edit.TheVariants.{AddNet, AddInput, DropNet, SetNetKind, AddGate, DropGate, SetDelay, SetGateKind, Rewire, Stim, Unstim, Horizon}
use Rattle.edits.specs.declared.fault.EditFault.{EditFault}
use Rattle.edits.specs.declared.fault.EditFault.TheVariants.{OutOfMemory, TooMany}
use Rattle.edits.specs.declared.limits.TheConstants.{MAX_EDITS}
use Rattle.edits.specs.Batches.{batch, batch_from, refusal}
use Rattle.edits.specs.Checks.{cause, checks}
use Rattle.edits.specs.Edits.{edited}

-- Single edits.

single_by : (d : Netlist) (e : Edit) (o : Option EditFault) → cause d e ≡ o → IfSome o (λ fault. batch d (e ∷ []) ≡ Err (0, fault))
single_by d e (Some fault) is = rw is refl
single_by d e None is = tt

pub single_refused : (d : Netlist) (e : Edit) → IfSome (cause d e) (λ fault. batch d (e ∷ []) ≡ Err (0, fault))
single_refused d e = single_by d e (cause d e) refl

pub single_accepted : (d : Netlist) (e : Edit) → cause d e ≡ None → batch d (e ∷ []) ≡ Ok (edited d e)
single_accepted d e none = rw none refl

-- One edit of a list.

-- what a list makes of a refusal of its first edit
abbrev turn : ℕ → Option EditFault → Result Netlist (ℕ × EditFault) → Result Netlist (ℕ × EditFault)
turn place o rest = option_map_or (λ fault. Err (place, fault)) o rest

joined_by : (place : ℕ) (o : Option EditFault) (first both : Result Netlist (ℕ × EditFault)) (rest : Netlist → Result Netlist (ℕ × EditFault))
    → MatchResult first (λ new. both ≡ rest new) (λ refused. both ≡ Err refused)
    → MatchResult (turn place o first) (λ new. turn place o both ≡ rest new) (λ refused. turn place o both ≡ Err refused)
joined_by place None first both rest m = m
joined_by place (Some fault) first both rest m = refl

joined_from : (place : ℕ) (d : Netlist) (first rest : List Edit) → MatchResult (batch_from place d first)
    (λ new. batch_from place d (first ++ rest) ≡ batch_from (place + length first) new rest)
    (λ refused. batch_from place d (first ++ rest) ≡ Err refused)
joined_from place d [] rest = let e : place + 0 ≡ place = omega arith in rw e refl
joined_from place d (e ∷ first) rest =
    let shift : place + length (e ∷ first) ≡ (place + 1) + length first = omega arith in
    rw shift
    (joined_by place (refusal place d e) (batch_from (place + 1) (edited d e) first) (batch_from (place + 1) (edited d e) (first ++ rest))
    (λ new. batch_from ((place + 1) + length first) new rest) (joined_from (place + 1) (edited d e) first rest))

pub joined_batches : (d : Netlist) (first rest : List Edit) → MatchResult (batch d first)
    (λ new. batch d (first ++ rest) ≡ batch_from (length first) new rest) (λ refused. batch d (first ++ rest) ≡ Err refused)
joined_batches d first rest = let e : 0 + length first ≡ length first = omega arith in rw e at (joined_from 0 d first rest)

-- Faults of checks.

abbrev is_memory : EditFault → Bool
is_memory OutOfMemory = true
is_memory _ = false

no_memory_check : (d : Netlist) (e : Edit) → list_any (λ check. is_memory check.1) (checks d e) ≡ false
no_memory_check d (AddNet name kind) = refl
no_memory_check d (AddInput name) = refl
no_memory_check d (DropNet name) = refl
no_memory_check d (SetNetKind name kind) = refl
no_memory_check d (AddGate name kind delays output inputs) = refl
no_memory_check d (DropGate name) = refl
no_memory_check d (SetDelay name delays) = refl
no_memory_check d (SetGateKind name kind) = refl
no_memory_check d (Rewire name output inputs) = refl
no_memory_check d (Stim net time v) = refl
no_memory_check d (Unstim net time) = refl
no_memory_check d (Horizon time) = refl

-- the fault of a check that is found
abbrev fault_of : Option (Bool × EditFault) → Option EditFault
fault_of o = option_map (λ check. check.1) o

both_false : (a b : Bool) → (a || b) ≡ false → (a ≡ false) × (b ≡ false)
both_false true b e = cc
both_false false b e = (refl, e)

named_by : (o : Option (Bool × EditFault)) → (IfSome o (λ check. is_memory check.1 ≡ false)) → IfSome (fault_of o) (λ fault. fault ≢ OutOfMemory)
named_by (Some check) other = λ is. absurd (false≢true (sym other ∙ ap is_memory is))
named_by None other = tt

no_memory_by : (check : Bool × EditFault) (rest : List (Bool × EditFault)) (b : Bool) → check.0 ≡ b → is_memory check.1 ≡ false
    → IfSome (find (λ check. check.0) rest) (λ check. is_memory check.1 ≡ false) → IfSome (find (λ check. check.0) (check ∷ rest)) (λ check. is_memory check.1 ≡ false)
no_memory_by check rest true e other more = rw e other
no_memory_by check rest false e other more = rw e more

no_memory_found : (all : List (Bool × EditFault)) → list_any (λ check. is_memory check.1) all ≡ false → IfSome (find (λ check. check.0) all) (λ check. is_memory check.1 ≡ false)
no_memory_found [] other = tt
no_memory_found (check ∷ rest) other =
    let both = both_false (is_memory check.1) (list_any (λ check. is_memory check.1) rest) other in
    no_memory_by check rest check.0 refl both.0 (no_memory_found rest both.1)

-- no edit is refused because memory ran out
cause_is : (d : Netlist) (e : Edit) → IfSome (cause d e) (λ fault. fault ≢ OutOfMemory)
cause_is d e = named_by (find (λ check. check.0) (checks d e)) (no_memory_found (checks d e) (no_memory_check d e))

refusal_by : (place : ℕ) (d : Netlist) (e : Edit) (b : Bool) → nat_lt place MAX_EDITS ≡ b → IfSome (refusal place d e) (λ fault. fault ≢ OutOfMemory)
refusal_by place d e true is = rw is (cause_is d e)
refusal_by place d e false is = rw is (λ same. cc)

refusal_is : (place : ℕ) (d : Netlist) (e : Edit) → IfSome (refusal place d e) (λ fault. fault ≢ OutOfMemory)
refusal_is place d e = refusal_by place d e (nat_lt place MAX_EDITS) refl

taken_by : (place : ℕ) (d : Netlist) (e : Edit) (b : Bool) → nat_lt place MAX_EDITS ≡ b → refusal place d e ≡ None → place < MAX_EDITS
taken_by place d e true is none = ltb-true place MAX_EDITS is
taken_by place d e false is none = let some : refusal place d e ≡ Some TooMany = rw is refl in absurd (cc)

-- Limits.

-- what is said of a refusal in n edits of a list from this place on
record IsPlaced (place n : ℕ) (refused : ℕ × EditFault) : Type 0 where
  pub within : refused.0 < place + n
  pub limit : refused.0 ≤ MAX_EDITS
  pub fault : refused.1 ≢ OutOfMemory

abbrev AreLimited : ℕ → ℕ → Result Netlist (ℕ × EditFault) → Type 0
AreLimited place n r = MatchResult r (λ _. place + n ≤ MAX_EDITS) (IsPlaced place n)

further : (place n : ℕ) (r : Result Netlist (ℕ × EditFault)) → AreLimited (place + 1) n r → AreLimited place (n + 1) r
further place n (Ok d) h = omega (arith, h)
further place n (Err refused) h = record { within = omega (arith, h.within); limit = h.limit; fault = h.fault }

limited_by : (place n : ℕ) (o : Option EditFault) (rest : Result Netlist (ℕ × EditFault)) → place ≤ MAX_EDITS → IfSome o (λ fault. fault ≢ OutOfMemory)
    → (o ≡ None → AreLimited (place + 1) n rest) → AreLimited place (n + 1) (turn place o rest)
limited_by place n (Some fault) rest within named more = record { within = omega arith; limit = within; fault = named }
limited_by place n None rest within named more = further place n rest (more refl)

limited_from : (place : ℕ) (d : Netlist) (edits : List Edit) → place ≤ MAX_EDITS → AreLimited place (length edits) (batch_from place d edits)
limited_from place d [] within = omega (arith, within)
limited_from place d (e ∷ edits) within =
    let n : length (e ∷ edits) ≡ length edits + 1 = omega arith in
    let P : ℕ → Type 0 = λ n. AreLimited place n (batch_from place d (e ∷ edits)) in
    subst P (sym n)
    (limited_by place (length edits) (refusal place d e) (batch_from (place + 1) (edited d e) edits) within (refusal_is place d e)
    (λ none.
    let room = taken_by place d e (nat_lt place MAX_EDITS) refl none in
    limited_from (place + 1) (edited d e) edits (omega (arith, room))))

limited : (d : Netlist) (edits : List Edit) → AreLimited 0 (length edits) (batch d edits)
limited d edits = limited_from 0 d edits (omega arith)

within_by : (n : ℕ) (r : Result Netlist (ℕ × EditFault)) → AreLimited 0 n r → IfErr r (λ refused. refused.0 < n)
within_by n (Ok d) h = tt
within_by n (Err refused) h = omega (arith, h.within)

pub refused_within : (d : Netlist) (edits : List Edit) → IfErr (batch d edits) (λ refused. refused.0 < length edits)
refused_within d edits = within_by (length edits) (batch d edits) (limited d edits)

limit_by : (n : ℕ) (r : Result Netlist (ℕ × EditFault)) → AreLimited 0 n r → IfErr r (λ refused. refused.0 ≤ MAX_EDITS)
limit_by n (Ok d) h = tt
limit_by n (Err refused) h = h.limit

pub refused_limit : (d : Netlist) (edits : List Edit) → IfErr (batch d edits) (λ refused. refused.0 ≤ MAX_EDITS)
refused_limit d edits = limit_by (length edits) (batch d edits) (limited d edits)

fault_by : (n : ℕ) (r : Result Netlist (ℕ × EditFault)) → AreLimited 0 n r → IfErr r (λ refused. refused.1 ≢ OutOfMemory)
fault_by n (Ok d) h = tt
fault_by n (Err refused) h = h.fault

pub refused_for : (d : Netlist) (edits : List Edit) → IfErr (batch d edits) (λ refused. refused.1 ≢ OutOfMemory)
refused_for d edits = fault_by (length edits) (batch d edits) (limited d edits)

accepted_by : (n : ℕ) (r : Result Netlist (ℕ × EditFault)) → AreLimited 0 n r → IfOk r (λ _. n ≤ MAX_EDITS)
accepted_by n (Ok d) h = omega (arith, h)
accepted_by n (Err refused) h = tt

pub accepted_within : (d : Netlist) (edits : List Edit) → IfOk (batch d edits) (λ _. length edits ≤ MAX_EDITS)
accepted_within d edits = accepted_by (length edits) (batch d edits) (limited d edits)
