-- Causes as rows of a table: a chain of tests is the first row that holds.
use Rattle.std.proofs.Common.{◌≡◌, ℕ, Bool, true, false, cond, not, ◌&&◌, ◌==◌, nat_lt, List, [], ◌∷◌, Option, Some, None, is_some, unwrap_or, Ok, Err, refl, sym, ap}
use Rattle.std.specs.Prelude.{All}
use Rattle.std.specs.Option.{option_map_or, option_or}
use Rattle.std.proofs.lemmas.List.Elements.{All-nil, All-cons}
use Rattle.std.proofs.lemmas.Option.{none-some, same_Some}
use Rattle.fourstate.specs.declared.limits.TheConstants.{MAX_DELAY}
use Rattle.fourstate.specs.declared.net.NetKind.{NetKind}
use Rattle.vtext.specs.declared.cause.Cause.{Cause}
use Rattle.vtext.specs.declared.cause.Cause.TheVariants.{Syntax, ZeroDelay, DelayTooLarge, DuplicateName, WidthMismatch}
use Rattle.vtext.specs.declared.net.Net.{Net}
use Rattle.vtext.specs.declared.parser_state.ParserState.{ParserState}
use Rattle.vtext.specs.declared.range.Range.{Range}
use Rattle.vtext.specs.Causes.{declared_again, default_cause, directed_again, is_net_late, is_port_late, is_vector, same_range, when}
use Rattle.vtext.specs.CauseTable.{IsFirst, cause_in, first_cause, has_other_range}
use Rattle.vtext.specs.Nets.{blank, is_used}
use Rattle.vtext.specs.Readings.{Reading}
use Rattle.vtext.specs.Turns.{Walk, goes, unless}

-- Chains of tests.

pub by_cause : (found : Option Cause) (to : ParserState) (r : Reading) → cause_in (unless found (goes to r)) ≡ found
by_cause None to r = refl
by_cause (Some why) to r = refl

pub one : (a : Bool) (why : Cause) → when a why ≡ cond a (Some why) None
one true why = refl
one false why = refl

pub two : (a b : Bool) (why because : Cause) → option_or (when a why) (when b because) ≡ cond a (Some why) (cond b (Some because) None)
two true b why because = refl
two false true why because = refl
two false false why because = refl

-- a test, and then a cause by another one
pub then_one : (a b : Bool) (why because : Cause) → cond a (Some why) (when b because) ≡ cond a (Some why) (cond b (Some because) None)
then_one true b why because = refl
then_one false b why because = one b because

pub then_two : (a b c : Bool) (why because last : Cause) →
    cond a (Some why) (cond b (Some because) (when c last)) ≡ cond a (Some why) (cond b (Some because) (cond c (Some last) None))
then_two true b c why because last = refl
then_two false b c why because last = then_one b c because last

pub gate_by : (hash : Bool) (default : Option ℕ) → cond hash None (default_cause default) ≡
    cond (not hash && option_map_or (λ n. n == 0) default true) (Some ZeroDelay)
    (cond (not hash && option_map_or (λ n. nat_lt MAX_DELAY n) default false) (Some DelayTooLarge) None)
gate_by true default = refl
gate_by false None = refl
gate_by false (Some n) = then_one (n == 0) (nat_lt MAX_DELAY n) ZeroDelay DelayTooLarge

unused_by : (used clash : Bool) → cond used None (when clash DuplicateName) ≡ cond (not used && clash) (Some DuplicateName) None
unused_by true clash = refl
unused_by false clash = one clash DuplicateName

pub use_by : (found : Option Net) (clash : Bool) → cond (is_used (unwrap_or found blank)) None (when clash DuplicateName) ≡
    cond (not (option_map_or is_used found false) && clash) (Some DuplicateName) None
use_by None clash = one clash DuplicateName
use_by (Some net) clash = unused_by (is_used net) clash

unused_vector_by : (used clash vector : Bool) → option_or (cond used None (when clash DuplicateName)) (when vector WidthMismatch) ≡
    cond (not used && clash) (Some DuplicateName) (cond vector (Some WidthMismatch) None)
unused_vector_by true clash vector = one vector WidthMismatch
unused_vector_by false true vector = refl
unused_vector_by false false vector = one vector WidthMismatch

pub terminal_by : (found : Option Net) (clash : Bool) →
    option_or (cond (is_used (unwrap_or found blank)) None (when clash DuplicateName)) (when (option_map_or is_vector found false) WidthMismatch) ≡
    cond (not (option_map_or is_used found false) && clash) (Some DuplicateName) (cond (option_map_or is_vector found false) (Some WidthMismatch) None)
terminal_by None clash = unused_vector_by false clash false
terminal_by (Some net) clash = unused_vector_by (is_used net) clash (is_vector net)

-- a declaration of a net
declared_by : (late used clash other : Bool) →
    option_or (when late DuplicateName) (cond used (when other WidthMismatch) (when clash DuplicateName)) ≡
    cond late (Some DuplicateName) (cond (not used && clash) (Some DuplicateName) (cond (used && other) (Some WidthMismatch) None))
declared_by true used clash other = refl
declared_by false true clash other = one other WidthMismatch
declared_by false false true other = refl
declared_by false false false other = refl

pub net_by : (range : Option Range) (found : Option Net) (clash : Bool) →
    option_or (declared_again (unwrap_or found blank))
    (cond (is_used (unwrap_or found blank)) (when (not (same_range range (unwrap_or found blank).range)) WidthMismatch) (when clash DuplicateName)) ≡
    cond (option_map_or is_net_late found false) (Some DuplicateName)
    (cond (not (option_map_or is_used found false) && clash) (Some DuplicateName)
    (cond (option_map_or (has_other_range range) found false) (Some WidthMismatch) None))
net_by range None clash = declared_by false false clash false
net_by range (Some net) clash = declared_by (is_net_late net) (is_used net) clash (not (same_range range net.range))

port_of : (port late used clash other : Bool) →
    option_or (cond (not port) (Some Syntax) (when late DuplicateName)) (cond used (when other WidthMismatch) (when clash DuplicateName)) ≡
    cond (not port) (Some Syntax)
    (cond late (Some DuplicateName) (cond (not used && clash) (Some DuplicateName) (cond (used && other) (Some WidthMismatch) None)))
port_of true late used clash other = declared_by late used clash other
port_of false late used clash other = refl

pub port_by : (kind : Option NetKind) (range : Option Range) (found : Option Net) (clash : Bool) →
    option_map_or (λ (net : Net). option_or (directed_again kind net)
    (cond (is_used net) (when (not (same_range range net.range)) WidthMismatch) (when clash DuplicateName))) found (Some Syntax) ≡
    cond (not (option_map_or (λ (net : Net). net.port) found false)) (Some Syntax)
    (cond (option_map_or (is_port_late kind) found false) (Some DuplicateName)
    (cond (not (option_map_or is_used found false) && clash) (Some DuplicateName)
    (cond (option_map_or (has_other_range range) found false) (Some WidthMismatch) None)))
port_by kind range None clash = refl
port_by kind range (Some net) clash = port_of net.port (is_port_late kind net) (is_used net) clash (not (same_range range net.range))

-- the new name of a port in a header of the inline form
pub inline_by : (found : Option Net) (clash : Bool) → option_or (when (is_some found) DuplicateName) (when clash DuplicateName) ≡
    cond (is_some found) (Some DuplicateName) (cond (not (option_map_or is_used found false) && clash) (Some DuplicateName) None)
inline_by None clash = one clash DuplicateName
inline_by (Some net) clash = refl

pub third_by : (takes : Bool) (to : Walk) → cause_in (cond takes (Ok to) (Err Syntax)) ≡ cond (not takes) (Some Syntax) None
third_by true to = refl
third_by false to = refl

-- two ways with one cause
pub either_way : (way : Bool) (found : Option Cause) (to other : Walk) → cause_in (cond way (unless found (Ok to)) (unless found (Ok other))) ≡ found
either_way true None to other = refl
either_way true (Some why) to other = refl
either_way false None to other = refl
either_way false (Some why) to other = refl

-- Rows.

pub none_holds : (table : List (Bool × Cause)) → first_cause table ≡ None → All (λ row. row.0 ≡ false) table
none_holds [] e = All-nil (λ row. row.0 ≡ false)
none_holds ((true, why) ∷ more) e = absurd (none-some why (sym e))
none_holds ((false, why) ∷ more) e = All-cons (λ row. row.0 ≡ false) (false, why) more refl (none_holds more e)

pub first_holds : (table : List (Bool × Cause)) (why : Cause) → first_cause table ≡ Some why → IsFirst table why
first_holds [] why e = absurd (none-some why e)
first_holds ((true, because) ∷ more) why e =
    record { above = []; below = more; row = ap (λ (c : Cause). (true, c) ∷ more) (same_Some because why e); none_above = All-nil (λ row. row.0 ≡ false) }
first_holds ((false, because) ∷ more) why e =
    let rest = first_holds more why e in
    record {
      above = (false, because) ∷ rest.above;
      below = rest.below;
      row = ap (λ (above : List (Bool × Cause)). (false, because) ∷ above) rest.row;
      none_above = All-cons (λ row. row.0 ≡ false) (false, because) rest.above refl rest.none_above;
    }
