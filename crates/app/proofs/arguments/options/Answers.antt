use Rattle.std.proofs.Common.{rules, ◌≡◌, ◌∙◌, ℕ, List, Option, Some, None, Bor, ap, codes, map, option_map, sym}
use Rattle.app.specs.Arguments.{delay_given, horizon_given, workers_given}
use Rattle.app.specs.CommandLine.{value_of}
use Rattle.app.proofs.CommandLineLemmas.{not_taken}
use Rattle.app.proofs.WordLemmas.{asked_all, no_delay, no_design, no_horizon, no_workers, not_asked}
use Rattle.app.proofs.arguments.options.Goals as goal

abbrev bytes_of : Option (Bor (List ℕ)) → Option (List ℕ)
bytes_of = option_map (λ s. s.now)

pub returns-in_err-matches-clause-refused : goal.returns-in_err-matches-clause-refused
returns-in_err-matches-clause-refused g c = λ e.
    let words = map g.S.AsStr.text c.args.words.now in
    not_asked words (not_taken words _ c.in_err-matches.ensures.refused (search rules))

pub returns-in_default-clause-refused : goal.returns-in_default-clause-refused
returns-in_default-clause-refused g c = λ e.
    let words = map g.S.AsStr.text c.args.words.now in
    let ok = c.in_ok-matches.ensures.ok in
    let design : value_of (codes "design") words ≡ None =
    sym (ok.1 (codes "design")) ∙ (sym c.get_str.ensures ∙ ap bytes_of c.in_default.is) in
    no_design words ok.0 design

pub returns-in_default-given_horizon-clause-refused : goal.returns-in_default-given_horizon-clause-refused
returns-in_default-given_horizon-clause-refused g c = λ e.
    let words = map g.S.AsStr.text c.args.words.now in
    let ok = c.in_ok-matches.ensures.ok in
    let design : value_of (codes "design") words ≡ Some c.in-Some.name.now =
    sym (ok.1 (codes "design")) ∙ (sym c.get_str.ensures ∙ ap bytes_of c.in-Some.is) in
    let horizon : horizon_given (value_of (codes "horizon") words) ≡ None =
    ap horizon_given (sym (ok.1 (codes "horizon")) ∙ sym c.get_str-2.ensures) ∙ (sym c.given_horizon.ensures.given ∙ c.in_default-given_horizon.is) in
    no_horizon words c.in-Some.name.now ok.0 design horizon

pub returns-in_default-given_workers-clause-refused : goal.returns-in_default-given_workers-clause-refused
returns-in_default-given_workers-clause-refused g c = λ e.
    let words = map g.S.AsStr.text c.args.words.now in
    let ok = c.in_ok-matches.ensures.ok in
    let design : value_of (codes "design") words ≡ Some c.in-Some.name.now =
    sym (ok.1 (codes "design")) ∙ (sym c.get_str.ensures ∙ ap bytes_of c.in-Some.is) in
    let horizon : horizon_given (value_of (codes "horizon") words) ≡ Some c.in-Some-given_horizon.horizon =
    ap horizon_given (sym (ok.1 (codes "horizon")) ∙ sym c.get_str-2.ensures) ∙ (sym c.given_horizon.ensures.given ∙ c.in-Some-given_horizon.is) in
    let workers : workers_given (value_of (codes "workers") words) ≡ None =
    ap workers_given (sym (ok.1 (codes "workers")) ∙ sym c.get_str-3.ensures) ∙ (sym c.given_workers.ensures.given ∙ c.in_default-given_workers.is) in
    no_workers words c.in-Some.name.now c.in-Some-given_horizon.horizon ok.0 design horizon workers

pub returns-in_default-given_delay-clause-refused : goal.returns-in_default-given_delay-clause-refused
returns-in_default-given_delay-clause-refused g c = λ e.
    let words = map g.S.AsStr.text c.args.words.now in
    let ok = c.in_ok-matches.ensures.ok in
    let design : value_of (codes "design") words ≡ Some c.in-Some.name.now =
    sym (ok.1 (codes "design")) ∙ (sym c.get_str.ensures ∙ ap bytes_of c.in-Some.is) in
    let horizon : horizon_given (value_of (codes "horizon") words) ≡ Some c.in-Some-given_horizon.horizon =
    ap horizon_given (sym (ok.1 (codes "horizon")) ∙ sym c.get_str-2.ensures) ∙ (sym c.given_horizon.ensures.given ∙ c.in-Some-given_horizon.is) in
    let workers : workers_given (value_of (codes "workers") words) ≡ Some c.in-Some-given_workers.workers =
    ap workers_given (sym (ok.1 (codes "workers")) ∙ sym c.get_str-3.ensures) ∙ (sym c.given_workers.ensures.given ∙ c.in-Some-given_workers.is) in
    let delay : delay_given (value_of (codes "delay") words) ≡ None =
    ap delay_given (sym (ok.1 (codes "delay")) ∙ sym c.get_str-4.ensures) ∙ (sym c.given_delay.ensures.given ∙ c.in_default-given_delay.is) in
    no_delay words c.in-Some.name.now c.in-Some-given_horizon.horizon c.in-Some-given_workers.workers ok.0 design horizon workers delay

pub returns-clause-ok : goal.returns-clause-ok
returns-clause-ok g c =
    let words = map g.S.AsStr.text c.args.words.now in
    let ok = c.in_ok-matches.ensures.ok in
    let design : value_of (codes "design") words ≡ Some c.in-Some.name.now =
    sym (ok.1 (codes "design")) ∙ (sym c.get_str.ensures ∙ ap bytes_of c.in-Some.is) in
    let horizon : horizon_given (value_of (codes "horizon") words) ≡ Some c.in-Some-given_horizon.horizon =
    ap horizon_given (sym (ok.1 (codes "horizon")) ∙ sym c.get_str-2.ensures) ∙ (sym c.given_horizon.ensures.given ∙ c.in-Some-given_horizon.is) in
    let workers : workers_given (value_of (codes "workers") words) ≡ Some c.in-Some-given_workers.workers =
    ap workers_given (sym (ok.1 (codes "workers")) ∙ sym c.get_str-3.ensures) ∙ (sym c.given_workers.ensures.given ∙ c.in-Some-given_workers.is) in
    let delay : delay_given (value_of (codes "delay") words) ≡ Some c.in-Some-given_delay.delay =
    ap delay_given (sym (ok.1 (codes "delay")) ∙ sym c.get_str-4.ensures) ∙ (sym c.given_delay.ensures.given ∙ c.in-Some-given_delay.is) in
    rw c.in_ok-design.ensures.ok
    (asked_all words c.in-Some.name.now c.in-Some-given_horizon.horizon c.in-Some-given_workers.workers c.in-Some-given_delay.delay ok.0 design horizon workers delay)
