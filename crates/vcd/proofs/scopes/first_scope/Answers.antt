use Rattle.std.proofs.Common.{◌∙◌, sym}
use Rattle.std.proofs.lemmas.List.{take_rest}
use Rattle.vcd.proofs.ScopeLemmas.{reference_of-first, reference_of-none, scopes_of-first, scopes_of-none}
use Rattle.vcd.proofs.scopes.first_scope.Goals as goal

pub returns-in_err-dot-clause-scopes : goal.returns-in_err-dot-clause-scopes
returns-in_err-dot-clause-scopes c = rw c.from_residual.ensures (scopes_of-none c.args.name.now (sym c.first_dot.ensures ∙ c.in_err-dot.was))

pub returns-in_err-dot-clause-reference : goal.returns-in_err-dot-clause-reference
returns-in_err-dot-clause-reference c = rw c.from_residual.ensures (reference_of-none c.args.name.now (sym c.first_dot.ensures ∙ c.in_err-dot.was))

pub returns-clause-scopes : goal.returns-clause-scopes
returns-clause-scopes c = rw take_rest (scopes_of-first c.args.name.now c.in_ok-dot.dot (sym c.first_dot.ensures ∙ c.in_ok-dot.was))

pub returns-clause-reference : goal.returns-clause-reference
returns-clause-reference c = rw take_rest (reference_of-first c.args.name.now c.in_ok-dot.dot (sym c.first_dot.ensures ∙ c.in_ok-dot.was))
