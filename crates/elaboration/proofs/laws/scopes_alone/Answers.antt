use Rattle.elaboration.proofs.AloneLemmas.{inner_ok, top_ok}
use Rattle.elaboration.proofs.laws.scopes_alone.Goals as goal

pub returns : goal.returns
returns c = record {
  top = λ names modules flat top many. top_ok names modules flat many top;
  inner = λ names modules flat many kept scope i m distinct is. inner_ok names modules flat many kept scope i m distinct is;
}
