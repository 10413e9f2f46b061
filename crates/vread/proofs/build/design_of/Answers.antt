use Rattle.std.proofs.Common.{arith}
use Rattle.vread.proofs.build.design_of.Goals as goal

pub design_of_scopes-requires : goal.design_of_scopes-requires
design_of_scopes-requires c = record {
  sound = c.requires;
  elaborated = (rw c.in-Some.is at c.in_ok-listed.ensures.whole) c.args.text.now c.in_ok-top.ensures.ok;
  few = rw c.in-Some.is at c.in_ok-listed.ensures.few;
}

pub crowded_text_fault-requires : goal.crowded_text_fault-requires
crowded_text_fault-requires c = record {
  sound = c.requires;
  top = c.in_ok-top.ensures.top;
  faultless = c.in_ok-top.ensures.ok;
  crowded = omega (arith, c.in_ok-listed.ensures.many c.in-None.is);
}
