-- It owns nothing but a fact, so it may go to another thread.
use denote.RattleType.{RattleType}
use denote.Param.Send.{IsSend, owning_send, sendable}
use Rattle.parstep.specs.contracts.shareable.Shareable.{the_row, the_type}

pub send : (R : RattleType) → IsSend (the_row R)
send R = owning_send (the_type R) (search sendable, tt) (λ d. λ shares. tt) (λ k x w. tt)
