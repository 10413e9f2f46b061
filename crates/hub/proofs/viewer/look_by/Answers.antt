use Rattle.hub.proofs.Keeping.{follows_same, sees}
use Rattle.hub.proofs.viewer.look_by.Goals as goal

pub enter_as-requires : goal.enter_as-requires
enter_as-requires g c now = sees _ _ now now (follows_same now)
