use Rattle.std.proofs.Common.{◌≡◌, All, length, vec_len}
use Rattle.racer.specs.kept.Threads.{looking}
use Rattle.racer.proofs.threads.start_viewers.Given as goal

abbrev pub invariant-viewers : goal.invariant-viewers
invariant-viewers g l = All (λ handle. handle.promise ≡ looking l.looks) l.watching.items × (vec_len l.watching ≡ length l.yielded)
