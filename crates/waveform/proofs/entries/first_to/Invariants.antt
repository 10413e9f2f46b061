use Rattle.std.proofs.Common.{◌≡◌, map, drop}
use Rattle.std.specs.List.{find}
use Rattle.waveform.proofs.entries.first_to.Given as goal

-- the entries from here on have the same first one
abbrev pub invariant-loop-entry : goal.invariant-loop-entry
invariant-loop-entry g l =
    find (λ e. g.V.Sample.same e.1 l.value) (map g.V.Sample.stored (drop l.entry-index l.entries)) ≡ find (λ e. g.V.Sample.same e.1 l.value) (map g.V.Sample.stored l.entries)
