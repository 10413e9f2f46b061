-- Which nets a rerun says that it changed (own).
use Rattle.std.specs.Prelude.{Bool, true, ℕ}
use Rattle.edits.specs.kept.Touched.{is_touched}
use Rattle.resim.specs.declared.changed.Changed.{Changed}
use Rattle.resim.specs.declared.changed.Changed.TheVariants.{All, Nets}

-- the net of this key is among those that may have changed
abbrev pub has_changed : Changed → ℕ → Bool
has_changed All key = true
has_changed (Nets keys) key = is_touched keys.items key
