-- The text of a name, wherever it stands.
use Rattle.std.specs.Prelude.{ℕ, List, string_bytes}
use Rattle.design.specs.declared.name_text.Text.{Text}
use Rattle.design.specs.declared.name_text.Text.TheVariants.{Short, Long}

abbrev pub bytes_in : Text → List ℕ
bytes_in (Short text) = text.bytes
bytes_in (Long text) = string_bytes text
