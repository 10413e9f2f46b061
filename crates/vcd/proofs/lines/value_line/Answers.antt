use Rattle.vcd.proofs.CodeLemmas.{one_character, two_characters, three_characters}
use Rattle.vcd.proofs.lines.value_line.Goals as goal

pub returns-then-n-lt-CHARACTERS : goal.returns-then-n-lt-CHARACTERS
returns-then-n-lt-CHARACTERS g c =
    rw (one_character c.args.n c.if-n-lt-CHARACTERS.true, ← c.symbol-symbol.ensures, ← c.character-first.ensures) c.text.ensures.adds

pub returns-then-rest-lt-CHARACTERS : goal.returns-then-rest-lt-CHARACTERS
returns-then-rest-lt-CHARACTERS g c =
    rw (
      two_characters c.args.n c.if-n-lt-CHARACTERS.false c.if-rest-lt-CHARACTERS.true,
      ← c.symbol-symbol.ensures,
      ← c.character-first.ensures,
      ← c.character-second.ensures,
    ) c.text-then-rest-lt-CHARACTERS.ensures.adds

pub returns : goal.returns
returns g c =
    rw (
      three_characters c.args.n c.if-n-lt-CHARACTERS.false c.if-rest-lt-CHARACTERS.false c.requires,
      ← c.symbol-symbol.ensures,
      ← c.character-first.ensures,
      ← c.character-second.ensures,
      ← c.character-third.ensures,
    ) c.text-2.ensures.adds
