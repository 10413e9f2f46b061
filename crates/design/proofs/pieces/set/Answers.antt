use Rattle.std.proofs.Common.{◌<◌, ◌∙◌, length}
use Rattle.design.specs.kept.Pieces.{IsHome, points_in}
use Rattle.design.proofs.PieceLemmas.{filled_set, home_set, rising_in, some_set}
use Rattle.design.proofs.pieces.set.Goals as goal

pub set-requires : goal.set-requires
set-requires c =
    let pieces = c.args.pieces.now.items in
    let within : c.home_of-home.result < length pieces = rw c.deref.ensures.value at c.home_of-home.ensures.within in
    rising_in points_in pieces c.home_of-home.result c.index_mut.result.now c.requires.rising within c.index_mut.ensures.value

pub halve-requires-clause-filled : goal.halve-requires-clause-filled
halve-requires-clause-filled c =
    let pieces = c.args.pieces.now.items in
    let within : c.home_of-home.result < length pieces = rw c.deref.ensures.value at c.home_of-home.ensures.within in
    let rising = rising_in points_in pieces c.home_of-home.result c.index_mut.result.now c.requires.rising within c.index_mut.ensures.value in
    let some : 0 < length (points_in c.set.new.piece) = rw c.in_ok-set.ensures (some_set (points_in c.index_mut.result.now) c.args.t c.args.value rising) in
    filled_set points_in pieces c.home_of-home.result c.set.new.piece c.requires.filled some

pub returns-in_ok-halve-clause-set : goal.returns-in_ok-halve-clause-set
returns-in_ok-halve-clause-set c =
    let pieces = c.args.pieces.now.items in
    let at : IsHome points_in c.args.t pieces c.home_of-home.result = rw c.deref.ensures.value at c.home_of-home.ensures.home in
    c.in_ok-halve.ensures.same ∙ home_set points_in c.args.t c.args.value pieces c.home_of-home.result c.index_mut.result.now c.set.new.piece at c.index_mut.ensures.value c.in_ok-set.ensures

pub returns-else-len-gt-MAX_PIECE-clause-filled : goal.returns-else-len-gt-MAX_PIECE-clause-filled
returns-else-len-gt-MAX_PIECE-clause-filled c =
    let pieces = c.args.pieces.now.items in
    let within : c.home_of-home.result < length pieces = rw c.deref.ensures.value at c.home_of-home.ensures.within in
    let rising = rising_in points_in pieces c.home_of-home.result c.index_mut.result.now c.requires.rising within c.index_mut.ensures.value in
    let some : 0 < length (points_in c.set.new.piece) = rw c.in_ok-set.ensures (some_set (points_in c.index_mut.result.now) c.args.t c.args.value rising) in
    filled_set points_in pieces c.home_of-home.result c.set.new.piece c.requires.filled some

pub returns-else-len-gt-MAX_PIECE-clause-set : goal.returns-else-len-gt-MAX_PIECE-clause-set
returns-else-len-gt-MAX_PIECE-clause-set c =
    let pieces = c.args.pieces.now.items in
    let at : IsHome points_in c.args.t pieces c.home_of-home.result = rw c.deref.ensures.value at c.home_of-home.ensures.home in
    home_set points_in c.args.t c.args.value pieces c.home_of-home.result c.index_mut.result.now c.set.new.piece at c.index_mut.ensures.value c.in_ok-set.ensures
