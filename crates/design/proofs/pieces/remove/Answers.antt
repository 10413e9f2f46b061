use Rattle.std.proofs.Common.{◌≡◌, ◌≢◌, ◌<◌, ◌∙◌, ap, sym, length, arith}
use Rattle.std.proofs.lemmas.Bool.{eqb-false, eqb-true}
use Rattle.std.proofs.lemmas.List.{get_or-set_same}
use Rattle.design.specs.kept.Pieces.{IsHome, points_in, points_of}
use Rattle.design.proofs.PieceLemmas.{emptied, filled_emptied, filled_set, home_removed}
use Rattle.design.proofs.pieces.remove.Goals as goal

pub returns-then-is_empty-2-clause-filled : goal.returns-then-is_empty-2-clause-filled
returns-then-is_empty-2-clause-filled c =
    let pieces = c.args.pieces.now.items in
    let within : c.home_of-home.result < length pieces = rw c.deref.ensures.value at c.home_of-home.ensures.within in
    rw c.remove-then-is_empty-2.ensures.items (filled_emptied points_in pieces c.home_of-home.result c.remove.new.piece c.requires.filled within)

pub returns-then-is_empty-2-clause-removed : goal.returns-then-is_empty-2-clause-removed
returns-then-is_empty-2-clause-removed c =
    let pieces = c.args.pieces.now.items in
    let home = c.home_of-home.result in
    let new = c.remove.new.piece in
    let within : home < length pieces = rw c.deref.ensures.value at c.home_of-home.ensures.within in
    let at : IsHome points_in c.args.t pieces home = rw c.deref.ensures.value at c.home_of-home.ensures.home in
    let here : c.index.result.now ≡ new = c.index.ensures ∙ get_or-set_same pieces home new c.index.result.now within in
    let zero : c.deref-2.result.now.len ≡ 0 = eqb-true c.deref-2.result.now.len 0 (sym c.if-is_empty-2.ensures) in
    let none : length (points_in new) ≡ 0 = omega (arith, zero, c.deref-2.result.now.ok.0, ap (λ v. length v.items) c.deref-2.ensures, ap (λ p. length (points_in p)) here) in
    ap (λ l. points_of l) c.remove-then-is_empty-2.ensures.items ∙ emptied points_in pieces home new within none ∙ home_removed points_in c.args.t pieces home c.index_mut.result.now new at c.index_mut.ensures.value c.in_ok-remove.ensures

pub returns-else-is_empty-2-clause-filled : goal.returns-else-is_empty-2-clause-filled
returns-else-is_empty-2-clause-filled c =
    let pieces = c.args.pieces.now.items in
    let home = c.home_of-home.result in
    let new = c.remove.new.piece in
    let within : home < length pieces = rw c.deref.ensures.value at c.home_of-home.ensures.within in
    let here : c.index.result.now ≡ new = c.index.ensures ∙ get_or-set_same pieces home new c.index.result.now within in
    let some : c.deref-2.result.now.len ≢ 0 = eqb-false c.deref-2.result.now.len 0 (sym c.if-is_empty-2.ensures) in
    filled_set points_in pieces home new c.requires.filled (omega (arith, some, c.deref-2.result.now.ok.0, ap (λ v. length v.items) c.deref-2.ensures, ap (λ p. length (points_in p)) here))

pub returns-else-is_empty-2-clause-removed : goal.returns-else-is_empty-2-clause-removed
returns-else-is_empty-2-clause-removed c =
    let pieces = c.args.pieces.now.items in
    let at : IsHome points_in c.args.t pieces c.home_of-home.result = rw c.deref.ensures.value at c.home_of-home.ensures.home in
    home_removed points_in c.args.t pieces c.home_of-home.result c.index_mut.result.now c.remove.new.piece at c.index_mut.ensures.value c.in_ok-remove.ensures
