use Rattle.std.proofs.Common.{◌≡◌, ◌<◌, length, sym, ap, ◌∙◌, subst, get_or, Some, Ok, refl, arith}
use Rattle.std.specs.List.{slice_get}
use Rattle.std.proofs.lemmas.List.Elements.{All-set}
use Rattle.std.proofs.lemmas.Option.{slice_get_read}
use Rattle.hubcore.specs.States.{ViewerRecord}
use Rattle.hubcore.specs.kept.States.{IsWithin}
use Rattle.hubcore.specs.Steps.{releases, with_viewer}
use Rattle.hubcore.specs.declared.reply.Reply.TheVariants.{Done}
use Rattle.hubcore.proofs.Releases.{release_within, releases_done}
use Rattle.hubcore.proofs.machine.Core.release.Goals as goal

pub invariant_of-self-2 : goal.invariant_of-self-2
invariant_of-self-2 c =
    let xs = c.self.inside.viewers.items in
    let n = c.in_ok-number.number in
    let v : ViewerRecord = c.index_mut.result.now in
    let count : length c.args.self.now.viewers ≡ length xs = ap (λ s. length s.viewers) (sym c.self.view_is) in
    let there = c.in_ok-number.ensures.place.1 in
    let below : n < length xs = omega (arith, count, there) in
    let within : IsWithin c.self.inside.shown v = subst (IsWithin c.self.inside.shown) (sym c.index_mut.ensures.value) (c.self.invariant.1 n v below) in (
      c.self.invariant.0,
      All-set (IsWithin c.self.inside.shown) xs n c.release.new.self (release_within c.self.inside.shown c.args.length v c.release.new.self c.in_ok-release.ensures.released within) c.self.invariant.1,
    )

pub returns-clause-done : goal.returns-clause-done
returns-clause-done c =
    let s = c.args.self.now in
    let n = c.in_ok-number.number in
    let v : ViewerRecord = c.index_mut.result.now in
    let w : ViewerRecord = c.release.new.self in
    let viewers = ap (λ s. s.viewers) (sym c.self.view_is) in
    let there = c.in_ok-number.ensures.place.1 in
    let value : v ≡ get_or s.viewers n v = c.index_mut.ensures.value ∙ ap (λ xs. get_or xs n v) (sym viewers) in
    let at : slice_get s.viewers n ≡ Some v = slice_get_read s.viewers (length s.viewers) n v refl there value in
    ap (λ k. releases s k c.args.length (slice_get s.viewers k)) (sym c.in_ok-number.ensures.place.0)
    ∙ releases_done s n c.args.length v w at c.in_ok-release.ensures.released
    ∙ ap (λ s. Ok (with_viewer s n w, Done)) (sym c.self.view_is)
