use Rattle.std.proofs.Common.{◌≢◌, ◌<◌, ◌≤◌, ℕ, get_or, length, sym, ap, ◌∙◌, ◌≡◌, arith}
use Rattle.std.proofs.lemmas.Bool.{eqb-false}
use Rattle.std.proofs.lemmas.List.{get_or_default}
use Rattle.design.proofs.EntryLemmas.{keys_apart}
use Rattle.design.proofs.PlaceLemmas.{put_where}
use Rattle.design.proofs.wiring.put.Goals.{else-at-keys-via-then-at-keys+else-eq, else-at-keys-via-else-at-keys}
use Rattle.design.proofs.wiring.put.Goals as goal

pub returns : goal.returns
returns c =
    let gates = c.args.gates.now in
    let list = c.args.list.now in
    let at = c.place_among-at.result in
    let free : at < length list → (d : ℕ) → get_or list at d ≢ c.args.key = λ within d same.
    elim c.else-at-keys.branch [
      | else-at-keys-via-then-at-keys+else-eq w ↦
          let here : w.index-keys-at.result ≡ get_or list at w.index-keys-at.result = w.index-keys-at.is ∙ ap (λ l. get_or l at w.index-keys-at.result) c.as_slice-keys.ensures in
          eqb-false w.index-keys-at.result c.args.key (sym w.if-eq.ensures) (here ∙ get_or_default list at w.index-keys-at.result d within ∙ same)
      | else-at-keys-via-else-at-keys w ↦
          let past : length list ≤ at = omega (arith, w.if-at-keys.false, ap length c.as_slice-keys.ensures) in
          absurd (omega arith)
    ] in
    c.in_ok-insert.ensures.ok
    ∙ put_where gates list c.args.key at (keys_apart gates c.lawful.ensures.keys) c.requires.ordered c.requires.there (rw (← c.as_slice-keys.ensures) c.place_among-at.ensures.split) (rw (← c.as_slice-keys.ensures) c.place_among-at.ensures.within) free
