use Rattle.std.proofs.Common.{◌≡◌, ◌+◌, ◌||◌, Bool, false, HashSet, ℕ, List, ap, ◌∙◌, drop, nat_eq}
use Rattle.std.specs.List.{list_any}
use Rattle.elaboration.specs.Ports.{is_named_twice}
use Rattle.elaboration.proofs.PortLemmas.{fresh_of, is_again, new_last, new_next, none_seen, unnamed_next}
use Rattle.elaboration.proofs.ports.is_named_twice.Goals as goal
use Rattle.elaboration.proofs.ports.is_named_twice.Goals.{in-Some+in_ok-insert+else-not-branch, in_default}

pub loop-connection-init : goal.loop-connection-init
loop-connection-init c =
    let connections = c.args.connections.now in
    ap (λ (names : List ℕ). is_again names connections) c.new-named.ensures.empty ∙ ap (λ (b : Bool). b || is_named_twice connections) (none_seen connections)

pub loop-connection-preserved : goal.loop-connection-preserved
loop-connection-preserved c =
    let connections = c.args.connections.now in
    let at = c.loop-connection.connection-index in
    elim c.match-connection.branch [
      | in-Some+in_ok-insert+else-not-branch w ↦
          let names : List ℕ = c.loop-connection.named.keys in
          let name : ℕ = w.in-Some.name in
          let fresh : list_any (nat_eq name) names ≡ false = fresh_of (list_any (nat_eq name) names) w.in_ok-insert.field-0 w.in_ok-insert.ensures.added w.if-not-branch.false in
          ap (λ (set : HashSet ℕ _). is_again set.keys (drop (at + 1) connections)) w.named-is
          ∙ ap (λ (keys : List ℕ). is_again keys (drop (at + 1) connections)) (w.in_ok-insert.ensures.keys ∙ new_last names name fresh)
          ∙ new_next connections at _ c.loop-connection-test.true names name w.in-Some.is fresh
          ∙ c.loop-connection.invariant
      | in_default w ↦
          ap (λ (names : HashSet ℕ _). is_again names.keys (drop (at + 1) connections)) w.named-is
          ∙ unnamed_next connections at _ c.loop-connection-test.true c.loop-connection.named.keys w.in_default.is
          ∙ c.loop-connection.invariant
    ]
