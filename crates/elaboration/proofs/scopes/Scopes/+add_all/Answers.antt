use Rattle.std.proofs.Common.{◌≡◌, ◌+◌, ◌-◌, ◌<◌, ◌≤◌, ℕ, Some, get_or, length, nat_eq, refl, sym, ap, subst, take, ◌∙◌, arith}
use Rattle.std.specs.Prelude.{fold, option_map}
use Rattle.std.specs.List.{slice_get}
use Rattle.std.specs.Map.{lookup}
use Rattle.std.proofs.lemmas.Option.{get_or_from_slice_get}
use Rattle.vtext.specs.Modules.{InstanceEntry}
use Rattle.elaboration.specs.kept.Numbered.{PlacedScope, SoFar, Start, inner_start, placed, with_instance, with_scope, with_scopes}
use Rattle.elaboration.proofs.ScopeLemmas.{instance_none, instance_some, rest_past, scopes_end, scopes_flat, scopes_keep, scopes_whole}
use Rattle.elaboration.proofs.scopes.Scopes.+add_all.Goals as goal
use Rattle.elaboration.proofs.scopes.Scopes.+add_all.Goals.{in-Some+in_ok-add_all, in_default}

pub add_all-requires : goal.add_all-requires
add_all-requires t c = (omega (arith, c.decreases, c.if-levels-eq0.false), (rw c.in-Some.is at c.in_ok-start.ensures.given, c.requires.distinct))

pub returns-then-self-most : goal.returns-then-self-most
returns-then-self-most t c =
    let names = c.args.modules.now.names in
    let modules = c.args.modules.now.modules in
    let scope : PlacedScope = placed c.args.self.now.count c.args.start in
    let first : SoFar = with_scope c.args.self.now c.args.start in
    let instances = c.instances-instance-items.result.now in
    let over : c.args.most < c.loop-instance.self.count = subst (λ (n : ℕ). c.args.most < n) (ap (λ (s : SoFar). s.count) c.self-in-loop-instance.view_is) c.if-self-most.true in
    record {
      few = λ small. absurd (omega (arith, small, over));
      many = λ past.
          subst (λ (s : SoFar). c.args.most < s.count)
          (scopes_whole names modules c.args.levels c.args.self.now c.args.start instances (omega (arith, c.if-levels-eq0.false)) (c.instances-instance-items.ensures ∙ ap (λ (s : Start). s.entry.instances) c.start.view_is))
          (rest_past names modules c.args.most (omega (arith, c.if-self-most.true)) (c.args.levels - 1) scope instances c.loop-instance.instance-index first (c.loop-instance.invariant.many over));
    }

pub returns : goal.returns
returns t c =
    let names = c.args.modules.now.names in
    let modules = c.args.modules.now.modules in
    let instances = c.instances-instance-items.result.now in
    let k = c.loop-instance.instance-index in
    let whole : fold (with_instance names modules (c.args.levels - 1) (placed c.args.self.now.count c.args.start)) (with_scope c.args.self.now c.args.start) (take k instances)
    ≡ with_scopes names modules c.args.levels c.args.self.now c.args.start =
    scopes_end names modules c.args.levels c.args.self.now c.args.start instances k (omega (arith, c.if-levels-eq0.false)) (c.instances-instance-items.ensures ∙ ap (λ (s : Start). s.entry.instances) c.start.view_is)
    (omega (arith, c.loop-instance-test.false, c.loop-instance.auto.instance-index-end)) in
    record {
      few = λ small. (c.loop-instance.invariant.few small).0 ∙ whole;
      many = λ past. subst (λ (s : SoFar). c.args.most < s.count) whole (c.loop-instance.invariant.many past);
    }

pub loop-instance-preserved : goal.loop-instance-preserved
loop-instance-preserved t c =
    let names = c.args.modules.now.names in
    let modules = c.args.modules.now.modules in
    let levels = c.args.levels - 1 in
    let most = c.args.most in
    let scope : PlacedScope = placed c.args.self.now.count c.args.start in
    let first : SoFar = with_scope c.args.self.now c.args.start in
    let so_far : SoFar = c.loop-instance.self in
    let place = c.len-place.result in
    let instances = c.instances-instance-items.result.now in
    let i : InstanceEntry = c.instance-item.result in
    let k = c.loop-instance.instance-index in
    let within : k < length instances = omega (arith, c.loop-instance-test.true, c.loop-instance.auto.instance-index-end) in
    let low : so_far.count ≤ most = subst (λ (n : ℕ). n ≤ most) (ap (λ (s : SoFar). s.count) c.self-in-loop-instance.view_is) c.if-self-most.false in
    let before = c.loop-instance.invariant.few low in
    let kept : get_or so_far.list place scope ≡ scope = get_or_from_slice_get so_far.list place scope scope before.1 in
    let starts : c.in_ok-start.field-0 ≡ option_map (inner_start names scope i) (lookup (nat_eq i.«module») modules) =
    c.in_ok-start.ensures.start scope ∙ ap (λ (s : PlacedScope). option_map (inner_start names s i) (lookup (nat_eq i.«module») modules)) kept in
    elim c.match-branch-3.branch [
      | in-Some+in_ok-add_all w ↦
          let start : Start = w.in-Some.start in
          let all : with_scopes names modules levels so_far start ≡ fold (with_instance names modules levels scope) first (take (k + 1) instances) =
          instance_some names modules levels scope instances k i c.instance-item.is within first so_far (with_scopes names modules levels so_far start) before.0
          start (lookup (nat_eq i.«module») modules) refl (sym w.in-Some.is ∙ starts) refl in
          record {
            few = λ small.
                let made : c.match-branch-3.self ≡ with_scopes names modules levels so_far start = w.self-is ∙ w.in_ok-add_all.ensures.few (subst (λ (s : SoFar). s.count ≤ most) w.self-is small) in (
                  made ∙ all,
                  subst (λ (s : SoFar). slice_get s.list place ≡ Some scope) (sym made) (scopes_keep names modules place scope levels so_far start before.1),
                );
            many = λ past. subst (λ (s : SoFar). most < s.count) all (w.in_ok-add_all.ensures.many (subst (λ (s : SoFar). most < s.count) w.self-is past));
          }
      | in_default w ↦ record {
        few = λ small. (
          w.self-is
              ∙ instance_none names modules levels scope instances k i c.instance-item.is within first so_far c.match-branch-3.self before.0
              (lookup (nat_eq i.«module») modules) refl (sym w.in_default.is ∙ starts),
          subst (λ (s : SoFar). slice_get s.list place ≡ Some scope) (sym w.self-is) before.1,
        );
        many = λ past. absurd (let over : most < so_far.count = subst (λ (s : SoFar). most < s.count) w.self-is past in omega (arith, over, low));
      }
    ]

pub returns-then-levels-eq0 : goal.returns-then-levels-eq0
returns-then-levels-eq0 t c =
    let names = c.args.modules.now.names in
    let modules = c.args.modules.now.modules in
    let whole = scopes_flat names modules c.args.levels c.args.self.now c.args.start c.if-levels-eq0.true in
    record {
      few = λ small. c.in_ok-add.ensures ∙ whole;
      many = λ past. subst (λ (s : SoFar). c.args.most < s.count) (c.in_ok-add.ensures ∙ whole) past;
    }
