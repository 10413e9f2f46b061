use Rattle.std.proofs.Common.{◌≡◌, ◌∙◌, ◌+◌, ap, subst, sym, refl, ℕ, List}
use Rattle.std.specs.Arc.{arc_value}
use Rattle.bench.specs.Benches.{BenchRecord, SnapshotRecord, since_of}
use Rattle.bench.specs.kept.Since.{HasSince, since_name, versions_in}
use Rattle.bench.specs.declared.simulated.Simulated.{Simulated}
use Rattle.bench.proofs.CommitLemmas.{where_err}
use Rattle.bench.proofs.PastLemmas.{committed, kept_versions, past_as_before, past_by_commit}
use Rattle.bench.proofs.bench.Bench.commit.Goals as goal

pub returns-in_err-simulated-in-Ok-clause-same : goal.returns-in_err-simulated-in-Ok-clause-same
returns-in_err-simulated-in-Ok-clause-same g c =
    let inside = c.self.inside in let now = c.next_of.new.since in
    let d = (arc_value inside.simulated).design in
    let same = subst (λ (s : Simulated). (name : List ℕ) → since_name now s.design name ≡ since_name inside.since s.design name) c.deref-in-Ok.ensures c.in_err-simulated-in-Ok.ensures.same in
    where_err c.from_residual.result (λ name.
    kept_versions d inside.since now name (same name) ∙ ap (λ (b : BenchRecord). since_of b name) c.self.view_is)

pub returns-in_err-simulated-in-Ok-clause-past : goal.returns-in_err-simulated-in-Ok-clause-past
returns-in_err-simulated-in-Ok-clause-past g c =
    let inside = c.self.inside in let now = c.next_of.new.since in
    let d = (arc_value inside.simulated).design in
    let same = subst (λ (s : Simulated). (name : List ℕ) → since_name now s.design name ≡ since_name inside.since s.design name) c.deref-in-Ok.ensures c.in_err-simulated-in-Ok.ensures.same in
    λ held past.
    past_as_before c.args.self.now _ held (ap (λ (b : BenchRecord). b.snapshot) c.self.view_is)
    (λ name. kept_versions d inside.since now name (same name) ∙ ap (λ (b : BenchRecord). since_of b name) c.self.view_is) past

pub returns-in_ok-simulated-in-Ok-clause-since : goal.returns-in_ok-simulated-in-Ok-clause-since
returns-in_ok-simulated-in-Ok-clause-since g c =
    let inside = c.self.inside in let now = c.next_of.new.since in let made = c.in-Ok.made.0 in
    let done = c.in_ok-simulated-in-Ok.ensures in
    let d = (arc_value inside.simulated).design in
    let version = c.version-version.result + 1 in
    let has = subst (λ (s : Simulated). (name : List ℕ) → HasSince version s.design made inside.since now name) c.deref-in-Ok.ensures done.since in
    committed version d made inside.since now c.args.self.now (versions_in now (arc_value c.in_ok-simulated-in-Ok.simulated).design) now.gone (arc_value c.in_ok-simulated-in-Ok.present)
    (ap (λ (b : BenchRecord). b.since) (sym c.self.view_is)) (ap (λ (b : BenchRecord). b.gone) (sym c.self.view_is))
    (ap (λ (b : BenchRecord). b.snapshot.design) (sym c.self.view_is) ∙ c.self.invariant.1.design)
    (ap (versions_in now) done.design) refl done.snapshot has

pub returns-in_ok-simulated-in-Ok-clause-past : goal.returns-in_ok-simulated-in-Ok-clause-past
returns-in_ok-simulated-in-Ok-clause-past g c =
    let done = c.in_ok-simulated-in-Ok.ensures in
    let was : c.version-version.result ≡ c.args.self.now.snapshot.version =
    c.version-version.ensures ∙ ap (λ (s : SnapshotRecord). s.version) c.deref.ensures ∙ ap (λ (b : BenchRecord). b.snapshot.version) c.self.view_is in
    λ held past.
    past_by_commit c.args.self.now _ held (ap (λ (s : SnapshotRecord). s.version) done.snapshot ∙ ap (λ (n : ℕ). n + 1) was) (returns-in_ok-simulated-in-Ok-clause-since g c) past
