use Rattle.std.proofs.Common.{◌∙◌, map, ap}
use Rattle.rayon.proofs.ListFacts.{IfOk-then}
use Rattle.rayon.proofs.ToStd.{slice-AllZip}
use Rattle.gatestep.specs.Step.{advance}
use Rattle.parstep.proofs.Mapped.{Answers, zip_map, zip_all}
use Rattle.parstep.proofs.bulk.answers.Goals as goal

-- the parallel map gives what the sequential one gives, at the moment that the closure captured
pub returns-clause-answers : goal.returns-clause-answers
returns-clause-answers g c =
    let slice = ap (λ it. it.slice.now) c.map.ensures.base ∙ c.par_iter.ensures in
    let moment = ap (λ f. f.0.now) c.map.ensures.f in
    IfOk-then c.collect.result _ _ c.collect.ensures (λ v h.
    let chain = h.1 in
    rw h.2 (zip_map c.map.result.f.0.now c.args.tasks.now h.0 (slice-AllZip chain.0 c.args.tasks.now (chain.1 ∙ slice) (Answers c.map.result.f.0.now) h.0 chain.2)
    ∙ ap (λ t. map (λ task. advance task t) c.args.tasks.now) moment))

-- and what it leaves pending is for later
pub returns-clause-later : goal.returns-clause-later
returns-clause-later g c =
    let slice = ap (λ it. it.slice.now) c.map.ensures.base ∙ c.par_iter.ensures in
    let moment = ap (λ f. f.0.now) c.map.ensures.f in
    IfOk-then c.collect.result _ _ c.collect.ensures (λ v h.
    let chain = h.1 in
    let all = zip_all c.map.result.f.0.now c.args.tasks.now h.0 (slice-AllZip chain.0 c.args.tasks.now (chain.1 ∙ slice) (Answers c.map.result.f.0.now) h.0 chain.2) in
    rw (h.2, ← moment) all)
