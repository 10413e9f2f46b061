use Rattle.std.proofs.Common.{◌≡◌, ◌-◌, ◌<◌, ℕ, List, false, true, get_or, sym, ap, subst, ◌∙◌, arith}
use Rattle.vtext.specs.Modules.{InstanceEntry, ModuleEntry}
use Rattle.vread.specs.kept.Searches.{AreAlike, any_inside, is_wanted, path_after}
use Rattle.vread.proofs.SearchLemmas.{alike_same, any_flat, any_here, found_inside, inside_none, inside_some, none_inside, none_next}
use Rattle.vread.proofs.search.+any_below.Goals as goal

pub any_below-requires : goal.any_below-requires
any_below-requires t c = (omega (arith, c.decreases, c.if-levels-eq0.false), c.requires)

pub returns-then-is_wanted : goal.returns-then-is_wanted
returns-then-is_wanted t c =
    any_here c.args.modules.now.names c.args.modules.now.modules c.args.wanted c.args.levels c.args.path c.args.scope.now
    (ap (λ (ns : List (List ℕ)). is_wanted ns c.args.wanted c.args.path c.args.scope.now) (sym c.names-names.ensures) ∙ sym c.is_wanted.ensures ∙ c.if-is_wanted.true)

pub returns-then-levels-eq0 : goal.returns-then-levels-eq0
returns-then-levels-eq0 t c =
    any_flat c.args.modules.now.names c.args.modules.now.modules c.args.wanted c.args.levels c.args.path c.args.scope.now c.if-levels-eq0.true
    (ap (λ (ns : List (List ℕ)). is_wanted ns c.args.wanted c.args.path c.args.scope.now) (sym c.names-names.ensures) ∙ sym c.is_wanted.ensures ∙ c.if-is_wanted.false)

pub returns : goal.returns
returns t c =
    none_inside c.args.modules.now.names c.args.modules.now.modules c.args.wanted c.args.levels c.args.path c.args.scope.now c.instances-instances.result.now
    (c.instances-instances.ensures ∙ ap (λ (m : ModuleEntry). m.instances) c.«module».ensures) (omega (arith, c.if-levels-eq0.false))
    (ap (λ (ns : List (List ℕ)). is_wanted ns c.args.wanted c.args.path c.args.scope.now) (sym c.names-names.ensures) ∙ sym c.is_wanted.ensures ∙ c.if-is_wanted.false)
    c.loop-place.place (omega (arith, c.loop-place-test.false)) c.loop-place.invariant

pub returns-then-found : goal.returns-then-found
returns-then-found t c =
    let names = c.args.modules.now.names in
    let modules = c.args.modules.now.modules in
    let scope = c.args.scope.now in
    let i : InstanceEntry = c.index-instances-place.result in
    let fewer : ℕ = c.args.levels - 1 in
    let here : any_inside names modules c.args.wanted fewer c.args.path scope i ≡ true =
    inside_some names modules c.args.wanted c.args.levels c.args.path scope fewer i c.in-Some.inner c.path_after-inner_path.result (sym c.in-Some.is ∙ c.in_ok-inner.ensures)
    (c.path_after-inner_path.ensures ∙ ap (λ (ns : List (List ℕ)). path_after ns c.args.path i) c.names-names.ensures)
    ∙ sym c.in_ok-found.ensures ∙ c.if-found.true in
    found_inside names modules c.args.wanted c.args.levels c.args.path scope c.instances-instances.result.now
    (c.instances-instances.ensures ∙ ap (λ (m : ModuleEntry). m.instances) c.«module».ensures) (omega (arith, c.if-levels-eq0.false))
    (ap (λ (ns : List (List ℕ)). is_wanted ns c.args.wanted c.args.path scope) (sym c.names-names.ensures) ∙ sym c.is_wanted.ensures ∙ c.if-is_wanted.false)
    c.loop-place.place i (omega (arith, c.loop-place-test.true)) (ap (any_inside names modules c.args.wanted fewer c.args.path scope) (sym c.index-instances-place.is) ∙ here)

pub loop-place-preserved : goal.loop-place-preserved
loop-place-preserved t c =
    let names = c.args.modules.now.names in
    let modules = c.args.modules.now.modules in
    let scope = c.args.scope.now in
    let instances = c.instances-instances.result.now in
    let place = c.loop-place.place in
    let i : InstanceEntry = c.index-instances-place.result in
    let fewer : ℕ = c.args.levels - 1 in
    let here : any_inside names modules c.args.wanted fewer c.args.path scope i ≡ false =
    inside_some names modules c.args.wanted c.args.levels c.args.path scope fewer i c.in-Some.inner c.path_after-inner_path.result (sym c.in-Some.is ∙ c.in_ok-inner.ensures)
    (c.path_after-inner_path.ensures ∙ ap (λ (ns : List (List ℕ)). path_after ns c.args.path i) c.names-names.ensures)
    ∙ sym c.in_ok-found.ensures ∙ c.if-found.false in
    none_next names modules c.args.wanted fewer c.args.path scope instances place i (omega (arith, c.loop-place-test.true)) c.index-instances-place.is here c.loop-place.invariant

pub loop-place-preserved-in_default : goal.loop-place-preserved-in_default
loop-place-preserved-in_default t c =
    let names = c.args.modules.now.names in
    let modules = c.args.modules.now.modules in
    let scope = c.args.scope.now in
    let instances = c.instances-instances.result.now in
    let i : InstanceEntry = c.index-instances-place.result in
    let fewer : ℕ = c.args.levels - 1 in
    none_next names modules c.args.wanted fewer c.args.path scope instances c.loop-place.place i (omega (arith, c.loop-place-test.true)) c.index-instances-place.is
    (inside_none names modules c.args.wanted c.args.levels c.args.path scope fewer i (sym c.in_default.is ∙ c.in_ok-inner.ensures)) c.loop-place.invariant

pub loop-place-preserved-then-is_repeated : goal.loop-place-preserved-then-is_repeated
loop-place-preserved-then-is_repeated t c =
    let names = c.args.modules.now.names in
    let modules = c.args.modules.now.modules in
    let scope = c.args.scope.now in
    let instances = c.instances-instances.result.now in
    let place = c.loop-place.place in
    let i : InstanceEntry = c.index-instances-place.result in
    let fewer : ℕ = c.args.levels - 1 in
    let more : 0 < place = c.is_repeated.ensures.there c.if-is_repeated.true in
    let alike : AreAlike names (get_or instances (place - 1) i) (get_or instances place i) =
    subst (λ (ns : List (List ℕ)). AreAlike ns (get_or instances (place - 1) i) (get_or instances place i)) c.names-names.ensures (c.is_repeated.ensures.alike c.if-is_repeated.true i) in
    none_next names modules c.args.wanted fewer c.args.path scope instances place i (omega (arith, c.loop-place-test.true)) c.index-instances-place.is
    (ap (any_inside names modules c.args.wanted fewer c.args.path scope) c.index-instances-place.is
    ∙ alike_same names modules c.args.wanted fewer c.args.path scope (get_or instances (place - 1) i) (get_or instances place i) alike ∙ c.loop-place.invariant (place - 1) (omega (arith, more)) i) c.loop-place.invariant
