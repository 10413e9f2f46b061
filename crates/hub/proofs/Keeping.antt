-- Each step on what is published keeps the rule.
use Rattle.std.proofs.Common.{◌≡◌, ◌≢◌, ℕ, List, [], ◌∷◌, set, Option, Some, None, refl, sym, ◌∙◌, subst, ⊎_elim}
use mathlib.Core.Option.{some, some-ne-none}
use lib.ListN.{get_elem?}
use Rattle.crossbeam_utils.specs.Register.{Admits, Forks, Merges, TurnsAt}
use Rattle.atomic_table.proofs.Lists.{at_set, at_snoc}
use Rattle.logbook.specs.Pages.{Book}
use Rattle.bench.specs.Benches.{SnapshotRecord}
use Rattle.hubcore.specs.Lists.{EntryRecord, StartsWith}
use Rattle.hub.specs.kept.Issues.{IssueRecord, issue_of}
use Rattle.hub.specs.kept.Rules.{Fits, Follows, Keeps, Saw, informed}
use Rattle.hub.proofs.Beginnings.{starts_on, starts_same}

pub follows_same : (now : IssueRecord) → Follows now now
follows_same now = record { log = starts_same now.log; origin = refl; book = refl }

fits_later : (now next : IssueRecord) (view : Option IssueRecord) → Follows now next → Fits now view → Fits next view
fits_later now next (Some old) up fits = record {
  log = starts_on next.log now.log old.log up.log fits.log;
  origin = up.origin ∙ fits.origin;
  book = up.book ∙ fits.book;
}
fits_later now next None up fits = tt

fits_informed : (now : IssueRecord) (own told : Option IssueRecord) → Fits now own → Fits now told → Fits now (informed own told)
fits_informed now (Some old) told fits other = fits
fits_informed now None told fits other = other

-- a new seat knows nothing
pub admits : Admits Keeps None
admits now views kept seat view at =
    ⊎_elim (kept seat view) (λ (e : None ≡ view). subst (Fits now) e tt) (at_snoc views None view seat at)

-- at first there is one seat, which knows nothing
pub begins : (now : IssueRecord) → Keeps now (None ∷ [])
begins now = admits now [] (λ seat view at. absurd (some-ne-none view (sym at)))

-- a seat sees what is published then, which may be new
pub sees : (seat : ℕ) (view : Option IssueRecord) (now next : IssueRecord) → Follows now next → TurnsAt Keeps seat view now next Saw
sees seat view now next up views kept at =
    let seen : Option IssueRecord = Some next in (
      seen,
      (λ other v there.
          ⊎_elim (λ (t : (other ≡ seat) × (seen ≡ v)). subst (Fits next) t.1 (follows_same next))
          (λ (t : (other ≢ seat) × (get_elem? views other ≡ some v)). fits_later now next v up (kept other v t.1))
          (at_set views seat other seen v there)),
      (refl, fits_later now next view up (kept seat view at)),
    )

kept_with : (now : IssueRecord) (views : List (Option IssueRecord)) (seat : ℕ) (view : Option IssueRecord) → Keeps now views → Fits now view →
    Keeps now (set views seat view)
kept_with now views seat view kept fits other v there =
    ⊎_elim (λ (t : (other ≡ seat) × (view ≡ v)). subst (Fits now) t.1 fits)
    (λ (t : (other ≢ seat) × (get_elem? views other ≡ some v)). kept other v t.1)
    (at_set views seat other view v there)

-- a new seat knows what this one knows
pub forks : (seat : ℕ) (view : Option IssueRecord) → Forks Keeps seat view view view
forks seat view now views kept at other v there =
    ⊎_elim (kept_with now views seat view kept (kept seat view at) other v) (λ (same : view ≡ v). subst (Fits now) same (kept seat view at))
    (at_snoc (set views seat view) view v other there)

-- this seat is told what another one knows, which then knows nothing
pub merges : (seat : ℕ) (own : Option IssueRecord) (other : ℕ) (told : Option IssueRecord) → Merges Keeps seat own other told (informed own told) None
merges seat own other told now views kept at apart there =
    let both = informed own told in
    let fits : Fits now told =
    ⊎_elim (λ (t : (other ≡ seat) × (both ≡ told)). absurd (apart t.0))
    (λ (t : (other ≢ seat) × (get_elem? views other ≡ some told)). kept other told t.1)
    (at_set views seat other both told there)
    in
    kept_with now (set views seat both) other None (kept_with now views seat both kept (fits_informed now own told (kept seat own at) fits)) tt

-- more commits of one hub are published later
pub follows_from : (origin : SnapshotRecord) (book : Book) (few more : List EntryRecord) (old new : IssueRecord) → old ≡ issue_of origin book few → new ≡ issue_of origin book more →
    StartsWith more few → Follows old new
follows_from origin book few more old new was is begins =
    let made : Follows (issue_of origin book few) (issue_of origin book more) = record { log = begins; origin = refl; book = refl } in
    subst (λ (z : IssueRecord × IssueRecord). Follows z.0 z.1) (λ i. (sym was i, sym is i)) made
