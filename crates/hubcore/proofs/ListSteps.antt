-- Lists of commits go on with the state whose lengths they have.
use Rattle.std.proofs.Common.{◌≡◌, ◌≢◌, ◌<◌, ◌≤◌, ◌+◌, ◌++◌, ◌∷◌, ◌==◌, [], Bool, true, false, ℕ, List, length, map, take, set, get_or, Option, Some, None, Result, Ok, Err, refl, sym, ap, ◌∙◌, arith, nat_lt, if◌then◌else◌}
use Rattle.std.specs.Prelude.{max}
use Rattle.std.specs.List.{position, remove, slice_get}
use Rattle.std.specs.Result.{IfOk, result_map_both}
use Rattle.std.proofs.lemmas.Bool.Decides.{nat_tests}
use Rattle.std.proofs.lemmas.List.{append-nil, get_or-map, length-map, length-take-le, map-append, map-set}
use Rattle.std.proofs.lemmas.List.Elements.{All-set, All-weaker, filter-append}
use Rattle.std.proofs.lemmas.Option.{get_or_from_slice_get, slice_get_within}
use Rattle.std.proofs.Math.Seq.{map-set_same, take-append_seam}
use Rattle.edits.specs.declared.edit.Edit.{Edit}
use Rattle.bench.specs.Benches.{SnapshotRecord, snapshot_of}
use Rattle.bench.specs.Commits.{after}
use Rattle.hubcore.specs.declared.event.Event.{Event}
use Rattle.hubcore.specs.declared.event.Event.TheVariants.{Submit, Show, Look, Learn, Release}
use Rattle.hubcore.specs.declared.fault.CoreFault.{CoreFault}
use Rattle.hubcore.specs.declared.fault.CoreFault.TheVariants.{AheadOfLog}
use Rattle.hubcore.specs.declared.reply.Reply.{Reply}
use Rattle.hubcore.specs.declared.reply.Reply.TheVariants.{Done}
use Rattle.hubcore.specs.Lists.{EntryRecord, StartsWith, commits_of, entry, lists_of, longer}
use Rattle.hubcore.specs.kept.Lists.{HasLengths, IsKnown, Known, Stands, known, known_after}
use Rattle.hubcore.specs.kept.Snapshots.{snapshot_at}
use Rattle.hubcore.specs.States.{ViewerRecord, CoreRecord, viewer}
use Rattle.hubcore.specs.Steps.{learned, learns, looked, looks, released_at, releases, step, with_viewer}
use Rattle.hubcore.proofs.Beginnings.{length_of_longer, longer_begins, starts_more, starts_on, starts_same, starts_take}

abbrev seen_of : ViewerRecord → ℕ
seen_of v = v.seen

abbrev edits_of : EntryRecord → List Edit
edits_of e = e.edits

abbrev count_of : List EntryRecord → ℕ
count_of front = length front

abbrev by : ℕ → EntryRecord → Bool
by editor e = e.editor == editor

-- where the event is not refused, these are the lists then
abbrev EndsAt : Known → Result (CoreRecord × Reply) CoreFault → Type 0
EndsAt k r = IfOk r (λ done. Stands k done.0)

-- One viewer.

-- as many viewers have lists as there are
as_many : (k : Known) (s : CoreRecord) → HasLengths k s → length s.viewers ≡ length k.viewers
as_many k s has = sym (length-map s.viewers seen_of) ∙ ap length has.counts ∙ length-map k.viewers count_of

-- a viewer's list has the length that it saw
own_length : (k : Known) (s : CoreRecord) (number : ℕ) (v : ViewerRecord) → HasLengths k s → slice_get s.viewers number ≡ Some v →
    v.seen ≡ length (get_or k.viewers number [])
own_length k s number v has at =
    let inside = slice_get_within s.viewers number v at in
    let many = as_many k s has in
    let there : number < length k.viewers = omega (arith, inside, many) in
    ap seen_of (sym (get_or_from_slice_get s.viewers number v v at))
    ∙ sym (get_or-map seen_of s.viewers number v 0 inside)
    ∙ ap (λ counts. get_or counts number 0) has.counts
    ∙ get_or-map count_of k.viewers number [] 0 there

own_begins : (k : Known) (s : CoreRecord) (number : ℕ) (v : ViewerRecord) → Stands k s → slice_get s.viewers number ≡ Some v →
    StartsWith k.shown (get_or k.viewers number [])
own_begins k s number v stands at =
    let inside = slice_get_within s.viewers number v at in
    let many = as_many k s stands.1 in
    stands.0.seen number [] (omega (arith, inside, many))

-- a viewer and its list change together
set_lengths : (k : Known) (s : CoreRecord) (number : ℕ) (v : ViewerRecord) (front : List EntryRecord) → HasLengths k s → v.seen ≡ length front →
    HasLengths (known k.log k.shown (set k.viewers number front)) (with_viewer s number v)
set_lengths k s number v front has same = record {
  edits = has.edits;
  count = has.count;
  counts = map-set seen_of s.viewers number v
      ∙ ap (λ counts. set counts number v.seen) has.counts
      ∙ ap (set (map count_of k.viewers) number) same
      ∙ sym (map-set count_of k.viewers number front);
}

set_known : (k : Known) (number : ℕ) (front : List EntryRecord) → IsKnown k → StartsWith k.shown front → IsKnown (known k.log k.shown (set k.viewers number front))
set_known k number front is begins = record { within = is.within; seen = All-set (StartsWith k.shown) k.viewers number front begins is.seen }

looks_stand : (k : Known) (s : CoreRecord) (number : ℕ) (o : Option ViewerRecord) → Stands k s →
    EndsAt (known k.log k.shown (set k.viewers number k.shown)) (looks s number o)
looks_stand k s number (Some v) stands = (
  set_known k number k.shown stands.0 (starts_same k.shown),
  set_lengths k s number (looked s.shown v) k.shown stands.1 stands.1.count,
)
looks_stand k s number None stands = tt

told_stands : (k : Known) (s : CoreRecord) (number n : ℕ) (v : ViewerRecord) → Stands k s → slice_get s.viewers number ≡ Some v → n ≤ s.shown →
    Stands (known k.log k.shown (set k.viewers number (longer (get_or k.viewers number []) (take n k.shown)))) (with_viewer s number (learned n v))
told_stands k s number n v stands at below =
    let own : List EntryRecord = get_or k.viewers number [] in
    let told : List EntryRecord = take n k.shown in
    let count : s.shown ≡ length k.shown = stands.1.count in
    let long : length told ≡ n = length-take-le n k.shown (omega (arith, count, below)) in
    let seen : v.seen ≡ length own = own_length k s number v stands.1 at in
    let longest : length (longer own told) ≡ max (length own) (length told) = length_of_longer own told in
    let same : max v.seen n ≡ length (longer own told) = ap (λ m. max m n) seen ∙ ap (max (length own)) (sym long) ∙ sym longest in (
      set_known k number (longer own told) stands.0 (longer_begins k.shown own told (own_begins k s number v stands at) (starts_take k.shown n)),
      set_lengths k s number (learned n v) (longer own told) stands.1 same,
    )

tells_stand : (k : Known) (s : CoreRecord) (number n : ℕ) (v : ViewerRecord) → Stands k s → slice_get s.viewers number ≡ Some v →
    (b : Bool) → nat_lt s.shown n ≡ b →
    EndsAt (known k.log k.shown (set k.viewers number (longer (get_or k.viewers number []) (take n k.shown)))) (if b then Err AheadOfLog else Ok (with_viewer s number (learned n v), Done))
tells_stand k s number n v stands at true is = tt
tells_stand k s number n v stands at false is =
    let below : n ≤ s.shown = grind (arith, nat_tests) in
    told_stands k s number n v stands at below

learns_stand : (k : Known) (s : CoreRecord) (number n : ℕ) (o : Option ViewerRecord) → slice_get s.viewers number ≡ o → Stands k s →
    EndsAt (known k.log k.shown (set k.viewers number (longer (get_or k.viewers number []) (take n k.shown)))) (learns s number n o)
learns_stand k s number n (Some v) at stands = tells_stand k s number n v stands at (nat_lt s.shown n) refl
learns_stand k s number n None at stands = tt

let_go_stands : (k : Known) (s : CoreRecord) (number : ℕ) (v : ViewerRecord) → slice_get s.viewers number ≡ Some v → (place : Option ℕ) → Stands k s →
    EndsAt k (result_map_both (λ w. (with_viewer s number w, Done)) (λ fault. fault) (released_at v place))
let_go_stands k s number v at (Some place) stands =
    let same : v.seen ≡ seen_of (get_or s.viewers number v) = ap seen_of (sym (get_or_from_slice_get s.viewers number v v at)) in (
      stands.0,
      record {
        edits = stands.1.edits;
        count = stands.1.count;
        counts = map-set_same seen_of s.viewers number (viewer v.seen (remove v.held place)) v same ∙ stands.1.counts;
      },
    )
let_go_stands k s number v at None stands = tt

releases_stand : (k : Known) (s : CoreRecord) (number n : ℕ) (o : Option ViewerRecord) → slice_get s.viewers number ≡ o → Stands k s →
    EndsAt k (releases s number n o)
releases_stand k s number n (Some v) at stands = let_go_stands k s number v at (position (λ h. h == n) v.held) stands
releases_stand k s number n None at stands = tt

-- All of them.

-- an event that is not refused makes of the lists what it makes of the state
pub step_stands : (k : Known) (s : CoreRecord) (editor : ℕ) (event : Event) → Stands k s → EndsAt (known_after k editor event) (step s event)
step_stands k s editor (Submit edits (Ok version)) stands =
    let new : List EntryRecord = entry editor edits.items ∷ [] in (
      record { within = starts_more k.log k.shown new stands.0.within; seen = stands.0.seen },
      record {
        edits = ap (λ log. log ++ edits.items ∷ []) stands.1.edits ∙ sym (map-append edits_of k.log new);
        count = stands.1.count;
        counts = stands.1.counts;
      },
    )
step_stands k s editor (Submit edits (Err fault)) stands = stands
step_stands k s editor Show stands = (
  record {
    within = starts_same k.log;
    seen = All-weaker (StartsWith k.shown) (StartsWith k.log) (λ front begins. starts_on k.log k.shown front stands.0.within begins) k.viewers stands.0.seen;
  },
  record {
    edits = stands.1.edits;
    count = ap length stands.1.edits ∙ length-map k.log edits_of;
    counts = stands.1.counts;
  },
)
step_stands k s editor (Look number) stands = looks_stand k s number (slice_get s.viewers number) stands
step_stands k s editor (Learn number length) stands = learns_stand k s number length (slice_get s.viewers number) refl stands
step_stands k s editor (Release number length) stands = releases_stand k s number length (slice_get s.viewers number) refl stands

-- the snapshot that is shown is that of the commits that are shown
pub shown_snapshot : (from : SnapshotRecord) (k : Known) (s : CoreRecord) → Stands k s →
    snapshot_at from s.log s.shown ≡ snapshot_of (from.version + length k.shown) (after from.design (lists_of k.shown))
shown_snapshot from k s stands =
    let rest : List EntryRecord = stands.0.within.0 in
    let all : s.log ≡ lists_of k.shown ++ lists_of rest = stands.1.edits ∙ ap lists_of stands.0.within.1 ∙ map-append edits_of k.shown rest in
    let count : s.shown ≡ length (lists_of k.shown) = stands.1.count ∙ sym (length-map k.shown edits_of) in
    let front : take s.shown s.log ≡ lists_of k.shown =
    ap (λ n. take n s.log) count ∙ ap (take (length (lists_of k.shown))) all ∙ take-append_seam (lists_of k.shown) (lists_of rest)
    in
    ap (λ n. snapshot_of (from.version + n) (after from.design (take s.shown s.log))) stands.1.count
    ∙ ap (λ log. snapshot_of (from.version + length k.shown) (after from.design log)) front

-- Editors.

-- a commit comes last among those of its editor
pub commits_own : (log : List EntryRecord) (editor : ℕ) (edits : List Edit) →
    commits_of editor (log ++ entry editor edits ∷ []) ≡ commits_of editor log ++ entry editor edits ∷ []
commits_own log editor edits =
    let e : EntryRecord = entry editor edits in
    let yes : (editor == editor) ≡ true = grind (arith, nat_tests) in
    filter-append (by editor) log (e ∷ []) ∙ ap (λ (b : Bool). commits_of editor log ++ (if b then e ∷ [] else [])) yes

-- and changes nothing in those of another one
pub commits_other : (log : List EntryRecord) (editor other : ℕ) (edits : List Edit) → other ≢ editor →
    commits_of other (log ++ entry editor edits ∷ []) ≡ commits_of other log
commits_other log editor other edits apart =
    let e : EntryRecord = entry editor edits in
    let no : (editor == other) ≡ false = grind (arith, nat_tests) in
    filter-append (by other) log (e ∷ []) ∙ ap (λ (b : Bool). commits_of other log ++ (if b then e ∷ [] else [])) no ∙ append-nil (commits_of other log)
