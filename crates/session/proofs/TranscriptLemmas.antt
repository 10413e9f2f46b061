-- Transcripts, a line at a time.
use Rattle.std.proofs.Common.{◌≡◌, ℕ, List, [], ◌∷◌, ◌++◌, Bool, true, false, ◌||◌, refl, sym, ap, subst, ◌∙◌, append_assoc, append-nil}
use Rattle.std.specs.List.{list_any}
use Rattle.std.proofs.lemmas.List.Folds.{list_any-append}
use Rattle.session.specs.State.{SessionState, Answers, Transcript, ends}
use Rattle.session.specs.kept.State.{Reaches, answered, opened}
use Rattle.session.proofs.StepLemmas.{tools_kept}

pub transcript_quit : (s s' : SessionState) (line : List ℕ) (more : List (List ℕ)) (reply : List ℕ)
    → Answers s line reply s' → ends s.tools line ≡ true → Transcript s (line ∷ more) reply
transcript_quit s s' line more reply answers quits = (reply, s', [], answers, sym (append-nil reply), rw quits refl)

pub transcript_last : (s s' : SessionState) (line reply : List ℕ) (b : Bool) → ends s.tools line ≡ b → Answers s line reply s' → Transcript s (line ∷ []) reply
transcript_last s s' line reply true e answers = (reply, s', [], answers, sym (append-nil reply), rw e refl)
transcript_last s s' line reply false e answers = (reply, s', [], answers, sym (append-nil reply), rw e refl)

-- lines that were answered, and a transcript of more lines
pub joins : {first now : SessionState} {done : List (List ℕ)} {out : List ℕ} (more : List (List ℕ)) (rest : List ℕ)
    → Reaches first done out now → Transcript now more rest → Transcript first (done ++ more) (out ++ rest)
joins more rest opened t = t
joins {first = first} more rest (answered {lines = lines} {out = out} {now = now} {new = new} line reply reaches answers goes) t =
    let P : List (List ℕ) → Type 0 = λ ls. Transcript first ls ((out ++ reply) ++ rest) in
    let Q : List ℕ → Type 0 = λ text. Transcript first (lines ++ line ∷ more) text in
    let behind : Transcript now (line ∷ more) (reply ++ rest) = (reply, new, rest, answers, refl, rw goes t) in
    let whole = joins (line ∷ more) (reply ++ rest) reaches behind in
    subst P (sym (append_assoc lines (line ∷ []) more)) (subst Q (sym (append_assoc out reply rest)) whole)

neither : (a b : Bool) → a ≡ false → b ≡ false → (a || (b || false)) ≡ false
neither false false e g = refl
neither false true e g = g
neither true b e g = absurd (cc)

-- a session knows the questions of tools or not, from its opening on
pub same_tools : {first now : SessionState} {done : List (List ℕ)} {out : List ℕ} → Reaches first done out now → now.tools ≡ first.tools
same_tools opened = refl
same_tools (answered {now = now} {new = new} line reply reaches answers goes) = tools_kept now line reply new answers ∙ same_tools reaches

-- none of the lines that were answered ended the session
pub none_ends : {first now : SessionState} {done : List (List ℕ)} {out : List ℕ} → Reaches first done out now → list_any (ends first.tools) done ≡ false
none_ends opened = refl
none_ends {first = first} (answered {lines = lines} line reply reaches answers goes) =
    let went : ends first.tools line ≡ false = ap (λ (tools : Bool). ends tools line) (sym (same_tools reaches)) ∙ goes in
    list_any-append (ends first.tools) lines (line ∷ [])
    ∙ neither (list_any (ends first.tools) lines) (ends first.tools line) (none_ends reaches) went

-- the transcript of the lines that were answered, and of no more
pub joins_none : {first now : SessionState} {done : List (List ℕ)} {out : List ℕ} → Reaches first done out now → Transcript first (done ++ []) out
joins_none {first = first} {done = done} {out = out} reaches =
    let P : List ℕ → Type 0 = λ text. Transcript first (done ++ []) text in subst P (append-nil out) (joins [] [] reaches refl)
