use Rattle.std.proofs.Common.{◌≡◌, ℕ, true, List, Option, unwrap_or, ap, sym, ◌∙◌}
use Rattle.vtext.specs.declared.net.Net.{Net}
use Rattle.vtext.specs.Nets.{blank, is_used, net_of}
use Rattle.vtext.specs.kept.Readings.{view}
use Rattle.vtext.proofs.InsertLemmas.{use_again}
use Rattle.vtext.proofs.draft.Draft.note_net.Goals as goal

pub returns-then-is_used : goal.returns-then-is_used
returns-then-is_used c =
    let nets : List (ℕ × Net) = c.args.self.now.«module».nets.entries in
    let again : is_used (unwrap_or (net_of nets c.args.name) blank) ≡ true
    = ap is_used (sym (c.unwrap_or-net.ensures ∙ ap (λ (found : Option Net). unwrap_or found blank) c.requires)) ∙ sym c.if-is_used.ensures in
    ap (λ (list : List (ℕ × Net)). record (view c.args.self.now) { nets = list }) (sym (use_again nets c.args.name again))
