use Rattle.std.proofs.Common.{◌≡◌, ◌<◌, ◌≤◌, ◌++◌, ◌∷◌, [], length, take, ap, ◌∙◌, sym, arith}
use Rattle.std.proofs.lemmas.Grind.{common_steps}
use Rattle.session.specs.declared.talk.line_buffer.TheConstants.{ROOM}
use Rattle.session.proofs.TalkLemmas.{kept_short, kept_full}
use Rattle.session.proofs.talk.line_buffer.LineBuffer.add.Goals as goal

pub returns-then-len-lt-ROOM : goal.returns-then-len-lt-ROOM
returns-then-len-lt-ROOM c =
    let line = c.self.inside.bytes in
    let pushed : c.push.new.self.items ≡ line.items ++ c.args.byte ∷ [] = grind (arith, common_steps) in
    let short : length line.items < ROOM = omega (arith, line.ok.0) in
    pushed ∙ kept_short ROOM line.items c.args.byte short ∙ ap (λ ws. take ROOM (ws ++ c.args.byte ∷ [])) c.self.view_is

pub returns-else-len-lt-ROOM : goal.returns-else-len-lt-ROOM
returns-else-len-lt-ROOM c =
    let line = c.self.inside.bytes in
    let short : length line.items ≤ ROOM = omega (arith, line.ok.0) in
    let full : ROOM ≤ length line.items = omega (arith, line.ok.0) in
    sym c.self.view_is ∙ kept_full ROOM line.items c.args.byte short full ∙ ap (λ ws. take ROOM (ws ++ c.args.byte ∷ [])) c.self.view_is
