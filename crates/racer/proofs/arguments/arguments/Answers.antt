use Rattle.std.proofs.Common.{◌∙◌, codes, map, string_bytes, sym}
use Rattle.racer.specs.Arguments.{Arguments}
use Rattle.racer.specs.declared.arguments.Args.{Args}
use Rattle.racer.proofs.ArgumentLemmas.{found_asks, found_stops, refused_stops}
use Rattle.racer.proofs.arguments.arguments.Goals as goal

abbrev arguments_in : Args → Arguments
arguments_in args = record { design = string_bytes args.design; script = string_bytes args.script; viewers = args.viewers; looks = args.looks }

pub returns-in-Ok-clause-ok : goal.returns-in-Ok-clause-ok
returns-in-Ok-clause-ok g c =
    let ok = c.in-Ok.ensures.ok in
    found_asks (map g.S.AsStr.text c.args.words.now) _ _ _ _ c.arguments_of.result arguments_in ok.0 (sym (ok.1 (codes "design")) ∙ sym c.get_str.ensures)
    (sym (ok.1 (codes "script")) ∙ sym c.get_str-in-Ok.ensures) (sym (ok.1 (codes "viewers")) ∙ sym c.get_str-in-Ok-2.ensures)
    (sym (ok.1 (codes "looks")) ∙ sym c.get_str-in-Ok-3.ensures) c.arguments_of.ensures.ok

pub returns-in-Ok-clause-stopped : goal.returns-in-Ok-clause-stopped
returns-in-Ok-clause-stopped g c =
    let ok = c.in-Ok.ensures.ok in
    found_stops (map g.S.AsStr.text c.args.words.now) _ _ _ _ c.arguments_of.result ok.0 (sym (ok.1 (codes "design")) ∙ sym c.get_str.ensures)
    (sym (ok.1 (codes "script")) ∙ sym c.get_str-in-Ok.ensures) (sym (ok.1 (codes "viewers")) ∙ sym c.get_str-in-Ok-2.ensures)
    (sym (ok.1 (codes "looks")) ∙ sym c.get_str-in-Ok-3.ensures) c.arguments_of.ensures.stopped

pub returns-in-Err-clause-stopped : goal.returns-in-Err-clause-stopped
returns-in-Err-clause-stopped g c =
    refused_stops (map g.S.AsStr.text c.args.words.now) c.refused.result (c.refused.ensures _ c.in-Err.ensures.refused)
