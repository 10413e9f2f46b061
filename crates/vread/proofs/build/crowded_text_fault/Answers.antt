use Rattle.std.proofs.Common.{◌≡◌, ◌<◌, ℕ, length, Option, Some, All, sym, ap, subst, ◌∙◌}
use Rattle.std.specs.Prelude.{option_map}
use Rattle.design.specs.declared.limits.TheConstants.{MAX_NETS}
use Rattle.vtext.specs.declared.fault.ReadFaultKind.{ReadFaultKind}
use Rattle.vtext.specs.Modules.{ModuleEntry}
use Rattle.elaboration.specs.Ports.{fault_at}
use Rattle.elaboration.specs.Scopes.{nets_of, scopes_of}
use Rattle.elaboration.specs.kept.SoundScopes.{IsSoundScope}
use Rattle.vread.specs.LateFaults.{scopes_fault}
use Rattle.vread.proofs.DesignLemmas.{top_is_sound}
use Rattle.vread.proofs.FaultLemmas.{late_is}
use Rattle.vread.proofs.build.crowded_text_fault.Goals as goal

pub crowded_fault-requires : goal.crowded_fault-requires
crowded_fault-requires c =
    let list = c.args.modules.now in
    let top = c.args.top.now in
    record {
      sound = c.requires.sound;
      scopes = subst (λ (m : ModuleEntry). All (IsSoundScope list.names) (scopes_of list.names list.modules m)) (sym c.«module».ensures)
          (c.scopes_are_sound.ensures list.names list.modules top c.requires.sound (top_is_sound list top c.requires.top c.requires.sound));
      crowded = subst (λ (m : ModuleEntry). MAX_NETS < length (nets_of list.names list.modules m)) (sym c.«module».ensures) c.requires.crowded;
    }

pub returns : goal.returns
returns c =
    let list = c.args.modules.now in
    let top = c.args.top.now in
    let text = c.args.text.now in
    let kind : ReadFaultKind = c.in_ok-kind.kind in
    let found : scopes_fault list.names list.modules top.1 ≡ Some kind =
    subst (λ (m : ModuleEntry). scopes_fault list.names list.modules m ≡ Some kind) c.«module».ensures c.in_ok-kind.ensures in
    late_is text list top c.requires.faultless c.requires.top
    ∙ ap (λ (k : Option ReadFaultKind). option_map (fault_at text top.1.start) k) found
    ∙ sym (ap Some (c.fault_at.ensures ∙ ap (λ (start : ℕ). fault_at text start kind) c.start.ensures))
