-- How a race ends where the design text is refused.
use Rattle.std.proofs.Common.{◌≡◌, ◌⊎◌, ℕ, List, None, inl, inr, subst, sym}
use Rattle.edits.specs.declared.fault.EditFault.TheVariants as edit
use Rattle.vread.specs.Reads.{IsReadFault}
use Rattle.vtext.specs.ReadFaults.{out_of_memory}
use Rattle.vtext.specs.declared.fault.ReadFault.{ReadFault}
use Rattle.vtext.specs.declared.fault.ReadFaultKind.{ReadFaultKind}
use Rattle.vtext.specs.declared.fault.ReadFaultKind.TheVariants as read
use Rattle.racer.specs.Races.{IsDesignEnd}
use Rattle.racer.specs.kept.Races.{end_by}

of_kind : (text : List ℕ) (kind : ReadFaultKind) (f : ReadFault) → IsReadFault None text f → IsDesignEnd text (end_by kind f)
of_kind text (read.Edit edit.OutOfMemory) f is = tt
of_kind text kind f is = is

pub design_refused : (text : List ℕ) (f : ReadFault) → (f ≡ out_of_memory) ⊎ IsReadFault None text f → IsDesignEnd text (end_by f.kind f)
design_refused text f (inl is) = subst (λ (g : ReadFault). IsDesignEnd text (end_by g.kind g)) (sym is) tt
design_refused text f (inr is) = of_kind text f.kind f is
