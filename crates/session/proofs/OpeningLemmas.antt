-- Why a session does not open.
use Rattle.std.proofs.Common.{◌≡◌, ◌⊎◌, ℕ, ◌<◌, ◌≤◌, List, length, Option, Result, Err, inl, inr, refl, sym, ap, subst, ◌∙◌}
use Rattle.std.proofs.lemmas.Bool.{cases_lt}
use Rattle.edits.specs.declared.fault.EditFault.TheVariants as edit
use Rattle.vread.specs.Reads.{IsReadFault, MAX_TEXT}
use Rattle.vtext.specs.ReadFaults.{out_of_memory, too_long}
use Rattle.vtext.specs.declared.fault.ReadFault.{ReadFault}
use Rattle.vtext.specs.declared.fault.ReadFaultKind.{ReadFaultKind}
use Rattle.vtext.specs.declared.fault.ReadFaultKind.TheVariants as read
use Rattle.session.specs.Opening.{IsTextRefused}
use Rattle.session.specs.kept.Opening.{fault_by}

err_is : {A E : Type 0} (x y : E) → ◌≡◌ {A = Result A E} (Err x) (Err y) → x ≡ y
err_is x y e = cc

other_kind : read.Text ≡ read.Edit edit.OutOfMemory → ⊥
other_kind e = cc

-- a text over its limit does not run out of memory
within : {A : Type 0} (text : List ℕ) (f : ReadFault) → (MAX_TEXT < length text → ◌≡◌ {A = Result A ReadFault} (Err f) (Err too_long)) → f.kind ≡ read.Edit edit.OutOfMemory
    → (MAX_TEXT < length text) ⊎ (length text ≤ MAX_TEXT) → length text ≤ MAX_TEXT
within text f long memory (inl over) = absurd (other_kind (sym (ap (λ (g : ReadFault). g.kind) (err_is f too_long (long over))) ∙ memory))
within text f long memory (inr short) = short

of_kind : (delay : Option ℕ) (text : List ℕ) (kind : ReadFaultKind) (f : ReadFault) → (kind ≡ read.Edit edit.OutOfMemory → length text ≤ MAX_TEXT) → IsReadFault delay text f
    → IsTextRefused delay text (fault_by kind f)
of_kind delay text (read.Edit edit.OutOfMemory) f short is = short refl
of_kind delay text kind f short is = is

-- a fault of the reading is the text's, or tells that memory ran out
pub text_refused : {A : Type 0} (delay : Option ℕ) (text : List ℕ) (f : ReadFault) → (f ≡ out_of_memory) ⊎ IsReadFault delay text f
    → (MAX_TEXT < length text → ◌≡◌ {A = Result A ReadFault} (Err f) (Err too_long)) → IsTextRefused delay text (fault_by f.kind f)
text_refused delay text f (inl is) long =
    let short : length text ≤ MAX_TEXT = within text f long (ap (λ (g : ReadFault). g.kind) is) (cases_lt MAX_TEXT (length text)) in
    subst (λ (g : ReadFault). IsTextRefused delay text (fault_by g.kind g)) (sym is) short
text_refused delay text f (inr is) long = of_kind delay text f.kind f (λ memory. within text f long memory (cases_lt MAX_TEXT (length text))) is
