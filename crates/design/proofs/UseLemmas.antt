-- Whether a gate reads or drives the net of a key.
use Rattle.std.proofs.Common.{◌≡◌, ◌==◌, ◌||◌, ℕ, Bool, true, false, not, List, Some, length, sym, refl, ap, ◌∙◌}
use Rattle.std.proofs.lemmas.Bool.{or_left}
use Rattle.std.specs.List.{list_any}
use Rattle.catalog.specs.Catalog.{record_at, records_of}
use Rattle.design.specs.Keys.{Keyed, KeyedGate, netlist}
use Rattle.design.specs.kept.Keys.{driver_keys, drives_key, reader_keys, reads_key}
use Rattle.design.specs.kept.Kept.{IsKept}
use Rattle.design.specs.Netlist.{NetEntry, is_used}
use Rattle.design.proofs.ConnectionLemmas.{used_by_name}
use Rattle.design.proofs.DesignLemmas.{net_keys_apart, nets_apart}
use Rattle.design.proofs.LookLemmas.{none_pass, some_pass}

or_right : (a b : Bool) → b ≡ true → (a || b) ≡ true
or_right true b h = refl
or_right false b h = h

used_is : (d : Keyed) (points : ℕ) (read driven : List (List ℕ)) (key : ℕ) (n : NetEntry) → IsKept d points read driven → record_at d.nets key ≡ Some n → is_used (netlist d) n.name ≡ list_any (λ g. reads_key g key || drives_key g key) (records_of d.gates)
unfolding netlist
used_is d points read driven key n h there = used_by_name d.nets d.gates key n (net_keys_apart d points read driven h) (nets_apart d points read driven h) there h.keys.connected

pub used_by_reader : (d : Keyed) (points : ℕ) (read driven : List (List ℕ)) (key : ℕ) (n : NetEntry) (list : List ℕ) → IsKept d points read driven → record_at d.nets key ≡ Some n → list ≡ reader_keys d key → (length list == 0) ≡ false → true ≡ is_used (netlist d) n.name
used_by_reader d points read driven key n list h there at some =
    sym (used_is d points read driven key n h there
    ∙ some_pass (λ (g : KeyedGate). reads_key g key) (λ g. reads_key g key || drives_key g key) d.gates (ap (λ (l : List ℕ). length l == 0) (sym at) ∙ some) (λ g on. or_left (reads_key g key) (drives_key g key) on))

pub used_by_driver : (d : Keyed) (points : ℕ) (read driven : List (List ℕ)) (key : ℕ) (n : NetEntry) (readers drivers : List ℕ) → IsKept d points read driven → record_at d.nets key ≡ Some n → readers ≡ reader_keys d key → (length readers == 0) ≡ true → drivers ≡ driver_keys d key →
    not (length drivers == 0) ≡ is_used (netlist d) n.name
used_by_driver d points read driven key n readers drivers h there at none on = two (length drivers == 0) refl ∙ sym (used_is d points read driven key n h there)
  where
    two : (b : Bool) → (length drivers == 0) ≡ b → not b ≡ list_any (λ g. reads_key g key || drives_key g key) (records_of d.gates)
    two true l = sym (none_pass (λ (g : KeyedGate). reads_key g key) (λ g. drives_key g key) d.gates (ap (λ (m : List ℕ). length m == 0) (sym at) ∙ none) (ap (λ (m : List ℕ). length m == 0) (sym on) ∙ l))
    two false l =
        sym (some_pass (λ (g : KeyedGate). drives_key g key) (λ g. reads_key g key || drives_key g key) d.gates (ap (λ (m : List ℕ). length m == 0) (sym on) ∙ l) (λ g it. or_right (reads_key g key) (drives_key g key) it))
