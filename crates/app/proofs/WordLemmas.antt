-- What the words ask for, from what `clap` finds in them.
use Rattle.std.proofs.Common.{◌≡◌, ℕ, true, false, List, Option, Some, None, codes, refl}
use Rattle.clap.specs.Words.{Text}
use Rattle.app.specs.Arguments.{arguments_of, asked, delay_given, horizon_given, workers_given}
use Rattle.app.specs.CommandLine.{is_taken, value_of}

pub asked_all : (words : List Text) (name : List ℕ) (h n : ℕ) (d : Option ℕ) → is_taken words ≡ true → value_of (codes "design") words ≡ Some name
    → horizon_given (value_of (codes "horizon") words) ≡ Some h → workers_given (value_of (codes "workers") words) ≡ Some n
    → delay_given (value_of (codes "delay") words) ≡ Some d → asked words ≡ Some (record { design = name; horizon = h; workers = n; delay = d })
unfolding asked
asked_all words name h n d taken design horizon workers delay = rw (taken, design, horizon, workers, delay) refl

pub not_asked : (words : List Text) → is_taken words ≡ false → asked words ≡ None
unfolding asked
not_asked words taken = rw taken refl

pub no_design : (words : List Text) → is_taken words ≡ true → value_of (codes "design") words ≡ None → asked words ≡ None
unfolding asked
no_design words taken design = rw (taken, design) refl

pub no_horizon : (words : List Text) (name : List ℕ) → is_taken words ≡ true → value_of (codes "design") words ≡ Some name
    → horizon_given (value_of (codes "horizon") words) ≡ None → asked words ≡ None
unfolding asked
no_horizon words name taken design horizon = rw (taken, design, horizon) refl

pub no_workers : (words : List Text) (name : List ℕ) (h : ℕ) → is_taken words ≡ true → value_of (codes "design") words ≡ Some name
    → horizon_given (value_of (codes "horizon") words) ≡ Some h → workers_given (value_of (codes "workers") words) ≡ None → asked words ≡ None
unfolding asked
no_workers words name h taken design horizon workers = rw (taken, design, horizon, workers) refl

pub no_delay : (words : List Text) (name : List ℕ) (h n : ℕ) → is_taken words ≡ true → value_of (codes "design") words ≡ Some name
    → horizon_given (value_of (codes "horizon") words) ≡ Some h → workers_given (value_of (codes "workers") words) ≡ Some n
    → delay_given (value_of (codes "delay") words) ≡ None → asked words ≡ None
unfolding asked
no_delay words name h n taken design horizon workers delay = rw (taken, design, horizon, workers, delay) refl

-- words that `clap` takes and that ask for nothing
pub nothing_asked : (words : List Text) → is_taken words ≡ true → asked words ≡ None
    → arguments_of (value_of (codes "design") words) (horizon_given (value_of (codes "horizon") words))
    (workers_given (value_of (codes "workers") words)) (delay_given (value_of (codes "delay") words)) ≡ None
unfolding asked
nothing_asked words taken none = rw taken at none

-- so say their entries
pub values_refused : (words : List Text) (design horizon workers delay : Option Text)
    → arguments_of (value_of (codes "design") words) (horizon_given (value_of (codes "horizon") words))
    (workers_given (value_of (codes "workers") words)) (delay_given (value_of (codes "delay") words)) ≡ None
    → value_of (codes "design") words ≡ design → value_of (codes "horizon") words ≡ horizon → value_of (codes "workers") words ≡ workers
    → value_of (codes "delay") words ≡ delay → arguments_of design (horizon_given horizon) (workers_given workers) (delay_given delay) ≡ None
values_refused words design horizon workers delay none d h n l = rw (d, h, n, l) at none
