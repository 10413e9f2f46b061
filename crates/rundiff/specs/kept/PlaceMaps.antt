-- What places have.
use Rattle.std.specs.Prelude.{◌==◌, ◌/◌, ◌%◌, ℕ, zero, suc, List, [], map, Option, Some, None, if◌then◌else◌, slice_get, Vec}
use Rattle.std.specs.Global.{Global}
use Rattle.std.specs.List.{slice_index_or}
use Rattle.rundiff.specs.declared.place_map.PlaceMap.{PlaceMap}
use Rattle.rundiff.specs.declared.place_map.TheConstants.{PAGE}

-- the numbers of a page; none where it is missing
abbrev pub page_at : List (Vec ℕ Global) → ℕ → List ℕ
page_at pages page = slice_index_or (map (λ numbers. numbers.items) pages) page []

-- the number of a place's item, from 1 on; 0 is none
unfoldable pub number_at : List (Vec ℕ Global) → ℕ → ℕ
number_at pages p = slice_index_or (page_at pages (p / PAGE)) (p % PAGE) 0

module _ {X : Type 0} where
  -- what an item has for a place: nothing, where it belongs to another one
  abbrev pub owned : ℕ → Option (ℕ × Option X) → Option X
  owned p None = None
  owned p (Some item) = if item.0 == p then item.1 else None

  -- what the item of a number has for a place
  abbrev pub item_at : List (ℕ × Option X) → ℕ → ℕ → Option X
  item_at items p zero = None
  item_at items p (suc k) = owned p (slice_get items k)

  -- what a place has
  abbrev pub kept_at : PlaceMap X → ℕ → Option X
  kept_at map p = item_at map.items.items p (number_at map.pages.items p)
