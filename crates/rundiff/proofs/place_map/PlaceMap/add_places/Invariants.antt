use Rattle.std.proofs.Common.{◌≡◌, ◌<◌, ℕ, All, take, true}
use Rattle.rundiff.specs.kept.Places.{is_among}
use Rattle.rundiff.proofs.Items.{IsFound}
use Rattle.rundiff.proofs.place_map.PlaceMap.add_places.Given as goal

-- the places of the items so far are added
abbrev pub invariant-loop-i : goal.invariant-loop-i
invariant-loop-i g l = record {
  below : All (λ p. p < l.count) l.fn.places.items → All (λ p. p < l.count) l.places.items;
  more : (p : ℕ) → is_among l.fn.places.items p ≡ true → is_among l.places.items p ≡ true;
  added : All (IsFound l.count l.places.items) (take l.i l.self.items.items);
}
