-- A finite magnitude packed by a layout: whether it is held, and its fields, by where it lies. Assumes nothing.
use Rattle.std.proofs.Common.{◌≡◌, ℕ, ◌+◌, ◌-◌, ◌%◌, ◌^◌, ◌<◌, ◌≤◌, eqb, le-ltb, lt-ltb}
use Rattle.patterns.specs.Patterns.{sig}
use Rattle.places.specs.Places.{high, low}
use Rattle.layouts.specs.declared.Layout.{Layout}
use Rattle.bylayout.specs.ByLayout.{depth, held_by, finite_fields}

module _ (l : Layout) (m : ℕ) where
  -- below the normal range
  module _ (small : m < l.normal) (s : ℕ) (whole : s ≡ sig m) (d : ℕ) (deep : d ≡ depth l.bottom m) where
    pub held_small : (r : ℕ) → r ≡ low s d → eqb r 0 ≡ held_by l m
    unfolding held_by
    held_small r cut = simp (lt-ltb m l.normal small, cut, whole, deep)

    pub fields_small : (y : ℕ) → y ≡ high s d → y ≡ finite_fields l m
    unfolding finite_fields
    fields_small y cut = simp (lt-ltb m l.normal small, cut, whole, deep)

  -- and from there on
  pub fields_normal : l.normal ≤ m → (h : ℕ) → h ≡ high (m - l.normal) l.cut → (y : ℕ) → y ≡ (h + l.first) % 2 ^ 64 → y ≡ finite_fields l m
  unfolding finite_fields
  fields_normal reached h cut y sum = simp (le-ltb m l.normal reached, sum, cut)
