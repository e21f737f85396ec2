-- The magnitude pattern of a code's fields by a layout, by where they lie. Assumes nothing.
use Rattle.std.proofs.Common.{◌≡◌, ℕ, ◌+◌, ◌-◌, ◌%◌, ◌^◌, ◌<◌, ◌≤◌, le-ltb, lt-ltb, eq-eqb, ne_eqb}
use Rattle.patterns.specs.Patterns.{infinity, quiet_nan, digits_of}
use Rattle.places.specs.Places.{high, moved_up}
use Rattle.layouts.specs.declared.Layout.{Layout}
use Rattle.bylayout.specs.ByLayout.{small_pattern, magnitude_by}

-- ---- below the normal range: 0, a fraction alone, or a first digit where a normal number has it

module _ (bottom n : ℕ) where
  pub small_zero : n ≡ 0 → 0 ≡ small_pattern bottom n
  unfolding small_pattern
  small_zero none = simp (eq-eqb n 0 none)

  module _ (some : n ≡ 0 → ⊥) (digits : ℕ) (counted : digits ≡ digits_of n) (room : ℕ) (left : room ≡ 53 - digits) where
    pub small_short : bottom < room → (y : ℕ) → y ≡ moved_up n bottom → y ≡ small_pattern bottom n
    unfolding small_pattern
    small_short low y moved = simp (ne_eqb n 0 some, ← counted, ← left, lt-ltb bottom room low, moved)

    pub small_full : room ≤ bottom → (e : ℕ) → e ≡ moved_up (bottom - room) 52 → (s : ℕ) → s ≡ moved_up n room
        → (y : ℕ) → y ≡ (e + s) % 2 ^ 64 → y ≡ small_pattern bottom n
    unfolding small_pattern
    small_full high e rest s moved y sum =
        simp (ne_eqb n 0 some, ← counted, ← left, le-ltb bottom room high, sum, rest, moved)

-- ---- the magnitude pattern: below the normal range, in it, infinity, NaN

module _ (l : Layout) (n : ℕ) where
  pub unpacks_small : n < l.first → (y : ℕ) → y ≡ small_pattern l.bottom n → y ≡ magnitude_by l n
  unfolding magnitude_by
  unpacks_small small y is = simp (lt-ltb n l.first small, is)

  module _ (normal : l.first ≤ n) where
    pub unpacks_normal : n < l.infinity → (s : ℕ) → s ≡ moved_up (n - l.first) l.cut → (y : ℕ) → y ≡ (s + l.normal) % 2 ^ 64
        → y ≡ magnitude_by l n
    unfolding magnitude_by
    unpacks_normal finite s moved y sum = simp (le-ltb n l.first normal, lt-ltb n l.infinity finite, sum, moved)

    module _ (past : l.infinity ≤ n) where
      pub unpacks-infinity : n ≡ l.infinity → infinity ≡ magnitude_by l n
      unfolding magnitude_by
      unpacks-infinity at = simp (le-ltb n l.first normal, le-ltb n l.infinity past, eq-eqb n l.infinity at)

      pub unpacks_nan : (n ≡ l.infinity → ⊥) → quiet_nan ≡ magnitude_by l n
      unfolding magnitude_by
      unpacks_nan above = simp (le-ltb n l.first normal, le-ltb n l.infinity past, ne_eqb n l.infinity above)
