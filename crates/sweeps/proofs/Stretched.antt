-- Sweeping a stretch of an array: a turn, the end, and the same by another number of its mode. Assumes nothing.
use Rattle.std.proofs.Common.{◌≡◌, ℕ, ◌+◌, ◌/◌, ◌^◌, ◌<◌, true, eqb, List, subst, arith, eqb-true}
use lib.Bits.{bit_or}
use Rattle.laws.proofs.Words.{or_left_below, or_right_below}
use Rattle.magnitudes.specs.declared.Mode.{Mode}
use Rattle.magnitudes.specs.declared.Settings.{Settings}
use Rattle.magnitudes.specs.Modes.{mode_of}
use Rattle.sweeps.specs.declared.Limits.{Limits}
use Rattle.sweeps.specs.declared.Swept.{Swept}
use Rattle.sweeps.specs.Limits.{limits}
use Rattle.sweeps.specs.Stretches.{SweptTo}

module _ (Done : Settings → ℕ → List ℕ → Type 0) (l : Limits) where
  module _ (mode : Mode) (from : ℕ) (before : List ℕ) where
    -- a turn stores one answer, which is right where it fits
    pub swept_more : (i unfit : ℕ) (l₁ l₂ : List ℕ) (y : Swept) → SweptTo Done l mode from i (unfit < 2 ^ 63) before l₁
        → ((s : Settings) → Done s from l₁ → Done s from l₂)
        → ((s : Settings) → l ≡ limits s → mode ≡ s.mode → y.unfit < 2 ^ 63 → Done s i l₁ → Done s (i + 1) l₂)
        → SweptTo Done l mode from (i + 1) (bit_or unfit y.unfit < 2 ^ 63) before l₂
    swept_more i unfit l₁ l₂ y swept keeps rounds =
        record {
          kept = λ s done. keeps s (swept.kept s done);
          right =
              λ s by named done all.
              rounds s by named (or_right_below 63 unfit y.unfit all)
              (swept.right s by named done (or_left_below 63 unfit y.unfit all));
        }

    -- a sweep that has come to the stretch's end has swept the stretch
    pub swept_all : (i to unfit : ℕ) (after : List ℕ) → ((s : Settings) → Done s i after → Done s to after)
        → SweptTo Done l mode from i (unfit < 2 ^ 63) before after → SweptTo Done l mode from to (eqb (unfit / 2 ^ 63) 0 ≡ true) before after
    swept_all i to unfit after fewer swept =
        record { kept = swept.kept; right = λ s by named done all. fewer s (swept.right s by named done (let none = eqb-true (unfit / 2 ^ 63) 0 all in omega arith)) }

  module _ (mode r from to : ℕ) (Fit : Type 0) (before after : List ℕ) where
    -- what is swept by another number and r of the same mode is swept in the mode
    by_number_lem : (n q : ℕ) → mode_of n q ≡ mode_of mode r → SweptTo Done l (mode_of n q) from to Fit before after
        → SweptTo Done l (mode_of mode r) from to Fit before after
    by_number_lem n q same swept = subst (λ (m : Mode). SweptTo Done l m from to Fit before after) same swept
