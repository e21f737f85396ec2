-- Sweeping a stretch of an array: a turn, the end, and what its answer says. Assumes nothing.
use mathlib.Core.Bool.{Bool, true}
use mathlib.Core.List.{List}
use mathlib.Core.Path.{◌≡◌, sym, subst}
use Prim.Native.Nat.{ℕ, ◌+◌, ◌/◌, ◌^◌, ◌≤◌, ◌<◌}
use lib.Bits.{bit_or}
use lib.Dec.{eqb}
use lib.ListN.{length, get_or, set}
use Rattle.laws.specs.Fills.{FilledTo}
use Rattle.laws.proofs.Fills.{filled-kept}
use Rattle.magnitudes.specs.declared.Mode.{Mode}
use Rattle.magnitudes.specs.declared.Settings.{Settings}
use Rattle.rounding.specs.BySettings.{rounded_by}
use Rattle.sweeps.specs.declared.Limits.{Limits}
use Rattle.sweeps.specs.declared.Swept.{Swept}
use Rattle.sweeps.specs.Limits.{limits}
use Rattle.sweeps.specs.Stretches.{SweptTo}
use Rattle.sweeps.proofs.Stretched.{swept_more, swept_all}
use Rattle.arrays.specs.Loops.{rounded_by_at, RoundedTo}
use Rattle.arrays.proofs.Turns.{one_more_rounded, fewer_rounded}

-- a turn by a rule that is right where it fits stores what is right there
module _ (rule : Limits → Mode → ℕ → ℕ → Swept)
    (right : (s : Settings) (w x : ℕ) → x < 2 ^ 64 → (l : Limits) → l ≡ limits s → (mode : Mode) → mode ≡ s.mode → (y : Swept) → y ≡ rule l mode w x
    → y.unfit < 2 ^ 63 → y.answer ≡ rounded_by s w x) where
  pub quick_turn : (l : Limits) (mode : Mode) (words xs : List ℕ) (from : ℕ) (before : List ℕ) (i unfit : ℕ) (out : List ℕ) → length out ≡ length xs
      → SweptTo (RoundedTo words xs) l mode from i (unfit < 2 ^ 63) before out
      → from ≤ i → (to : ℕ) → i < to → to ≤ length xs → (w : ℕ) → w ≡ get_or words i 0 → (x : ℕ) → x ≡ get_or xs i 0 → x < 2 ^ 64
      → (y : Swept) → y ≡ rule l mode w x → (after : List ℕ) → after ≡ set out i y.answer
      → SweptTo (RoundedTo words xs) l mode from (i + 1) (bit_or unfit y.unfit < 2 ^ 63) before after
  quick_turn l mode words xs from before i unfit out long swept past to within ends w given x read fits y is after stored =
      swept_more (RoundedTo words xs) l mode from before i unfit out after y swept
      (λ s done. subst (FilledTo (rounded_by_at s words xs) from) (sym stored) (filled-kept (rounded_by_at s words xs) i from out y.answer past done))
      (λ s by named low done.
      one_more_rounded s words xs out i long done to within ends w given x read y.answer (right s w x fits l by mode named y is low) after stored)

module _ (l : Limits) (mode : Mode) (words xs : List ℕ) (from : ℕ) (before : List ℕ) where
  module _ (i unfit : ℕ) (out : List ℕ) (long : length out ≡ length xs) (swept : SweptTo (RoundedTo words xs) l mode from i (unfit < 2 ^ 63) before out) where
    -- at the end the stretch is swept
    pub sweep_ends : (to : ℕ) → to ≤ i → SweptTo (RoundedTo words xs) l mode from to (eqb (unfit / 2 ^ 63) 0 ≡ true) before out
    sweep_ends to reached =
        swept_all (RoundedTo words xs) l mode from before i to unfit out (λ s done. fewer_rounded s words xs out i long done to reached) swept

-- where the answer says so, the stretch is rounded
pub rounded_if_true : (s : Settings) (words xs out : List ℕ) (to : ℕ) (b : Bool) → (b ≡ true → FilledTo (rounded_by_at s words xs) to out) → b ≡ true
    → FilledTo (rounded_by_at s words xs) to out
rounded_if_true s words xs out to b rounds all = rounds all
