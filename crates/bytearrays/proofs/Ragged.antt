-- Lengths in bytes, of which one may be ragged: what a refusal, or none, says of them. Assumes nothing.
use mathlib.Core.Bool.{Bool, true, false, cond}
use mathlib.Core.Path.{◌≡◌, refl, sym}
use Prim.Native.Nat.{ℕ}
use native.Mathlib.Omega.{arith}
use lib.Dec.{eqb}
use borrow.Author.Tests.{eqb-false}
use Rattle.refusals.specs.declared.Refusal.{Refusal}
use Rattle.refusals.specs.Refusals.{number_of}
use Rattle.refusals.proofs.Apart.{number_some}
use Rattle.words.specs.Bytes.{one_ragged}
use Rattle.bytearrays.specs.Calls.{or_five, ragged_refusal}

-- what is refused before the lengths, or 5, is some refusal
pub or_five-some : (before : ℕ) → or_five before ≡ 0 → ⊥
or_five-some before = go (eqb before 0) refl
  where
    go : (b : Bool) → eqb before 0 ≡ b → cond b 5 before ≡ 0 → ⊥
    go true e none = absurd (omega arith)
    go false e none = eqb-false before 0 e none

module _ (inputs outputs before : ℕ) where
  -- a refusal says that one of the lengths is ragged,
  pub refused_ragged : (e : Refusal) → number_of e ≡ ragged_refusal before inputs outputs
      → (one_ragged inputs outputs ≡ true) × (number_of e ≡ or_five before)
  refused_ragged e = go (one_ragged inputs outputs) refl
    where
      go : (b : Bool) → one_ragged inputs outputs ≡ b → number_of e ≡ cond b (or_five before) 0
          → (one_ragged inputs outputs ≡ true) × (number_of e ≡ or_five before)
      go true t is = (t, is)
      go false t is = absurd (number_some e is)

  -- and no refusal that neither is
  pub accepted_whole : 0 ≡ ragged_refusal before inputs outputs → one_ragged inputs outputs ≡ false
  accepted_whole = go (one_ragged inputs outputs) refl
    where
      go : (b : Bool) → one_ragged inputs outputs ≡ b → 0 ≡ cond b (or_five before) 0 → one_ragged inputs outputs ≡ false
      go true t none = absurd (or_five-some before (sym none))
      go false t none = t
