-- What was prepared tells what it was made from: the settings and a number of 0, or the number of a refusal. Assumes nothing.
use mathlib.Core.Bool.{Bool, true, false, cond, false≢true}
use mathlib.Core.Path.{◌≡◌, refl, sym, ap}
use Prim.Native.Nat.{ℕ}
use lib.Dec.{eqb}
use borrow.Author.Tests.{eqb-true}
use Rattle.std.specs.Prelude.{Result}
use Rattle.refusals.specs.declared.Refusal.{Refusal}
use Rattle.refusals.specs.Refusals.{in_numbers}
use Rattle.refusals.proofs.Apart.{results_apart}
use Rattle.magnitudes.specs.declared.Mode.TheVariants.{TiesToEven}
use Rattle.magnitudes.specs.declared.Settings.{Settings}
use Rattle.rounding.specs.BySettings.{Prepared, Ready, Refused, unless_refused, number_of}

abbrev is_ready : Prepared → Bool
is_ready (Ready s) = true
is_ready (Refused n) = false

abbrev settings_in : Settings → Prepared → Settings
settings_in other (Ready s) = s
settings_in other (Refused n) = other

-- settings of no format
abbrev no_settings : Settings
no_settings = record { mode = TiesToEven; cut = 0; emin = 0; bottom = 0; zeta = 0; xmax = 0; top = 0 }

-- two calls that prepared the same came to the same
pub preparations_apart : (r s : Result Settings Refusal) → in_numbers Ready Refused r ≡ in_numbers Ready Refused s → r ≡ s
unfolding number_of
preparations_apart = results_apart Ready Refused number_of (settings_in no_settings) (λ t. refl) (λ n. refl) (λ t. refl)

module _ (n : ℕ) (t : Settings) where
  -- where settings came out, nothing is refused, and they are those that were put in
  module _ (s : Settings) (ready : unless_refused n t ≡ Ready s) where
    pub ready-none : n ≡ 0
    unfolding unless_refused
    ready-none = go (eqb n 0) refl ready
      where
        go : (b : Bool) → eqb n 0 ≡ b → cond b (Ready t) (Refused n) ≡ Ready s → n ≡ 0
        go true e h = eqb-true n 0 e
        go false e h = absurd (false≢true (ap is_ready h))

    pub ready-settings : s ≡ t
    unfolding unless_refused
    ready-settings = go (eqb n 0) ready
      where
        go : (b : Bool) → cond b (Ready t) (Refused n) ≡ Ready s → s ≡ t
        go true h = sym (ap (settings_in s) h)
        go false h = absurd (false≢true (ap is_ready h))

  -- where a number came out, it is the refusal's, and one is refused
  module _ (m : ℕ) (refused : unless_refused n t ≡ Refused m) where
    pub refused_is : m ≡ n
    unfolding unless_refused number_of
    refused_is = go (eqb n 0) refused
      where
        go : (b : Bool) → cond b (Ready t) (Refused n) ≡ Refused m → m ≡ n
        go true h = absurd (false≢true (sym (ap is_ready h)))
        go false h = sym (ap number_of h)

    pub refused_some : eqb n 0 ≡ false
    unfolding unless_refused
    refused_some = go (eqb n 0) refused
      where
        go : (b : Bool) → cond b (Ready t) (Refused n) ≡ Refused m → b ≡ false
        go true h = absurd (false≢true (sym (ap is_ready h)))
        go false h = refl
