-- Sound settings: the test as the code makes it, and the facts that it stands for. Assumes nothing.
use Rattle.std.proofs.Common.{◌≡◌, ℕ, ◌+◌, ◌-◌, ◌*◌, ◌/◌, ◌%◌, ◌^◌, ◌<◌, ◌≤◌, Bool, true, false, ◌&&◌, eqb, ltb, leb, sym, refl, ◌∙◌, arith, pow_mono, ltb-true, le-ltb, lt-ltb, eq-eqb, ne_eqb, eqb-true, le-leb, leb-true}
use borrow.Author.Tests.{lt-leb}
use Rattle.laws.proofs.Tests.{and_left, and_right, and_asked, and_failed}
use Rattle.laws.proofs.Words.{one_shifted}
use Rattle.patterns.specs.Patterns.{infinity, pat}
use Rattle.patterns.proofs.Powers.{pat_power}
use Rattle.grid.specs.declared.Format.{Format}
use Rattle.grid.specs.Formats.{InRange, emin, etop, T}
use Rattle.grid.proofs.Landmarks.{xmax_then_top}
use Rattle.grid.proofs.Ranges.{bounds_in_range}
use Rattle.grid.proofs.Steps.{emin_normal, zeta_not_above, zeta_near}
use Rattle.magnitudes.specs.declared.Mode.{Mode}
use Rattle.magnitudes.specs.declared.Settings.{Settings}
use Rattle.magnitudes.specs.BySettings.{settings}
use Rattle.sweeps.specs.Limits.{sound_places, sound_top, sound, Sound}

-- ---- where digits are cut

module _ (cut emin bottom : ℕ) where
  -- one test after the other
  pub cuts_too_many : 51 < cut → false ≡ sound_places cut emin bottom
  unfolding sound_places
  cuts_too_many h = simp (lt-leb cut 51 h)

  module _ (few : cut ≤ 51) where
    pub starts_too_low : emin < 52 → false ≡ sound_places cut emin bottom
    unfolding sound_places
    starts_too_low h = simp (le-leb cut 51 few, lt-leb 52 emin h)

    module _ (normal : 52 ≤ emin) where
      pub ends_too_high : emin < bottom → false ≡ sound_places cut emin bottom
      unfolding sound_places
      ends_too_high h = simp (le-leb cut 51 few, le-leb 52 emin normal, lt-leb bottom emin h)

      pub places_asked : bottom ≤ emin → leb (emin - bottom) (52 - cut) ≡ sound_places cut emin bottom
      unfolding sound_places
      places_asked h = simp (le-leb cut 51 few, le-leb 52 emin normal, le-leb bottom emin h)

  -- what the whole test says
  module _ (b : Bool) (tested : b ≡ sound_places cut emin bottom) (passed : b ≡ true) where
    -- few digits are cut
    pub cuts_few : cut ≤ 51
    unfolding sound_places
    cuts_few = leb-true cut 51 (and_left _ _ (sym tested ∙ passed))

    after_cut : (leb 52 emin && (leb bottom emin && leb (emin - bottom) (52 - cut))) ≡ true
    unfolding sound_places
    after_cut = and_right (leb cut 51) _ (sym tested ∙ passed)

    -- and the range starts at a normal number
    pub starts_normal : 52 ≤ emin
    starts_normal = leb-true 52 emin (and_left _ _ after_cut)

    after_start : (leb bottom emin && leb (emin - bottom) (52 - cut)) ≡ true
    after_start = and_right (leb 52 emin) _ after_cut

    ends_below : bottom ≤ emin
    ends_below = leb-true bottom emin (and_left _ _ after_start)

    ends_near : emin + cut ≤ bottom + 52
    ends_near =
        let near : emin - bottom ≤ 52 - cut = leb-true (emin - bottom) (52 - cut) (and_right (leb bottom emin) _ after_start) in
        omega (arith, cuts_few)

-- ---- T and xmax

-- a step may be taken from T
module _ (cut emin top : ℕ) (few : cut ≤ 51) (above : emin - 51 < top / 2 ^ 52) where
  step-below_top : 2 ^ cut ≤ top
  step-below_top =
      let least : 2 ^ cut ≤ 2 ^ 51 = pow_mono {i = cut} {j = 51} few in
      omega arith

  pub shifted_below_top : 1 * 2 ^ cut % 2 ^ 64 ≤ top
  shifted_below_top = omega (arith, one_shifted 64 cut (omega arith), step-below_top)

module _ (cut emin xmax top : ℕ) where
  -- one test after the other
  pub top_too_high : infinity < top → false ≡ sound_top cut emin xmax top
  unfolding sound_top
  top_too_high h = simp (lt-leb top infinity h)

  module _ (finite : top ≤ infinity) where
    pub top_no_power : (top % 2 ^ 52 ≡ 0 → ⊥) → false ≡ sound_top cut emin xmax top
    unfolding sound_top
    top_no_power h = simp (le-leb top infinity finite, ne_eqb (top % 2 ^ 52) 0 h)

    module _ (power : top % 2 ^ 52 ≡ 0) where
      pub top_too_low : top / 2 ^ 52 ≤ emin - 51 → false ≡ sound_top cut emin xmax top
      unfolding sound_top
      top_too_low h = simp (le-leb top infinity finite, eq-eqb (top % 2 ^ 52) 0 power, le-ltb (emin - 51) (top / 2 ^ 52) h)

      pub top_asked : emin - 51 < top / 2 ^ 52 → cut ≤ 51 → eqb xmax (top - 1 * 2 ^ cut % 2 ^ 64) ≡ sound_top cut emin xmax top
      unfolding sound_top
      top_asked h few =
          simp (le-leb top infinity finite, eq-eqb (top % 2 ^ 52) 0 power, lt-ltb (emin - 51) (top / 2 ^ 52) h, one_shifted 64 cut (omega arith))

  -- what the whole test says
  module _ (passed : sound_top cut emin xmax top ≡ true) where
    top_finite : top ≤ infinity
    unfolding sound_top
    top_finite = leb-true top infinity (and_left _ _ passed)

    after_finite : (eqb (top % 2 ^ 52) 0 && (ltb (emin - 51) (top / 2 ^ 52) && eqb xmax (top - 2 ^ cut))) ≡ true
    unfolding sound_top
    after_finite = and_right (leb top infinity) _ passed

    top_power : top % 2 ^ 52 ≡ 0
    top_power = eqb-true (top % 2 ^ 52) 0 (and_left _ _ after_finite)

    after_power : (ltb (emin - 51) (top / 2 ^ 52) && eqb xmax (top - 2 ^ cut)) ≡ true
    after_power = and_right (eqb (top % 2 ^ 52) 0) _ after_finite

    top_past_start : emin - 51 < top / 2 ^ 52
    top_past_start = ltb-true (emin - 51) (top / 2 ^ 52) (and_left _ _ after_power)

    step_to_top : cut ≤ 51 → xmax + 2 ^ cut ≡ top
    step_to_top few =
        let before : xmax ≡ top - 2 ^ cut = eqb-true xmax (top - 2 ^ cut) (and_right (ltb (emin - 51) (top / 2 ^ 52)) _ after_power) in
        omega (arith, step-below_top cut emin top few top_past_start)

-- ---- both together

-- T is asked for only where the places are sound
module _ (s : Settings) (a : Bool) (tested : a ≡ sound_places s.cut s.emin s.bottom) where
  pub sound_asked : (b : Bool) → b ≡ sound_top s.cut s.emin s.xmax s.top → a ≡ true → b ≡ sound s
  unfolding sound
  sound_asked b e h = e ∙ and_asked (sound_places s.cut s.emin s.bottom) (sound_top s.cut s.emin s.xmax s.top) (sym tested ∙ h)

  pub sound_failed : a ≡ false → a ≡ sound s
  unfolding sound
  sound_failed h = tested ∙ and_failed (sound_places s.cut s.emin s.bottom) (sound_top s.cut s.emin s.xmax s.top) (sym tested ∙ h)

-- settings that pass the test have the facts
pub sound_facts : (s : Settings) → sound s ≡ true → Sound s
unfolding sound
sound_facts s passed =
    let places = sound_places s.cut s.emin s.bottom in
    let ends = sound_top s.cut s.emin s.xmax s.top in
    let p : places ≡ true = and_left places ends passed in
    let t : ends ≡ true = and_right places ends passed in
    let few = cuts_few s.cut s.emin s.bottom true (sym p) refl in
    record {
      cut_most = few;
      emin_least = starts_normal s.cut s.emin s.bottom true (sym p) refl;
      bottom_most = ends_below s.cut s.emin s.bottom true (sym p) refl;
      bottom_least = ends_near s.cut s.emin s.bottom true (sym p) refl;
      top_most = top_finite s.cut s.emin s.xmax s.top t;
      top_whole = top_power s.cut s.emin s.xmax s.top t;
      top_above = top_past_start s.cut s.emin s.xmax s.top t;
      xmax_then_top = step_to_top s.cut s.emin s.xmax s.top t few;
    }

-- and settings that have them pass it
pub facts_sound : (s : Settings) → Sound s → sound s ≡ true
unfolding sound sound_places sound_top
facts_sound s f =
    simp (
      le-leb s.cut 51 f.cut_most,
      le-leb 52 s.emin f.emin_least,
      le-leb s.bottom s.emin f.bottom_most,
      le-leb (s.emin - s.bottom) (52 - s.cut) (omega (arith, f.bottom_least)),
      le-leb s.top infinity f.top_most,
      eq-eqb (s.top % 2 ^ 52) 0 f.top_whole,
      lt-ltb (s.emin - 51) (s.top / 2 ^ 52) f.top_above,
      eq-eqb s.xmax (s.top - 2 ^ s.cut) (omega (arith, f.xmax_then_top)),
    )

-- ---- formats

-- the settings of every format in range are sound, so that none goes by the single rounding alone
pub settings-sound : (f : Format) (mode : Mode) → InRange f → sound (settings f mode) ≡ true
unfolding settings emin etop T
settings-sound f mode r =
    let top : pat (T f) ≡ (1075 + f.emax - 51) * 2 ^ 52 = pat_power (1075 + f.emax) (omega arith) in
    facts_sound (settings f mode)
    (record {
      cut_most = omega (arith, r.p_least);
      emin_least = emin_normal f r;
      bottom_most = zeta_not_above f r;
      bottom_least = omega (arith, r.p_most, zeta_near f r);
      top_most = omega (arith, r.emax_most);
      top_whole = omega arith;
      top_above = omega (arith, r.emax_least, r.emax_most);
      xmax_then_top = xmax_then_top f true (sym (bounds_in_range f r)) refl;
    })
