-- The range test and the four bounds that it stands for. Assumes nothing.
use mathlib.Core.Bool.{Bool, true, false}
use mathlib.Core.Path.{◌≡◌, refl, sym, ◌∙◌}
use Prim.Native.Nat.{ℕ, ◌≤◌}
use lib.Dec.{leb}
use borrow.Author.Tests.{leb-true, le-leb}
use Rattle.laws.proofs.Tests.{and_left, and_right, and_asked, and_failed}
use Rattle.grid.specs.declared.Format.{Format}
use Rattle.grid.specs.Formats.{between, precision_fits, exponent_fits, in_range, InRange}

module _ (least n most : ℕ) where
  -- the test asks for the upper bound only where the lower one holds
  pub between_asked : least ≤ n → leb n most ≡ between least n most
  unfolding between
  between_asked h = and_asked (leb least n) (leb n most) (le-leb least n h)

  -- it says both bounds, and both bounds say it
  pub between_least : between least n most ≡ true → least ≤ n
  unfolding between
  between_least e = leb-true least n (and_left (leb least n) (leb n most) e)

  pub between-most : between least n most ≡ true → n ≤ most
  unfolding between
  between-most e = leb-true n most (and_right (leb least n) (leb n most) e)

  pub between_both : least ≤ n → n ≤ most → between least n most ≡ true
  between_both h g = sym (between_asked h) ∙ le-leb n most g

-- a format is in range where p and emax are: emax is asked for only where p fits
module _ (f : Format) (a : Bool) (fits : a ≡ precision_fits f.p) where
  pub in_range_asked : (b : Bool) → b ≡ exponent_fits f.emax → a ≡ true → b ≡ in_range f
  unfolding in_range
  in_range_asked b e h = e ∙ and_asked (precision_fits f.p) (exponent_fits f.emax) (sym fits ∙ h)

  pub in_range_failed : a ≡ false → a ≡ in_range f
  unfolding in_range
  in_range_failed h = fits ∙ and_failed (precision_fits f.p) (exponent_fits f.emax) (sym fits ∙ h)

-- a format that passes the test has its settings in range
pub in_range_bounds : (f : Format) → in_range f ≡ true → InRange f
unfolding in_range precision_fits exponent_fits
in_range_bounds f e =
    let p = and_left (precision_fits f.p) (exponent_fits f.emax) e in
    let x = and_right (precision_fits f.p) (exponent_fits f.emax) e in
    record {
      p_least = between_least 2 f.p 53 p;
      p_most = between-most 2 f.p 53 p;
      emax_least = between_least 1 f.emax 1023 x;
      emax_most = between-most 1 f.emax 1023 x;
    }

-- and a format with its settings in range passes it
pub bounds_in_range : (f : Format) → InRange f → in_range f ≡ true
unfolding precision_fits exponent_fits
bounds_in_range f r =
    sym (in_range_asked f true (sym (between_both 2 f.p 53 r.p_least r.p_most)) true (sym (between_both 1 f.emax 1023 r.emax_least r.emax_most)) refl)
