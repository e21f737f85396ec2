-- Every promise of this crate leaves one answer: two results that it allows for the same arguments are equal. Each is an
-- equation with the definition that the contract names, so two of them meet there. Assumes nothing.
use mathlib.Core.Path.{sym, ◌∙◌}
use Rattle.laws.specs.Promises.{OneAnswer}
use Rattle.refusals.proofs.Apart.{refusal_numbers_apart}
use Rattle.grid.proofs.formats.precision_fits.Reads as precision_fits
use Rattle.grid.proofs.formats.exponent_fits.Reads as exponent_fits
use Rattle.grid.proofs.formats.in_range.Reads as in_range
use Rattle.grid.proofs.checks.check_range.Reads as check_range
use Rattle.grid.proofs.formats.smallest_normal_pattern.Reads as smallest_normal_pattern
use Rattle.grid.proofs.formats.zeta_exponent.Reads as zeta_exponent
use Rattle.grid.proofs.formats.top_pattern.Reads as top_pattern
use Rattle.grid.proofs.formats.xmax_pattern.Reads as xmax_pattern

pub precision_fits_unique : OneAnswer precision_fits.Post
precision_fits_unique κs a y z s t p q = p ∙ sym q

pub exponent_fits_unique : OneAnswer exponent_fits.Post
exponent_fits_unique κs a y z s t p q = p ∙ sym q

pub in_range_unique : OneAnswer in_range.Post
in_range_unique κs a y z s t p q = p ∙ sym q

pub smallest_normal_pattern_unique : OneAnswer smallest_normal_pattern.Post
smallest_normal_pattern_unique κs a y z s t p q = p ∙ sym q

pub zeta_exponent_unique : OneAnswer zeta_exponent.Post
zeta_exponent_unique κs a y z s t p q = p ∙ sym q

pub top_pattern_unique : OneAnswer top_pattern.Post
top_pattern_unique κs a y z s t p q = p ∙ sym q

pub xmax_pattern_unique : OneAnswer xmax_pattern.Post
xmax_pattern_unique κs a y z s t p q = p ∙ sym q

pub check_range_unique : OneAnswer check_range.Post
check_range_unique κs a y z s t p q = refusal_numbers_apart y z (p ∙ sym q)
