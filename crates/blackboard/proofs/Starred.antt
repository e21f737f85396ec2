-- The starred examples of document 01 hold: one fact over the whole table, which antt computes. Assumes nothing.
use Rattle.std.proofs.Common.{◌≡◌, true, refl}
use lib.Ieee.{size}
use Rattle.laws.specs.Tables.{every}
use Rattle.patterns.specs.Patterns.{sign, mag, with_sign, kind_of, worth, val, pat}
use Rattle.grid.specs.Formats.{between, precision_fits, exponent_fits, emin, etop, zeta_exp, step_exp, step, xmax, T}
use Rattle.grid.specs.Neighbours.{lo, hi, held}
use Rattle.magnitudes.specs.Modes.{mode_of, K, u, takes_hi, overflows}
use Rattle.magnitudes.specs.Destinations.{taken, written, goes_to}
use Rattle.rounding.specs.Rounded.{answer_to, rounded}
use Rattle.rounding.specs.Calls.{bits_fit, refusal, round_one}
use Rattle.layouts.specs.Fields.{be, has_code, width, negative, exponent, fraction, bias, ones}
use Rattle.layouts.specs.Calls.{format_refusal}
use Rattle.codes.specs.Unpacking.{worth_in, magnitude_of, pattern_of, no_number}
use Rattle.codes.specs.Packing.{fields_of, infinity_fields, fields_by, code_of, has_by, in_format}
use Rattle.codes.specs.Calls.{packed, unpacked, pack_one, unpack_one}
use Rattle.blackboard.specs.Examples.{answers, shares_at, packs, unpacks, holds, starred}

pub starred_hold : every holds starred ≡ true
unfolding holds answers shares_at packs unpacks
    round_one refusal bits_fit rounded answer_to goes_to written taken overflows takes_hi u K mode_of
    pack_one packed in_format has_by code_of fields_by infinity_fields fields_of
    unpack_one unpacked no_number pattern_of magnitude_of worth_in
    format_refusal ones bias fraction exponent negative width has_code be held
    lo hi T xmax step step_exp zeta_exp etop emin exponent_fits precision_fits between pat val worth kind_of with_sign mag sign size
starred_hold = refl
