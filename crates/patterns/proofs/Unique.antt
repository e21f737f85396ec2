-- Every promise of this crate leaves one answer: two results that it allows for the same arguments are equal. Each is an
-- equation with the definition that the contract names, so two of them meet there. Assumes nothing.
use mathlib.Core.Path.{sym, ◌∙◌}
use Rattle.laws.specs.Promises.{OneAnswer}
use Rattle.patterns.proofs.binary64.sign_of.Reads as sign_of
use Rattle.patterns.proofs.binary64.magnitude_of.Reads as magnitude_of
use Rattle.patterns.proofs.binary64.with_sign.Reads as with_sign
use Rattle.patterns.proofs.binary64.kind_of.Reads as kind_of
use Rattle.patterns.proofs.binary64.exponent_of.Reads as exponent_of
use Rattle.patterns.proofs.binary64.significand_of.Reads as significand_of
use Rattle.patterns.proofs.binary64.digits_of.Reads as digits_of
use Rattle.patterns.proofs.binary64.power_pattern.Reads as power_pattern

pub sign_of_unique : OneAnswer sign_of.Post
sign_of_unique κs a y z s t p q = p ∙ sym q

pub magnitude_of_unique : OneAnswer magnitude_of.Post
magnitude_of_unique κs a y z s t p q = p ∙ sym q

pub with_sign_unique : OneAnswer with_sign.Post
with_sign_unique κs a y z s t p q = p ∙ sym q

pub kind_of_unique : OneAnswer kind_of.Post
kind_of_unique κs a y z s t p q = p ∙ sym q

pub exponent_of_unique : OneAnswer exponent_of.Post
exponent_of_unique κs a y z s t p q = p ∙ sym q

pub significand_of_unique : OneAnswer significand_of.Post
significand_of_unique κs a y z s t p q = p ∙ sym q

pub digits_of_unique : OneAnswer digits_of.Post
digits_of_unique κs a y z s t p q = p ∙ sym q

pub power_pattern_unique : OneAnswer power_pattern.Post
power_pattern_unique κs a y z s t p q = p ∙ sym q
