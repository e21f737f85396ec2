-- `layouts::derived::has_code` meets its contract. Assumes nothing.
use Prim.Native.Nat.{◌≤◌}
use native.Mathlib.Omega.{arith}
use lib.Dec.{lit<}
use Rattle.layouts.proofs.Layouts.{emax_most, bits_most, bits_some, has_code_is}
use Rattle.layouts.proofs.derived.has_code.Goals as goal

pub overflow_add-result : goal.overflow_add-result
overflow_add-result c =
    let most : c.args.f.emax ≤ 1023 = search emax_most in
    omega arith

pub overflow_sub-result : goal.overflow_sub-result
overflow_sub-result c = search bits_some

pub overflow_shl-result : goal.overflow_shl-result
overflow_shl-result c =
    let most : c.exponent_bits.result ≤ 11 = search bits_most in
    omega arith

pub returns : goal.returns
returns c = search (has_code_is, lit<)
