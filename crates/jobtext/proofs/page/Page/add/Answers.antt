-- `jobtext::page::Page::add` meets its contract. Assumes nothing.
use Prim.Native.Nat.{◌+◌, ◌≤◌}
use native.Mathlib.Omega.{arith}
use Rattle.jobtext.proofs.Printed.{never_none, still_within, behind-written}
use Rattle.jobtext.proofs.page.Page.add.Goals as goal

pub overflow_add-self : goal.overflow_add-self
overflow_add-self c = let short : c.self.inside.size + c.in-Some.taken ≤ 19472 = search still_within in omega arith

pub invariant_of-self : goal.invariant_of-self
invariant_of-self c = search still_within

pub returns-in-Some : goal.returns-in-Some
returns-in-Some c = search behind-written

pub returns-in_default : goal.returns-in_default
returns-in_default c = absurd (search never_none)
