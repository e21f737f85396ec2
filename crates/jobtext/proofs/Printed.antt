-- A line printed on a page: what it does to the bytes before it, and how far it reaches. Assumes nothing.
use mathlib.Core.List.{List, ◌++◌}
use mathlib.Core.Path.{◌≡◌, sym, ap, ap₂, ◌∙◌}
use Prim.Native.Nat.{ℕ, ◌+◌, ◌-◌, ◌≤◌}
use native.Mathlib.Omega.{arith}
use lib.ListN.{length, take, drop, length-drop}
use lib.Seq.{take-add, take-append-le, length-take-le, drop_at}
use borrow.Rule.Slice.PartMut.{mid_of, post_of, put_mid, take_put}
use Rattle.std.specs.Prelude.{Option, Some, None}
use Rattle.std.proofs.lemmas.Option.{none-some, same_Some}
use Rattle.laws.specs.Lists.{over}
use Rattle.laws.proofs.Overlays.{length_over, take-over}
use Rattle.lines.specs.Lines.{taken}
use Rattle.lines.proofs.Written.{taken_all}

-- the line l, written behind the first `size` bytes of a page with room for `all`
module _ (l bytes part shown : List ℕ) (size all : ℕ) (long : length bytes ≡ all) (within : size ≤ all)
    (view : take size bytes ≡ shown) (room : length shown + length l ≤ all)
    (r : Option ℕ) (answer : r ≡ taken l (mid_of size (all - size) bytes))
    (written : part ≡ over l (mid_of size (all - size) bytes)) where
  shown_long : length shown ≡ size
  shown_long = ap {A = List ℕ} (λ z. length z) (sym view) ∙ length-take-le size bytes (omega arith)

  rest_long : length (mid_of size (all - size) bytes) ≡ all - size
  rest_long = length-take-le (all - size) (drop size bytes) (simp length-drop (omega arith))

  fits : length l ≤ length (mid_of size (all - size) bytes)
  fits = omega (arith, rest_long, shown_long)

  part_long : length part ≡ all - size
  part_long = ap {A = List ℕ} (λ z. length z) written ∙ length_over l (mid_of size (all - size) bytes) ∙ rest_long

  all_taken : r ≡ Some (length l)
  all_taken = answer ∙ taken_all l (mid_of size (all - size) bytes) fits

  -- there is room for it,
  pub never_none : r ≡ None → ⊥
  never_none none = none-some (length l) (sym none ∙ all_taken)

  module _ (y : ℕ) (some : r ≡ Some y) where
    -- it takes as many bytes as it has,
    taken_is : y ≡ length l
    taken_is = same_Some y (length l) (sym some ∙ all_taken)

    -- ends on the page,
    pub still_within : size + y ≤ all
    still_within = omega (arith, taken_is, shown_long)

    -- and stands behind what was printed before it
    pub behind-written : take (size + y) (put_mid size (all - size) bytes part) ≡ shown ++ l
    behind-written =
        take-add size y (put_mid size (all - size) bytes part)
        ∙ ap₂ {A = List ℕ} {B = List ℕ} (λ a b. a ++ b) (take_put size (all - size) bytes part before ∙ view)
        (ap {A = List ℕ} (λ z. take y z) (drop_at (take size bytes) (part ++ post_of size (all - size) bytes) size (length-take-le size bytes before))
        ∙ take-append-le y part (post_of size (all - size) bytes) (omega (arith, taken_is, part_long, fits, rest_long))
        ∙ ap₂ {A = ℕ} {B = List ℕ} (λ n z. take n z) taken_is written
        ∙ take-over l (mid_of size (all - size) bytes) fits)
      where
        before : size ≤ length bytes
        before = omega arith
