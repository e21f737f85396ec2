-- A test that asks two: it holds where both do. Assumes nothing.
use mathlib.Core.Bool.{Bool, true, false, ◌&&◌, false≢true}
use mathlib.Core.Path.{◌≡◌, refl, sym, ap, ◌∙◌}

pub and_left : (a b : Bool) → (a && b) ≡ true → a ≡ true
and_left true b e = refl
and_left false b e = e

pub and_right : (a b : Bool) → (a && b) ≡ true → b ≡ true
and_right true b e = e
and_right false b e = absurd (false≢true e)

-- the second is asked only where the first holds: what the code has then is the whole test's answer
pub and_asked : (a b : Bool) → a ≡ true → b ≡ (a && b)
and_asked a b h = sym (ap (λ (t : Bool). t && b) h)

pub and_failed : (a b : Bool) → a ≡ false → a ≡ (a && b)
and_failed a b h = h ∙ sym (ap (λ (t : Bool). t && b) h)
