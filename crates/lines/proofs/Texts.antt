-- Texts, byte after byte, where the places are counted as the code counts them. Assumes nothing.
use mathlib.Core.List.{List, ◌∷◌, ◌++◌, []}
use mathlib.Core.Path.{◌≡◌, sym, ap, ◌∙◌}
use Prim.Native.Nat.{ℕ, ◌+◌, ◌<◌}
use native.Mathlib.Numerals.{add-one}
use lib.ListN.{length, get_or, take, drop}
use lib.Seq.{take-suc, drop-cons}

module _ (s : List ℕ) (i : ℕ) where
  -- what is left begins with the next byte,
  pub drop_next : i < length s → drop i s ≡ get_or s i 0 ∷ drop (i + 1) s
  drop_next within = drop-cons s i 0 within ∙ ap (λ (n : ℕ). get_or s i 0 ∷ drop n s) (sym (add-one i))

  -- and what is read then ends with it
  pub take_next : i < length s → take (i + 1) s ≡ take i s ++ (get_or s i 0 ∷ [])
  take_next within = ap (λ (n : ℕ). take n s) (add-one i) ∙ take-suc s i 0 within
