-- Whether a text begins with a key: then it is the key and what is behind it; and what the library promises of a text without its key.
-- Assumes nothing.
use mathlib.Core.Bool.{Bool, true, false, ◌&&◌, false≢true}
use mathlib.Core.List.{List, [], ◌∷◌, ◌++◌}
use mathlib.Core.Path.{◌≡◌, refl, sym, ap, ap₂, ◌∙◌}
use Prim.Native.Nat.{ℕ, ◌+◌}
use denote.Ref.{Bor}
use lib.Dec.{eqb}
use lib.ListN.{length, take, drop}
use borrow.Author.Tests.{eqb-true, eq-eqb}
use Rattle.std.specs.Prelude.{Option, Some, None, MatchOption, nat_eq}
use Rattle.std.specs.Cmp.Lexicographic.{pointwise}
use Rattle.std.proofs.lemmas.Bool.Decides.{Decides-eqb}
use Rattle.std.proofs.lemmas.Option.{MatchOption-at_some, MatchOption-at_none}
use Rattle.std.proofs.lemmas.Slice.Eq.{strip_prefix_is}
use Rattle.laws.proofs.Tests.{and_left, and_right}
use Rattle.lines.specs.Reading.{begins}

-- a key and anything behind it begin with the key
pub begins_key : (key t : List ℕ) → begins key (key ++ t) ≡ true
unfolding begins
begins_key [] t = refl
begins_key (b ∷ key) t = ap₂ (λ (x y : Bool). x && y) (eq-eqb b b refl) (begins_key key t)

-- and what begins with the key is the key and the rest
pub begins_splits : (key s : List ℕ) → begins key s ≡ true → s ≡ key ++ drop (length key) s
unfolding begins
begins_splits [] s e = refl
begins_splits (b ∷ key) [] e = absurd (false≢true e)
begins_splits (b ∷ key) (c ∷ s) e =
    ap₂ {C = List ℕ} (λ (x : ℕ) (xs : List ℕ). x ∷ xs) (sym (eqb-true b c (and_left (eqb b c) (begins key s) e)))
    (begins_splits key s (and_right (eqb b c) (begins key s) e))

-- ---- the key taken off a text, as the library does it

-- what is promised of the rest
abbrev pub IsStripped : List ℕ → List ℕ → Option (Bor (List ℕ)) → Type 0
IsStripped key s r =
    MatchOption r (pointwise nat_eq (take (length key) s) key ≡ false)
    (λ x.
    (pointwise nat_eq (take (length key) s) key ≡ true) × (x.now ≡ drop (length key) s) × (length x.now + length key ≡ length s))

module _ (key s : List ℕ) (r : Option (Bor (List ℕ))) (stripped : IsStripped key s r) where
  -- none where the text does not begin with it,
  pub not_begun : r ≡ None → begins key s ≡ false
  not_begun none = go (begins key s) refl
    where
      apart : (rest : List ℕ) → s ≡ key ++ rest → ⊥
      apart = MatchOption-at_none _ _ none (strip_prefix_is Decides-eqb s key r stripped)

      go : (b : Bool) → begins key s ≡ b → begins key s ≡ false
      go true e = absurd (apart (drop (length key) s) (begins_splits key s e))
      go false e = e

  module _ (rest : Bor (List ℕ)) (there : r ≡ Some rest) where
    -- and otherwise what stands behind it
    pub begun : begins key s ≡ true
    begun =
        let whole : s ≡ key ++ rest.now = MatchOption-at_some _ _ rest there (strip_prefix_is Decides-eqb s key r stripped) in
        ap (begins key) whole ∙ begins_key key rest.now

    pub rest_is : rest.now ≡ drop (length key) s
    rest_is = (MatchOption-at_some _ _ rest there stripped).1

    pub rest_long : length rest.now + length key ≡ length s
    rest_long = (MatchOption-at_some _ _ rest there stripped).2
