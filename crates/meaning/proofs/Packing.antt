-- What a rounding answers is in the format: where the format has a code, every answer packs. Assumes nothing.
use mathlib.Core.Bool.{true}
use mathlib.Core.Path.{◌≡◌, refl, sym, ap, ◌∙◌, subst}
use mathlib.Core.Logic.{◌⊎◌, inl, inr}
use Prim.Native.Nat.{ℕ, ◌≤◌, ◌<◌}
use native.Mathlib.Nat.{lt_of_lt_of_le}
use Rattle.laws.proofs.Orders.{below_or_not}
use Rattle.patterns.specs.declared.Kind.{Kind}
use Rattle.patterns.specs.declared.Kind.TheVariants.{Zero, Finite, Infinity, NaN}
use Rattle.patterns.specs.Patterns.{mag, with_sign, infinity, kind_of, val, pat, Binary64}
use Rattle.patterns.proofs.Values.{val-pat, binary64_finite}
use Rattle.patterns.proofs.PatternKinds.{finite_or_not}
use Rattle.patterns.proofs.Signs.{magnitude_with_sign, magnitude_is}
use Rattle.grid.specs.declared.Format.{Format}
use Rattle.grid.specs.Formats.{T}
use Rattle.grid.specs.Candidates.{Candidate}
use Rattle.grid.specs.Neighbours.{held}
use Rattle.grid.proofs.Candidates.{candidate_short, top_not_above}
use Rattle.grid.proofs.Neighbours.{candidate_held}
use Rattle.layouts.specs.Fields.{HasCode}
use Rattle.layouts.specs.Calls.{format_refusal}
use Rattle.layouts.proofs.Refusals.{accepted-has_code}
use Rattle.codes.specs.Packing.{code_of, has_by, in_format}
use Rattle.bylayout.specs.Answers.{as_code}
use Rattle.codes.specs.Calls.{pack_one}
use Rattle.codes.proofs.Magnitudes.{number_has, infinity_has}
use Rattle.codes.proofs.Answers.{in_format-packs}
use Rattle.magnitudes.specs.declared.Mode.{Mode}
use Rattle.magnitudes.specs.Destinations.{written}
use Rattle.rounding.specs.Rounded.{rounded}
use Rattle.meaning.proofs.Destinations.{below-written, reached-written, written-most}
use Rattle.meaning.proofs.Answers.{specials_come_back, answer_is_candidate}

-- every format has what is no finite number
special_in_format : (f : Format) (x : ℕ) → (kind_of x ≡ Finite → ⊥) → in_format f x ≡ true
unfolding in_format has_by
special_in_format f x special = go (kind_of x) refl
  where
    go : (k : Kind) → kind_of x ≡ k → has_by f k (val (mag x)) ≡ true
    go Zero kind = refl
    go Finite kind = absurd (special kind)
    go Infinity kind = refl
    go NaN kind = refl

module _ (f : Format) (h : HasCode f) where
  -- it has each of its candidates, T as infinity, with either sign
  candidate_in_format : (x c : ℕ) → Candidate f c → in_format f (with_sign x (written f c)) ≡ true
  candidate_in_format x c among = go (below_or_not c (T f))
    where
      magnitude : mag (with_sign x (written f c)) ≡ written f c
      magnitude = magnitude_with_sign x (written f c) ∙ magnitude_is (written f c) (written-most f h.range c among)

      go : (c < T f) ⊎ (T f ≤ c) → in_format f (with_sign x (written f c)) ≡ true
      go (inl below) =
          let short = candidate_short f h.range c among in
          let finite : Binary64 c = record { short = short; below = lt_of_lt_of_le below (top_not_above f h.range) } in
          let at : mag (with_sign x (written f c)) ≡ pat c = magnitude ∙ below-written f c below in
          number_has f h (with_sign x (written f c)) (subst (λ (m : ℕ). m < infinity) (sym at) (binary64_finite c finite))
          ∙ ap (held f) (ap val at ∙ val-pat c short)
          ∙ candidate_held f h.range c among below
      go (inr reached) = infinity_has f h (with_sign x (written f c)) (magnitude ∙ reached-written f c reached)

  module _ (mode : Mode) (word x : ℕ) where
    -- so it has every answer
    pub rounded-in_format : in_format f (rounded f mode word x) ≡ true
    rounded-in_format = go (finite_or_not x)
      where
        go : (kind_of x ≡ Finite) ⊎ (kind_of x ≡ Finite → ⊥) → in_format f (rounded f mode word x) ≡ true
        go (inl finite) =
            let answer = answer_is_candidate f mode word x h.range finite in
            ap (in_format f) answer.2 ∙ candidate_in_format x answer.0 answer.1
        go (inr special) = ap (in_format f) (specials_come_back f mode word x special) ∙ special_in_format f x special

-- and every answer packs
pub rounded-packs : (f : Format) (mode : Mode) (word x : ℕ) → format_refusal f ≡ 0
    → pack_one f (rounded f mode word x) ≡ as_code (code_of f (rounded f mode word x))
rounded-packs f mode word x accepted =
    let h = accepted-has_code f accepted in
    in_format-packs f (rounded f mode word x) h (rounded-in_format f h mode word x)
