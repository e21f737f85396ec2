-- What a magnitude goes to, by its cases: a candidate stays, a magnitude between two goes to lo or hi, one from T on to infinity
-- or xmax. Assumes nothing.
use mathlib.Core.Bool.{Bool, true, false, cond}
use mathlib.Core.Path.{◌≡◌, refl, sym, ap, ◌∙◌, subst}
use mathlib.Core.Logic.{◌⊎◌, inl, inr}
use Prim.Native.Nat.{ℕ, ◌-◌, ◌/◌, ◌≤◌, ◌<◌}
use native.Mathlib.Nat.{le_refl, le_of_lt, le_of_eq, lt_irrefl, lt_of_lt_of_le, lt_of_le_of_lt, eq-or-lt_of_le}
use borrow.Author.Tests.{lt-ltb, le-ltb, eq-eqb, ne_eqb}
use Rattle.laws.proofs.Orders.{below_or_not}
use Rattle.patterns.specs.Patterns.{infinity, pat, Short}
use Rattle.patterns.proofs.Values.{binary64_finite, pat_increasing}
use Rattle.grid.specs.declared.Format.{Format}
use Rattle.grid.specs.Formats.{InRange, step, xmax, T}
use Rattle.grid.specs.Candidates.{Candidate}
use Rattle.grid.specs.Candidates.Candidate.{top}
use Rattle.grid.specs.Neighbours.{lo, hi}
use Rattle.grid.proofs.Candidates.{candidate_short, top_not_above}
use Rattle.grid.proofs.Neighbours.{lo_not_above, lo-below-hi, lo_candidate, hi_candidate}
use Rattle.grid.proofs.Ends.{xmax_candidate, xmax-below_top}
use Rattle.magnitudes.specs.declared.Mode.{Mode}
use Rattle.magnitudes.specs.Modes.{takes_hi, overflows}
use Rattle.magnitudes.specs.Destinations.{taken, written, goes_to}

-- ---- how a candidate is written

-- below T by its own pattern
pub below-written : (f : Format) (c : ℕ) → c < T f → written f c ≡ pat c
unfolding written
below-written f c h = ap (λ (b : Bool). cond b (pat c) infinity) (lt-ltb c (T f) h)

-- and T, the only one that reaches it, as infinity
pub reached-written : (f : Format) (c : ℕ) → T f ≤ c → written f c ≡ infinity
unfolding written
reached-written f c h = ap (λ (b : Bool). cond b (pat c) infinity) (le-ltb c (T f) h)

pub top_written : (f : Format) → written f (T f) ≡ infinity
top_written f = reached-written f (T f) (le_refl (T f))

-- lo is below T where the magnitude is
lo-written : (f : Format) (a : ℕ) → a < T f → written f (lo f a) ≡ pat (lo f a)
lo-written f a h = below-written f (lo f a) (lt_of_le_of_lt (lo_not_above f a) h)

module _ (f : Format) (mode : Mode) (negative : Bool) (word a : ℕ) where
  -- ---- which candidate is taken

  -- a magnitude that is its own lo stays
  pub exact_taken : lo f a ≡ a → taken f mode negative word a ≡ a
  unfolding taken
  exact_taken exact = simp (eq-eqb a (lo f a) (sym exact))

  -- any other goes as the table says
  module _ (inexact : lo f a < a) (b : Bool) (choice : takes_hi mode negative (a / step f a) (a - lo f a) (step f a) word ≡ b) where
    pub choice_taken : taken f mode negative word a ≡ cond b (hi f a) (lo f a)
    unfolding taken
    choice_taken = simp (ne_eqb a (lo f a) (λ (e : a ≡ lo f a). lt_irrefl a (subst (λ (n : ℕ). n < a) (sym e) inexact)), choice)

  -- what holds in each of the three cases holds of the candidate that is taken
  pub taken_cases : (P : ℕ → Type 0) → (lo f a ≡ a → P a)
      → (takes_hi mode negative (a / step f a) (a - lo f a) (step f a) word ≡ false → P (lo f a))
      → (takes_hi mode negative (a / step f a) (a - lo f a) (step f a) word ≡ true → P (hi f a))
      → P (taken f mode negative word a)
  taken_cases P exact low high = go (eq-or-lt_of_le (lo_not_above f a))
    where
      chosen : lo f a < a → (b : Bool) → takes_hi mode negative (a / step f a) (a - lo f a) (step f a) word ≡ b → P (taken f mode negative word a)
      chosen inexact false e = subst P (sym (choice_taken inexact false e)) (low e)
      chosen inexact true e = subst P (sym (choice_taken inexact true e)) (high e)

      go : (lo f a ≡ a) ⊎ (lo f a < a) → P (taken f mode negative word a)
      go (inl e) = subst P (sym (exact_taken e)) (exact e)
      go (inr inexact) = chosen inexact (takes_hi mode negative (a / step f a) (a - lo f a) (step f a) word) refl

  -- ---- which pattern it goes to

  -- below T that of the candidate that is taken
  pub below_goes : a < T f → goes_to f mode negative word a ≡ written f (taken f mode negative word a)
  unfolding goes_to
  below_goes h =
      ap (λ (b : Bool). cond b (written f (taken f mode negative word a)) (cond (overflows mode negative) infinity (pat (xmax f)))) (lt-ltb a (T f) h)

  -- from T on infinity's or that of xmax, by the overflow column
  pub reached_goes : T f ≤ a → (b : Bool) → overflows mode negative ≡ b → goes_to f mode negative word a ≡ cond b infinity (pat (xmax f))
  unfolding goes_to
  reached_goes h b column =
      ap (λ (t : Bool). cond t (written f (taken f mode negative word a)) (cond (overflows mode negative) infinity (pat (xmax f)))) (le-ltb a (T f) h)
      ∙ ap (λ (t : Bool). cond t infinity (pat (xmax f))) column

module _ (f : Format) (r : InRange f) where
  -- ---- every mode leads to a candidate

  -- a candidate is written by a pattern not above infinity's
  pub written-most : (c : ℕ) → Candidate f c → written f c ≤ infinity
  written-most c among = go (below_or_not c (T f))
    where
      go : (c < T f) ⊎ (T f ≤ c) → written f c ≤ infinity
      go (inl below) =
          subst (λ (y : ℕ). y ≤ infinity) (sym (below-written f c below))
          (le_of_lt (binary64_finite c (record { short = candidate_short f r c among; below = lt_of_lt_of_le below (top_not_above f r) })))
      go (inr reached) = le_of_eq (reached-written f c reached)

  -- lo and hi are written by two patterns, in their order
  pub written_apart : (a : ℕ) → a < T f → written f (lo f a) < written f (hi f a)
  written_apart a below = go (below_or_not (hi f a) (T f))
    where
      low : Short (lo f a)
      low = candidate_short f r (lo f a) (lo_candidate f r a below)

      go : (hi f a < T f) ⊎ (T f ≤ hi f a) → written f (lo f a) < written f (hi f a)
      go (inl under) =
          subst (λ (y : ℕ). y < written f (hi f a)) (sym (lo-written f a below))
          (subst (λ (y : ℕ). pat (lo f a) < y) (sym (below-written f (hi f a) under))
          (pat_increasing (lo f a) (hi f a) low (candidate_short f r (hi f a) (hi_candidate f r a below)) (lo-below-hi f a)))
      go (inr reached) =
          subst (λ (y : ℕ). y < written f (hi f a)) (sym (lo-written f a below))
          (subst (λ (y : ℕ). pat (lo f a) < y) (sym (reached-written f (hi f a) reached))
          (binary64_finite (lo f a) (record { short = low; below = lt_of_le_of_lt (lo_not_above f a) (lt_of_lt_of_le below (top_not_above f r)) })))

  module _ (mode : Mode) (negative : Bool) (word a : ℕ) where
    -- the one that is taken is one
    pub taken_candidate : a < T f → Candidate f (taken f mode negative word a)
    taken_candidate below =
        taken_cases f mode negative word a (Candidate f)
        (λ exact. subst (Candidate f) exact (lo_candidate f r a below)) (λ e. lo_candidate f r a below) (λ e. hi_candidate f r a below)

    -- every magnitude goes to a candidate's pattern
    pub goes_to_candidate : (c : ℕ) × Candidate f c × (goes_to f mode negative word a ≡ written f c)
    goes_to_candidate = go (below_or_not a (T f))
      where
        column : T f ≤ a → (b : Bool) → overflows mode negative ≡ b → (c : ℕ) × Candidate f c × (goes_to f mode negative word a ≡ written f c)
        column reached true e = (T f, top refl, reached_goes f mode negative word a reached true e ∙ sym (top_written f))
        column reached false e =
            (xmax f, xmax_candidate f r, reached_goes f mode negative word a reached false e ∙ sym (below-written f (xmax f) (xmax-below_top f r)))

        go : (a < T f) ⊎ (T f ≤ a) → (c : ℕ) × Candidate f c × (goes_to f mode negative word a ≡ written f c)
        go (inl below) = (taken f mode negative word a, taken_candidate below, below_goes f mode negative word a below)
        go (inr reached) = column reached (overflows mode negative) refl

    -- so it is a magnitude pattern, not above infinity's
    pub goes_most : goes_to f mode negative word a ≤ infinity
    goes_most = let c = goes_to_candidate in subst (λ (y : ℕ). y ≤ infinity) (sym c.2) (written-most c.0 c.1)
