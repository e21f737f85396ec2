-- The fields of the first table: which one a pattern is looked up by, what the rule says of one, and what a place in the table
-- says of its field. Assumes nothing.
use Rattle.std.proofs.Common.{◌≡◌, ℕ, ◌+◌, ◌-◌, ◌*◌, ◌/◌, ◌%◌, ◌^◌, ◌<◌, ◌≤◌, max, Bool, true, false, cond, ltb, ◌⊎◌, refl, ap, ◌∙◌, subst, inl, inr, lt_irrefl, arith, le-ltb, lt-ltb}
use Rattle.laws.proofs.Orders.{below_or_not}
use Rattle.patterns.specs.Patterns.{mag}
use Rattle.patterns.proofs.Values.{digits_normal}
use Rattle.magnitudes.specs.declared.Settings.{Settings}
use Rattle.magnitudes.specs.BySettings.{place}
use Rattle.magnitudes.proofs.BySettings.{place_normal, place-below_normal}
use Rattle.sweeps.specs.Limits.{sound, Sound}
use Rattle.sweeps.specs.Rules.{field_of, place_rule}
use Rattle.sweeps.proofs.Soundness.{sound_facts}

-- ---- the field of a pattern

module _ (x : ℕ) where
  -- it is one of the table's
  pub field_within : field_of x < 2048
  unfolding field_of
  field_within = omega arith

  -- of a number it is the field below it, which an exact power of two ends
  pub field_of-number : x < 2 ^ 64 → 0 < mag x → field_of x ≡ (mag x - 1) / 2 ^ 52
  unfolding field_of mag
  field_of-number fits some = ap (λ (n : ℕ). n / 2 ^ 53) less ∙ omega arith
    where
      less : (2 * x + (2 ^ 64 - 1)) % 2 ^ 64 ≡ 2 * (x % 2 ^ 63) - 1
      less = omega arith

  -- of zero it is the last
  pub field_of-zero : x < 2 ^ 64 → mag x ≡ 0 → field_of x ≡ 2047
  unfolding field_of mag
  field_of-zero fits none = ap (λ (n : ℕ). n / 2 ^ 53) less
    where
      less : (2 * x + (2 ^ 64 - 1)) % 2 ^ 64 ≡ 2 ^ 64 - 1
      less = omega arith

-- ---- the rule

-- settings that no format has leave all fields out
pub rule_unsound : (s : Settings) (q : ℕ) → sound s ≡ false → place_rule s q ≡ 64
unfolding place_rule
rule_unsound s q failed = simp failed

module _ (s : Settings) (ok : sound s ≡ true) (q : ℕ) where
  -- a field in which no digit may be kept
  pub rule_nothing_kept : q < max 1 (s.bottom - 51) → place_rule s q ≡ 64
  unfolding place_rule
  rule_nothing_kept h = simp (ok, lt-ltb q (max 1 (s.bottom - 51)) h)

  -- one below the normal range, whose place is zeta's
  pub rule_below_normal : max 1 (s.bottom - 51) ≤ q → q < s.emin - 51 → place_rule s q ≡ s.bottom + 1 - q
  unfolding place_rule
  rule_below_normal kept h = simp (ok, le-ltb q (max 1 (s.bottom - 51)) kept, lt-ltb q (s.emin - 51) h)

  from_normal : s.emin - 51 ≤ q
      → place_rule s q ≡ cond (ltb q (s.top / 2 ^ 52 - 1)) s.cut (cond (ltb q (s.top / 2 ^ 52)) 64 (cond (ltb q 2046) 63 (cond (ltb q 2047) 64 0)))
  unfolding place_rule
  from_normal normal =
      let kept : max 1 (s.bottom - 51) ≤ q = omega (arith, (sound_facts s ok).emin_least, (sound_facts s ok).bottom_most) in
      simp (ok, le-ltb q (max 1 (s.bottom - 51)) kept, le-ltb q (s.emin - 51) normal)

  -- one in it, which cuts as many digits as the format does
  pub rule_normal : s.emin - 51 ≤ q → q < s.top / 2 ^ 52 - 1 → place_rule s q ≡ s.cut
  rule_normal normal h = simp (from_normal normal, lt-ltb q (s.top / 2 ^ 52 - 1) h)

  -- the one before T's, of which numbers may come out as T
  pub rule_before_top : s.top / 2 ^ 52 - 1 ≤ q → q < s.top / 2 ^ 52 → place_rule s q ≡ 64
  rule_before_top high h =
      simp (from_normal (omega (arith, (sound_facts s ok).top_above)), le-ltb q (s.top / 2 ^ 52 - 1) high, lt-ltb q (s.top / 2 ^ 52) h)

  from_top : s.top / 2 ^ 52 ≤ q → place_rule s q ≡ cond (ltb q 2046) 63 (cond (ltb q 2047) 64 0)
  from_top past =
      simp (
        from_normal (omega (arith, (sound_facts s ok).top_above)),
        le-ltb q (s.top / 2 ^ 52 - 1) (omega arith),
        le-ltb q (s.top / 2 ^ 52) past,
      )

  -- one from T's on, of finite numbers only
  pub rule_past_top : s.top / 2 ^ 52 ≤ q → q < 2046 → place_rule s q ≡ 63
  rule_past_top past h = simp (from_top past, lt-ltb q 2046 h)

  -- the one that infinity ends
  pub rule_largest : s.top / 2 ^ 52 ≤ q → 2046 ≤ q → q < 2047 → place_rule s q ≡ 64
  rule_largest past large h = simp (from_top past, le-ltb q 2046 large, lt-ltb q 2047 h)

  -- and that of the NaNs and of zero
  pub rule_special : 2047 ≤ q → place_rule s q ≡ 0
  rule_special h = simp (from_top (omega (arith, (sound_facts s ok).top_most)), le-ltb q 2046 (omega arith), le-ltb q 2047 h)

-- ---- what a place in the table says of its field

-- only settings of a format have one
pub listed_sound : (s : Settings) (q d : ℕ) → d ≡ place_rule s q → d < 64 → sound s ≡ true
listed_sound s q d listed below = go (sound s) refl
  where
    go : (b : Bool) → sound s ≡ b → sound s ≡ true
    go true e = e
    go false e = absurd (lt_irrefl 64 (subst (λ (n : ℕ). n < 64) (listed ∙ rule_unsound s q e) below))

-- The place is that of every number with this exponent field, of which a digit is kept and which stays below T; or all numbers of
-- the field have reached T, and the sign alone is kept; or it is the field of the NaNs, and all is kept.
pub data FieldCase (s : Settings) (q d : ℕ) : Type 0 where
  kept : max 1 (s.bottom - 51) ≤ q → q + 1 < s.top / 2 ^ 52 → ((m : ℕ) → m / 2 ^ 52 ≡ q → d ≡ place s.cut s.emin s.bottom m) → FieldCase s q d
  cleared : s.top / 2 ^ 52 ≤ q → q < 2046 → d ≡ 63 → FieldCase s q d
  whole : 2047 ≤ q → d ≡ 0 → FieldCase s q d

-- there is no fourth case
pub field_case : (s : Settings) (q d : ℕ) → sound s ≡ true → d ≡ place_rule s q → d < 64 → FieldCase s q d
field_case s q d ok listed below = low (below_or_not q (max 1 (s.bottom - 51)))
  where
    facts : Sound s
    facts = sound_facts s ok

    left_out : {A : Type 0} → place_rule s q ≡ 64 → A
    left_out e = absurd (lt_irrefl 64 (subst (λ (n : ℕ). n < 64) (listed ∙ e) below))

    special : s.top / 2 ^ 52 ≤ q → 2046 ≤ q → (q < 2047) ⊎ (2047 ≤ q) → FieldCase s q d
    special past large (inl h) = left_out (rule_largest s ok q past large h)
    special past large (inr h) = whole h (listed ∙ rule_special s ok q h)

    high : s.top / 2 ^ 52 ≤ q → (q < 2046) ⊎ (2046 ≤ q) → FieldCase s q d
    high past (inl h) = cleared past h (listed ∙ rule_past_top s ok q past h)
    high past (inr h) = special past h (below_or_not q 2047)

    top : s.top / 2 ^ 52 - 1 ≤ q → (q < s.top / 2 ^ 52) ⊎ (s.top / 2 ^ 52 ≤ q) → FieldCase s q d
    top near (inl h) = left_out (rule_before_top s ok q near h)
    top near (inr h) = high h (below_or_not q 2046)

    normal : s.emin - 51 ≤ q → (q < s.top / 2 ^ 52 - 1) ⊎ (s.top / 2 ^ 52 - 1 ≤ q) → FieldCase s q d
    normal n (inl h) =
        kept (omega (arith, facts.emin_least, facts.bottom_most)) (omega arith)
        (λ m at. listed ∙ rule_normal s ok q n h
        ∙ place_normal s.cut s.emin s.bottom m (m / 2 ^ 52 + 52) (digits_normal m (omega (arith, facts.emin_least))) (omega (arith, facts.emin_least)))
    normal n (inr h) = top h (below_or_not q (s.top / 2 ^ 52))

    start : max 1 (s.bottom - 51) ≤ q → (q < s.emin - 51) ⊎ (s.emin - 51 ≤ q) → FieldCase s q d
    start k (inl h) =
        kept k (omega (arith, facts.top_above))
        (λ m at. listed ∙ rule_below_normal s ok q k h ∙ omega arith
        ∙ place-below_normal s.cut s.emin s.bottom m (m / 2 ^ 52 + 52) (digits_normal m (omega arith)) (omega arith))
    start k (inr h) = normal h (below_or_not q (s.top / 2 ^ 52 - 1))

    low : (q < max 1 (s.bottom - 51)) ⊎ (max 1 (s.bottom - 51) ≤ q) → FieldCase s q d
    low (inl h) = left_out (rule_nothing_kept s ok q h)
    low (inr h) = start h (below_or_not q (s.emin - 51))
