-- Painting a table from one place up to another: the start, a turn, and the end; and the first table, whose rule is painted so,
-- one stretch of fields after the other. Assumes nothing.
use Rattle.std.proofs.Common.{◌≡◌, ℕ, ◌+◌, ◌-◌, ◌/◌, ◌^◌, ◌<◌, ◌≤◌, max, true, false, List, length, set, sym, ◌∙◌, subst, arith, w8, w64, Fits}
use Rattle.laws.specs.Fills.{FilledTo}
use Rattle.laws.proofs.Fills.{filled_none, filled_more, filled_all}
use Rattle.magnitudes.specs.declared.Settings.{Settings}
use Rattle.sweeps.specs.Limits.{sound}
use Rattle.sweeps.specs.Rules.{place_rule, place_table, Painted}
use Rattle.sweeps.proofs.Soundness.{sound_facts}
use Rattle.sweeps.proofs.Fields.{rule_unsound, rule_nothing_kept, rule_below_normal, rule_normal, rule_before_top, rule_past_top, rule_largest, rule_special}

-- ---- from one place up to another

module _ (place : ℕ → ℕ) (from : ℕ) (l : List ℕ) where
  -- at first no place is painted,
  pub painted_none : Painted place from from l l
  painted_none = record { on = λ g says filled. subst (λ (n : ℕ). FilledTo g n l) (omega arith) filled }

  module _ (l' : List ℕ) (i : ℕ) (reached : from ≤ i) (painted : Painted place from i l l') where
    -- then those before i are, and so is the next
    pub painted_more : (n to : ℕ) → length l' ≡ n → to ≤ n → i < to → (y : ℕ) → y ≡ place i → Painted place from (i + 1) l (set l' i y)
    painted_more n to long ends before y is = record { on = more }
      where
        more : (g : ℕ → ℕ) → ((k : ℕ) → from ≤ k → k < i + 1 → g k ≡ place k) → FilledTo g from l → FilledTo g (max from (i + 1)) (set l' i y)
        more g says filled =
            let sooner : FilledTo g (max from i) l' = painted.on g (λ k least below. says k least (omega arith)) filled in
            subst (λ (m : ℕ). FilledTo g m (set l' i y)) (omega arith)
            (filled_more g i l' y (is ∙ sym (says i reached (omega arith))) (omega arith) (subst (λ (m : ℕ). FilledTo g m l') (omega arith) sooner))

-- ---- the stretches of the rule

module _ (s : Settings) (ok : sound s ≡ true) where
  -- numbers that the code works out fit
  pub least_within : s.emin - 51 ≤ 2048
  least_within = omega (arith, (sound_facts s ok).top_above, (sound_facts s ok).top_most)

  pub bottom_fits : Fits w64 (s.bottom + 1)
  bottom_fits = record { fits = omega (arith, (sound_facts s ok).bottom_most, least_within) }

  pub falls_enough : s.emin - 51 ≤ s.bottom + 1 + 1
  falls_enough = omega (arith, (sound_facts s ok).bottom_least)

  pub top_positive : 1 ≤ s.top / 2 ^ 52
  top_positive = omega (arith, (sound_facts s ok).top_above)

  pub top_within : s.top / 2 ^ 52 ≤ 2048
  top_within = omega (arith, (sound_facts s ok).top_most)

  pub before_top_within : s.top / 2 ^ 52 - 1 ≤ 2048
  before_top_within = omega (arith, (sound_facts s ok).top_most)

  pub cut_fits : Fits w8 s.cut
  cut_fits = record { fits = omega (arith, (sound_facts s ok).cut_most) }

  module _ (first : ℕ) (e : first ≡ max 1 (s.bottom - 51)) where
    pub first_within : first ≤ 2048
    first_within = omega (arith, (sound_facts s ok).bottom_most, least_within)

    module _ (kept : ℕ) (next : kept ≡ max 0 first) where
      pub falls_near : s.bottom + 1 ≤ kept + 255
      falls_near = omega arith

      -- below the normal range
      pub below_normal_painted : (l l' l'' : List ℕ) → Painted (λ k. 64) 0 first l l' → Painted (λ k. s.bottom + 1 - k) kept (s.emin - 51) l' l''
          → FilledTo (place_rule s) (s.emin - 51) l''
      below_normal_painted l l' l'' none falling =
          let start : kept ≡ max 1 (s.bottom - 51) = omega arith in
          subst (λ (n : ℕ). FilledTo (place_rule s) n l'') (omega (arith, (sound_facts s ok).bottom_most, (sound_facts s ok).emin_least))
          (falling.on (place_rule s) (λ k least below. rule_below_normal s ok k (omega arith) below)
          (subst (λ (n : ℕ). FilledTo (place_rule s) n l') (sym next)
          (none.on (place_rule s) (λ k least below. rule_nothing_kept s ok k (omega arith)) (filled_none (place_rule s) l))))

  -- in it
  pub normal_painted : (l l' l'' : List ℕ) → FilledTo (place_rule s) (s.emin - 51) l
      → Painted (λ k. s.cut) (s.emin - 51) (s.top / 2 ^ 52 - 1) l l'
      → (last : ℕ) → last ≡ max (s.emin - 51) (s.top / 2 ^ 52 - 1) → Painted (λ k. 64) last (s.top / 2 ^ 52) l' l''
      → FilledTo (place_rule s) (s.top / 2 ^ 52) l''
  normal_painted l l' l'' filled cut last next none =
      let start : last ≡ s.top / 2 ^ 52 - 1 = omega (arith, (sound_facts s ok).top_above) in
      subst (λ (n : ℕ). FilledTo (place_rule s) n l'') (omega arith)
      (none.on (place_rule s) (λ k least below. rule_before_top s ok k (omega arith) below)
      (subst (λ (n : ℕ). FilledTo (place_rule s) n l') (sym next)
      (cut.on (place_rule s) (λ k least below. rule_normal s ok k least below) filled)))

  -- and past T
  pub past_top_painted : (l l' l'' l''' : List ℕ) → FilledTo (place_rule s) (s.top / 2 ^ 52) l → Painted (λ k. 63) (s.top / 2 ^ 52) 2046 l l'
      → (largest : ℕ) → largest ≡ max (s.top / 2 ^ 52) 2046 → Painted (λ k. 64) largest 2047 l' l''
      → (special : ℕ) → special ≡ max largest 2047 → Painted (λ k. 0) special 2048 l'' l''' → length l''' ≡ 2048
      → l''' ≡ place_table s
  unfolding place_table
  past_top_painted l l' l'' l''' filled all largest next none special after nan long =
      filled_all (place_rule s) 2048 l''' long
      (subst (λ (n : ℕ). FilledTo (place_rule s) n l''') (omega (arith, (sound_facts s ok).top_most))
      (nan.on (place_rule s) (λ k least below. rule_special s ok k (omega arith))
      (subst (λ (n : ℕ). FilledTo (place_rule s) n l'') (sym after)
      (none.on (place_rule s) (λ k least below. rule_largest s ok k (omega arith) (omega arith) below)
      (subst (λ (n : ℕ). FilledTo (place_rule s) n l') (sym next)
      (all.on (place_rule s) (λ k least below. rule_past_top s ok k least below) filled))))))

-- all fields are left out where no format has such settings
pub none_painted : (s : Settings) → sound s ≡ false → (l l' : List ℕ) → Painted (λ k. 64) 0 2048 l l' → length l' ≡ 2048 → l' ≡ place_table s
unfolding place_table
none_painted s failed l l' none long =
    filled_all (place_rule s) 2048 l' long
    (none.on (place_rule s) (λ k least below. rule_unsound s k failed) (filled_none (place_rule s) l))
