-- The modes by number: 0 to 6, which look at no word, 7, which keeps r, and what is above. Assumes nothing.
use mathlib.Core.Bool.{false}
use mathlib.Core.Path.{◌≡◌, refl, sym, ap, ◌∙◌}
use Prim.Native.Nat.{ℕ, zero, suc, ◌<◌}
use native.Mathlib.Omega.{arith}
use Rattle.magnitudes.specs.declared.Mode.TheVariants.{EvenChance}
use Rattle.magnitudes.specs.Modes.{mode_of, uses_word}

-- what holds for each number up to 7, and for all above, holds for every number
pub number_cases : (P : ℕ → Type 0) → P 0 → P 1 → P 2 → P 3 → P 4 → P 5 → P 6 → P 7 → ((n : ℕ) → P (suc (suc (suc (suc (suc (suc (suc (suc n))))))))) → (n : ℕ) → P n
number_cases P a b c d e f g h above zero = a
number_cases P a b c d e f g h above (suc zero) = b
number_cases P a b c d e f g h above (suc (suc zero)) = c
number_cases P a b c d e f g h above (suc (suc (suc zero))) = d
number_cases P a b c d e f g h above (suc (suc (suc (suc zero)))) = e
number_cases P a b c d e f g h above (suc (suc (suc (suc (suc zero))))) = f
number_cases P a b c d e f g h above (suc (suc (suc (suc (suc (suc zero)))))) = g
number_cases P a b c d e f g h above (suc (suc (suc (suc (suc (suc (suc zero))))))) = h
number_cases P a b c d e f g h above (suc (suc (suc (suc (suc (suc (suc (suc n)))))))) = above n

-- above 7 there is the last mode only
pub mode_above : (n r : ℕ) → EvenChance ≡ mode_of (suc (suc (suc (suc (suc (suc (suc (suc n)))))))) r
unfolding mode_of
mode_above zero r = refl
mode_above (suc n) r = refl

-- so a number that is none of 0 to 7 has that one
pub mode_past : (n r : ℕ) → (n ≡ 0 → ⊥) → (n ≡ 1 → ⊥) → (n ≡ 2 → ⊥) → (n ≡ 3 → ⊥) → (n ≡ 4 → ⊥) → (n ≡ 5 → ⊥) → (n ≡ 6 → ⊥) → (n ≡ 7 → ⊥)
    → EvenChance ≡ mode_of n r
mode_past n r a b c d e f g h =
    number_cases (λ (k : ℕ). k ≡ n → EvenChance ≡ mode_of n r)
    (λ i. absurd (a (sym i))) (λ i. absurd (b (sym i))) (λ i. absurd (c (sym i))) (λ i. absurd (d (sym i)))
    (λ i. absurd (e (sym i))) (λ i. absurd (f (sym i))) (λ i. absurd (g (sym i))) (λ i. absurd (h (sym i)))
    (λ k i. mode_above k r ∙ ap (λ (j : ℕ). mode_of j r) i) n refl

-- no mode below 7 looks at the word
pub no_word-below_seven : (n r : ℕ) → n < 7 → uses_word (mode_of n r) ≡ false
unfolding mode_of uses_word
no_word-below_seven n r =
    number_cases (λ (k : ℕ). k < 7 → uses_word (mode_of k r) ≡ false)
    (λ h. refl) (λ h. refl) (λ h. refl) (λ h. refl) (λ h. refl) (λ h. refl) (λ h. refl) (λ h. absurd (omega arith))
    (λ k h. absurd (omega arith)) n

-- and no number but 7 looks at r
pub mode_unread : (n r s : ℕ) → (n ≡ 7 → ⊥) → mode_of n r ≡ mode_of n s
unfolding mode_of
mode_unread n r s =
    number_cases (λ (k : ℕ). (k ≡ 7 → ⊥) → mode_of k r ≡ mode_of k s)
    (λ o. refl) (λ o. refl) (λ o. refl) (λ o. refl) (λ o. refl) (λ o. refl) (λ o. refl) (λ o. absurd (o refl))
    (λ k o. sym (mode_above k r) ∙ mode_above k s) n
