-- How far the digits at the start of a text go, and that they are the digits of what they are worth. Assumes nothing.
use mathlib.Core.Bool.{Bool, true, false, cond, ◌&&◌}
use mathlib.Core.List.{List, [], ◌∷◌, ◌++◌}
use mathlib.Core.Path.{◌≡◌, refl, sym, ap, ap₂, ◌∙◌, subst}
use Prim.Native.Nat.{ℕ, zero, suc, ◌+◌, ◌*◌, ◌/◌, ◌%◌, ◌≤◌, ◌<◌, zero-le, suc-le-suc}
use native.Mathlib.Nat.{lt_of_lt_of_le, le_of_lt, le_of_suc-le-suc, not-suc-le-zero, mod-lt}
use lib.Arith.{digits_div, digits_mod}
use lib.Dec.{ltb}
use lib.ListN.{length, get_or, take}
use lib.Seq.{take-suc}
use borrow.Author.Tests.{ltb-true, lt-ltb, le-ltb}
use Rattle.laws.specs.Tables.{every}
use Rattle.laws.proofs.Tests.{and_left, and_right}
use Rattle.lines.specs.Numerals.{digit, digits}
use Rattle.lines.specs.Reading.{worth, run, value}
use Rattle.lines.proofs.Numerals.{worth-digit, digit-worth, value_last}

-- a test passes at every entry where it passes at the last one and at all before
every_last : (test : ℕ → Bool) (xs : List ℕ) (x : ℕ) → every test xs ≡ true → test x ≡ true → every test (xs ++ (x ∷ [])) ≡ true
every_last test [] x all last = ap (λ (t : Bool). t && true) last
every_last test (y ∷ xs) x all last =
    ap₂ (λ (s t : Bool). s && t) (and_left (test y) (every test xs) all)
    (every_last test xs x (and_right (test y) (every test xs) all) last)

module _ (base : ℕ) where
  -- the byte is a digit in the base
  abbrev pub is_digit : ℕ → Bool
  is_digit b = ltb (worth b) base

  -- a number's digits are digits in their base
  pub digits_all : 0 < base → base ≤ 16 → (k n : ℕ) → every is_digit (digits base k n) ≡ true
  unfolding digits
  digits_all some small zero n = refl
  digits_all some small (suc k) n =
      let under : n % base < base = mod-lt n some in
      every_last is_digit (digits base k (n / base)) (digit (n % base)) (digits_all some small k (n / base))
      (lt-ltb (worth (digit (n % base))) base (subst (λ (d : ℕ). d < base) (sym (worth-digit (n % base) (lt_of_lt_of_le under small))) under))

  -- digits that go on to a byte which is none are counted whole
  pub run_whole :
      (ds : List ℕ) (b : ℕ) (t : List ℕ) (most : ℕ) → every is_digit ds ≡ true → base ≤ worth b → length ds ≤ most
      → run base most (ds ++ b ∷ t) ≡ length ds
  unfolding run
  run_whole [] b t zero all none h = refl
  run_whole [] b t (suc most) all none h = ap (λ (x : Bool). cond x (suc (run base most t)) 0) (le-ltb (worth b) base none)
  run_whole (d ∷ ds) b t zero all none h = absurd (not-suc-le-zero h)
  run_whole (d ∷ ds) b t (suc most) all none h =
      ap₂ (λ (x : Bool) (k : ℕ). cond x (suc k) 0) (and_left (is_digit d) (every is_digit ds) all)
      (run_whole ds b t most (and_right (is_digit d) (every is_digit ds) all) none (le_of_suc-le-suc h))

  -- no more are counted than there are
  pub run_within : (most : ℕ) (s : List ℕ) → run base most s ≤ length s
  unfolding run
  run_within zero s = zero-le
  run_within (suc most) [] = zero-le
  run_within (suc most) (b ∷ s) = go (is_digit b) (run_within most s)
    where
      go : (x : Bool) → run base most s ≤ length s → cond x (suc (run base most s)) 0 ≤ suc (length s)
      go true later = suc-le-suc later
      go false later = zero-le

  -- each byte that is counted is a digit in the base
  run-worth : (most : ℕ) (s : List ℕ) (i : ℕ) → i < run base most s → worth (get_or s i 0) < base
  unfolding run
  run-worth zero s i h = absurd (not-suc-le-zero h)
  run-worth (suc most) [] i h = absurd (not-suc-le-zero h)
  run-worth (suc most) (b ∷ s) i h = go (is_digit b) refl i h (run-worth most s)
    where
      go :
          (x : Bool) → is_digit b ≡ x → (i : ℕ) → i < cond x (suc (run base most s)) 0
          → ((j : ℕ) → j < run base most s → worth (get_or s j 0) < base) → worth (get_or (b ∷ s) i 0) < base
      go true e zero h later = ltb-true (worth b) base e
      go true e (suc i) h later = later i (le_of_suc-le-suc h)
      go false e i h later = absurd (not-suc-le-zero h)

  -- ---- the digits that are counted
  module _ (most : ℕ) (s : List ℕ) where
    -- what the first i bytes are worth
    abbrev so_far : ℕ → ℕ
    so_far i = value base 0 (take i s)

    -- one more of them
    one_more : (i : ℕ) → i < run base most s → take (suc i) s ≡ take i s ++ (get_or s i 0 ∷ [])
    one_more i h = take-suc s i 0 (lt_of_lt_of_le h (run_within most s))

    so_far_more : (i : ℕ) → i < run base most s → so_far (suc i) ≡ so_far i * base + worth (get_or s i 0)
    so_far_more i h = ap (value base 0) (one_more i h) ∙ value_last base 0 (take i s) (get_or s i 0)

    -- the digits that are counted are those of what they are worth
    pub run-digits : base ≤ 16 → (i : ℕ) → i ≤ run base most s → take i s ≡ digits base i (so_far i)
    unfolding digits
    run-digits small zero h = refl
    run-digits small (suc i) h =
        let b = get_or s i 0 in
        let under : worth b < base = run-worth most s i h in
        one_more i h
        ∙ ap₂ (λ (ds : List ℕ) (d : ℕ). ds ++ (d ∷ [])) (run-digits small i (le_of_lt h)) (sym (digit-worth b (lt_of_lt_of_le under small)))
        ∙ ap₂ (λ (q r : ℕ). digits base i q ++ (digit r ∷ [])) (sym (digits_div (so_far i) under)) (sym (digits_mod (so_far i) under))
        ∙ ap (λ (v : ℕ). digits base (suc i) v) (sym (so_far_more i h))
