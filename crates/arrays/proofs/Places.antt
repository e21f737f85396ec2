-- What a place of an array call depends on: its own pattern and, where the mode uses words, its own word. Assumes nothing.
use mathlib.Core.Bool.{Bool, true, false, cond, not, ◌&&◌}
use mathlib.Core.List.{List, ◌++◌}
use mathlib.Core.Path.{◌≡◌, refl, sym, ap, ap₂, ◌∙◌}
use Prim.Native.Nat.{ℕ, ◌≤◌, ◌<◌}
use native.Mathlib.Nat.{lt_of_lt_of_le}
use native.Mathlib.Omega.{arith}
use lib.Dec.{ltb, eqb}
use lib.ListN.{length, get_or, length-append, get_or-append}
use borrow.Author.Tests.{le-ltb, eq-eqb}
use Rattle.laws.specs.Lists.{tab}
use Rattle.laws.proofs.Lists.{get_or-tab, get_or-tab_alike, tab_alike}
use Rattle.grid.specs.declared.Format.{Format}
use Rattle.magnitudes.specs.declared.Mode.{Mode}
use Rattle.magnitudes.specs.Modes.{mode_of, uses_word}
use Rattle.magnitudes.proofs.ModeTables.{mode_unread}
use Rattle.rounding.specs.Rounded.{rounded}
use Rattle.rounding.specs.Calls.{refusal, answered, refused, round_one}
use Rattle.rounding.proofs.Refusals.{refusal_unread}
use Rattle.reports.specs.Reports.{report}
use Rattle.arrays.specs.Rounding.{lengths_refusal, array_refusal, refusal_of, reported, rounded_at, afterwards}
use Rattle.arrays.specs.Facts.{SameBut}
use Rattle.arrays.proofs.UnreadWords.{unused_unread}
use Rattle.arrays.proofs.Accepted.{numbers_accepted, lengths_alike, refused_alike}
use Rattle.arrays.proofs.Outcomes.{accepted-afterwards}

-- ---- two calls that are decided alike

-- of one length, and with the same answer at place i, hold the same there afterwards
alike_at : (f : Format) (mode r : ℕ) (words others xs ys out : List ℕ) → refusal_of f mode r words xs out ≡ refusal_of f mode r others ys out
    → length xs ≡ length ys → (i : ℕ) → rounded_at f (mode_of mode r) words xs i ≡ rounded_at f (mode_of mode r) others ys i
    → get_or (afterwards f mode r words xs out) i 0 ≡ get_or (afterwards f mode r others ys out) i 0
unfolding afterwards
alike_at f mode r words others xs ys out decided long i same =
    let g = rounded_at f (mode_of mode r) words xs in
    let h = rounded_at f (mode_of mode r) others ys in
    ap₂ (λ (n m : ℕ). get_or (cond (eqb n 0) (tab m g) out) i 0) decided long ∙ go g h same (eqb (refusal_of f mode r others ys out) 0)
  where
    go : (g h : ℕ → ℕ) → g i ≡ h i → (b : Bool) → get_or (cond b (tab (length ys) g) out) i 0 ≡ get_or (cond b (tab (length ys) h) out) i 0
    go g h same true = get_or-tab_alike (length ys) g h i 0 same
    go g h same false = refl

-- and with the same answer at every place hold the same
alike_throughout : (f : Format) (mode r : ℕ) (words others xs out : List ℕ) → refusal_of f mode r words xs out ≡ refusal_of f mode r others xs out
    → ((i : ℕ) → i < length xs → rounded_at f (mode_of mode r) words xs i ≡ rounded_at f (mode_of mode r) others xs i)
    → afterwards f mode r words xs out ≡ afterwards f mode r others xs out
unfolding afterwards
alike_throughout f mode r words others xs out decided same =
    ap₂ (λ (n : ℕ) (l : List ℕ). cond (eqb n 0) l out) decided
    (tab_alike (length xs) (rounded_at f (mode_of mode r) words xs) (rounded_at f (mode_of mode r) others xs) same)

-- ---- one place changed

-- Two calls whose patterns, and whose words, differ at place k at most: the report is the same, and so is what stands at every
-- other place afterwards.
module _ (f : Format) (mode r : ℕ) (words others xs ys out : List ℕ) (k : ℕ) (words_same : SameBut k words others) (xs-same : SameBut k xs ys) where
  decided_alike : refusal_of f mode r words xs out ≡ refusal_of f mode r others ys out
  decided_alike = ap₂ (λ (w n : ℕ). array_refusal f mode r w n (length out)) words_same.long xs-same.long

  pub one-place-reported : reported f mode r words xs out ≡ reported f mode r others ys out
  unfolding reported
  one-place-reported = ap report decided_alike

  pub one-place_changed : (i : ℕ) → (i ≡ k → ⊥) → get_or (afterwards f mode r words xs out) i 0 ≡ get_or (afterwards f mode r others ys out) i 0
  unfolding rounded_at
  one-place_changed i other =
      alike_at f mode r words others xs ys out decided_alike xs-same.long i
      (ap₂ (λ (w x : ℕ). rounded f (mode_of mode r) w x) (words_same.elsewhere i other) (xs-same.elsewhere i other))

-- ---- words that are not looked at

-- extra words: the report and the output are the same without them
module _ (f : Format) (mode r : ℕ) (words more xs out : List ℕ) (enough : length xs ≤ length words) where
  extra_decided : refusal_of f mode r (words ++ more) xs out ≡ refusal_of f mode r words xs out
  extra_decided =
      let m = mode_of mode r in
      let long : length xs ≤ length (words ++ more) = omega (arith, length-append words more) in
      refused_alike f mode r (length (words ++ more)) (length words) (length xs) (length out)
      (lengths_alike m (length (words ++ more)) (length words) (length xs) (length out)
      (ap (λ (few : Bool). uses_word m && few) (le-ltb (length (words ++ more)) (length xs) long ∙ sym (le-ltb (length words) (length xs) enough))))

  pub extra_words_reported : reported f mode r (words ++ more) xs out ≡ reported f mode r words xs out
  unfolding reported
  extra_words_reported = ap report extra_decided

  pub extra_words_unread : afterwards f mode r (words ++ more) xs out ≡ afterwards f mode r words xs out
  unfolding rounded_at
  extra_words_unread =
      alike_throughout f mode r (words ++ more) words xs out extra_decided
      (λ i h. ap (λ (w : ℕ). rounded f (mode_of mode r) w (get_or xs i 0)) (get_or-append words more 0 i (lt_of_lt_of_le h enough)))

-- words in a mode that uses none: with any others the report and the output are the same
module _ (f : Format) (mode r : ℕ) (words others xs out : List ℕ) (unused : uses_word (mode_of mode r) ≡ false) where
  unused_decided : refusal_of f mode r words xs out ≡ refusal_of f mode r others xs out
  unused_decided =
      let m = mode_of mode r in
      refused_alike f mode r (length words) (length others) (length xs) (length out)
      (lengths_alike m (length words) (length others) (length xs) (length out)
      (ap (λ (uses : Bool). uses && ltb (length words) (length xs)) unused ∙ sym (ap (λ (uses : Bool). uses && ltb (length others) (length xs)) unused)))

  pub words_unread_reported : reported f mode r words xs out ≡ reported f mode r others xs out
  unfolding reported
  words_unread_reported = ap report unused_decided

  pub words_unread : afterwards f mode r words xs out ≡ afterwards f mode r others xs out
  unfolding rounded_at
  words_unread =
      alike_throughout f mode r words others xs out unused_decided
      (λ i h. unused_unread f (mode_of mode r) (get_or words i 0) (get_or others i 0) (get_or xs i 0) unused)

-- r in a mode other than 7
module _ (f : Format) (mode r s : ℕ) (words xs out : List ℕ) (other : mode ≡ 7 → ⊥) where
  r_decided : refusal_of f mode r words xs out ≡ refusal_of f mode s words xs out
  unfolding array_refusal
  r_decided =
      ap₂ (λ (n : ℕ) (m : Mode). cond (not (eqb n 0)) n (lengths_refusal m (length words) (length xs) (length out)))
      (refusal_unread f mode r s other) (mode_unread mode r s other)

  pub array_r_reported : reported f mode r words xs out ≡ reported f mode s words xs out
  unfolding reported
  array_r_reported = ap report r_decided

  pub array_r_unread : afterwards f mode r words xs out ≡ afterwards f mode s words xs out
  unfolding afterwards
  array_r_unread =
      ap₂ (λ (n : ℕ) (m : Mode). cond (eqb n 0) (tab (length xs) (rounded_at f m words xs)) out) r_decided (mode_unread mode r s other)

-- ---- a place and a single call

-- every place of an accepted call holds what a single call answers to its pattern and its word
pub place_is_single_call : (f : Format) (mode r : ℕ) (words xs out : List ℕ) → refusal_of f mode r words xs out ≡ 0 → (i : ℕ) → i < length xs
    → round_one f mode r (get_or words i 0) (get_or xs i 0) ≡ answered (get_or (afterwards f mode r words xs out) i 0)
unfolding round_one rounded_at
place_is_single_call f mode r words xs out accepted i within =
    let y = rounded f (mode_of mode r) (get_or words i 0) (get_or xs i 0) in
    ap (λ (b : Bool). cond b (answered y) (refused (refusal f mode r))) (eq-eqb (refusal f mode r) 0 (numbers_accepted f mode r (length words) (length xs) (length out) accepted))
    ∙ ap answered
    (sym
    (ap (λ (l : List ℕ). get_or l i 0) (accepted-afterwards f mode r words xs out accepted)
    ∙ get_or-tab (length xs) (rounded_at f (mode_of mode r) words xs) i 0 within))
