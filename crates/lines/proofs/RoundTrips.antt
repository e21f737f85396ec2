-- A value and its line feed, written and read. Assumes nothing.
use mathlib.Core.Bool.{Bool, true, false, cond, ◌&&◌}
use mathlib.Core.List.{List, ◌∷◌, ◌++◌}
use mathlib.Core.Path.{◌≡◌, refl, sym, ap, ap₂, ◌∙◌, subst}
use Prim.Native.Nat.{ℕ, suc, ◌+◌, ◌≤◌, ◌<◌}
use native.Mathlib.Nat.{le_refl, lt_of_not-le}
use native.Mathlib.Omega.{arith}
use lib.Dec.{eqb}
use lib.ListN.{length, get_or, take, drop, get_or-eq_default}
use lib.Seq.{split_at, take_at, get_or_at}
use borrow.Author.Tests.{eqb-true, eq-eqb}
use Rattle.std.specs.Prelude.{Option, Some, None}
use Rattle.std.proofs.lemmas.Option.{same_Some}
use Rattle.laws.proofs.Tests.{and_left, and_right}
use Rattle.lines.specs.declared.Form.{Form}
use Rattle.lines.specs.declared.Found.{Found}
use Rattle.lines.specs.Numerals.{digits}
use Rattle.lines.specs.Lines.{line_feed, base, width, fits}
use Rattle.lines.specs.Reading.{worth, value, longest, digits_read, value_read, found, read_value}
use Rattle.lines.proofs.Forms.{base_some, base_small, width-most, width-holds}
use Rattle.lines.proofs.Lengths.{length_digits}
use Rattle.lines.proofs.Numerals.{value-digits}
use Rattle.lines.proofs.Spans.{digits_all, run_whole, run-digits}

-- ---- what is written

module _ (form : Form) (n : ℕ) (rest : List ℕ) where
  -- the value's digits, which are as many as its width
  abbrev ds : List ℕ
  ds = digits (base form) (width form n) n

  abbrev long : length ds ≡ width form n
  long = length_digits (base form) (width form n) n

  -- a value's digits are all read
  count_read : digits_read form (ds ++ line_feed ∷ rest) ≡ width form n
  unfolding digits_read worth
  count_read =
      run_whole (base form) ds line_feed rest (longest form) (digits_all (base form) (base_some form) (base_small form) (width form n) n) (base_small form)
      (subst (λ (k : ℕ). k ≤ longest form) (sym long) (width-most form n))
      ∙ long

  -- as the value
  value_read_lem : fits form n ≡ true → value_read form (ds ++ line_feed ∷ rest) ≡ n
  unfolding value_read
  value_read_lem h =
      ap (λ (k : ℕ). value (base form) 0 (take k (ds ++ line_feed ∷ rest))) count_read
      ∙ ap (value (base form) 0) (take_at ds (line_feed ∷ rest) (width form n) long)
      ∙ value-digits (base form) (base_some form) (base_small form) (width form n) n (width-holds form n h)

  -- so a value of the form is read where it is written
  pub written-value : fits form n ≡ true → read_value form (ds ++ line_feed ∷ rest) ≡ Some (found n (width form n + 1))
  unfolding read_value
  written-value h =
      let s = ds ++ line_feed ∷ rest in
      ap₂ {C = Option Found} (λ (k v : ℕ). cond (eqb k (width form v) && (fits form v && eqb (get_or s k 0) line_feed)) (Some (found v (k + 1))) None)
      count_read (value_read_lem h)
      ∙ ap {B = Option Found} (λ (t : Bool). cond t (Some (found n (width form n + 1))) None)
      (ap₂ (λ (t u : Bool). t && u) (eq-eqb (width form n) (width form n) refl)
      (ap₂ (λ (t u : Bool). t && u) h (eq-eqb (get_or s (width form n) 0) line_feed (get_or_at ds line_feed rest 0 (width form n) long))))

-- ---- what is read

-- what is found under a test is found where the test holds,
pub found_passed : (t : Bool) (f : Option Found) (n used : ℕ) → cond t f None ≡ Some (found n used) → t ≡ true
found_passed true f n used e = refl
found_passed false f n used e = cc

-- and is what stands under it
pub found_under : (t : Bool) (f : Option Found) (n used : ℕ) → cond t f None ≡ Some (found n used) → f ≡ Some (found n used)
found_under true f n used e = e
found_under false f n used e = cc

module _ (form : Form) (s : List ℕ) where
  -- the text's digits and their value, and the three tests of them
  abbrev k : ℕ
  k = digits_read form s

  abbrev v : ℕ
  v = value_read form s

  abbrev whole : Bool
  whole = eqb k (width form v)

  abbrev ended : Bool
  ended = eqb (get_or s k 0) line_feed

  abbrev passed : Bool
  passed = whole && (fits form v && ended)

  module _ (n used : ℕ) (e : read_value form s ≡ Some (found n used)) where
    -- where a value is found, they pass, and it is the digits' own
    read_passed : passed ≡ true
    unfolding read_value
    read_passed = found_passed passed (Some (found v (k + 1))) n used e

    read_found : found v (k + 1) ≡ found n used
    unfolding read_value
    read_found = same_Some (found v (k + 1)) (found n used) (found_under passed (Some (found v (k + 1))) n used e)

    read_value_lem : v ≡ n
    read_value_lem = ap (λ (f : Found). f.value) read_found

    read_used : k + 1 ≡ used
    read_used = ap (λ (f : Found). f.used) read_found

    -- as many digits are read as the value is written with
    read_width : k ≡ width form n
    read_width = eqb-true k (width form v) (and_left whole (fits form v && ended) read_passed) ∙ ap (width form) read_value_lem

    -- the value is of the form
    pub read_value-fits : fits form n ≡ true
    read_value-fits =
        subst (λ (x : ℕ). fits form x ≡ true) read_value_lem (and_left (fits form v) ended (and_right whole (fits form v && ended) read_passed))

    -- a line feed stands behind its digits
    read_feed : get_or s k 0 ≡ line_feed
    read_feed = eqb-true (get_or s k 0) line_feed (and_right (fits form v) ended (and_right whole (fits form v && ended) read_passed))

    -- so the text goes on past them
    read_within : k < length s
    read_within =
        lt_of_not-le (λ (past : length s ≤ k). let none : get_or s k 0 ≡ 0 = get_or-eq_default s 0 past in omega (arith, read_feed))

    -- the digits that are read are the value's
    read_digits : take k s ≡ digits (base form) (width form n) n
    unfolding digits_read value_read
    read_digits =
        run-digits (base form) (longest form) s (base_small form) k (le_refl k) ∙ ap₂ (digits (base form)) read_width read_value_lem

    -- they and the line feed are the bytes that are used
    pub read_value_used : used ≡ width form n + 1
    read_value_used = omega (arith, read_used, read_width)

    -- which end within the text
    pub read_value_within : used ≤ length s
    read_value_within = omega (arith, read_used, read_within)

    -- and the text begins with them
    pub read_value-written : s ≡ digits (base form) (width form n) n ++ line_feed ∷ drop used s
    read_value-written =
        let past : suc k ≡ used = omega (arith, read_used) in
        split_at s k 0 read_within
        ∙ ap₂ (λ (ds : List ℕ) (b : ℕ). ds ++ b ∷ drop (suc k) s) read_digits read_feed
        ∙ ap (λ (m : ℕ). digits (base form) (width form n) n ++ line_feed ∷ drop m s) past
