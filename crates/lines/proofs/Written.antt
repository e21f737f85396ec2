-- A line as it is written: bytes laid over a buffer, the loop that writes the digits from the last to the first, the line feed behind
-- them, and the whole line. Assumes nothing.
use mathlib.Core.Bool.{Bool, cond}
use mathlib.Core.List.{List, [], ◌∷◌, ◌++◌}
use mathlib.Core.Path.{◌≡◌, refl, sym, ap, ◌∙◌, subst}
use Prim.Native.Nat.{ℕ, suc, ◌+◌, ◌-◌, ◌/◌, ◌%◌, ◌≤◌, ◌<◌}
use native.Mathlib.Nat.{le_refl}
use native.Mathlib.Omega.{arith}
use lib.ListN.{length, set, take, drop, length-append, take-append-drop}
use lib.Seq.{take_all}
use borrow.Author.Tests.{le-leb, lt-leb}
use borrow.Rule.Slice.PartMut.{mid_of, put_mid}
use Rattle.std.specs.Prelude.{Some, None}
use Rattle.laws.specs.Lists.{over}
use Rattle.laws.proofs.Overlays.{over-fits, length_over, drop-over, get_or-over, one_more_down, over-one_more, over_long, over_part}
use Rattle.lines.specs.declared.Form.{Form}
use Rattle.lines.specs.Numerals.{digit, digits}
use Rattle.lines.specs.Lines.{line_feed, base, width, line, taken}
use Rattle.lines.proofs.Lengths.{length_digits, length-line}
use Rattle.lines.proofs.Numbers.{last_digit_lem, other_digits}

-- ---- bytes

-- they are laid over a buffer that has room for them by taking its first bytes' place
pub laid_over : (bytes old part : List ℕ) → length bytes ≤ length old → part ≡ bytes → part ++ drop (length bytes) old ≡ over bytes old
laid_over bytes old part room same = ap (λ (l : List ℕ). l ++ drop (length bytes) old) same ∙ sym (over-fits bytes old room)

-- ---- digits

module _ (base k n : ℕ) (old : List ℕ) where
  -- before the first turn all digits are left,
  pub digits_left : digits base k n ≡ take k (digits base k n)
  digits_left = sym (take_all k (digits base k n) (subst (λ (m : ℕ). m ≤ k) (sym (length_digits base k n)) (le_refl k)))

  module _ (room : k ≤ length old) where
    digits_fit : length (digits base k n) ≤ length old
    digits_fit = subst (λ (m : ℕ). m ≤ length old) (sym (length_digits base k n)) room

    -- and nothing has changed
    pub none_written : old ≡ take k old ++ drop k (over (digits base k n) old)
    none_written =
        sym (take-append-drop k old)
        ∙ ap (λ (r : List ℕ). take k old ++ r)
        (sym (subst (λ (m : ℕ). drop m (over (digits base k n) old) ≡ drop m old) (length_digits base k n) (drop-over (digits base k n) old digits_fit)))

    module _ (i rest : ℕ) (most : i ≤ k) (left : digits base i rest ≡ take i (digits base k n)) (some : 0 < i) where
      down : i ≡ suc (i - 1)
      down = omega arith

      left_down : digits base (suc (i - 1)) rest ≡ take (suc (i - 1)) (digits base k n)
      left_down = subst (λ (m : ℕ). digits base m rest ≡ take m (digits base k n)) down left

      -- a turn leaves one digit less
      pub one-less_left : digits base (i - 1) (rest / base) ≡ take (i - 1) (digits base k n)
      one-less_left = other_digits base (i - 1) rest (digits base k n) left_down

      -- and writes it
      pub one_more_written : (out : List ℕ) → out ≡ take i old ++ drop i (over (digits base k n) old) → (y : ℕ) → y ≡ digit (rest % base)
          → set out (i - 1) y ≡ take (i - 1) old ++ drop (i - 1) (over (digits base k n) old)
      one_more_written out so_far y is =
          let new : List ℕ = over (digits base k n) old in
          let within : i - 1 < length (digits base k n) = omega (arith, length_digits base k n) in
          ap (λ (l : List ℕ). set l (i - 1) y) (so_far ∙ ap (λ (m : ℕ). take m old ++ drop m new) down)
          ∙ ap (λ (x : ℕ). set (take (suc (i - 1)) old ++ drop (suc (i - 1)) new) (i - 1) x)
          (is ∙ last_digit_lem base (i - 1) rest (digits base k n) left_down ∙ sym (get_or-over (digits base k n) old digits_fit (i - 1) within))
          ∙ one_more_down new old (i - 1) (length_over (digits base k n) old) (omega arith)

  -- at the end all are written
  pub all_written : (out : List ℕ) (i : ℕ) → out ≡ take i old ++ drop i (over (digits base k n) old) → i ≤ 0 → out ≡ over (digits base k n) old
  all_written out i so_far none =
      let end : i ≡ 0 = omega arith in
      so_far ∙ ap (λ (m : ℕ). take m old ++ drop m (over (digits base k n) old)) end

-- ---- a value and its line feed

-- the line feed behind the digits
pub value_written : (form : Form) (b k n : ℕ) (old out : List ℕ) → b ≡ base form → k < length old → out ≡ over (digits b k n) old
    → set out k line_feed ≡ over (digits (base form) k n ++ (line_feed ∷ [])) old
value_written form b k n old out is room are =
    let long = length_digits (base form) k n in
    ap (λ (l : List ℕ). set l k line_feed) (are ∙ ap (λ (m : ℕ). over (digits m k n) old) is)
    ∙ subst (λ (m : ℕ). set (over (digits (base form) k n) old) m line_feed ≡ over (digits (base form) k n ++ (line_feed ∷ [])) old) long
    (over-one_more (digits (base form) k n) old line_feed (subst (λ (m : ℕ). m < length old) (sym long) room))

-- ---- a line

-- a line takes its own length of a buffer that is as long,
pub taken_all : (l out : List ℕ) → length l ≤ length out → taken l out ≡ Some (length l)
unfolding taken
taken_all l out fits = ap (λ (b : Bool). cond b (Some (length l)) None) (le-leb (length l) (length out) fits)

-- and nothing of a shorter one
taken_none : (l out : List ℕ) → length out < length l → taken l out ≡ None
unfolding taken
taken_none l out long = ap (λ (b : Bool). cond b (Some (length l)) None) (lt-leb (length l) (length out) long)

module _ (key : List ℕ) (form : Form) (n : ℕ) (old : List ℕ) (size : ℕ) (is : size ≡ width form n) where
  module _ (long : length old < length key + size + 1) where
    longer : length old < length (line key form n)
    longer = omega (arith, length-line key form n)

    -- where the line is longer than the buffer, nothing is taken
    none-taken : None ≡ taken (line key form n) old
    none-taken = sym (taken_none (line key form n) old longer)

    -- and nothing has changed
    old_kept : old ≡ over (line key form n) old
    old_kept = sym (over_long (line key form n) old longer)

  -- so where the key alone is longer: nothing is taken,
  pub key_taken : length old < length key → None ≡ taken (line key form n) old
  key_taken long = none-taken (omega arith)

  -- and nothing has changed
  pub key_kept : length old < length key → old ≡ over (line key form n) old
  key_kept long = old_kept (omega arith)

  -- and where the value with its line feed is longer than what the key leaves: nothing is taken,
  pub value_taken : length key ≤ length old → length old - length key ≤ size → None ≡ taken (line key form n) old
  value_taken fits long = none-taken (omega arith)

  -- and nothing has changed
  pub value-kept : length key ≤ length old → length old - length key ≤ size → old ≡ over (line key form n) old
  value-kept fits long = old_kept (omega arith)

  module _ (fits : length key ≤ length old) (room : size < length old - length key) where
    -- where neither is, the line is taken whole,
    pub line_taken : Some (length key + size + 1) ≡ taken (line key form n) old
    line_taken =
        let long : length key + size + 1 ≡ length (line key form n) = omega (arith, length-line key form n) in
        ap (λ (m : ℕ). Some m) long ∙ sym (taken_all (line key form n) old (omega (arith, length-line key form n)))

    -- and written: the key first, then the value in the part behind it
    pub line-written : (mid part : List ℕ) → mid ≡ over key old
        → part ≡ over (digits (base form) size n ++ (line_feed ∷ [])) (mid_of (length key) (length mid - length key) mid)
        → put_mid (length key) (length mid - length key) mid part ≡ over (line key form n) old
    unfolding line
    line-written mid part first second =
        let value : List ℕ = digits (base form) size n ++ (line_feed ∷ []) in
        let long : length (digits (base form) size n) ≡ size = length_digits (base form) size n in
        let whole : length key + length value ≤ length old = simp length-append (omega arith) in
        over_part key value old mid part (length key) refl whole first second
        ∙ ap (λ (m : ℕ). over (key ++ (digits (base form) m n ++ (line_feed ∷ []))) old) is
