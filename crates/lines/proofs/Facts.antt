-- A line that is written is read, and what is read is a line that was written. Assumes nothing.
use mathlib.Core.Bool.{Bool, cond}
use mathlib.Core.List.{List, ◌∷◌, ◌++◌, append_assoc}
use mathlib.Core.Path.{◌≡◌, sym, ap, ap₂, ◌∙◌}
use Prim.Native.Nat.{ℕ, ◌+◌, ◌-◌, ◌≤◌}
use native.Mathlib.Omega.{arith}
use lib.ListN.{length, drop, length-append}
use lib.Seq.{drop-append_seam, drop-drop}
use Rattle.std.specs.Prelude.{Option, Some, None}
use Rattle.std.proofs.lemmas.Option.{same_Some}
use Rattle.lines.specs.declared.Form.{Form}
use Rattle.lines.specs.declared.Found.{Found}
use Rattle.lines.specs.Numerals.{digits}
use Rattle.lines.specs.Lines.{line_feed, base, width, line}
use Rattle.lines.specs.Reading.{begins, found, behind, read_value, read_line}
use Rattle.lines.specs.Facts.{WrittenIsRead, ReadFits, ReadIsWritten}
use Rattle.lines.proofs.Keys.{begins_key, begins_splits}
use Rattle.lines.proofs.Lengths.{length-line}
use Rattle.lines.proofs.RoundTrips.{written-value, found_passed, found_under, read_value-fits, read_value_used, read_value-written}

-- a line and what follows it are the key, the digits, the line feed and what follows
pub line_parts : (key : List ℕ) (form : Form) (n : ℕ) (rest : List ℕ)
    → line key form n ++ rest ≡ key ++ (digits (base form) (width form n) n ++ line_feed ∷ rest)
unfolding line
line_parts key form n rest = simp append_assoc

-- a line that is written is read
pub written_is_read : WrittenIsRead
unfolding read_line behind
written_is_read key form n rest h =
    let t = digits (base form) (width form n) n ++ line_feed ∷ rest in
    ap (read_line key form) (line_parts key form n rest)
    ∙ ap₂ {C = Option Found} (λ (b : Bool) (s : List ℕ). cond b (behind (length key) (read_value form s)) None) (begins_key key t) (drop-append_seam key t)
    ∙ ap (behind (length key)) (written-value form n rest h)
    ∙ ap {B = Option Found} (λ (k : ℕ). Some (found n k)) (sym (length-line key form n))

-- ---- what is read

-- what is found behind a key was found with the same value, and took the bytes that the key leaves
behind-found : (key : ℕ) (f : Option Found) (n used : ℕ) → behind key f ≡ Some (found n used) → f ≡ Some (found n (used - key))
unfolding behind
behind-found key (Some f) n used e =
    let same : f.value ≡ n = ap (λ (g : Found). g.value) (same_Some (found f.value (key + f.used)) (found n used) e) in
    let bytes : key + f.used ≡ used = ap (λ (g : Found). g.used) (same_Some (found f.value (key + f.used)) (found n used) e) in
    ap₂ {C = Option Found} (λ (v k : ℕ). Some (found v k)) same (omega arith)
behind-found key None n used e = cc

-- which are not fewer than the key's
behind-most : (key : ℕ) (f : Option Found) (n used : ℕ) → behind key f ≡ Some (found n used) → used ≡ key + (used - key)
unfolding behind
behind-most key (Some f) n used e = let bytes : key + f.used ≡ used = ap (λ (g : Found). g.used) (same_Some (found f.value (key + f.used)) (found n used) e) in omega arith
behind-most key None n used e = cc

module _ (key : List ℕ) (form : Form) (s : List ℕ) (n used : ℕ) (e : read_line key form s ≡ Some (found n used)) where
  -- the text behind the key, and how many of its bytes are used
  abbrev after : List ℕ
  after = drop (length key) s

  abbrev left : ℕ
  left = used - length key

  -- the text begins with the key,
  line_key : s ≡ key ++ after
  unfolding read_line
  line_key = begins_splits key s (found_passed (begins key s) (behind (length key) (read_value form after)) n used e)

  -- and behind it the value is found
  line-behind : behind (length key) (read_value form after) ≡ Some (found n used)
  unfolding read_line
  line-behind = found_under (begins key s) (behind (length key) (read_value form after)) n used e

  -- with the bytes that the key leaves
  line-value : read_value form after ≡ Some (found n left)
  line-value = behind-found (length key) (read_value form after) n used line-behind

  line_used : used ≡ length key + left
  line_used = behind-most (length key) (read_value form after) n used line-behind

  -- the bytes that are used are the line's
  line_bytes : used ≡ length (line key form n)
  line_bytes = line_used ∙ ap (λ (k : ℕ). length key + k) (read_value_used form after n left line-value) ∙ sym (length-line key form n)

  -- and hold the line
  line-begins : s ≡ line key form n ++ drop used s
  line-begins =
      line_key
      ∙ ap {B = List ℕ} (λ (t : List ℕ). key ++ t) (read_value-written form after n left line-value)
      ∙ ap {B = List ℕ} (λ (t : List ℕ). key ++ (digits (base form) (width form n) n ++ line_feed ∷ t))
      (drop-drop left (length key) s ∙ ap (λ (k : ℕ). drop k s) (sym line_used))
      ∙ sym (line_parts key form n (drop used s))

-- what is read is of the form,
pub read_fits : ReadFits
read_fits key form s n used e = read_value-fits form (drop (length key) s) n (used - length key) (line-value key form s n used e)

-- and the text begins with its line
pub read_is_written : ReadIsWritten
read_is_written key form s n used e = (line-begins key form s n used e, line_bytes key form s n used e)

-- so the bytes that it takes are the text's
pub read_ends_within : (key : List ℕ) (form : Form) (s : List ℕ) (n used : ℕ) → read_line key form s ≡ Some (found n used) → used ≤ length s
read_ends_within key form s n used e =
    omega (
      arith,
      line_bytes key form s n used e,
      ap (λ (l : List ℕ). length l) (line-begins key form s n used e) ∙ length-append (line key form n) (drop used s),
    )
