-- Rows of lines: what is written line after line is read again, and what is read was written. Assumes nothing.
use mathlib.Core.Bool.{Bool, true}
use mathlib.Core.List.{List, [], ◌∷◌, ◌++◌, append_assoc}
use mathlib.Core.Path.{◌≡◌, refl, sym, ap, ◌∙◌}
use Prim.Native.Nat.{ℕ, zero, suc, ◌+◌, ◌≤◌, ◌<◌, zero-le, suc-le-suc}
use native.Mathlib.Nat.{le_of_suc-le-suc, not-suc-le-zero, zero-add, add-zero, suc-add, add_assoc}
use native.Mathlib.Omega.{arith}
use lib.ListN.{length, take, drop, length-append}
use lib.Seq.{drop-append_seam, drop-drop}
use Rattle.std.specs.Prelude.{Option, Some, None}
use Rattle.lines.specs.declared.Found.{Found}
use Rattle.lines.specs.Lines.{fits, line}
use Rattle.lines.proofs.Facts.{written_is_read, read_fits, read_is_written}
use Rattle.jobs.specs.Layout.{rule_at, lines_from}
use Rattle.jobs.specs.Reading.{Lines, no_lines, and_then, line_at, read_from}

-- each value is of the form of its line, from line i on
abbrev pub Fit : Bool → ℕ → List ℕ → Type 0
Fit words i [] = Unit {0}
Fit words i (v ∷ vs) = (fits (rule_at words i).form v ≡ true) × Fit words (suc i) vs

-- line i with the value v
abbrev pub line_of : Bool → ℕ → ℕ → List ℕ
line_of words i v = line (rule_at words i).key (rule_at words i).form v

-- a line of so many bytes with this value, and those that are read behind it
abbrev line_then : ℕ → ℕ → Lines → Lines
line_then v used more = record { values = v ∷ more.values; used = used + more.used }

-- ---- lines that are written

-- the first k lines, and those behind them
pub rows_split : (words : Bool) (i k : ℕ) (vs : List ℕ) → lines_from words i vs ≡ lines_from words i (take k vs) ++ lines_from words (i + k) (drop k vs)
unfolding lines_from
rows_split words i zero vs = ap (λ (n : ℕ). lines_from words n vs) (sym (add-zero i))
rows_split words i (suc k) [] = refl
rows_split words i (suc k) (v ∷ vs) =
    ap (λ (t : List ℕ). line_of words i v ++ t)
    (rows_split words (suc i) k vs
    ∙ ap (λ (n : ℕ). lines_from words (suc i) (take k vs) ++ lines_from words n (drop k vs)) next)
    ∙ sym (append_assoc (line_of words i v) (lines_from words (suc i) (take k vs)) (lines_from words (i + suc k) (drop k vs)))
  where
    next : suc i + k ≡ i + suc k
    next = omega arith

-- values that fit still do where the last are left out
pub fit_take : (words : Bool) (i k : ℕ) (vs : List ℕ) → Fit words i vs → Fit words i (take k vs)
fit_take words i zero vs fit = tt
fit_take words i (suc k) [] fit = tt
fit_take words i (suc k) (v ∷ vs) fit = (fit.0, fit_take words (suc i) k vs fit.1)

-- ---- what is read

-- no more lines are read than are asked for
pub rows_within : (words : Bool) (i m : ℕ) (s : List ℕ) → length (read_from words i m s).values ≤ m
unfolding read_from
rows_within words i zero s = zero-le
rows_within words i (suc m) s = go (line_at words i s) (rows_within words (suc i) m)
  where
    go : (f : Option Found) → ((t : List ℕ) → length (read_from words (suc i) m t).values ≤ m) → length (and_then f s (read_from words (suc i) m)).values ≤ suc m
    go (Some f) rest = suc-le-suc (rest (drop f.used s))
    go None rest = zero-le

-- a line that is there is read, and then what is behind it
row_read : (words : Bool) (i m v : ℕ) (rest : List ℕ) → fits (rule_at words i).form v ≡ true
    → read_from words i (suc m) (line_of words i v ++ rest) ≡ line_then v (length (line_of words i v)) (read_from words (suc i) m rest)
unfolding read_from
row_read words i m v rest fit =
    ap (λ (f : Option Found). and_then f (line_of words i v ++ rest) (read_from words (suc i) m))
    (written_is_read (rule_at words i).key (rule_at words i).form v rest fit)
    ∙ ap (λ (t : List ℕ). line_then v (length (line_of words i v)) (read_from words (suc i) m t)) (drop-append_seam (line_of words i v) rest)

-- the lines that a text begins with are read first, whatever follows them
pub rows_read : (words : Bool) (i m : ℕ) (vs rest : List ℕ) → Fit words i vs → length vs ≤ m
    → take (length vs) (read_from words i m (lines_from words i vs ++ rest)).values ≡ vs
unfolding lines_from
rows_read words i m [] rest fit room = refl
rows_read words i zero (v ∷ vs) rest fit room = absurd (not-suc-le-zero room)
rows_read words i (suc m) (v ∷ vs) rest fit room =
    ap (λ (s : List ℕ). take (suc (length vs)) (read_from words i (suc m) s).values)
    (append_assoc (line_of words i v) (lines_from words (suc i) vs) rest)
    ∙ ap (λ (l : Lines). take (suc (length vs)) l.values) (row_read words i m v (lines_from words (suc i) vs ++ rest) fit.0)
    ∙ ap (λ (l : List ℕ). v ∷ l) (rows_read words (suc i) m vs rest fit.1 (le_of_suc-le-suc room))

-- what is read is of the forms of its lines
pub rows_fit : (words : Bool) (i m : ℕ) (s : List ℕ) → Fit words i (read_from words i m s).values
unfolding read_from
rows_fit words i zero s = tt
rows_fit words i (suc m) s = go (line_at words i s) refl (rows_fit words (suc i) m)
  where
    go : (f : Option Found) → line_at words i s ≡ f → ((t : List ℕ) → Fit words (suc i) (read_from words (suc i) m t).values)
        → Fit words i (and_then f s (read_from words (suc i) m)).values
    go (Some f) e rest = (read_fits (rule_at words i).key (rule_at words i).form s f.value f.used e, rest (drop f.used s))
    go None e rest = tt

-- the bytes that are counted are those of the lines
pub rows_used : (words : Bool) (i m : ℕ) (s : List ℕ) → (read_from words i m s).used ≡ length (lines_from words i (read_from words i m s).values)
unfolding read_from lines_from
rows_used words i zero s = refl
rows_used words i (suc m) s = go (line_at words i s) refl (rows_used words (suc i) m)
  where
    go : (f : Option Found) → line_at words i s ≡ f
        → ((t : List ℕ) → (read_from words (suc i) m t).used ≡ length (lines_from words (suc i) (read_from words (suc i) m t).values))
        → (and_then f s (read_from words (suc i) m)).used ≡ length (lines_from words i (and_then f s (read_from words (suc i) m)).values)
    go (Some f) e rest =
        ap (λ (n : ℕ). n + (read_from words (suc i) m (drop f.used s)).used)
        (read_is_written (rule_at words i).key (rule_at words i).form s f.value f.used e).1
        ∙ ap (λ (n : ℕ). length (line_of words i f.value) + n) (rest (drop f.used s))
        ∙ sym (length-append (line_of words i f.value) (lines_from words (suc i) (read_from words (suc i) m (drop f.used s)).values))
    go None e rest = refl

-- the text begins with the lines that are read
pub rows_written : (words : Bool) (i m : ℕ) (s : List ℕ) → s ≡ lines_from words i (read_from words i m s).values ++ drop (read_from words i m s).used s
unfolding read_from lines_from
rows_written words i zero s = refl
rows_written words i (suc m) s = go (line_at words i s) refl (rows_written words (suc i) m)
  where
    go : (f : Option Found) → line_at words i s ≡ f
        → ((t : List ℕ) → t ≡ lines_from words (suc i) (read_from words (suc i) m t).values ++ drop (read_from words (suc i) m t).used t)
        → s ≡ lines_from words i (and_then f s (read_from words (suc i) m)).values ++ drop (and_then f s (read_from words (suc i) m)).used s
    go (Some f) e rest =
        let more : Lines = read_from words (suc i) m (drop f.used s) in
        (read_is_written (rule_at words i).key (rule_at words i).form s f.value f.used e).0
        ∙ ap (λ (t : List ℕ). line_of words i f.value ++ t)
        (rest (drop f.used s) ∙ ap (λ (t : List ℕ). lines_from words (suc i) more.values ++ t) (drop-drop more.used f.used s))
        ∙ sym (append_assoc (line_of words i f.value) (lines_from words (suc i) more.values) (drop (f.used + more.used) s))
    go None e rest = refl

-- so no more bytes are counted than it has
pub rows_used_within : (words : Bool) (i m : ℕ) (s : List ℕ) → (read_from words i m s).used ≤ length s
rows_used_within words i m s =
    omega (
      arith,
      rows_used words i m s,
      ap length (rows_written words i m s)
          ∙ length-append (lines_from words i (read_from words i m s).values) (drop (read_from words i m s).used s),
    )

-- ---- some lines, and then more

-- lines that were read, and those that were read behind them
abbrev pub both : Lines → Lines → Lines
both a b = record { values = a.values ++ b.values; used = a.used + b.used }

-- m lines and n more are read as m lines and then n more; where fewer than m are there, no more may be asked for
pub rows_more : (words : Bool) (i m n : ℕ) (s : List ℕ) → (length (read_from words i m s).values < m → n ≡ 0)
    → read_from words i (m + n) s ≡ both (read_from words i m s) (read_from words (i + m) n (drop (read_from words i m s).used s))
unfolding read_from
rows_more words i zero n s none =
    ap (λ (k : ℕ). read_from words i k s) (zero-add n)
    ∙ ap (λ (k : ℕ). read_from words k n s) (sym (add-zero i))
    ∙ sym (ap {B = Lines} (λ (k : ℕ). record { values = (read_from words (i + 0) n s).values; used = k }) (zero-add (read_from words (i + 0) n s).used))
rows_more words i (suc m) n s none =
    ap (λ (k : ℕ). read_from words i k s) (suc-add m n) ∙ go (line_at words i s) none (rows_more words (suc i) m n)
  where
    goal : Option Found → Type 0
    goal f =
        and_then f s (read_from words (suc i) (m + n))
        ≡ both (and_then f s (read_from words (suc i) m)) (read_from words (i + suc m) n (drop (and_then f s (read_from words (suc i) m)).used s))

    next : suc i + m ≡ i + suc m
    next = omega arith

    go : (f : Option Found) → (length (and_then f s (read_from words (suc i) m)).values < suc m → n ≡ 0)
        → ((t : List ℕ) → (length (read_from words (suc i) m t).values < m → n ≡ 0)
        → read_from words (suc i) (m + n) t ≡ both (read_from words (suc i) m t) (read_from words (suc i + m) n (drop (read_from words (suc i) m t).used t)))
        → goal f
    go (Some f) stop rest =
        let first : Lines = read_from words (suc i) m (drop f.used s) in
        ap (λ (l : Lines). line_then f.value f.used l) (rest (drop f.used s) (λ h. stop (suc-le-suc h)))
        ∙ ap (λ (k : ℕ). line_then f.value f.used (both first (read_from words k n (drop first.used (drop f.used s))))) next
        ∙ ap (λ (t : List ℕ). line_then f.value f.used (both first (read_from words (i + suc m) n t))) (drop-drop first.used f.used s)
        ∙ ap {B = Lines} (λ (k : ℕ). record { values = f.value ∷ (first.values ++ later.values); used = k }) (sym (add_assoc f.used first.used later.used))
      where
        later : Lines
        later = read_from words (i + suc m) n (drop (f.used + (read_from words (suc i) m (drop f.used s)).used) s)
    go None stop rest = sym (ap (λ (k : ℕ). both no_lines (read_from words (i + suc m) k s)) (stop (suc-le-suc zero-le)))
