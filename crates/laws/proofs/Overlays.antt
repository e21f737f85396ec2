-- One list laid over the start of another, `over a l`: what stands in it, how it is written entry after entry, upwards or downwards,
-- and in two pieces. Assumes nothing.
use mathlib.Core.Bool.{Bool, true, false, cond}
use mathlib.Core.List.{List, [], ◌∷◌, ◌++◌, append_assoc, append-nil}
use mathlib.Core.Path.{◌≡◌, refl, sym, ap, ap₂, ◌∙◌}
use Prim.Native.Nat.{ℕ, suc, ◌+◌, ◌-◌, ◌≤◌, ◌<◌}
use native.Mathlib.Nat.{le_of_lt}
use native.Mathlib.Omega.{arith}
use lib.Dec.{leb}
use lib.ListN.{length, get_or, set, take, drop, length-append, length-drop, drop_of_length-le, get_or-append}
use lib.Seq.{length-take-le, take_all, take-suc, drop-cons, append_snoc, set_at, take-append_seam, drop-append_seam, drop-drop}
use borrow.Author.Tests.{leb-true, le-leb, lt-leb}
use Rattle.laws.specs.Lists.{over}

-- one that is no longer stands at the start,
pub over-fits : (a l : List ℕ) → length a ≤ length l → over a l ≡ a ++ drop (length a) l
unfolding over
over-fits a l fits = ap (λ (b : Bool). cond b (a ++ drop (length a) l) l) (le-leb (length a) (length l) fits)

-- and a longer one changes nothing
pub over_long : (a l : List ℕ) → length l < length a → over a l ≡ l
unfolding over
over_long a l long = ap (λ (b : Bool). cond b (a ++ drop (length a) l) l) (lt-leb (length a) (length l) long)

-- the length stays
pub length_over : (a l : List ℕ) → length (over a l) ≡ length l
unfolding over
length_over a l = go (leb (length a) (length l)) refl
  where
    go : (b : Bool) → leb (length a) (length l) ≡ b → length (cond b (a ++ drop (length a) l) l) ≡ length l
    go true e =
        let fits : length a ≤ length l = leb-true (length a) (length l) e in
        simp (length-append, length-drop) (omega arith)
    go false e = refl

module _ (a l : List ℕ) (fits : length a ≤ length l) where
  -- what was laid over is at the start,
  pub take-over : take (length a) (over a l) ≡ a
  take-over = ap (λ (m : List ℕ). take (length a) m) (over-fits a l fits) ∙ take-append_seam a (drop (length a) l)

  -- behind it is what was there,
  pub drop-over : drop (length a) (over a l) ≡ drop (length a) l
  drop-over = ap (λ (m : List ℕ). drop (length a) m) (over-fits a l fits) ∙ drop-append_seam a (drop (length a) l)

  -- and each of its entries stands at its own place
  pub get_or-over : (i : ℕ) → i < length a → get_or (over a l) i 0 ≡ get_or a i 0
  get_or-over i within = ap (λ (m : List ℕ). get_or m i 0) (over-fits a l fits) ∙ get_or-append a (drop (length a) l) 0 i within

-- ---- written entry after entry

-- downwards a list comes in another's place: one entry more, of which the last ones are there
pub one_more_down : (new old : List ℕ) (i : ℕ) → length new ≡ length old → i < length old
    → set (take (suc i) old ++ drop (suc i) new) i (get_or new i 0) ≡ take i old ++ drop i new
one_more_down new old i long within =
    ap (λ (r : List ℕ). set r i (get_or new i 0))
    (ap (λ (r : List ℕ). r ++ drop (suc i) new) (take-suc old i 0 within) ∙ append_snoc (take i old) (get_or old i 0) (drop (suc i) new))
    ∙ set_at (take i old) (get_or old i 0) (drop (suc i) new) (get_or new i 0) i (length-take-le i old (omega arith))
    ∙ ap (λ (r : List ℕ). take i old ++ r) (sym (drop-cons new i 0 (omega arith)))

-- ---- in two pieces

-- the second laid over what the first leaves
over_two : (a b l : List ℕ) → length a + length b ≤ length l → a ++ over b (drop (length a) l) ≡ over (a ++ b) l
over_two a b l fits =
    let room : length b ≤ length (drop (length a) l) = simp length-drop (omega arith) in
    let whole : length (a ++ b) ≤ length l = simp length-append (omega arith) in
    ap (λ (r : List ℕ). a ++ r)
    (over-fits b (drop (length a) l) room ∙ ap (λ (r : List ℕ). b ++ r) (drop-drop (length b) (length a) l))
    ∙ sym (append_assoc a b (drop (length a + length b) l))
    ∙ ap (λ (n : ℕ). (a ++ b) ++ drop n l) (sym (length-append a b))
    ∙ sym (over-fits (a ++ b) l whole)

-- the second laid over the part of the list from p on, behind the first, as a part that is lent is put back
pub over_part : (a b l mid part : List ℕ) (p : ℕ) → length a ≡ p → p + length b ≤ length l → mid ≡ over a l
    → part ≡ over b (take (length mid - p) (drop p mid))
    → take p mid ++ (part ++ drop (length mid - p) (drop p mid)) ≡ over (a ++ b) l
over_part a b l mid part p is room first second =
    let fits : length a ≤ length l = omega arith in
    let rest : length (drop p mid) ≤ length mid - p = simp length-drop (omega arith) in
    let front : take p mid ≡ a = ap₂ {C = List ℕ} take (sym is) first ∙ take-over a l fits in
    let behind : drop p mid ≡ drop (length a) l = ap₂ {C = List ℕ} drop (sym is) first ∙ drop-over a l fits in
    ap (λ (r : List ℕ). take p mid ++ (part ++ r)) (drop_of_length-le (drop p mid) rest)
    ∙ ap (λ (r : List ℕ). take p mid ++ r) (append-nil part ∙ second)
    ∙ ap (λ (r : List ℕ). take p mid ++ over b r) (take_all (length mid - p) (drop p mid) rest ∙ behind)
    ∙ ap (λ (r : List ℕ). r ++ over b (drop (length a) l)) front
    ∙ over_two a b l (omega arith)

-- one entry behind what was laid over
pub over-one_more : (a l : List ℕ) (x : ℕ) → length a < length l → set (over a l) (length a) x ≡ over (a ++ (x ∷ [])) l
over-one_more a l x room =
    let fits : length a ≤ length l = le_of_lt room in
    let whole : length (a ++ (x ∷ [])) ≤ length l = simp length-append (omega arith) in
    let behind : suc (length a) ≡ length (a ++ (x ∷ [])) = simp length-append (omega arith) in
    ap (λ (r : List ℕ). set r (length a) x)
    (over-fits a l fits ∙ ap (λ (r : List ℕ). a ++ r) (drop-cons l (length a) 0 room))
    ∙ set_at a (get_or l (length a) 0) (drop (suc (length a)) l) x (length a) refl
    ∙ sym (append_snoc a x (drop (suc (length a)) l))
    ∙ ap (λ (n : ℕ). (a ++ (x ∷ [])) ++ drop n l) behind
    ∙ sym (over-fits (a ++ (x ∷ [])) l whole)
