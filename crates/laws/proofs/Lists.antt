-- The list that a rule makes, `tab n g`: how long it is, what stands at a place, and how two rules and two lengths compare.
-- Assumes nothing.
use mathlib.Core.List.{List, [], ◌∷◌, map}
use mathlib.Core.Path.{◌≡◌, refl, sym, ap, ap₂, ◌∙◌, subst}
use Prim.Native.Nat.{ℕ, zero, suc, ◌+◌, ◌-◌, ◌<◌, min, zero-le, suc-le-suc}
use native.Mathlib.Nat.{le_of_suc-le-suc, not-suc-le-zero}
use native.Mathlib.Omega.{arith}
use lib.ListN.{length, get_or, take, length-take, length-drop}
use lib.Seq.{slice, get_or-take, get_or-drop, ext_get_or}
use Rattle.laws.specs.Lists.{tab}

-- it has as many entries as it was asked for
pub length-tab : {A : Type 0} (n : ℕ) (g : ℕ → A) → length (tab n g) ≡ n
length-tab zero g = refl
length-tab (suc n) g = ap suc (length-tab n (λ (i : ℕ). g (suc i)))

-- entry i is what the rule says of i
pub get_or-tab : {A : Type 0} (n : ℕ) (g : ℕ → A) (i : ℕ) (d : A) → i < n → get_or (tab n g) i d ≡ g i
get_or-tab zero g i d h = absurd (not-suc-le-zero h)
get_or-tab (suc n) g zero d h = refl
get_or-tab (suc n) g (suc i) d h = get_or-tab n (λ (j : ℕ). g (suc j)) i d (le_of_suc-le-suc h)

-- two rules that agree below n make the same list
pub tab_alike : {A : Type 0} (n : ℕ) (g h : ℕ → A) → ((i : ℕ) → i < n → g i ≡ h i) → tab n g ≡ tab n h
tab_alike zero g h same = refl
tab_alike {A} (suc n) g h same =
    ap₂ {C = List A} (λ x xs. x ∷ xs) (same 0 (suc-le-suc zero-le))
    (tab_alike n (λ (i : ℕ). g (suc i)) (λ (i : ℕ). h (suc i)) (λ i below. same (suc i) (suc-le-suc below)))

-- a function over the list is a function behind the rule
pub map-tab : {A B : Type 0} (n : ℕ) (g : ℕ → A) (h : A → B) → map h (tab n g) ≡ tab n (λ (i : ℕ). h (g i))
map-tab zero g h = refl
map-tab {A} {B} (suc n) g h = ap {B = List B} (λ xs. h (g 0) ∷ xs) (map-tab n (λ (i : ℕ). g (suc i)) h)

-- two rules that agree at i make lists that agree there
pub get_or-tab_alike : {A : Type 0} (n : ℕ) (g h : ℕ → A) (i : ℕ) (d : A) → g i ≡ h i → get_or (tab n g) i d ≡ get_or (tab n h) i d
get_or-tab_alike zero g h i d same = refl
get_or-tab_alike (suc n) g h zero d same = same
get_or-tab_alike (suc n) g h (suc i) d same = get_or-tab_alike n (λ (j : ℕ). g (suc j)) (λ (j : ℕ). h (suc j)) i d same

-- a rule that reads a list's entries makes what is made of them
pub tab-get_or : {A B : Type 0} (h : A → B) (l : List A) (d : A) → tab (length l) (λ (i : ℕ). h (get_or l i d)) ≡ map h l
tab-get_or h [] d = refl
tab-get_or {A} {B} h (x ∷ xs) d = ap {B = List B} (λ ys. h x ∷ ys) (tab-get_or h xs d)

-- what is made of each entry stands at the entry's place
pub get_or-map : {A B : Type 0} (h : A → B) (l : List A) (i : ℕ) (d : A) (e : B) → i < length l → get_or (map h l) i e ≡ h (get_or l i d)
get_or-map {A} {B} h l i d e within =
    ap {A = List B} (λ m. get_or m i e) (sym (tab-get_or h l d)) ∙ get_or-tab (length l) (λ (k : ℕ). h (get_or l k d)) i e within

-- two functions that agree on the entries make the same of them
pub map_alike : {A B : Type 0} (g h : A → B) (l : List A) (d : A) → ((i : ℕ) → i < length l → g (get_or l i d) ≡ h (get_or l i d)) → map g l ≡ map h l
map_alike g h l d same =
    sym (tab-get_or g l d) ∙ tab_alike (length l) (λ (i : ℕ). g (get_or l i d)) (λ (i : ℕ). h (get_or l i d)) same ∙ tab-get_or h l d

-- ---- a part of a list, from one place up to another

-- how long it is
pub length_part : {A : Type 0} (from to : ℕ) (l : List A) → length (slice from to l) ≡ min to (length l) - from
length_part from to l = length-drop from (take to l) ∙ ap (λ (n : ℕ). n - from) (length-take to l)

-- what stands in it
pub get_or_part : {A : Type 0} (from to : ℕ) (l : List A) (i : ℕ) (d : A) → from + i < to → get_or (slice from to l) i d ≡ get_or l (from + i) d
get_or_part from to l i d before = get_or-drop from (take to l) i d ∙ get_or-take to l (from + i) d before

-- a part of a list that a rule makes is made by the rule that begins there
pub tab_part : {A : Type 0} (from to n : ℕ) (g : ℕ → A) (d : A) → slice from to (tab n g) ≡ tab (min to n - from) (λ (i : ℕ). g (from + i))
tab_part {A} from to n g d = ext_get_or d (slice from to (tab n g)) (tab (min to n - from) later) (long ∙ sym (length-tab (min to n - from) later)) same
  where
    later : ℕ → A
    later i = g (from + i)

    long : length (slice from to (tab n g)) ≡ min to n - from
    long = length_part from to (tab n g) ∙ ap (λ (m : ℕ). min to m - from) (length-tab n g)

    same : (i : ℕ) → i < length (slice from to (tab n g)) → get_or (slice from to (tab n g)) i d ≡ get_or (tab (min to n - from) later) i d
    same i h =
        let within : i < min to n - from = subst (λ (m : ℕ). i < m) long h in
        get_or_part from to (tab n g) i d (omega arith)
        ∙ get_or-tab n g (from + i) d (omega arith)
        ∙ sym (get_or-tab (min to n - from) later i d within)
