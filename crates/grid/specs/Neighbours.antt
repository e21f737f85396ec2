-- lo and hi, the two candidates that a rounding chooses from (document 01, "Rounding one pattern"): what they are, as
-- properties, and how they are computed. The laws `lo_is_lo` and `hi_is_hi` say that below T the computed ones have the
-- properties; from T on they mean nothing, and only the overflow column counts. And the test `held`, whether a magnitude is a number
-- of the format. Units of 2^-1074. Assumes nothing.
use Rattle.std.specs.Prelude.{Bool, ◌&&◌, ℕ, ◌+◌, ◌*◌, ◌/◌, ◌≤◌, ◌<◌, ltb, eqb}
use Rattle.grid.specs.declared.Format.{Format}
use Rattle.grid.specs.Formats.{step, T}
use Rattle.grid.specs.Candidates.{Candidate}

-- lo is a candidate not above a, and no candidate not above a is larger
pub record Lo (f : Format) (a lo : ℕ) : Type 0 where
  pub among : Candidate f lo
  pub not_above : lo ≤ a
  pub largest : (c : ℕ) → Candidate f c → c ≤ a → c ≤ lo

-- hi is a candidate above lo, and no candidate above lo is smaller
pub record Hi (f : Format) (lo hi : ℕ) : Type 0 where
  pub among : Candidate f hi
  pub above : lo < hi
  pub next : (c : ℕ) → Candidate f c → lo < c → hi ≤ c

-- lo, computed: the digits below the step are cleared, so that whole steps are left
unfoldable pub lo : Format → ℕ → ℕ
lo f a = a / step f a * step f a

-- hi, computed: one step further
unfoldable pub hi : Format → ℕ → ℕ
hi f a = lo f a + step f a

-- Whether a magnitude is 0 or a number of the format: below T, and its own lo. The laws `held_candidate` and `candidate_held` say
-- that this is so of the candidates below T and of no other magnitude.
unfoldable pub held : Format → ℕ → Bool
held f a = ltb a (T f) && eqb (lo f a) a
