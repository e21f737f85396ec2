-- What the facts about array calls are stated with. Assumes nothing.
use Rattle.std.specs.Prelude.{List, ◌≡◌, ℕ, length, get_or}

-- two arrays of one length that differ at place k at most
pub record SameBut (k : ℕ) (l m : List ℕ) : Type 0 where
  pub long : length l ≡ length m
  pub elsewhere : (i : ℕ) → (i ≡ k → ⊥) → get_or l i 0 ≡ get_or m i 0
