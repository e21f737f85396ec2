-- A list on its way: what stands in it while a loop fills it, place after place, with what a rule says. Assumes nothing.
use Rattle.std.specs.Prelude.{List, ◌≡◌, ℕ, ◌<◌, get_or}

-- the places below i hold what the rule says; nothing is said of the others
pub record FilledTo (g : ℕ → ℕ) (i : ℕ) (l : List ℕ) : Type 0 where
  pub holds : (k : ℕ) → k < i → get_or l k 0 ≡ g k
