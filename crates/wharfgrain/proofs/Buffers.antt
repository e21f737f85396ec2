-- The program's two buffers are long enough: the one for the answer has room for each, and the one for the text for more than a
-- job's. Assumes nothing.
use mathlib.Core.List.{List}
use mathlib.Core.Path.{◌≡◌, sym, ap, ◌∙◌}
use Prim.Native.Nat.{ℕ, ◌≤◌}
use native.Mathlib.Omega.{arith}
use lib.ListN.{length, take, replicate, length-replicate}
use lib.Seq.{length-take-le}
use Rattle.laws.specs.Lists.{over}
use Rattle.laws.proofs.Overlays.{length_over}
use Rattle.jobtext.specs.Runs.{answer_to}
use Rattle.jobtext.specs.Facts.{longest_answer}
use Rattle.jobtext.proofs.Facts.{answers_are_short, long_texts_answer_alike}

module _ (text after : List ℕ) (size : ℕ) (long : size ≡ length (answer_to text)) (written : after ≡ over (answer_to text) (replicate longest_answer 0)) where
  -- the answer ends in it,
  pub answer_within : size ≤ length after
  answer_within =
      omega (
        arith,
        answers_are_short text,
        ap (λ (l : List ℕ). length l) written ∙ length_over (answer_to text) (replicate longest_answer 0) ∙ length-replicate {A = ℕ} longest_answer 0,
      )

  -- so that its part up to there has that length
  pub answer_part : size ≡ length (take size after)
  answer_part = sym (length-take-le size after answer_within)

-- and what the program reads of a text decides its answer, since no job's text is that long
pub input_suffices : (text : List ℕ) → answer_to (take 65536 text) ≡ answer_to text
input_suffices text = long_texts_answer_alike text 65536 (omega arith)
