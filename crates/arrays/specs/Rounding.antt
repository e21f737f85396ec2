-- A whole array rounded: what is refused, what is reported, and what the output holds afterwards (document 01, "Arrays" and
-- "Refusal numbers"). Assumes nothing.
use Rattle.std.specs.Prelude.{cond, not, ◌&&◌, List, ℕ, ltb, eqb, length, get_or}
use Rattle.laws.specs.Lists.{tab}
use Rattle.grid.specs.declared.Format.{Format}
use Rattle.magnitudes.specs.declared.Mode.{Mode}
use Rattle.magnitudes.specs.Modes.{mode_of, uses_word}
use Rattle.rounding.specs.Rounded.{rounded}
use Rattle.rounding.specs.Calls.{refusal}
use Rattle.reports.specs.declared.Report.{Report}
use Rattle.reports.specs.Reports.{report}

-- What the lengths refuse, by how many words, inputs and outputs there are: 5 where the output is not as long as the input, 6
-- where a mode that uses words, 7 or 8, has fewer of them than inputs; and 0 where nothing.
unfoldable pub lengths_refusal : Mode → ℕ → ℕ → ℕ → ℕ
lengths_refusal mode words inputs outputs =
    cond (not (eqb outputs inputs)) 5
    (cond (uses_word mode && ltb words inputs) 6 0)

-- the first refusal that applies: what a single call refuses comes first, then the lengths
unfoldable pub array_refusal : Format → ℕ → ℕ → ℕ → ℕ → ℕ → ℕ
array_refusal f mode r words inputs outputs =
    cond (not (eqb (refusal f mode r) 0)) (refusal f mode r) (lengths_refusal (mode_of mode r) words inputs outputs)

-- the same for a call, by its arrays
abbrev pub refusal_of : Format → ℕ → ℕ → List ℕ → List ℕ → List ℕ → ℕ
refusal_of f mode r words xs out = array_refusal f mode r (length words) (length xs) (length out)

-- what is reported: none of these refusals has a place of its own
unfoldable pub reported : Format → ℕ → ℕ → List ℕ → List ℕ → List ℕ → Report
reported f mode r words xs out = report (refusal_of f mode r words xs out)

-- The answer at place i: its own pattern rounded with its own word. A mode that uses no words may have fewer of them than places:
-- the 0 that stands for a missing one is as good as any other word then (`words_unread`).
unfoldable pub rounded_at : Format → Mode → List ℕ → List ℕ → ℕ → ℕ
rounded_at f mode words xs i = rounded f mode (get_or words i 0) (get_or xs i 0)

-- the output afterwards: every place's answer, or, where the call is refused, what it held before
unfoldable pub afterwards : Format → ℕ → ℕ → List ℕ → List ℕ → List ℕ → List ℕ
afterwards f mode r words xs out =
    cond (eqb (refusal_of f mode r words xs out) 0) (tab (length xs) (rounded_at f (mode_of mode r) words xs)) out
