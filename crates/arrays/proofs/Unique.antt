-- Every promise of this crate leaves one outcome: two results that it allows for the same arguments are equal, and so are two
-- outputs. Each is an equation with the definition that the contract names, so two of them meet there. The arrays that are only
-- read cannot change. Assumes nothing.
use mathlib.Core.List.{List}
use mathlib.Core.Path.{sym, ap₂, ◌∙◌}
use Prim.Native.Nat.{ℕ}
use denote.RattleType.{RattleType}
use denote.Param.Laws.{Laws, IsCopy}
use mir.Syntax.{Dict}
use Rattle.std.specs.declared.clone.Clone as Clone
use Rattle.words.specs.declared.Entry as Entry
use Rattle.laws.specs.Promises.{OneAnswer, OneOutcome}
use Rattle.rounding.proofs.Preparations.{preparations_apart}
use Rattle.reports.proofs.Apart.{reports_apart}
use Rattle.arrays.proofs.decisions.uses_word.Reads as uses_word
use Rattle.arrays.proofs.decisions.decide.Reads as decide
use Rattle.arrays.proofs.calls.round_array.Reads as round_array

pub uses_word_unique : OneAnswer uses_word.Post
uses_word_unique κs a y z s t p q = p ∙ sym q

pub decide_unique : OneAnswer decide.Post
decide_unique κs a y z s t p q = preparations_apart y z (p ∙ sym q)

-- whatever the arrays are made of, the words in `out`, the last of the six parameters, as `round_array` returns, and what stands
-- behind them
module _ (T : RattleType) (laws : Laws T) (copies : IsCopy T) (entry : Entry.Ghosts T.Denot) (methods : Dict) (clone : Clone.Ghosts T.Denot)
    (clones : Dict) where
  -- what an array holds
  abbrev held : List T.Denot → List ℕ × List T.Denot
  held entries = (entry.words entries, entry.rest entries)

  pub round_array_unique : OneOutcome (round_array.Post T laws copies entry methods clone clones) (λ κs lent. held lent.1.1.1.1.1.0.now)
  round_array_unique κs a y z s t p q = (
    reports_apart y z (p.0 ∙ sym q.0),
    ap₂ (λ (ws : List ℕ) (left : List T.Denot). (ws, left)) (p.1.0 ∙ sym q.1.0) (p.1.1.0 ∙ sym q.1.1.0),
  )
