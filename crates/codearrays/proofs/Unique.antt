-- The promise of what is decided leaves one number; those of packing and unpacking an array leave one outcome: one result, and in
-- `out` one list of words and one rest behind them. Assumes nothing.
use mathlib.Core.List.{List}
use mathlib.Core.Path.{sym, ap₂, ◌∙◌}
use Prim.Native.Nat.{ℕ}
use denote.RattleType.{RattleType}
use denote.Param.Laws.{Laws, IsCopy}
use mir.Syntax.{Dict}
use Rattle.std.specs.declared.clone.Clone as Clone
use Rattle.words.specs.declared.Entry as Entry
use Rattle.laws.specs.Promises.{OneAnswer, OneOutcome}
use Rattle.reports.proofs.Apart.{reports_apart}
use Rattle.codearrays.proofs.decisions.codes_refusal.Reads as codes_refusal
use Rattle.codearrays.proofs.calls.pack_array.Reads as pack_array
use Rattle.codearrays.proofs.calls.unpack_array.Reads as unpack_array

pub codes_refusal_unique : OneAnswer codes_refusal.Post
codes_refusal_unique κs a y z s t p q = p ∙ sym q

-- whatever the arrays are made of, the words in `out`, the last of the three parameters, as the call returns, and what stands
-- behind them
module _ (T : RattleType) (laws : Laws T) (copies : IsCopy T) (entry : Entry.Ghosts T.Denot) (methods : Dict) (clone : Clone.Ghosts T.Denot)
    (clones : Dict) where
  -- what an array holds
  abbrev held : List T.Denot → List ℕ × List T.Denot
  held entries = (entry.words entries, entry.rest entries)

  pub pack_array_unique : OneOutcome (pack_array.Post T laws copies entry methods clone clones) (λ κs lent. held lent.1.1.0.now)
  pack_array_unique κs a y z s t p q = (
    reports_apart y z (p.0 ∙ sym q.0),
    ap₂ (λ (ws : List ℕ) (left : List T.Denot). (ws, left)) (p.1.0 ∙ sym q.1.0) (p.1.1.0 ∙ sym q.1.1.0),
  )

  pub unpack_array_unique : OneOutcome (unpack_array.Post T laws copies entry methods clone clones) (λ κs lent. held lent.1.1.0.now)
  unpack_array_unique κs a y z s t p q = (
    reports_apart y z (p.0 ∙ sym q.0),
    ap₂ (λ (ws : List ℕ) (left : List T.Denot). (ws, left)) (p.1.0 ∙ sym q.1.0) (p.1.1.0 ∙ sym q.1.1.0),
  )
