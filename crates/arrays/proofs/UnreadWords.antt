-- To a mode that uses no word any two words are alike, so that the answer is the same. Assumes nothing.
use mathlib.Core.Bool.{false, false≢true}
use mathlib.Core.Path.{◌≡◌, sym, ap, ◌∙◌}
use Prim.Native.Nat.{ℕ}
use Rattle.grid.specs.declared.Format.{Format}
use Rattle.magnitudes.specs.declared.Mode.{Mode}
use Rattle.magnitudes.specs.Modes.{uses_word}
use Rattle.rounding.specs.Rounded.{rounded}
use Rattle.meaning.specs.Facts.{Alike}
use Rattle.meaning.proofs.Words.{answer_reads}

unused_alike : (mode : Mode) (v w : ℕ) → uses_word mode ≡ false → Alike mode v w
unfolding uses_word
unused_alike mode v w unused =
    record {
      random = λ r is. absurd (false≢true (sym unused ∙ ap uses_word is));
      last = λ is. absurd (false≢true (sym unused ∙ ap uses_word is));
    }

pub unused_unread : (f : Format) (mode : Mode) (v w x : ℕ) → uses_word mode ≡ false → rounded f mode v x ≡ rounded f mode w x
unused_unread f mode v w x unused = answer_reads f mode v w x (unused_alike mode v w unused)
