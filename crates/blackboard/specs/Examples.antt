-- The starred examples of document 01, "Blackboard examples", as one table. What each says is a test, `holds`; that all of
-- them hold is the fact `starred_hold`. Modes go by their numbers, patterns are binary64's, and codes are the format's own.
-- Assumes nothing.
use Rattle.std.specs.Prelude.{ℕ, ◌-◌, Bool, false, ◌&&◌, List, [], ◌∷◌, ◌==◌}
use Rattle.patterns.specs.Patterns.{mag, val}
use Rattle.grid.specs.declared.Format.{Format}
use Rattle.grid.specs.Formats.{step}
use Rattle.grid.specs.Neighbours.{lo}
use Rattle.known.specs.Table.{with_subnormals}
use Rattle.magnitudes.specs.Modes.{K}
use Rattle.rounding.specs.Calls.{Answer, round_one}
use Rattle.bylayout.specs.Answers.{Packed, Unpacked}
use Rattle.codes.specs.Calls.{pack_one, unpack_one}

abbrev pub binary16 : Format
binary16 = with_subnormals 11 15

abbrev pub binary16_without_subnormals : Format
binary16_without_subnormals = record { p = 11; emax = 15; sub = false }

-- what an example says: a rounding is accepted and answers this pattern; K has this value at an input; a pattern has this code,
-- there and back; or its packing is refused by this number
pub data Example : Type 0 where
  rounds : (f : Format) (mode r word x pattern : ℕ) → Example
  has_k : (f : Format) (r x k : ℕ) → Example
  coded : (f : Format) (x code : ℕ) → Example
  pack_refused : (f : Format) (x number : ℕ) → Example

-- the answer has this number and this pattern
unfoldable pub answers : Answer → ℕ → ℕ → Bool
answers a number pattern = a.number == number && a.pattern == pattern

-- the same of packing, with a code,
unfoldable pub packs : Packed → ℕ → ℕ → Bool
packs a number code = a.number == number && a.code == code

-- and of unpacking
unfoldable pub unpacks : Unpacked → ℕ → ℕ → Bool
unpacks a number pattern = a.number == number && a.pattern == pattern

-- K at a magnitude: the rest is a - lo, and G is the step
unfoldable pub shares_at : Format → ℕ → ℕ → ℕ
shares_at f r a = K r (a - lo f a) (step f a)

-- whether the example is true
unfoldable pub holds : Example → Bool
holds (rounds f mode r word x pattern) = answers (round_one f mode r word x) 0 pattern
holds (has_k f r x k) = shares_at f r (val (mag x)) == k
holds (coded f x code) = packs (pack_one f x) 0 code && unpacks (unpack_one f code) 0 x
holds (pack_refused f x number) = packs (pack_one f x) number 0

-- an example in binary16 and a mode that looks at neither r nor a word
abbrev in_mode : ℕ → ℕ → ℕ → Example
in_mode mode x pattern = rounds binary16 mode 0 0 x pattern

-- the same without subnormals
abbrev without_subnormals_in_mode : ℕ → ℕ → ℕ → Example
without_subnormals_in_mode mode x pattern = rounds binary16_without_subnormals mode 0 0 x pattern

-- an example in binary16 and mode 7, with r random bits
abbrev stochastic : ℕ → ℕ → ℕ → ℕ → Example
stochastic r word x pattern = rounds binary16 7 r word x pattern

-- the starred examples, in document 01's order
abbrev pub starred : List Example
starred =
    -- half a step above 1: a tie between an even and an odd m
    in_mode 0 0x3FF0_0200_0000_0000 0x3FF0_0000_0000_0000
    ∷ in_mode 1 0x3FF0_0200_0000_0000 0x3FF0_0000_0000_0000
    ∷ in_mode 2 0x3FF0_0200_0000_0000 0x3FF0_0400_0000_0000
    ∷ in_mode 4 0x3FF0_0200_0000_0000 0x3FF0_0400_0000_0000
    ∷ in_mode 6 0x3FF0_0200_0000_0000 0x3FF0_0400_0000_0000
    -- one and a half steps above 1: a tie between an odd and an even m
    ∷ in_mode 0 0x3FF0_0600_0000_0000 0x3FF0_0800_0000_0000
    -- 65520, the tie between xmax and T, which counts as even
    ∷ in_mode 0 0x40EF_FE00_0000_0000 0x7FF0_0000_0000_0000
    ∷ in_mode 1 0x40EF_FE00_0000_0000 0x40EF_FC00_0000_0000
    -- just below that tie
    ∷ in_mode 0 0x40EF_FDFF_FFFF_FFFF 0x40EF_FC00_0000_0000
    -- half of zeta, and just above it
    ∷ in_mode 0 0x3E60_0000_0000_0000 0x0000_0000_0000_0000
    ∷ in_mode 2 0x3E60_0000_0000_0000 0x3E70_0000_0000_0000
    ∷ in_mode 0 0x3E60_0000_0000_0001 0x3E70_0000_0000_0000
    -- one and a half times zeta: the step below the normal range is zeta
    ∷ in_mode 0 0x3E78_0000_0000_0000 0x3E80_0000_0000_0000
    -- half of zeta without subnormals
    ∷ without_subnormals_in_mode 0 0x3F00_0000_0000_0000 0x0000_0000_0000_0000
    ∷ without_subnormals_in_mode 2 0x3F00_0000_0000_0000 0x3F10_0000_0000_0000
    -- three quarters of a step above 1, by two random bits: one of the four words stays
    ∷ has_k binary16 2 0x3FF0_0300_0000_0000 3
    ∷ stochastic 2 0 0x3FF0_0300_0000_0000 0x3FF0_0000_0000_0000
    ∷ stochastic 2 1 0x3FF0_0300_0000_0000 0x3FF0_0400_0000_0000
    ∷ stochastic 2 2 0x3FF0_0300_0000_0000 0x3FF0_0400_0000_0000
    ∷ stochastic 2 3 0x3FF0_0300_0000_0000 0x3FF0_0400_0000_0000
    -- and by one
    ∷ has_k binary16 1 0x3FF0_0300_0000_0000 1
    -- the codes of 1, 65504, infinity, 2^-24 and minus zero
    ∷ coded binary16 0x3FF0_0000_0000_0000 0x3C00
    ∷ coded binary16 0x40EF_FC00_0000_0000 0x7BFF
    ∷ coded binary16 0x7FF0_0000_0000_0000 0x7C00
    ∷ coded binary16 0x3E70_0000_0000_0000 0x0001
    ∷ coded binary16 0x8000_0000_0000_0000 0x8000
    -- one and a half times zeta has none
    ∷ pack_refused binary16 0x3E78_0000_0000_0000 8
    ∷ []
