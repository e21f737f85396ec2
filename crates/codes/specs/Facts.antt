-- What holds of packing and unpacking together (document 01, "Codes"), as whole statements over every format. A call's answer
-- with number 0 says that the format has a code. Assumes nothing.
use Rattle.std.specs.Prelude.{◌≡◌, ℕ, ◌^◌, ◌≤◌, ◌<◌}
use Rattle.patterns.specs.declared.Kind.TheVariants.{NaN}
use Rattle.patterns.specs.Patterns.{with_sign, infinity, quiet_nan, kind_of, val}
use Rattle.grid.specs.declared.Format.{Format}
use Rattle.layouts.specs.Fields.{width}
use Rattle.layouts.specs.Calls.{format_refusal}
use Rattle.bylayout.specs.Answers.{as_code, no_code, as_pattern}
use Rattle.codes.specs.Calls.{pack_one, unpack_one}

-- every code that unpacks to a number or an infinity packs back to itself
abbrev pub UnpackPack : Type 0
UnpackPack = (f : Format) (c x : ℕ) → unpack_one f c ≡ as_pattern x → (kind_of x ≡ NaN → ⊥) → pack_one f x ≡ as_code c

-- every number or infinity that packs unpacks to itself
abbrev pub PackUnpack : Type 0
PackUnpack = (f : Format) (x c : ℕ) → x < 2 ^ 64 → pack_one f x ≡ as_code c → (kind_of x ≡ NaN → ⊥) → unpack_one f c ≡ as_pattern x

-- a NaN that is packed and unpacked keeps its sign and nothing else
abbrev pub NaNPackUnpack : Type 0
NaNPackUnpack = (f : Format) (x c : ℕ) → pack_one f x ≡ as_code c → kind_of x ≡ NaN → unpack_one f c ≡ as_pattern (with_sign x quiet_nan)

-- the pattern is no NaN, and no code of k bits unpacks to it
pub record NoCode (f : Format) (x : ℕ) : Type 0 where
  pub no_nan : kind_of x ≡ NaN → ⊥
  pub none : (c : ℕ) → c < 2 ^ width f → unpack_one f c ≡ as_pattern x → ⊥

-- packing refuses a pattern as 8 where that is so,
abbrev pub RefusesWithoutCode : Type 0
RefusesWithoutCode = (f : Format) (x : ℕ) → x < 2 ^ 64 → format_refusal f ≡ 0 → NoCode f x → pack_one f x ≡ no_code 8

-- and only there
abbrev pub RefusesOnlyWithoutCode : Type 0
RefusesOnlyWithoutCode = (f : Format) (x : ℕ) → pack_one f x ≡ no_code 8 → NoCode f x

-- two codes that unpack to one pattern, which is no NaN, are the same code
abbrev pub CodesApart : Type 0
CodesApart = (f : Format) (c d x : ℕ) → unpack_one f c ≡ as_pattern x → unpack_one f d ≡ as_pattern x → (kind_of x ≡ NaN → ⊥) → c ≡ d

-- A pattern not above infinity's is a number without a sign, or infinity. Codes of such patterns are in the order of what the
-- patterns are worth (infinity, as 2^1024, is above every number),
abbrev pub CodesInOrder : Type 0
CodesInOrder = (f : Format) (c d x y : ℕ) → unpack_one f c ≡ as_pattern x → unpack_one f d ≡ as_pattern y → x ≤ infinity → y ≤ infinity
    → c < d → val x < val y

-- and back
abbrev pub NumbersInOrder : Type 0
NumbersInOrder = (f : Format) (c d x y : ℕ) → unpack_one f c ≡ as_pattern x → unpack_one f d ≡ as_pattern y → x ≤ infinity → y ≤ infinity
    → val x < val y → c < d
