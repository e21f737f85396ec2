-- The numbers by which a format's patterns are packed and its codes unpacked, worked out once. Assumes nothing.
use Rattle.std.specs.Prelude.{false, cond, ℕ, ◌+◌, ◌-◌, ◌*◌, ◌^◌, eqb}
use Rattle.patterns.specs.Patterns.{pat}
use Rattle.grid.specs.declared.Format.{Format}
use Rattle.grid.specs.Formats.{zeta_exp, smallest_normal, T}
use Rattle.layouts.specs.declared.Layout.{Layout}
use Rattle.layouts.specs.Fields.{width, ones}
use Rattle.layouts.specs.Calls.{format_refusal}

-- the layout of a format that has a code
unfoldable pub layout : Format → Layout
layout f =
    record {
      sub = f.sub;
      spare = 64 - width f;
      last = 2 ^ width f - 1;
      cut = 53 - f.p;
      bottom = zeta_exp f;
      normal = pat (smallest_normal f);
      top = pat (T f);
      first = 2 ^ (f.p - 1);
      infinity = ones f * 2 ^ (f.p - 1);
      nan = ones f * 2 ^ (f.p - 1) + 2 ^ (f.p - 2);
    }

-- what a format comes to by number: number 0 and its layout, or the number of the refusal and zeros
pub record Laid : Type 0 where
  pub number : ℕ
  pub layout : Layout

-- what stands in where the format is refused: zeros
abbrev pub no_layout : Layout
no_layout = record { sub = false; spare = 0; last = 0; cut = 0; bottom = 0; normal = 0; top = 0; first = 0; infinity = 0; nan = 0 }

-- an accepted format's answer, and a refused one's
abbrev pub ready : Layout → Laid
ready l = record { number = 0; layout = l }

abbrev pub refused : ℕ → Laid
refused number = record { number = number; layout = no_layout }

-- number 0 and the format's layout, or the refusal's number and zeros
unfoldable pub laid : Format → Laid
laid f = cond (eqb (format_refusal f) 0) (ready (layout f)) (refused (format_refusal f))
