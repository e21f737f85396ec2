-- Looking up a known format: the table's format up to its end and refusal 11 above it, and the table's rule, that every
-- format in it is in range and keeps subnormals, shown by one test over the whole table. Assumes nothing.
use mathlib.Core.Bool.{Bool, true, false, cond, ◌&&◌}
use mathlib.Core.Path.{◌≡◌, refl, sym, ap, ◌∙◌}
use Prim.Native.Nat.{ℕ, ◌≤◌, ◌<◌}
use lib.ListN.{length, get_or}
use borrow.Author.Tests.{lt-ltb, le-ltb, ltb-true, ltb-false}
use Rattle.std.specs.Prelude.{Option, ok_or, slice_get, ltb}
use Rattle.std.proofs.lemmas.Option.{slice_get-get_or, slice_get_past}
use Rattle.refusals.specs.declared.Refusal.TheVariants.{UnknownFormat}
use Rattle.refusals.specs.Refusals.{in_numbers}
use Rattle.laws.specs.Tables.{every}
use Rattle.laws.proofs.Tables.{every_at}
use Rattle.laws.proofs.Tests.{and_left, and_right}
use Rattle.grid.specs.declared.Format.{Format}
use Rattle.grid.specs.Formats.{between, precision_fits, exponent_fits, in_range, InRange}
use Rattle.grid.proofs.Ranges.{in_range_bounds}
use Rattle.known.specs.Table.{Lookup, formats, none, with_format, found, refused, lookup}

pub lookup-found : (n : ℕ) → n < length formats → found n ≡ lookup n
unfolding lookup
lookup-found n h = sym (ap (λ (b : Bool). cond b (found n) (refused 11)) (lt-ltb n (length formats) h))

pub lookup-refused : (n : ℕ) → length formats ≤ n → refused 11 ≡ lookup n
unfolding lookup
lookup-refused n h = sym (ap (λ (b : Bool). cond b (found n) (refused 11)) (le-ltb n (length formats) h))

-- what stands at a place of the table, or the refusal where nothing does, is what a lookup answers
pub looked_up : (n : ℕ) → in_numbers with_format refused (ok_or (slice_get formats n) UnknownFormat) ≡ lookup n
looked_up n = go (ltb n (length formats)) refl
  where
    answer : Option Format → Lookup
    answer o = in_numbers with_format refused (ok_or o UnknownFormat)

    go : (b : Bool) → ltb n (length formats) ≡ b → answer (slice_get formats n) ≡ lookup n
    go true e = ap answer (slice_get-get_or formats n none (ltb-true n (length formats) e)) ∙ lookup-found n (ltb-true n (length formats) e)
    go false e = ap answer (slice_get_past formats n (ltb-false n (length formats) e)) ∙ lookup-refused n (ltb-false n (length formats) e)

-- the table's rule, tested at every entry
abbrev fitting : Format → Bool
fitting f = in_range f && f.sub

pub table_fits : every fitting formats ≡ true
unfolding in_range precision_fits exponent_fits between
table_fits = refl

module _ (n : ℕ) (h : n < length formats) where
  fits : fitting (get_or formats n none) ≡ true
  fits = every_at fitting formats none table_fits n h

  -- so every format that is found is in range
  pub known_in_range : InRange (lookup n).format
  known_in_range =
      let f = get_or formats n none in
      in_range_bounds (lookup n).format (ap (λ (l : Lookup). in_range l.format) (sym (lookup-found n h)) ∙ and_left (in_range f) f.sub fits)

  -- and keeps subnormals
  pub known_keeps_subnormals : (lookup n).format.sub ≡ true
  known_keeps_subnormals =
      let f = get_or formats n none in
      ap (λ (l : Lookup). l.format.sub) (sym (lookup-found n h)) ∙ and_right (in_range f) f.sub fits
