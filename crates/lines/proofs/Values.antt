-- What is found, in the forms in which the code comes to it: a value, and the line behind its key. Assumes nothing.
use mathlib.Core.Bool.{Bool, true, false, not, cond, ◌&&◌}
use mathlib.Core.List.{List}
use mathlib.Core.Path.{◌≡◌, sym, ap, ap₂, ◌∙◌}
use Prim.Native.Nat.{ℕ, ◌+◌, ◌^◌, ◌≤◌, ◌<◌}
use native.Mathlib.Omega.{arith}
use denote.Ref.{Bor}
use lib.Dec.{eqb}
use lib.ListN.{length, get_or, take, get_or-eq_default}
use mir.Val.{Fits}
use mir.Syntax.{w64}
use borrow.Author.Tests.{eq-eqb, ne_eqb, not-true, not-false}
use Rattle.std.specs.Prelude.{Option, Some, None}
use Rattle.lines.specs.declared.digits.Digits.{Digits}
use Rattle.lines.specs.declared.Form.{Form}
use Rattle.lines.specs.declared.Found.{Found}
use Rattle.lines.specs.Lines.{line_feed, base, width, fits}
use Rattle.lines.specs.Reading.{run, value, longest, digits_read, value_read, found, read_value, behind, read_line}
use Rattle.lines.proofs.Keys.{IsStripped, not_begun, begun, rest_is, rest_long}
use Rattle.lines.proofs.RoundTrips.{read_value_within}

-- ---- the value that a text begins with

module _ (form : Form) (s : List ℕ) (b l : ℕ) (based : b ≡ base form) (limited : l ≡ longest form)
    (d : Digits) (counted : d.count ≡ run b l s) (valued : d.value ≡ value b 0 (take d.count s)) where
  -- the digits that were read are those that the text begins with,
  count_is : digits_read form s ≡ d.count
  unfolding digits_read
  count_is = sym (counted ∙ ap₂ (λ (x y : ℕ). run x y s) based limited)

  -- and so is what they are worth
  value_is : value_read form s ≡ d.value
  unfolding value_read
  value_is = sym (valued ∙ ap₂ (λ (x y : ℕ). value x 0 (take y s)) based (sym count_is))

  -- so what is found goes by them:
  found_by : read_value form s
      ≡ cond (eqb d.count (width form d.value) && (fits form d.value && eqb (get_or s d.count 0) line_feed)) (Some (found d.value (d.count + 1))) None
  unfolding read_value
  found_by = simp (count_is, value_is)

  module _ (w : ℕ) (wide : w ≡ width form d.value) where
    -- nothing where there are more or fewer than the value is written with,
    pub other_width : (d.count ≡ w → ⊥) → None ≡ read_value form s
    other_width other = sym (found_by ∙ simp (ne_eqb d.count (width form d.value) (λ e. other (e ∙ sym wide))))

    module _ (same : d.count ≡ w) (f : Bool) (fitted : f ≡ fits form d.value) where
      -- there are as many as the value is written with
      as_wide : eqb d.count (width form d.value) ≡ true
      as_wide = eq-eqb d.count (width form d.value) (same ∙ wide)

      -- where the value is not of the form,
      pub not_of_form : not f ≡ true → None ≡ read_value form s
      not_of_form refused = sym (found_by ∙ simp (as_wide, ← fitted, not-true f refused))

      module _ (accepted : not f ≡ false) where
        -- it goes by the byte behind it
        found-behind : read_value form s ≡ cond (eqb (get_or s d.count 0) line_feed) (Some (found d.value (d.count + 1))) None
        found-behind = found_by ∙ simp (as_wide, ← fitted, not-false f accepted)

        -- where the text ends behind it,
        pub ends_behind : length s ≤ d.count → None ≡ read_value form s
        ends_behind ended = sym (found-behind ∙ simp (get_or-eq_default s 0 ended))

        module _ (x : ℕ) (next : x ≡ get_or s d.count 0) where
          -- or another byte follows;
          pub other_behind : (x ≡ 10 → ⊥) → None ≡ read_value form s
          other_behind other = sym (found-behind ∙ simp (← next, ne_eqb x 10 other))

          -- and otherwise the value
          pub value_found : x ≡ 10 → Some (found d.value (d.count + 1)) ≡ read_value form s
          value_found ends = sym (found-behind ∙ simp (← next, eq-eqb x 10 ends))

-- ---- the line behind its key

module _ (key : List ℕ) (form : Form) (s : List ℕ) (r : Option (Bor (List ℕ))) (stripped : IsStripped key s r) where
  -- nothing where the text does not begin with the key
  pub no_key : r ≡ None → None ≡ read_line key form s
  unfolding read_line
  no_key missing = simp (not_begun key s r stripped missing)

  module _ (rest : Bor (List ℕ)) (there : r ≡ Some rest) (f : Option Found) (found_rest : f ≡ read_value form rest.now) where
    -- the rest is what is behind the key, so what is found goes by its value:
    found-line : read_line key form s ≡ behind (length key) f
    unfolding read_line
    found-line = simp (begun key s r stripped rest there, found_rest, rest_is key s r stripped rest there)

    -- nothing where it has no value,
    pub no_value : f ≡ None → None ≡ read_line key form s
    unfolding behind
    no_value missing = sym (found-line ∙ ap (behind (length key)) missing)

    module _ (g : Found) (is : f ≡ Some g) where
      -- and otherwise the value, with the key's bytes
      pub line-found : Some (found g.value (length key + g.used)) ≡ read_line key form s
      unfolding behind
      line-found = sym (found-line ∙ ap (behind (length key)) is)

      -- which end within the text, and so are counted in a word
      pub line-fits : length s < 2 ^ 64 → Fits w64 (length key + g.used)
      line-fits small =
          let within : g.used ≤ length rest.now = read_value_within form rest.now g.value g.used (sym found_rest ∙ is) in
          record { fits = omega (arith, rest_long key s r stripped rest there) }
