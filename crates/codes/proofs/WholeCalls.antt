-- The calls: the answer to one pattern and to one code, in the forms in which the code comes to them. Assumes nothing.
use mathlib.Core.Bool.{Bool, false, cond}
use mathlib.Core.Path.{◌≡◌, refl, sym, ap, ◌∙◌}
use Prim.Native.Nat.{ℕ}
use lib.Dec.{eqb}
use borrow.Author.Tests.{eq-eqb, ne_eqb}
use Rattle.grid.specs.declared.Format.{Format}
use Rattle.layouts.specs.declared.Layout.{Layout}
use Rattle.layouts.specs.Calls.{format_refusal}
use Rattle.layouts.specs.Layouts.{Laid, ready, laid}
use Rattle.layouts.proofs.Layouts.{laid_number, laid_layout}
use Rattle.layouts.proofs.Refusals.{accepted-has_code}
use Rattle.bylayout.specs.Answers.{no_code, no_pattern}
use Rattle.codes.specs.Calls.{packed, unpacked, pack_one, unpack_one}
use Rattle.bylayout.specs.ByLayout.{packed_by, unpacked_by}
use Rattle.codes.proofs.PackedByLayout.{packed_by-layout}
use Rattle.codes.proofs.UnpackedByLayout.{unpacked_by-layout}

module _ (f : Format) where
  -- where the format is accepted, the answer is the pattern's or the code's
  module _ (l : Layout) (e : ready l ≡ laid f) where
    accepted : format_refusal f ≡ 0
    accepted = sym (laid_number f (ready l) e)

    pub pack_answered : (x : ℕ) → packed_by l x ≡ pack_one f x
    unfolding pack_one
    pack_answered x =
        ap (λ (k : Layout). packed_by k x) (laid_layout f (ready l) e refl)
        ∙ packed_by-layout f (accepted-has_code f accepted) x
        ∙ sym (ap (λ (b : Bool). cond b (packed f x) (no_code (format_refusal f))) (eq-eqb (format_refusal f) 0 accepted))

    pub unpack_answered : (c : ℕ) → unpacked_by l c ≡ unpack_one f c
    unfolding unpack_one
    unpack_answered c =
        ap (λ (k : Layout). unpacked_by k c) (laid_layout f (ready l) e refl)
        ∙ unpacked_by-layout f (accepted-has_code f accepted) c
        ∙ sym (ap (λ (b : Bool). cond b (unpacked f c) (no_pattern (format_refusal f))) (eq-eqb (format_refusal f) 0 accepted))

  -- where it is not, the answer has the refusal's number:
  module _ (l : Laid) (e : l ≡ laid f) (some : l.number ≡ 0 → ⊥) where
    not_accepted : eqb (format_refusal f) 0 ≡ false
    not_accepted = ne_eqb (format_refusal f) 0 (λ (none : format_refusal f ≡ 0). some (laid_number f l e ∙ none))

    -- a pattern's answer is the refusal's number and no code,
    pub pack_refused_lem : (x : ℕ) → no_code l.number ≡ pack_one f x
    unfolding pack_one
    pack_refused_lem x =
        ap no_code (laid_number f l e) ∙ sym (ap (λ (b : Bool). cond b (packed f x) (no_code (format_refusal f))) not_accepted)

    -- and a code's is the refusal's number and no pattern
    pub unpack_refused : (c : ℕ) → no_pattern l.number ≡ unpack_one f c
    unfolding unpack_one
    unpack_refused c =
        ap no_pattern (laid_number f l e) ∙ sym (ap (λ (b : Bool). cond b (unpacked f c) (no_pattern (format_refusal f))) not_accepted)
