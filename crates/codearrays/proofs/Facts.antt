-- What holds of every packing and unpacking call: when it is accepted, which place its refusal names, and that every place of an
-- accepted one is a single call's answer. Over any rule first: `pack_reported f` is `codes_reported` with the rule `pack_number f`, and
-- `unpack_reported f` with `unpack_number f`. Assumes nothing.
use mathlib.Core.List.{List, []}
use mathlib.Core.Path.{◌≡◌, refl, sym, ap, ◌∙◌, subst}
use Prim.Native.Nat.{ℕ, ◌<◌}
use native.Mathlib.Nat.{not-suc-le-zero}
use lib.ListN.{length, get_or}
use Rattle.laws.proofs.Lists.{get_or-map}
use Rattle.grid.specs.declared.Format.{Format}
use Rattle.layouts.specs.Calls.{format_refusal}
use Rattle.layouts.proofs.Refusals.{accepted-has_code}
use Rattle.bylayout.specs.Answers.{as_code, as_pattern}
use Rattle.codes.specs.Calls.{pack_one, unpack_one}
use Rattle.codes.proofs.Answers.{pack_accepted, unpack_accepted}
use Rattle.reports.specs.declared.Report.{Report}
use Rattle.reports.specs.Reports.{report, first_refused, NoneRefused, LowestRefused}
use Rattle.codearrays.specs.Codes.{codes_refusal, codes_reported, codes_afterwards, pack_number, pack_code, pack_reported, pack_afterwards, unpack_number, unpack_pattern, unpack_reported, unpack_afterwards}
use Rattle.codearrays.proofs.Refusals.{accepts_output}
use Rattle.reports.proofs.Lowest.{first_refused_nothing, first_refused_only, first_refused-none, first_refused_lowest}
use Rattle.codearrays.proofs.Outcomes.{number-accepted, looked_reported, accepted_unlooked, accepted_leaves}

-- ---- over any rule

module _ (refuses : ℕ → ℕ) (f : Format) (xs out : List ℕ) where
  module _ (unlooked : codes_refusal f xs out ≡ 0) where
    looked : codes_reported refuses f xs out ≡ first_refused refuses 0 xs
    looked = looked_reported refuses f xs out unlooked

    -- where the format, the lengths and every entry are accepted, number 0 and place 0 are reported,
    pub codes_accepted : NoneRefused refuses xs → codes_reported refuses f xs out ≡ report 0
    codes_accepted none = looked ∙ first_refused_nothing refuses xs none

    -- and where the entries are not, the lowest that is refused,
    pub codes_lowest : ((codes_reported refuses f xs out).number ≡ 0 → ⊥) → LowestRefused refuses xs (codes_reported refuses f xs out)
    codes_lowest some =
        subst (LowestRefused refuses xs) (sym looked)
        (first_refused_lowest refuses xs (λ none. some (ap (λ (r : Report). r.number) looked ∙ none)))

    -- which no other report names
    pub codes_only : (r : Report) → LowestRefused refuses xs r → codes_reported refuses f xs out ≡ r
    codes_only r lowest = looked ∙ first_refused_only refuses xs r lowest

  module _ (none : (codes_reported refuses f xs out).number ≡ 0) where
    -- number 0 says that every entry is accepted (and the format and the lengths: `accepted_unlooked`),
    pub codes_none-refused : NoneRefused refuses xs
    codes_none-refused =
        first_refused-none refuses xs (sym (ap (λ (r : Report). r.number) (looked (accepted_unlooked refuses f xs out none))) ∙ none)

    -- and place 0 stands beside it
    pub codes_none-reported : codes_reported refuses f xs out ≡ report 0
    codes_none-reported = codes_accepted (accepted_unlooked refuses f xs out none) codes_none-refused

    -- the format is accepted
    accepted_format : format_refusal f ≡ 0
    accepted_format = number-accepted (format_refusal f) (length xs) (length out) (accepted_unlooked refuses f xs out none)

    -- what stands at a place is what is written for its entry
    written_at : (writes : ℕ → ℕ) (i : ℕ) → i < length xs → get_or (codes_afterwards refuses writes f xs out) i 0 ≡ writes (get_or xs i 0)
    written_at writes i within =
        ap (λ (l : List ℕ). get_or l i 0) (accepted_leaves refuses writes f xs out none) ∙ get_or-map writes xs i 0 0 within

-- arrays of length 0 are accepted
pub empty_accepted : (refuses : ℕ → ℕ) (f : Format) → format_refusal f ≡ 0 → codes_reported refuses f [] [] ≡ report 0
empty_accepted refuses f accepted =
    codes_accepted refuses f [] [] (sym (accepts_output (format_refusal f) 0 0 accepted refl)) (record { accepted = λ i h. absurd (not-suc-le-zero h) })

-- ---- a place and a single call

-- every place of an accepted call that packs holds the code that a single call answers to its pattern
pub packed-place_is_single_call : (f : Format) (xs out : List ℕ) → (pack_reported f xs out).number ≡ 0 → (i : ℕ) → i < length xs
    → pack_one f (get_or xs i 0) ≡ as_code (get_or (pack_afterwards f xs out) i 0)
packed-place_is_single_call f xs out none i within =
    let x = get_or xs i 0 in
    pack_accepted f x (accepted-has_code f (accepted_format (pack_number f) f xs out none))
    ∙ ap (λ (n : ℕ). record { number = n; code = pack_code f x }) ((codes_none-refused (pack_number f) f xs out none).accepted i within)
    ∙ ap as_code (sym (written_at (pack_number f) f xs out none (pack_code f) i within))

-- and of one that unpacks, the pattern
pub unpacked-place_is_single_call : (f : Format) (codes out : List ℕ) → (unpack_reported f codes out).number ≡ 0 → (i : ℕ) → i < length codes
    → unpack_one f (get_or codes i 0) ≡ as_pattern (get_or (unpack_afterwards f codes out) i 0)
unpacked-place_is_single_call f codes out none i within =
    let c = get_or codes i 0 in
    unpack_accepted f c (accepted-has_code f (accepted_format (unpack_number f) f codes out none))
    ∙ ap (λ (n : ℕ). record { number = n; pattern = unpack_pattern f c }) ((codes_none-refused (unpack_number f) f codes out none).accepted i within)
    ∙ ap as_pattern (sym (written_at (unpack_number f) f codes out none (unpack_pattern f) i within))
