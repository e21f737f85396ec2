-- The calls that pack and unpack as the code comes to them: what the format refuses, and after that the words converted by its layout.
-- Assumes nothing.
use mathlib.Core.Bool.{cond}
use mathlib.Core.List.{List}
use mathlib.Core.Path.{◌≡◌, refl, sym, ap, ap₂, ◌∙◌}
use Prim.Native.Nat.{ℕ}
use lib.Dec.{eqb}
use lib.ListN.{length, get_or}
use Rattle.laws.proofs.Lists.{map_alike}
use Rattle.refusals.specs.declared.Refusal.{Refusal}
use Rattle.refusals.specs.Refusals.{number_of}
use Rattle.refusals.proofs.Apart.{number_some}
use Rattle.grid.specs.declared.Format.{Format}
use Rattle.layouts.specs.declared.Layout.{Layout}
use Rattle.layouts.specs.Calls.{format_refusal}
use Rattle.layouts.specs.Fields.{HasCode}
use Rattle.layouts.specs.Layouts.{Laid, ready, refused, laid}
use Rattle.layouts.proofs.Layouts.{laid_number, laid_layout}
use Rattle.layouts.proofs.Refusals.{accepted-has_code}
use Rattle.bylayout.specs.Answers.{Packed, Unpacked}
use Rattle.codes.specs.Calls.{packed, unpacked}
use Rattle.bylayout.specs.ByLayout.{packed_by, unpacked_by}
use Rattle.codes.proofs.PackedByLayout.{packed_by-layout}
use Rattle.codes.proofs.UnpackedByLayout.{unpacked_by-layout}
use Rattle.reports.specs.declared.Report.{Report}
use Rattle.reports.specs.Reports.{report}
use Rattle.codearrays.specs.Codes.{then_lengths, codes_refusal, codes_reported, codes_afterwards, pack_number, pack_code, unpack_number, unpack_pattern}
use Rattle.codearrays.specs.Loops.{decided, pack_number_by, pack_code_by, unpack_number_by, unpack_pattern_by, words_reported, words_afterwards}
use Rattle.reports.proofs.Lowest.{first_refused_alike}
use Rattle.codearrays.proofs.Decided.{decided_number}
use Rattle.codearrays.proofs.Outcomes.{number-accepted, outputs_accepted, unlooked_reported, refused_leaves}

-- ---- what is decided before any word is looked at

module _ (f : Format) (xs out : List ℕ) (inputs outputs : ℕ) (many : inputs ≡ length xs) (places : outputs ≡ length out) where
  by_lengths : then_lengths (format_refusal f) inputs outputs ≡ codes_refusal f xs out
  by_lengths = ap₂ (then_lengths (format_refusal f)) many places

  -- a refusal of the format or of the lengths
  module _ (d : Refusal) (e : refused (number_of d) ≡ decided f inputs outputs) (refuses writes : ℕ → ℕ) where
    first : number_of d ≡ codes_refusal f xs out
    first = decided_number f inputs outputs (refused (number_of d)) e ∙ by_lengths

    pub decided_report : report (number_of d) ≡ codes_reported refuses f xs out
    decided_report = sym (unlooked_reported refuses f xs out (λ none. number_some d (first ∙ none)) ∙ ap report (sym first))

    pub decided_output : out ≡ codes_afterwards refuses writes f xs out
    decided_output = sym (refused_leaves refuses writes f xs out (λ none. number_some d (ap (λ (r : Report). r.number) decided_report ∙ none)))

  -- where there is none, there are as many places to write as to read
  pub decided_long : (l : Layout) → ready l ≡ decided f inputs outputs → length out ≡ length xs
  decided_long l e = outputs_accepted (format_refusal f) (length xs) (length out) (sym (decided_number f inputs outputs (ready l) e ∙ by_lengths))

-- ---- one that is accepted: the words decide, by any rules that are computed as they are meant

module _ (f : Format) (accepted : format_refusal f ≡ 0) (refuses writes computed made : ℕ → ℕ)
    (same : (x : ℕ) → computed x ≡ refuses x) (alike : (x : ℕ) → made x ≡ writes x) (xs out : List ℕ) where
  pub words_report : words_reported computed xs out ≡ codes_reported refuses f xs out
  unfolding words_reported codes_reported
  words_report =
      ap₂ (λ (n : ℕ) (r : Report). cond (eqb n 0) r (report n))
      (ap (λ (n : ℕ). then_lengths n (length xs) (length out)) (sym accepted))
      (first_refused_alike computed refuses 0 xs (λ i within. same (get_or xs i 0)))

  pub words_output : words_afterwards computed made xs out ≡ codes_afterwards refuses writes f xs out
  unfolding words_afterwards codes_afterwards
  words_output =
      ap₂ (λ (r : Report) (l : List ℕ). cond (eqb r.number 0) l out) words_report
      (map_alike made writes xs 0 (λ i within. alike (get_or xs i 0)))

-- ---- what the format and the lengths accept

module _ (f : Format) (xs out : List ℕ) (l : Laid) (e : l ≡ laid f) (n : ℕ) (counted : n ≡ then_lengths l.number (length xs) (length out)) where
  module _ (none : n ≡ 0) where
    -- where the format and the lengths are accepted, the format has a code
    has_code_lem : HasCode f
    has_code_lem = accepted-has_code f (sym (laid_number f l e) ∙ number-accepted l.number (length xs) (length out) (sym counted ∙ none))

-- ---- packing and unpacking by the format's layout

module _ (f : Format) (l : Layout) (e : ready l ≡ laid f) where
  accepted : format_refusal f ≡ 0
  accepted = sym (laid_number f (ready l) e)

  packed_as_meant : (x : ℕ) → packed_by l x ≡ packed f x
  packed_as_meant x =
      ap (λ (k : Layout). packed_by k x) (laid_layout f (ready l) e refl) ∙ packed_by-layout f (accepted-has_code f accepted) x

  unpacked_as_meant : (c : ℕ) → unpacked_by l c ≡ unpacked f c
  unpacked_as_meant c =
      ap (λ (k : Layout). unpacked_by k c) (laid_layout f (ready l) e refl) ∙ unpacked_by-layout f (accepted-has_code f accepted) c

  module _ (xs out : List ℕ) where
    pub pack_report : words_reported (pack_number_by l) xs out ≡ codes_reported (pack_number f) f xs out
    pack_report =
        words_report f accepted (pack_number f) (pack_code f) (pack_number_by l) (pack_code_by l)
        (λ x. ap (λ (p : Packed). p.number) (packed_as_meant x)) (λ x. ap (λ (p : Packed). p.code) (packed_as_meant x)) xs out

    pub pack_output : words_afterwards (pack_number_by l) (pack_code_by l) xs out ≡ codes_afterwards (pack_number f) (pack_code f) f xs out
    pack_output =
        words_output f accepted (pack_number f) (pack_code f) (pack_number_by l) (pack_code_by l)
        (λ x. ap (λ (p : Packed). p.number) (packed_as_meant x)) (λ x. ap (λ (p : Packed). p.code) (packed_as_meant x)) xs out

    pub unpack_report : words_reported (unpack_number_by l) xs out ≡ codes_reported (unpack_number f) f xs out
    unpack_report =
        words_report f accepted (unpack_number f) (unpack_pattern f) (unpack_number_by l) (unpack_pattern_by l)
        (λ c. ap (λ (u : Unpacked). u.number) (unpacked_as_meant c)) (λ c. ap (λ (u : Unpacked). u.pattern) (unpacked_as_meant c)) xs out

    pub unpack_output : words_afterwards (unpack_number_by l) (unpack_pattern_by l) xs out
        ≡ codes_afterwards (unpack_number f) (unpack_pattern f) f xs out
    unpack_output =
        words_output f accepted (unpack_number f) (unpack_pattern f) (unpack_number_by l) (unpack_pattern_by l)
        (λ c. ap (λ (u : Unpacked). u.number) (unpacked_as_meant c)) (λ c. ap (λ (u : Unpacked). u.pattern) (unpacked_as_meant c)) xs out
