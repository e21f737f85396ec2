-- A call on bytes is the call on words: the facts that are stated in specs/Facts.antt about calls. Over any call first, by what it
-- refuses before the lengths, what the call on words reports and what that leaves. Assumes nothing.
use mathlib.Core.Bool.{Bool, true, false, cond, ◌||◌}
use mathlib.Core.List.{List}
use mathlib.Core.Path.{◌≡◌, refl, sym, ap, ap₂, ◌∙◌}
use Prim.Native.Nat.{ℕ, ◌+◌, ◌*◌, ◌/◌, ◌^◌, ◌<◌}
use native.Mathlib.Omega.{arith}
use lib.Dec.{eqb}
use lib.ListN.{length, get_or}
use lib.Seq.{length-take-le, get_or-take}
use borrow.Author.Tests.{eqb-false, ne_eqb}
use Rattle.laws.specs.Lists.{tab, sum}
use Rattle.laws.proofs.Lists.{tab_alike}
use Rattle.grid.specs.declared.Format.{Format}
use Rattle.rounding.specs.Calls.{refusal}
use Rattle.layouts.specs.Calls.{format_refusal}
use Rattle.reports.specs.declared.Report.{Report}
use Rattle.reports.specs.Reports.{report}
use Rattle.codearrays.specs.Codes.{pack_number, pack_code, pack_reported, pack_afterwards, unpack_number, unpack_pattern, unpack_reported, unpack_afterwards}
use Rattle.codearrays.proofs.Outcomes.{refused_leaves}
use Rattle.arrays.specs.Rounding.{refusal_of, reported, afterwards}
use Rattle.arrays.proofs.Outcomes.{refused-afterwards}
use Rattle.words.specs.Bytes.{bytes_of, word_at, words_of, ragged, one_ragged}
use Rattle.words.specs.Facts.{AllBelow}
use Rattle.bytearrays.specs.Calls.{or_five, bytes_reported, bytes_afterwards, round_bytes_reported, round_bytes_afterwards, pack_bytes_reported, pack_bytes_afterwards, unpack_bytes_reported, unpack_bytes_afterwards}
use Rattle.bytearrays.specs.Facts.{RoundsAsWords, PacksAsWords, UnpacksAsWords, RaggedNotRounded, RaggedNotPacked, RaggedNotUnpacked, whole_words, SpareBytesUnread}
use Rattle.bytearrays.proofs.Outcomes.{refused-kept}
use Rattle.bytearrays.proofs.Ragged.{or_five-some}
use Rattle.words.proofs.RoundTrips.{bytes_of_words}

-- ---- any call

module _ (before : ℕ) (on_words : Report) (leaves xs out : List ℕ) where
  -- what is reported, by whether a length is ragged
  abbrev reported_where : Bool → Report
  reported_where uneven = cond uneven (report (or_five before)) on_words

  -- the call's own report, and what it leaves by a report
  abbrev answer : Report
  answer = bytes_reported before on_words xs out

  abbrev left_by : Report → List ℕ
  left_by a = bytes_afterwards a leaves out

  module _ (inputs : ragged (length xs) ≡ false) (outputs : ragged (length out) ≡ false) where
    -- where none is, it is what the call on words reports
    pub whole_reported : answer ≡ on_words
    unfolding bytes_reported
    whole_reported = ap reported_where (ap₂ (λ (b c : Bool). b || c) inputs outputs)

    -- and the output gets the bytes of what that leaves: where it is refused, they are what there was
    whole_left : AllBelow 256 out → ((on_words.number ≡ 0 → ⊥) → leaves ≡ words_of out) → left_by on_words ≡ bytes_of leaves
    unfolding bytes_afterwards
    whole_left small kept = go (eqb on_words.number 0) refl
      where
        go : (b : Bool) → eqb on_words.number 0 ≡ b → cond b (bytes_of leaves) out ≡ bytes_of leaves
        go true e = refl
        go false e = sym (bytes_of_words out small outputs) ∙ ap bytes_of (sym (kept (eqb-false on_words.number 0 e)))

    whole_call : AllBelow 256 out → ((on_words.number ≡ 0 → ⊥) → leaves ≡ words_of out)
        → (answer ≡ on_words) × (left_by answer ≡ bytes_of leaves)
    whole_call small kept = (whole_reported, ap left_by whole_reported ∙ whole_left small kept)

  module _ (uneven : one_ragged (length xs) (length out) ≡ true) where
    -- where one is, it is what is refused before the lengths, or 5
    ragged-reported : answer ≡ report (or_five before)
    unfolding bytes_reported
    ragged-reported = ap reported_where uneven

    -- so that the output is left as it was
    ragged_call : (answer ≡ report (or_five before)) × (left_by answer ≡ out)
    ragged_call =
        (ragged-reported, sym (refused-kept answer leaves out (report (or_five before)) (sym ragged-reported) (or_five-some before)))

-- ---- rounding

module _ (f : Format) (mode r : ℕ) (words xs out : List ℕ) where
  -- what the call on words reports and leaves
  abbrev round_report : Report
  round_report = reported f mode r (words_of words) (words_of xs) (words_of out)

  abbrev round_leaves : List ℕ
  round_leaves = afterwards f mode r (words_of words) (words_of xs) (words_of out)

  -- where it is refused, what there was
  kept_unrounded : (round_report.number ≡ 0 → ⊥) → round_leaves ≡ words_of out
  unfolding reported
  kept_unrounded some =
      refused-afterwards f mode r (words_of words) (words_of xs) (words_of out)
      (ne_eqb (refusal_of f mode r (words_of words) (words_of xs) (words_of out)) 0 some)

pub rounds_as_words : RoundsAsWords
unfolding round_bytes_reported round_bytes_afterwards
rounds_as_words f mode r words xs out inputs outputs small =
    whole_call (refusal f mode r) (round_report f mode r words xs out) (round_leaves f mode r words xs out) xs out inputs outputs small
    (kept_unrounded f mode r words xs out)

pub ragged_not_rounded : RaggedNotRounded
unfolding round_bytes_reported round_bytes_afterwards
ragged_not_rounded f mode r words xs out uneven =
    ragged_call (refusal f mode r) (round_report f mode r words xs out) (round_leaves f mode r words xs out) xs out uneven

-- ---- packing

pub packs_as_words : PacksAsWords
unfolding pack_bytes_reported pack_bytes_afterwards
packs_as_words f xs out inputs outputs small =
    whole_call (format_refusal f) (pack_reported f (words_of xs) (words_of out)) (pack_afterwards f (words_of xs) (words_of out)) xs out
    inputs outputs small (refused_leaves (pack_number f) (pack_code f) f (words_of xs) (words_of out))

pub ragged_not_packed : RaggedNotPacked
unfolding pack_bytes_reported pack_bytes_afterwards
ragged_not_packed f xs out uneven =
    ragged_call (format_refusal f) (pack_reported f (words_of xs) (words_of out)) (pack_afterwards f (words_of xs) (words_of out)) xs out
    uneven

-- ---- unpacking

pub unpacks_as_words : UnpacksAsWords
unfolding unpack_bytes_reported unpack_bytes_afterwards
unpacks_as_words f codes out inputs outputs small =
    whole_call (format_refusal f) (unpack_reported f (words_of codes) (words_of out)) (unpack_afterwards f (words_of codes) (words_of out))
    codes out inputs outputs small (refused_leaves (unpack_number f) (unpack_pattern f) f (words_of codes) (words_of out))

pub ragged_not_unpacked : RaggedNotUnpacked
unfolding unpack_bytes_reported unpack_bytes_afterwards
ragged_not_unpacked f codes out uneven =
    ragged_call (format_refusal f) (unpack_reported f (words_of codes) (words_of out)) (unpack_afterwards f (words_of codes) (words_of out))
    codes out uneven

-- ---- spare bytes

-- cutting them off leaves as many words
whole_words_many : (bs : List ℕ) → length (whole_words bs) / 8 ≡ length bs / 8
whole_words_many bs = let long = length-take-le (8 * (length bs / 8)) bs (omega arith) in omega arith

-- and each word as it was
whole_word : (bs : List ℕ) (i : ℕ) → i < length bs / 8 → word_at (whole_words bs) i ≡ word_at bs i
unfolding word_at
whole_word bs i within =
    ap sum
    (tab_alike 8 (λ (k : ℕ). get_or (whole_words bs) (8 * i + k) 0 * 256 ^ k) (λ (k : ℕ). get_or bs (8 * i + k) 0 * 256 ^ k)
    (λ k below. ap (λ (b : ℕ). b * 256 ^ k) (get_or-take (8 * (length bs / 8)) bs (8 * i + k) 0 (omega arith))))

whole_words_alike : (bs : List ℕ) → words_of (whole_words bs) ≡ words_of bs
unfolding words_of
whole_words_alike bs =
    ap (λ (n : ℕ). tab n (word_at (whole_words bs))) (whole_words_many bs)
    ∙ tab_alike (length bs / 8) (word_at (whole_words bs)) (word_at bs) (whole_word bs)

-- so a call that looks at the words alone reports and leaves the same
pub spare_bytes_unread : SpareBytesUnread
unfolding round_bytes_reported round_bytes_afterwards
spare_bytes_unread f mode r words xs out = (ap answered same, ap (λ (ws : List ℕ). bytes_afterwards (answered ws) (left ws) out) same)
  where
    same : words_of (whole_words words) ≡ words_of words
    same = whole_words_alike words

    answered : List ℕ → Report
    answered ws = bytes_reported (refusal f mode r) (reported f mode r ws (words_of xs) (words_of out)) xs out

    left : List ℕ → List ℕ
    left ws = afterwards f mode r ws (words_of xs) (words_of out)
