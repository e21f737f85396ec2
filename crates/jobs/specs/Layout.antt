-- The layout of a job text (document 01, "The job text"). Lines are counted from 0 here, and values stand in the order of their
-- lines. Assumes nothing.
use Rattle.std.specs.Prelude.{Bool, cond, ◌&&◌, ◌||◌, List, [], ◌∷◌, ◌++◌, ◌≡◌, ℕ, suc, ◌%◌, ◌^◌, ◌≤◌, ◌<◌, eqb, length, get_or}
use Rattle.lines.specs.declared.Form.{Form}
use Rattle.lines.specs.declared.Form.TheVariants.{Number, Word}
use Rattle.lines.specs.Lines.{line}

-- a job: the format's numbers, the mode, the count of random bits, the inputs, and their words
pub record Job : Type 0 where
  pub p : ℕ
  pub emax : ℕ
  pub sub : ℕ
  pub mode : ℕ
  pub r : ℕ
  pub xs : List ℕ
  pub ws : List ℕ

-- whether each x is followed by a w: in modes 7 and 8, and in no other, those above 8 included
unfoldable pub has_words : ℕ → Bool
has_words mode = eqb mode 7 || eqb mode 8

-- its numbers are in the layout's range, and it has a word for each input where its mode has words, and else none
pub record InRange (j : Job) : Type 0 where
  pub precision : j.p ≤ 9999
  pub exponent : j.emax ≤ 9999
  pub subnormals : j.sub ≤ 1
  pub mode : j.mode ≤ 9999
  pub bits : j.r ≤ 9999
  pub many : length j.xs ≤ 1024
  pub inputs : (i : ℕ) → i < length j.xs → get_or j.xs i 0 < 2 ^ 64
  pub words : (i : ℕ) → i < length j.ws → get_or j.ws i 0 < 2 ^ 64
  pub a_word_each : length j.ws ≡ cond (has_words j.mode) (length j.xs) 0

-- ---- the lines

-- what a line holds: its key, with the equals sign, and the form of its value
pub record Rule : Type 0 where
  pub key : List ℕ
  pub form : Form

-- a decimal number, no larger than is said
abbrev pub number : List ℕ → ℕ → Rule
number key most = record { key = key; form = Number most }

-- a word of 64 bits
abbrev pub word : List ℕ → Rule
word key = record { key = key; form = Word }

-- the first six lines
abbrev pub heads : List Rule
heads =
    number (112 ∷ 61 ∷ []) 9999  -- p=
    ∷ number (101 ∷ 109 ∷ 97 ∷ 120 ∷ 61 ∷ []) 9999  -- emax=
    ∷ number (115 ∷ 117 ∷ 98 ∷ 61 ∷ []) 1  -- sub=
    ∷ number (109 ∷ 111 ∷ 100 ∷ 101 ∷ 61 ∷ []) 9999  -- mode=
    ∷ number (114 ∷ 61 ∷ []) 9999  -- r=
    ∷ number (110 ∷ 61 ∷ []) 1024  -- n=
    ∷ []

-- a place's line, or two lines
abbrev pub input : Rule
input = word (120 ∷ 61 ∷ [])  -- x=

abbrev pub random_word : Rule
random_word = word (119 ∷ 61 ∷ [])  -- w=

-- the rule of line i: of the six, and from there on x, which with words takes turns with w
unfoldable pub rule_at : Bool → ℕ → Rule
rule_at words i = get_or heads i (cond (words && eqb (i % 2) 1) random_word input)

-- the lines that hold these values, from line i on
unfoldable pub lines_from : Bool → ℕ → List ℕ → List ℕ
lines_from words i [] = []
lines_from words i (v ∷ vs) = line (rule_at words i).key (rule_at words i).form v ++ lines_from words (suc i) vs

-- ---- the text of a job

-- the inputs, each with its word behind it
unfoldable pub in_turn : List ℕ → List ℕ → List ℕ
in_turn [] ws = []
in_turn (x ∷ xs) [] = []
in_turn (x ∷ xs) (w ∷ ws) = x ∷ w ∷ in_turn xs ws

-- a job's values in the order of their lines
unfoldable pub values_of : Job → List ℕ
values_of j =
    j.p ∷ j.emax ∷ j.sub ∷ j.mode ∷ j.r ∷ length j.xs
    ∷ cond (has_words j.mode) (in_turn j.xs j.ws) j.xs

-- its text: each value in its line, and nothing behind the last line
unfoldable pub text_of : Job → List ℕ
text_of j = lines_from (has_words j.mode) 0 (values_of j)
