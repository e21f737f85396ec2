-- Closed cases: document 01's job as a text, and texts that are read or refused, computed. Assumes nothing.
use mathlib.Core.List.{List, [], ◌∷◌, ◌++◌, map}
use mathlib.Core.Path.{◌≡◌, refl}
use Prim.Native.Nat.{ℕ}
use lib.ListN.{take, drop, set}
use Rattle.lines.specs.Numerals.{digit, digits, decimals}
use Rattle.lines.specs.Lines.{fits, line}
use Rattle.lines.specs.Reading.{worth, run, value, begins, digits_read, value_read, read_value, behind, read_line}
use Rattle.std.specs.Prelude.{Ok}
use Rattle.jobs.specs.Layout.{Job, has_words, rule_at, lines_from, in_turn, values_of, text_of}
use Rattle.jobs.specs.Reading.{read_from, place_lines, heads_in, lines_in, places_in, values_in, used_in, bad_at, reading, job_of}

-- document 01's job
abbrev document_job : Job
document_job =
    record {
      p = 4;
      emax = 15;
      sub = 1;
      mode = 7;
      r = 3;
      xs = 0x4008_C000_0000_0000 ∷ 0x4008_C000_0000_0000 ∷ [];
      ws = 4 ∷ 5 ∷ [];
    }

-- and its text, a line a row
abbrev pub document_text : List ℕ
document_text =
    112 ∷ 61 ∷ 52 ∷ 10  -- p=4
    ∷ 101 ∷ 109 ∷ 97 ∷ 120 ∷ 61 ∷ 49 ∷ 53 ∷ 10  -- emax=15
    ∷ 115 ∷ 117 ∷ 98 ∷ 61 ∷ 49 ∷ 10  -- sub=1
    ∷ 109 ∷ 111 ∷ 100 ∷ 101 ∷ 61 ∷ 55 ∷ 10  -- mode=7
    ∷ 114 ∷ 61 ∷ 51 ∷ 10  -- r=3
    ∷ 110 ∷ 61 ∷ 50 ∷ 10  -- n=2
    ∷ 120 ∷ 61 ∷ 52 ∷ 48 ∷ 48 ∷ 56 ∷ 67 ∷ 48 ∷ 48 ∷ 48 ∷ 48 ∷ 48 ∷ 48 ∷ 48 ∷ 48 ∷ 48 ∷ 48 ∷ 48 ∷ 10  -- x=4008C00000000000
    ∷ 119 ∷ 61 ∷ 48 ∷ 48 ∷ 48 ∷ 48 ∷ 48 ∷ 48 ∷ 48 ∷ 48 ∷ 48 ∷ 48 ∷ 48 ∷ 48 ∷ 48 ∷ 48 ∷ 48 ∷ 52 ∷ 10  -- w=0000000000000004
    ∷ 120 ∷ 61 ∷ 52 ∷ 48 ∷ 48 ∷ 56 ∷ 67 ∷ 48 ∷ 48 ∷ 48 ∷ 48 ∷ 48 ∷ 48 ∷ 48 ∷ 48 ∷ 48 ∷ 48 ∷ 48 ∷ 10  -- x=4008C00000000000
    ∷ 119 ∷ 61 ∷ 48 ∷ 48 ∷ 48 ∷ 48 ∷ 48 ∷ 48 ∷ 48 ∷ 48 ∷ 48 ∷ 48 ∷ 48 ∷ 48 ∷ 48 ∷ 48 ∷ 48 ∷ 53 ∷ 10  -- w=0000000000000005
    ∷ []

-- the text of the job is document 01's
text : text_of document_job ≡ document_text
unfolding text_of values_of in_turn has_words lines_from rule_at line digits digit decimals
text = refl

-- it is read as that job
sound : reading document_text ≡ Ok tt
unfolding reading values_in used_in heads_in places_in lines_in place_lines read_from has_words rule_at read_line behind begins read_value value_read digits_read value run worth fits decimals
sound = refl

values : job_of (values_in document_text) ≡ document_job
unfolding job_of values_in heads_in places_in lines_in place_lines read_from has_words rule_at read_line behind begins read_value value_read digits_read value run worth fits decimals
values = refl

-- And these are not: no text; the first line unended; p=04; mode=3 with its w lines; a lower-case digit in the last w; the last line
-- unended; the last line missing; a line feed more.
bad :
    map reading
    ([]
    ∷ take 3 document_text
    ∷ (112 ∷ 61 ∷ 48 ∷ drop 2 document_text)
    ∷ set document_text 23 51
    ∷ set document_text 107 97
    ∷ take 108 document_text
    ∷ take 90 document_text
    ∷ (document_text ++ (10 ∷ []))
    ∷ [])
    ≡ bad_at 1 ∷ bad_at 1 ∷ bad_at 1 ∷ bad_at 8 ∷ bad_at 10 ∷ bad_at 10 ∷ bad_at 10 ∷ bad_at 11 ∷ []
unfolding reading values_in used_in heads_in places_in lines_in place_lines read_from has_words rule_at read_line behind begins read_value value_read digits_read value run worth fits decimals
bad = refl

-- ---- six lines and no places

-- sub, the mode and n as they are given, between p=4, emax=15 and r=3
abbrev six_lines : List ℕ → List ℕ → List ℕ → List ℕ
six_lines sub mode n =
    take 12 document_text
    ++ (115 ∷ 117 ∷ 98 ∷ 61 ∷ sub)  -- sub=
    ++ (10 ∷ 109 ∷ 111 ∷ 100 ∷ 101 ∷ 61 ∷ mode)  -- mode=
    ++ (10 ∷ 114 ∷ 61 ∷ 51 ∷ 10 ∷ 110 ∷ 61 ∷ n)  -- r=3, n=
    ++ (10 ∷ [])

-- With n=0 modes 7, 9 and 9999 are read alike; not so sub=01, n=1025, CR LF behind the mode, and a byte that follows.
six_lines_lem :
    map reading
    (six_lines (49 ∷ []) (55 ∷ []) (48 ∷ [])
    ∷ six_lines (49 ∷ []) (57 ∷ []) (48 ∷ [])
    ∷ six_lines (48 ∷ []) (57 ∷ 57 ∷ 57 ∷ 57 ∷ []) (48 ∷ [])
    ∷ six_lines (48 ∷ 49 ∷ []) (55 ∷ []) (48 ∷ [])
    ∷ six_lines (49 ∷ []) (55 ∷ []) (49 ∷ 48 ∷ 50 ∷ 53 ∷ [])
    ∷ six_lines (49 ∷ []) (55 ∷ 13 ∷ []) (48 ∷ [])
    ∷ (six_lines (49 ∷ []) (55 ∷ []) (48 ∷ []) ++ (0 ∷ []))
    ∷ [])
    ≡ Ok tt ∷ Ok tt ∷ Ok tt ∷ bad_at 3 ∷ bad_at 6 ∷ bad_at 4 ∷ bad_at 7 ∷ []
unfolding reading values_in used_in heads_in places_in lines_in place_lines read_from has_words rule_at read_line behind begins read_value value_read digits_read value run worth fits decimals
six_lines_lem = refl

-- and mode 9999 with one input has no word behind it: the w line is surplus
no_word_above_8 :
    reading
    (six_lines (49 ∷ []) (57 ∷ 57 ∷ 57 ∷ 57 ∷ []) (49 ∷ []) ++ drop 33 (take 71 document_text))
    ≡ bad_at 8
unfolding reading values_in used_in heads_in places_in lines_in place_lines read_from has_words rule_at read_line behind begins read_value value_read digits_read value run worth fits decimals
no_word_above_8 = refl
