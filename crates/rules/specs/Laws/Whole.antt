-- Worked facts, by computation: document 01's own ('One session whole'), and examples after the manual. Assumes nothing.
use Rattle.std.specs.Prelude.{◌≡◌, refl, List, [], ◌∷◌, ℕ, ℤ, pos, negsuc}
use Prim.Native.String as Quoted
use Rattle.measure.specs.Pitches.{ten_pitch}
use Rattle.measure.specs.Scales.{scale_of}
use Rattle.measure.specs.Rounding.{half_up}
use Rattle.stream.specs.Answers.{Closing, done, refused, closes}
use Rattle.stream.specs.Machine.{Pages}
use Rattle.rules.specs.Bytes.{bytes, first_where}
use Rattle.rules.specs.Refusals.{Judged, value, bad}
use Rattle.rules.specs.Printers.{ten_to_the_inch}
use Rattle.rules.specs.Requests.{request_of}
use Rattle.rules.specs.Numbers.{evaluate, cells, units}
use Rattle.rules.specs.Registers.{register_of, set_value, shown}
use Rattle.rules.specs.Texts.{text_of, remove, live, define_string_in, open_macro, keep_line_in}
use Rattle.rules.specs.Escapes.{escaped, scan}
use Rattle.rules.specs.Arguments.{arguments, first, string_text, condition, first_word}
use Rattle.rules.specs.Filling.{words, width, span, place, gaps, spread, spelled, printed, trimmed}
use Rattle.rules.specs.Traps.{seen_at, nearest_trap, plant, remove_trap}
use Rattle.rules.specs.State.{on_stack}
use Rattle.rules.specs.Rows.{lines, spring, down, break, skip, eject, begin_end, eject_last}
use Rattle.rules.specs.TextLines.{fill, text_line}
use Rattle.rules.specs.Lines.{line_of, holds}
use Rattle.rules.specs.Acts.{act, change, defines, decide}
use Rattle.rules.specs.ControlLines.{deal, deal_again}
use Rattle.rules.specs.Session.{take_byte, read_end, step}
use Rattle.rules.specs.Load.{load}
use Rattle.rules.specs.Pages.{pages}

-- the pages at ten to the inch; whoever unfolds this unfolds every rule
unfoldable pub pages_here : List ℕ → Pages
unfolding half_up scale_of first_where request_of evaluate register_of set_value shown text_of remove live define_string_in open_macro keep_line_in escaped scan arguments first string_text condition first_word words width span place gaps spread spelled printed trimmed seen_at nearest_trap plant remove_trap on_stack lines spring down break skip eject begin_end eject_last fill text_line line_of holds act change defines decide deal deal_again take_byte read_end step load pages
pages_here d = pages ten_to_the_inch d

-- A worked fact: a document with its pages and closing answer, an expression with its value, or one that is rounded to cells.
pub data Fact : Type 0 where
  document : (source pages : Quoted.String) → Closing → Fact
  numberFact across : Quoted.String → Judged ℤ → Fact

abbrev pub Holds : Fact → Type 0
Holds (document d w a) = pages ten_to_the_inch (bytes d) ≡ record { bytes = bytes w; answer = closes a }
Holds (numberFact e v) = units ten_pitch (bytes e) ≡ v
Holds (across e v) = cells ten_pitch (bytes e) ≡ v

abbrev pub All : List Fact → Type 0
All [] = Unit
All (f ∷ fs) = Holds f × All fs

-- "Proved as one statement over one table of these definitions"
abbrev pub table : List Fact
table =
    document ".pl 5\n.ll 20\nLift the cover and\ncheck the lamp.\nThen close it.\n" "Lift the  cover  and\ncheck   the    lamp.\nThen close it.\n\n\n" done
    ∷ document "" "" done
    ∷ numberFact "1+2*3" (value (pos 9))
    ∷ numberFact "1+(2*3)" (value (pos 7))
    ∷ numberFact "-7/2" (value (negsuc 2))
    ∷ numberFact "-7%2" (value (negsuc 0))
    ∷ numberFact "1c" (value (pos 94))
    ∷ numberFact "3p" (value (pos 10))
    ∷ across "36u" (value (pos 2))
    ∷ across "-36u" (value (negsuc 1))
    ∷ document ".ll 0" "" (refused 7 1)
    ∷ numberFact "5/0" (bad 6)
    ∷ document ".nr a 5/0" "" (refused 6 1)
    ∷ []

pub worked : All table
unfolding pages_here
worked = (refl, (refl, (refl, (refl, (refl, (refl, (refl, (refl, (refl, (refl, (refl, (refl, (refl, tt)))))))))))))

-- Examples after the manual, by edition and section. Several are adapted: short pages and lines, other words, no request that is left out.
abbrev pub manual : List Fact
manual =
    -- 002, 1.4: evaluation of expressions is left to right
    document ".pl 1\n.nr a 1+2*3\n.nr b 1+(2*3)\n.nr c 10-4/2\n.nr d 10-(4/2)\n.nr e 1<2+1\n\\na \\nb \\nc \\nd \\ne\n" "9 7 3 8 2\n" done
    -- 002, 1.4: the line length of an expression
    ∷ document ".pl 1\n.nr x 2\n.ll (17i/4u+\\nxP+3)/2u\n\\n(.l\n" "576\n" done
    -- 001, 4.1: filling and adjusting
    ∷ document ".pl 5\n.ll 30\nNormally,\nwords are collected from input text lines\nand assembled into a output text line\nuntil some word doesn't fit.\n" "Normally, words are  collected\nfrom  input  text  lines   and\nassembled into a  output  text\nline until some  word  doesn't\nfit.\n" done
    -- 002, 4.1: the end of a sentence
    ∷ document ".pl 1\nOne.\nTwo?\nThree!\nFour\nfive.\n" "One.  Two?  Three!  Four five.\n" done
    -- 002, 4: ce
    ∷ document ".pl 2\n.ll 11\n.ce\nabc\nd\n" "    abc\nd\n" done
    -- 002, 5.3: sp and a trap
    ∷ document ".pl 6\n.de T\n..\n.wh 3 T\na\n.sp 5\nb\n" "a\n\n\nb\n\n\n" done
    -- 000, 20: a step in copy mode
    ∷ document ".pl 1\n.nr x 0 1\n.de m\n\\n+x \\\\n+x\n..\n\\nx\n.m\n.m\n" "1 1 2 1 3\n" done
    -- 002, 7.3: the macro xx
    ∷ document ".pl 1\n.de xx \\\"begin definition\nToday is \\\\$1 the \\\\$2.\n..\n.xx Monday 14th\n" "Today is Monday the 14th.\n" done
    -- 002, 7.3: quoted arguments
    ∷ document ".pl 1\n.de xx\n[\\\\$1] [\\\\$2]\n..\n.xx \"first of June\" \"a \"\"quoted\"\" word\"\n" "[first of June] [a \"quoted\" word]\n" done
    -- 002, 7.5: two traps at one place
    ∷ document ".pl 4\n.nf\n.de A\nfirst\n..\n.de B\nsecond\n..\n.wh 2 A\n.wh -2 B\nx\ny\n.wh 2\nz\np\nq\n" "x\ny\nfirst\nz\np\nq\nsecond\n\n" done
    -- 002, 7.5: the bottom of a page springs the trap at its top
    ∷ document ".pl 2\n.de T\n'sp\n..\n.wh 0 T\na\n.br\nb\n" "\na\n\nb\n" done
    -- 002, 7.5: a definition inside a definition
    ∷ document ".pl 1\n.de xx\n.de yy\n\\\\$1 and \\\\\\\\$1\n\\..\n..\n.xx A\n.yy B\n" "A and B\n" done
    -- 002, 8: the table of access sequences
    ∷ document ".pl 1\n.nr x 10 3\n.nr xx 10 3\n\\nx \\n(xx \\n+x \\n-x \\n+(xx \\n-(xx\n" "10 10 13 10 13 10\n" done
    -- 000, 16: page 1 different from the others
    ∷ document ".pl 4\n.de hd\n.if \\\\n%>1 'sp 1\n.if \\\\n%>1 Page \\\\n%\n.if \\\\n%>1 .br\n.if !\\\\n%>1 'sp 2\n..\n.wh 0 hd\n.nf\na\nb\nc\n" "\n\na\nb\n\nPage 2\nc\n\n" done
    ∷ []

pub shown_by_manual : All manual
unfolding pages_here
shown_by_manual = (refl, (refl, (refl, (refl, (refl, (refl, (refl, (refl, (refl, (refl, (refl, (refl, (refl, (refl, tt))))))))))))))
