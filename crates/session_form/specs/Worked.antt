-- Scripts worked by hand: what is printed of them.
use Rattle.std.specs.Prelude.{◌≡◌, ℕ, ◌+◌, Option, Some, None, Result, Ok, Err, List, [], ◌∷◌, ◌++◌, codes, pos}
use Rattle.std.specs.Fmt.{decimal}
use Rattle.delegates.specs.Meaning.{bars, grid, corner}
use Rattle.delegates.specs.Table.{Plug, plugged}
use Rattle.program_form.specs.Program.{PlainProgram}
use Rattle.program_read.specs.ProgramWalk.{program_of}
use Rattle.program_read.specs.Reading.{Unread, read_as}
use Rattle.program_check.specs.Checked.{PlainChecked}
use Rattle.program_check.specs.ProgramCheck.{CheckedAt, checked_program}
use Rattle.script_lines.specs.declared.command.Command.{Command}
use Rattle.script_lines.specs.Table.{BadLine, too_long, not_utf8, unknown_line, bad_number}
use Rattle.script_lines.specs.Reading.{command_of}
use Rattle.session_form.specs.Refusals.{code_of, name_of}
use Rattle.session_form.specs.Outcome.{Outcome, done, refused, faulted}
use Rattle.session_form.specs.FaultText.{fault_text}
use Rattle.session_form.specs.State.{SessionState, first_state}
use Rattle.session_form.specs.Step.{step}

-- ---- the text of a script's lines, each with its number; it ends after a fault

abbrev pub refusal_line : ℕ → ℕ → List ℕ → List ℕ
refusal_line line code name = codes "refused " ++ (decimal line ++ (codes " " ++ (decimal code ++ (codes " " ++ (name ++ codes "\n")))))

abbrev pub after : ℕ → Outcome → SessionState → (SessionState → List ℕ) → List ℕ
after line (done s text) before go = text ++ go s
after line (refused why) before go = refusal_line line (code_of why) (name_of why) ++ go before
after line (faulted fault) before go = fault_text fault

abbrev pub bad_text : ℕ → BadLine → List ℕ
bad_text line too_long = refusal_line line 1 (codes "LineTooLong")
bad_text line not_utf8 = refusal_line line 2 (codes "NotUtf8")
bad_text line unknown_line = refusal_line line 3 (codes "UnknownLine")
bad_text line bad_number = refusal_line line 4 (codes "BadNumber")

abbrev pub by_line : ℕ → Result (Option Command) BadLine → SessionState → (SessionState → List ℕ) → List ℕ
by_line line (Ok (Some command)) s go = after line (step s command) s go
by_line line (Ok None) s go = go s
by_line line (Err bad) s go = bad_text line bad ++ go s

abbrev pub play : List (List ℕ) → ℕ → SessionState → List ℕ
play [] line s = []
play (text ∷ texts) line s = by_line line (command_of text) s (λ next. play texts (line + 1) next)

-- ---- of a program

-- the delegates of the shipped program
abbrev pub known_delegates : List Plug
known_delegates =
    plugged (codes "bars") (bars (pos 4) (pos 4278190335))
    ∷ plugged (codes "grid") (grid (pos 640) (pos 4286611584))
    ∷ plugged (codes "corner") (corner (pos 0) (pos 0)) ∷ []

abbrev pub checked_text : CheckedAt PlainChecked → List (List ℕ) → List ℕ
checked_text (Ok c) lines = play lines 1 (first_state c known_delegates)
checked_text (Err bad) lines = codes "program check\n"

abbrev pub read_text : Result PlainProgram Unread → List (List ℕ) → List ℕ
read_text (Ok p) lines = checked_text (checked_program p) lines
read_text (Err why) lines = codes "program unread\n"

abbrev pub script : List ℕ → List (List ℕ) → List ℕ
script program lines = read_text (read_as program_of program) lines

-- ---- the scripts

pub record Works : Type 0 where
  -- a frame
  pub shown : script (codes "{\"version\":1,\"view\":[100,50],\"root\":{\"w\":\"Padding\",\"left\":10,\"top\":5,\"child\":{\"w\":\"ColoredBox\",\"color\":4278190335,\"child\":{\"w\":\"SizedBox\"}}}}")
      (codes "frame" ∷ [])
      ≡ codes "frame 1\noffset 0 0\n  picture\n    rect 10 5 90 45 ff0000ff\nend\n"
  -- refusals, each of which leaves all as it was
  pub refused_lines : script (codes "{\"version\":1,\"view\":[100,50],\"root\":{\"w\":\"Padding\",\"left\":10,\"top\":5,\"child\":{\"w\":\"ColoredBox\",\"color\":4278190335,\"child\":{\"w\":\"SizedBox\"}}}}")
      (codes "frame" ∷ codes "at 10" ∷ codes "at 9" ∷ codes "set #9 n 1" ∷ codes "set #1 n 1" ∷ codes "down 1 0 0" ∷ codes "down 1 0 0" ∷ codes "up 2" ∷ codes "frame x" ∷ codes "scroll #1 5" ∷ codes "at 9" ∷ codes "up 1" ∷ [])
      ≡ codes "frame 1\noffset 0 0\n  picture\n    rect 10 5 90 45 ff0000ff\nend\nrefused 3 5 TimeGoesBack\nrefused 4 6 NoNode\nrefused 5 7 NotStateful\nrefused 7 11 PointerIsDown\nrefused 8 12 PointerIsUp\nrefused 9 3 UnknownLine\nrefused 10 10 NotAViewport\nrefused 11 5 TimeGoesBack\n"
  -- a state under another type is another one
  pub other_type : script (codes "{\"version\":1,\"view\":[100,50],\"components\":[{\"name\":\"S\",\"fields\":[[\"n\",\"int\",0]],\"body\":{\"w\":\"SizedBox\"}},{\"name\":\"B\",\"fields\":[[\"n\",\"int\",0]],\"body\":{\"w\":\"SizedBox\"}}],\"root\":{\"w\":\"use\",\"name\":\"S\",\"key\":[\"local\",1]}}")
      (codes "frame" ∷ codes "root {\"w\":\"use\",\"name\":\"B\",\"key\":[\"local\",1]}" ∷ codes "frame" ∷ codes "states" ∷ codes "set #1 n 5" ∷ [])
      ≡ codes "frame 1\noffset 0 0\nend\nframe 2\noffset 0 0\nend\nstates\n#3 B n=0\nend\nrefused 5 6 NoNode\n"
  -- a fault, which ends the script
  pub met_twice : script (codes "{\"version\":1,\"view\":[100,50],\"components\":[{\"name\":\"S\",\"fields\":[[\"n\",\"int\",0]],\"body\":{\"w\":\"SizedBox\"}},{\"name\":\"H\",\"body\":{\"w\":\"use\",\"name\":\"S\",\"key\":[\"global\",\"g\"]}},{\"name\":\"C\",\"fields\":[[\"on\",\"bool\",false]],\"body\":{\"w\":\"if\",\"cond\":[\"field\",\"on\"],\"then\":{\"w\":\"use\",\"name\":\"S\",\"key\":[\"global\",\"g\"]},\"else\":{\"w\":\"SizedBox\"}}}],\"root\":{\"w\":\"Row\",\"children\":[{\"w\":\"use\",\"name\":\"H\"},{\"w\":\"use\",\"name\":\"C\"}]}}")
      (codes "frame" ∷ codes "set #5 on true" ∷ codes "frame" ∷ [])
      ≡ codes "frame 1\noffset 0 0\nend\nfault repeated-global-key \"g\"\n"
  -- widgets that are no root
  pub bad_roots : script (codes "{\"version\":1,\"view\":[100,50],\"root\":{\"w\":\"Padding\",\"left\":10,\"top\":5,\"child\":{\"w\":\"ColoredBox\",\"color\":4278190335,\"child\":{\"w\":\"SizedBox\"}}}}")
      (codes "frame" ∷ codes "root {\"w\":\"Nope\"}" ∷ codes "root {\"w\":\"Text\",\"text\":1}" ∷ codes "root [" ∷ codes "frame" ∷ [])
      ≡ codes "frame 1\noffset 0 0\n  picture\n    rect 10 5 90 45 ff0000ff\nend\nrefused 2 16 BadWidget\nrefused 3 17 WidgetCheck\nrefused 4 16 BadWidget\nframe 2\noffset 0 0\n  picture\n    rect 10 5 90 45 ff0000ff\nend\n"
  -- another view, from the next frame on
  pub resized : script (codes "{\"version\":1,\"view\":[100,50],\"root\":{\"w\":\"Padding\",\"left\":10,\"top\":5,\"child\":{\"w\":\"ColoredBox\",\"color\":4278190335,\"child\":{\"w\":\"SizedBox\"}}}}")
      (codes "frame" ∷ codes "resize 0 5" ∷ codes "resize 30 20" ∷ codes "frame" ∷ [])
      ≡ codes "frame 1\noffset 0 0\n  picture\n    rect 10 5 90 45 ff0000ff\nend\nrefused 2 18 ViewOutOfRange\nframe 2\noffset 0 0\n  picture\n    rect 10 5 20 15 ff0000ff\nend\n"
  -- a list of which a part is seen, scrolled and cut short
  pub scrolled : script (codes "{\"version\":1,\"view\":[100,100],\"components\":[{\"name\":\"J\",\"props\":[[\"p\",\"int\"]],\"fields\":[[\"n\",\"int\",[\"prop\",\"p\"]]],\"body\":{\"w\":\"ColoredBox\",\"color\":[\"field\",\"n\"]}},{\"name\":\"L\",\"fields\":[[\"k\",\"int\",10]],\"body\":{\"w\":\"Viewport\",\"children\":[{\"w\":\"SliverFixed\",\"extent\":30,\"children\":[{\"w\":\"each\",\"var\":\"v\",\"in\":[\"range\",[\"field\",\"k\"]],\"body\":{\"w\":\"use\",\"name\":\"J\",\"key\":[\"local\",[\"var\",\"v\"]],\"props\":{\"p\":[\"var\",\"v\"]}}}]}]}}],\"root\":{\"w\":\"use\",\"name\":\"L\"}}")
      (codes "frame" ∷ codes "scroll #2 60" ∷ codes "frame" ∷ codes "set #18 n 200" ∷ codes "frame" ∷ codes "scroll #2 1000" ∷ codes "frame" ∷ codes "set #1 k 4" ∷ codes "frame" ∷ codes "states" ∷ [])
      ≡ codes "frame 1\noffset 0 0\n  clip 0 0 100 100\n    picture\n      rect 0 0 100 30 00000000\n      rect 0 30 100 30 00000001\n      rect 0 60 100 30 00000002\n      rect 0 90 100 30 00000003\nend\nframe 2\noffset 0 0\n  clip 0 0 100 100\n    picture\n      rect 0 0 100 30 00000002\n      rect 0 30 100 30 00000003\n      rect 0 60 100 30 00000004\n      rect 0 90 100 30 00000005\nend\nframe 3\noffset 0 0\n  clip 0 0 100 100\n    picture\n      rect 0 0 100 30 00000002\n      rect 0 30 100 30 00000003\n      rect 0 60 100 30 00000004\n      rect 0 90 100 30 00000005\nend\nframe 4\noffset 0 0\n  clip 0 0 100 100\n    picture\n      rect 0 -20 100 30 00000006\n      rect 0 10 100 30 000000c8\n      rect 0 40 100 30 00000008\n      rect 0 70 100 30 00000009\nend\nframe 5\noffset 0 0\n  clip 0 0 100 100\n    picture\n      rect 0 -20 100 30 00000000\n      rect 0 10 100 30 00000001\n      rect 0 40 100 30 00000002\n      rect 0 70 100 30 00000003\nend\nstates\n#1 L k=4\n#2 Viewport scroll=20\n#4 J n=0\n#6 J n=1\n#8 J n=2\n#10 J n=3\nend\n"
  -- a delegate that is changed, and then unplugged
  pub plugged : script (codes "{\"version\":1,\"view\":[100,50],\"components\":[{\"name\":\"M\",\"fields\":[[\"x\",\"int\",0]],\"body\":{\"w\":\"Stack\",\"children\":[{\"w\":\"Positioned\",\"left\":[\"field\",\"x\"],\"top\":0,\"width\":8,\"height\":8,\"child\":{\"w\":\"RepaintBoundary\",\"child\":{\"w\":\"CustomPaint\",\"delegate\":\"bars\"}}}]}}],\"root\":{\"w\":\"use\",\"name\":\"M\"}}")
      (codes "frame" ∷ codes "set #1 x 20" ∷ codes "frame" ∷ codes "delegate bars count 1" ∷ codes "frame" ∷ codes "unplug bars" ∷ codes "frame" ∷ [])
      ≡ codes "frame 1\noffset 0 0\n  offset 0 0\n    picture\n      rect 0 6 2 2 ff0000ff\n      rect 2 4 2 4 ff0000ff\n      rect 4 2 2 6 ff0000ff\n      rect 6 0 2 8 ff0000ff\nend\nframe 2\noffset 0 0\n  offset 20 0\n    picture\n      rect 0 6 2 2 ff0000ff\n      rect 2 4 2 4 ff0000ff\n      rect 4 2 2 6 ff0000ff\n      rect 6 0 2 8 ff0000ff\nend\nframe 3\noffset 0 0\n  offset 20 0\n    picture\n      rect 0 0 8 8 ff0000ff\nend\nframe 4\noffset 0 0\n  offset 20 0\nend\n"
  -- what points hit
  pub hit : script (codes "{\"version\":1,\"view\":[100,50],\"root\":{\"w\":\"Stack\",\"children\":[{\"w\":\"Positioned\",\"left\":0,\"top\":0,\"width\":50,\"height\":50,\"child\":{\"w\":\"ColoredBox\"}},{\"w\":\"Positioned\",\"left\":0,\"top\":0,\"width\":20,\"height\":50,\"child\":{\"w\":\"Detector\",\"behavior\":\"translucent\",\"tap\":[]}}]}}")
      (codes "frame" ∷ codes "hit 0 0" ∷ codes "hit 49 49" ∷ codes "hit 50 0" ∷ codes "hit 0 50" ∷ codes "root {\"w\":\"Stack\",\"fit\":\"expand\",\"children\":[{\"w\":\"ColoredBox\"},{\"w\":\"AbsorbPointer\",\"child\":{\"w\":\"ColoredBox\"}}]}" ∷ codes "frame" ∷ codes "hit 1 1" ∷ codes "root {\"w\":\"Stack\",\"fit\":\"expand\",\"children\":[{\"w\":\"ColoredBox\"},{\"w\":\"Offstage\",\"child\":{\"w\":\"ColoredBox\"}}]}" ∷ codes "frame" ∷ codes "hit 1 1" ∷ [])
      ≡ codes "frame 1\noffset 0 0\n  picture\n    rect 0 0 50 50 00000000\nend\nhits #5 #3 #1\nhits #3 #1\nhits\nhits\nframe 2\noffset 0 0\n  picture\n    rect 0 0 100 50 00000000\n    rect 0 0 100 50 00000000\nend\nhits #1\nframe 3\noffset 0 0\n  picture\n    rect 0 0 100 50 00000000\nend\nhits #6 #1\n"
  -- a tap or a drag
  pub near_and_far : script (codes "{\"version\":1,\"view\":[4096,4096],\"root\":{\"w\":\"Detector\",\"tap\":[],\"vertical\":[],\"child\":{\"w\":\"ColoredBox\"}}}")
      (codes "frame" ∷ codes "down 1 0 0" ∷ codes "move 1 0 1152" ∷ codes "up 1" ∷ [])
      ≡ codes "frame 1\noffset 0 0\n  picture\n    rect 0 0 4096 4096 00000000\nend\narena 1 #1 tap\ntap #1\n"
  -- a detector that goes away while its pointer is down
  pub lost : script (codes "{\"version\":1,\"view\":[100,50],\"root\":{\"w\":\"Row\",\"children\":[{\"w\":\"Detector\",\"behavior\":\"opaque\",\"tap\":[],\"long\":[],\"child\":{\"w\":\"SizedBox\",\"width\":50,\"height\":50}},{\"w\":\"Detector\",\"behavior\":\"opaque\",\"tap\":[],\"long\":[],\"child\":{\"w\":\"SizedBox\",\"width\":50,\"height\":50}}]}}")
      (codes "frame" ∷ codes "down 1 5 5" ∷ codes "down 2 60 5" ∷ codes "root {\"w\":\"Row\",\"children\":[{\"w\":\"Detector\",\"behavior\":\"opaque\",\"tap\":[],\"long\":[],\"child\":{\"w\":\"SizedBox\",\"width\":50,\"height\":50}}]}" ∷ codes "frame" ∷ codes "up 1" ∷ codes "up 2" ∷ [])
      ≡ codes "frame 1\noffset 0 0\nend\nframe 2\noffset 0 0\nend\narena 2 none\narena 1 #2 tap\ntap #2\n"
  -- deadlines that come at once, in order of down
  pub long_presses : script (codes "{\"version\":1,\"view\":[4096,4096],\"root\":{\"w\":\"Detector\",\"tap\":[],\"long\":[],\"child\":{\"w\":\"ColoredBox\"}}}")
      (codes "frame" ∷ codes "down 1 0 0" ∷ codes "at 10" ∷ codes "down 2 0 0" ∷ codes "at 1000000000000" ∷ [])
      ≡ codes "frame 1\noffset 0 0\n  picture\n    rect 0 0 4096 4096 00000000\nend\narena 1 #1 long\nlong #1\narena 2 #1 long\nlong #1\n"
  -- items of a lazy list that leave the view, and come back
  pub lazily : script (codes "{\"version\":2,\"view\":[100,100],\"components\":[{\"name\":\"J\",\"props\":[[\"p\",\"int\"]],\"fields\":[[\"n\",\"int\",[\"prop\",\"p\"]]],\"body\":{\"w\":\"ColoredBox\",\"color\":[\"field\",\"n\"]}}],\"root\":{\"w\":\"Viewport\",\"children\":[{\"w\":\"SliverLazy\",\"extent\":16000,\"children\":[{\"w\":\"each\",\"var\":\"v\",\"in\":[\"range\",5],\"body\":{\"w\":\"use\",\"name\":\"J\",\"key\":[\"local\",[\"var\",\"v\"]],\"props\":{\"p\":[\"var\",\"v\"]}}}]}]}}")
      (codes "frame" ∷ codes "set #3 n 9" ∷ codes "scroll #1 40000" ∷ codes "frame" ∷ codes "states" ∷ codes "scroll #1 -40000" ∷ codes "frame" ∷ codes "states" ∷ [])
      ≡ codes "frame 1\noffset 0 0\n  clip 0 0 100 100\n    picture\n      rect 0 0 100 16000 00000000\nend\nframe 2\noffset 0 0\n  clip 0 0 100 100\n    picture\n      rect 0 -8000 100 16000 00000002\nend\nstates\n#1 Viewport scroll=40000\n#5 J n=1\n#7 J n=2\n#9 J n=3\nend\nframe 3\noffset 0 0\n  clip 0 0 100 100\n    picture\n      rect 0 0 100 16000 00000000\nend\nstates\n#1 Viewport scroll=0\n#11 J n=0\n#5 J n=1\nend\n"
  -- a handler of the last frame, whose second set sees what the first one set
  pub handled : script (codes "{\"version\":1,\"view\":[100,50],\"components\":[{\"name\":\"A\",\"fields\":[[\"n\",\"int\",0],[\"m\",\"int\",0]],\"body\":{\"w\":\"Detector\",\"tap\":[[\"set\",\"n\",[\"+\",[\"field\",\"n\"],1]],[\"set\",\"m\",[\"*\",[\"field\",\"n\"],10]]],\"child\":{\"w\":\"ColoredBox\",\"color\":[\"field\",\"m\"]}}}],\"root\":{\"w\":\"use\",\"name\":\"A\"}}")
      (codes "semantics" ∷ codes "down 7 0 0" ∷ codes "up 7" ∷ codes "frame" ∷ codes "down 1 0 0" ∷ codes "root {\"w\":\"SizedBox\"}" ∷ codes "up 1" ∷ codes "states" ∷ codes "semantics" ∷ codes "act #2 tap" ∷ codes "act #2 long" ∷ codes "act #9 tap" ∷ codes "frame" ∷ codes "states" ∷ [])
      ≡ codes "semantics\nend\nframe 1\noffset 0 0\n  picture\n    rect 0 0 100 50 00000000\nend\narena 1 #2 tap\ntap #2\nstates\n#1 A n=1 m=10\nend\nsemantics\n#0 0 0 100 50 \"\"\n  #2 0 0 100 50 \"\" tap\nend\ntap #2\nrefused 11 20 NoAction\nrefused 12 19 NoSemanticsNode\nframe 2\noffset 0 0\nend\nstates\nend\n"
