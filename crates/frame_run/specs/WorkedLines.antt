-- Scripts with tweens, the focus and cells, worked by hand: what is printed of them.
use Rattle.std.specs.Prelude.{◌≡◌, ℕ, false, Result, Ok, Err, List, [], ◌∷◌, codes}
use Rattle.program_check.specs.Checked.{PlainChecked}
use Rattle.frame_run.specs.Program.{checked_of}
use Rattle.live_session.specs.RunState.{first_run}
use Rattle.frame_run.specs.Text.{running, lines_text}
use Rattle.frame_run.specs.declared.program.ProgramFault.{ProgramFault}

abbrev pub played : Result PlainChecked ProgramFault → List (List ℕ) → List ℕ
played (Ok c) lines = lines_text (running (first_run c []) 0 false) lines
played (Err fault) lines = codes "program refused\n"

abbrev pub script : List ℕ → List (List ℕ) → List ℕ
script program lines = played (checked_of program) lines

pub record WorksOfLines : Type 0 where
  -- a tween from its start to its end, and a field that is not there
  pub tween_linear : script (codes "{\"version\":1,\"view\":[100,50],\"components\":[{\"name\":\"O\",\"fields\":[[\"a\",\"int\",128]],\"body\":{\"w\":\"Padding\",\"left\":10,\"child\":{\"w\":\"Opacity\",\"alpha\":[\"field\",\"a\"],\"child\":{\"w\":\"ColoredBox\",\"color\":1}}}}],\"root\":{\"w\":\"use\",\"name\":\"O\"}}")
      (codes "frame" ∷ codes "tween #1 a 0 200 1000 linear" ∷ codes "at 500" ∷ codes "frame" ∷ codes "at 2000" ∷ codes "frame" ∷ codes "tween #1 b 0 1 10 linear" ∷ [])
      ≡ codes "frame 1\noffset 0 0\n  opacity 10 0 128\n    picture\n      rect 0 0 90 50 00000001\nend\nframe 2\noffset 0 0\n  opacity 10 0 100\n    picture\n      rect 0 0 90 50 00000001\nend\nframe 3\noffset 0 0\n  opacity 10 0 200\n    picture\n      rect 0 0 90 50 00000001\nend\nrefused 7 8 NoField\n"
  -- one that goes faster and faster
  pub tween_in : script (codes "{\"version\":1,\"view\":[100,50],\"components\":[{\"name\":\"O\",\"fields\":[[\"a\",\"int\",128]],\"body\":{\"w\":\"SizedBox\"}}],\"root\":{\"w\":\"use\",\"name\":\"O\"}}")
      (codes "frame" ∷ codes "tween #1 a 0 200 1000 in" ∷ codes "at 500" ∷ codes "frame" ∷ codes "states" ∷ codes "at 2000" ∷ codes "frame" ∷ codes "states" ∷ [])
      ≡ codes "frame 1\noffset 0 0\nend\nframe 2\noffset 0 0\nend\nstates\n#1 O a=50\nend\nframe 3\noffset 0 0\nend\nstates\n#1 O a=200\nend\n"
  -- one that goes slower and slower
  pub tween_out : script (codes "{\"version\":1,\"view\":[100,50],\"components\":[{\"name\":\"O\",\"fields\":[[\"a\",\"int\",128]],\"body\":{\"w\":\"SizedBox\"}}],\"root\":{\"w\":\"use\",\"name\":\"O\"}}")
      (codes "frame" ∷ codes "tween #1 a 0 200 1000 out" ∷ codes "at 500" ∷ codes "frame" ∷ codes "states" ∷ codes "at 2000" ∷ codes "frame" ∷ codes "states" ∷ [])
      ≡ codes "frame 1\noffset 0 0\nend\nframe 2\noffset 0 0\nend\nstates\n#1 O a=150\nend\nframe 3\noffset 0 0\nend\nstates\n#1 O a=200\nend\n"
  -- the focus goes round, and back
  pub focus_goes_round : script (codes "{\"version\":1,\"view\":[100,50],\"root\":{\"w\":\"Row\",\"children\":[{\"w\":\"Detector\",\"behavior\":\"opaque\",\"tap\":[],\"child\":{\"w\":\"SizedBox\",\"width\":50,\"height\":50}},{\"w\":\"Detector\",\"behavior\":\"opaque\",\"tap\":[],\"child\":{\"w\":\"SizedBox\",\"width\":50,\"height\":50}}]}}")
      (codes "frame" ∷ codes "focus next" ∷ codes "focus next" ∷ codes "focus next" ∷ codes "focus prev" ∷ codes "press" ∷ [])
      ≡ codes "frame 1\noffset 0 0\nend\nfocus #2\nfocus #4\nfocus #2\nfocus #4\ntap #4\n"
  -- a detector that goes with the focus
  pub focus_is_lost : script (codes "{\"version\":1,\"view\":[100,50],\"root\":{\"w\":\"Row\",\"children\":[{\"w\":\"Detector\",\"behavior\":\"opaque\",\"tap\":[],\"child\":{\"w\":\"SizedBox\",\"width\":50,\"height\":50}},{\"w\":\"Detector\",\"behavior\":\"opaque\",\"tap\":[],\"child\":{\"w\":\"SizedBox\",\"width\":50,\"height\":50}}]}}")
      (codes "frame" ∷ codes "focus #4" ∷ codes "focus #3" ∷ codes "root {\"w\":\"Row\",\"children\":[{\"w\":\"Detector\",\"behavior\":\"opaque\",\"tap\":[],\"child\":{\"w\":\"SizedBox\",\"width\":50,\"height\":50}}]}" ∷ codes "frame" ∷ codes "press" ∷ [])
      ≡ codes "frame 1\noffset 0 0\nend\nfocus #4\nrefused 3 24 NotFocusable\nframe 2\noffset 0 0\nend\nrefused 6 23 NoFocus\n"
  -- lines that break a form or a number
  pub bad_lines : script (codes "{\"version\":1,\"view\":[100,50],\"components\":[{\"name\":\"O\",\"fields\":[[\"a\",\"int\",128],[\"t\",\"text\",\"x\"]],\"body\":{\"w\":\"SizedBox\"}}],\"root\":{\"w\":\"use\",\"name\":\"O\"}}")
      (codes "tween #1 a 0 1 10 slow" ∷ codes "tween #x a 0 1 10 slow" ∷ codes "tween #1 a 0 1 0 in" ∷ codes "tween #1 a 0 1 10" ∷ codes "tween #1 a 0 1099511627777 10 out" ∷ codes "focus" ∷ codes "focus foo" ∷ codes "focus next 1" ∷ codes "press 1" ∷ codes "cells 1" ∷ codes "focus next" ∷ codes "press" ∷ codes "tween #1 a 0 1 10 linear" ∷ codes "focus #1" ∷ [])
      ≡ codes "refused 1 3 UnknownLine\nrefused 2 3 UnknownLine\nrefused 3 4 BadNumber\nrefused 4 3 UnknownLine\nrefused 5 4 BadNumber\nrefused 6 3 UnknownLine\nrefused 7 4 BadNumber\nrefused 8 3 UnknownLine\nrefused 9 3 UnknownLine\nrefused 10 3 UnknownLine\nfocus none\nrefused 12 23 NoFocus\nrefused 13 6 NoNode\nrefused 14 24 NotFocusable\n"
  -- a tween sets its first value at once, another one replaces it, and one of a text field is refused
  pub replaced : script (codes "{\"version\":1,\"view\":[100,50],\"components\":[{\"name\":\"O\",\"fields\":[[\"a\",\"int\",128],[\"t\",\"text\",\"x\"]],\"body\":{\"w\":\"SizedBox\"}}],\"root\":{\"w\":\"use\",\"name\":\"O\"}}")
      (codes "frame" ∷ codes "tween #1 a 10 20 10 linear" ∷ codes "states" ∷ codes "at 5" ∷ codes "frame" ∷ codes "states" ∷ codes "tween #1 a 7 8 100 out" ∷ codes "tween #1 t 0 1 10 in" ∷ codes "frame" ∷ codes "states" ∷ codes "at 105" ∷ codes "frame" ∷ codes "states" ∷ codes "at 200" ∷ codes "set #1 a 3" ∷ codes "frame" ∷ codes "states" ∷ [])
      ≡ codes "frame 1\noffset 0 0\nend\nstates\n#1 O a=10 t=\"x\"\nend\nframe 2\noffset 0 0\nend\nstates\n#1 O a=15 t=\"x\"\nend\nrefused 8 9 WrongType\nframe 3\noffset 0 0\nend\nstates\n#1 O a=7 t=\"x\"\nend\nframe 4\noffset 0 0\nend\nstates\n#1 O a=8 t=\"x\"\nend\nframe 5\noffset 0 0\nend\nstates\n#1 O a=3 t=\"x\"\nend\n"
  -- a tween whose node goes is left out and cancelled: it does not come back with the node
  pub cancelled : script (codes "{\"version\":1,\"view\":[100,50],\"components\":[{\"name\":\"O\",\"fields\":[[\"a\",\"int\",128]],\"body\":{\"w\":\"SizedBox\"}}],\"root\":{\"w\":\"use\",\"name\":\"O\"}}")
      (codes "frame" ∷ codes "tween #1 a -3 -4 10 in" ∷ codes "root {\"w\":\"SizedBox\"}" ∷ codes "at 3" ∷ codes "frame" ∷ codes "frame" ∷ codes "states" ∷ [])
      ≡ codes "frame 1\noffset 0 0\nend\nframe 2\noffset 0 0\nend\nframe 3\noffset 0 0\nend\nstates\nend\n"

pub record WorksOfCells : Type 0 where
  -- cells before a frame, all of them damaged, none, two that change, too many, and those of another view, which counts from its frame on
  pub cells_drawn : script (codes "{\"version\":1,\"view\":[1024,2048],\"components\":[{\"name\":\"O\",\"fields\":[[\"x\",\"int\",0]],\"body\":{\"w\":\"Stack\",\"children\":[{\"w\":\"Positioned\",\"left\":[\"field\",\"x\"],\"top\":0,\"width\":512,\"height\":1024,\"child\":{\"w\":\"ColoredBox\",\"color\":1}}]}}],\"root\":{\"w\":\"use\",\"name\":\"O\"}}")
      (codes "cells" ∷ codes "frame" ∷ codes "cells" ∷ codes "cells" ∷ codes "set #1 x 512" ∷ codes "frame" ∷ codes "cells" ∷ codes "resize 16777216 1048576" ∷ codes "frame" ∷ codes "cells" ∷ codes "resize 100 100" ∷ codes "cells" ∷ codes "frame" ∷ codes "cells" ∷ [])
      ≡ codes "refused 1 26 NoFrame\nframe 1\noffset 0 0\n  picture\n    rect 0 0 512 1024 00000001\nend\ncells 2 2 4\n\"  \"\n\"  \"\nend\ncells 2 2 0\n\"  \"\n\"  \"\nend\nframe 2\noffset 0 0\n  picture\n    rect 512 0 512 1024 00000001\nend\ncells 2 2 2\n\"  \"\n\"  \"\nend\nframe 3\noffset 0 0\n  picture\n    rect 512 0 512 1024 00000001\nend\nrefused 10 25 TooManyCells\nrefused 12 25 TooManyCells\nframe 4\noffset 0 0\n  picture\n    rect 512 0 512 1024 00000001\nend\ncells 1 1 1\n\" \"\nend\n"
