-- The demo's numbers, lines, input and summary, worked by hand.
use Rattle.std.specs.Prelude.{◌≡◌, ℕ, List, ◌++◌, codes}
use Rattle.frame_run.specs.Demo.{first_number, next_number, demo_line, demo_input, lines_starting, summary}

-- what is printed of one tile of a color, in the frame with this number
abbrev pub one_tile : List ℕ → List ℕ → List ℕ
one_tile number color =
    codes "frame " ++ number ++ codes "\noffset 0 0\n  clip 0 0 12800 12800\n    picture\n      rect 0 0 12800 640 " ++ color ++ codes "\nend\n"

pub record Worked : Type 0 where
  pub first : next_number (first_number 1) ≡ 149
  pub second : next_number 149 ≡ 11249
  pub wrapped : first_number 65538 ≡ 1
  pub same : next_number 65536 ≡ 65536
  pub scroll : demo_line 10 11248 ≡ codes "scroll #1 248\n"
  pub scroll_back : demo_line 10 4 ≡ codes "scroll #1 -996\n"
  pub set : demo_line 10 149 ≡ codes "set #21 n 149\n"
  pub frame : demo_line 10 2 ≡ codes "frame\n"
  pub hit : demo_line 10 12803 ≡ codes "hit 3 5\n"
  pub input : demo_input 1 1 ≡ codes "{\"version\":1,\"view\":[12800,12800],\"components\":[{\"name\":\"Tile\",\"props\":[[\"i\",\"int\"]],\"fields\":[[\"n\",\"int\",[\"prop\",\"i\"]]],\"body\":{\"w\":\"ColoredBox\",\"color\":[\"field\",\"n\"]}}],\"root\":{\"w\":\"Viewport\",\"children\":[{\"w\":\"SliverFixed\",\"extent\":640,\"children\":[{\"w\":\"each\",\"var\":\"v\",\"in\":[\"range\",1],\"body\":{\"w\":\"use\",\"name\":\"Tile\",\"key\":[\"local\",[\"var\",\"v\"]],\"props\":{\"i\":[\"var\",\"v\"]}}}]}]}}\n%%\nframe\nset #3 n 149\nframe\n"
  pub starting : lines_starting (codes "frame ") (codes "frame 1\n frame 2\nframe\nframe 3\n") ≡ 2
  pub refused : lines_starting (codes "refused ") (codes "refused 2 3 UnknownLine\nend\n") ≡ 1
  pub summary : summary 1 1 (one_tile (codes "1") (codes "00000000") ++ one_tile (codes "2") (codes "00000095")) ≡ codes "demo seed 1 size 1 lines 3 refused 0 frames 2 bytes 184\n"
