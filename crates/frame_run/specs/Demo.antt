-- The input that mode `demo` makes of a seed and a size, and the line that it writes.
use Rattle.std.specs.Prelude.{ℕ, zero, suc, ◌+◌, ◌*◌, ◌%◌, pos, ◌-ℤ◌, ◌==◌, nat_eq, List, [], ◌∷◌, ◌++◌, length, codes, if◌then◌else◌}
use Rattle.std.specs.Fmt.{decimal, signed_decimal}
use Rattle.std.specs.List.{starts_with}
use Rattle.frame_run.specs.Lines.{ended_lines}

-- x_0 of a seed, and each number after the one before
abbrev pub first_number : ℕ → ℕ
first_number seed = seed % 65537

abbrev pub next_number : ℕ → ℕ
next_number x = (75 * x + 74) % 65537

-- the four forms of a script line: `scroll #1 D`, `set #T n x`, `frame` and `hit X 5`
abbrev pub scroll_line : ℕ → List ℕ
scroll_line x = codes "scroll #1 " ++ (signed_decimal (pos (x % 2000) -ℤ pos 1000) ++ codes "\n")

abbrev pub set_line : ℕ → ℕ → List ℕ
set_line size x = codes "set #" ++ (decimal (3 + 2 * (x % size)) ++ (codes " n " ++ (decimal x ++ codes "\n")))

abbrev pub hit_line : ℕ → List ℕ
hit_line x = codes "hit " ++ (decimal (x % 12800) ++ codes " 5\n")

-- the script line by a number
abbrev pub demo_line : ℕ → ℕ → List ℕ
demo_line size x =
    if x % 4 == 0 then scroll_line x
    else if x % 4 == 1 then set_line size x
    else if x % 4 == 2 then codes "frame\n"
    else hit_line x

-- so many script lines, the first by x and each other one by the number after
abbrev pub demo_lines : ℕ → ℕ → ℕ → List ℕ
demo_lines zero size x = []
demo_lines (suc count) size x = demo_line size x ++ demo_lines count size (next_number x)

-- the line of the program, a viewport of as many tiles as the size says: what stands before the size, what stands after it, and
-- the whole
unfoldable pub program_front : List ℕ
program_front =
    codes "{\"version\":1,\"view\":[12800,12800],\"components\":[{\"name\":\"Tile\",\"props\":[[\"i\",\"int\"]],\"fields\":[[\"n\",\"int\",[\"prop\",\"i\"]]],\"body\":{\"w\":\"ColoredBox\",\"color\":[\"field\",\"n\"]}}],\"root\":{\"w\":\"Viewport\",\"children\":[{\"w\":\"SliverFixed\",\"extent\":640,\"children\":[{\"w\":\"each\",\"var\":\"v\",\"in\":[\"range\","

unfoldable pub program_back : List ℕ
program_back = codes "],\"body\":{\"w\":\"use\",\"name\":\"Tile\",\"key\":[\"local\",[\"var\",\"v\"]],\"props\":{\"i\":[\"var\",\"v\"]}}}]}]}}\n"

abbrev pub demo_program : ℕ → List ℕ
demo_program size = program_front ++ (decimal size ++ program_back)

-- the input of a seed and a size: the program, `%%`, and between two lines `frame` as many script lines as the size says, the
-- first by x_1
unfoldable pub demo_input : ℕ → ℕ → List ℕ
demo_input seed size =
    demo_program size ++ (codes "%%\nframe\n" ++ (demo_lines size size (next_number (first_number seed)) ++ codes "frame\n"))

-- how many lines start with a word
abbrev pub count_starting : List ℕ → List (List ℕ) → ℕ
count_starting word [] = 0
count_starting word (line ∷ lines) = (if starts_with nat_eq line word then 1 else 0) + count_starting word lines

-- how many lines of a text start with a word
unfoldable pub lines_starting : List ℕ → List ℕ → ℕ
lines_starting word text = count_starting word (ended_lines [] text)

-- the first half of the line that is written, `demo seed S size N lines L`, and its other half, ` refused R frames F bytes B`
abbrev pub made_text : ℕ → ℕ → ℕ → List ℕ
made_text seed size lines = codes "demo seed " ++ (decimal seed ++ (codes " size " ++ (decimal size ++ (codes " lines " ++ decimal lines))))

abbrev pub found_text : ℕ → ℕ → ℕ → List ℕ
found_text refused frames bytes =
    codes " refused " ++ (decimal refused ++ (codes " frames " ++ (decimal frames ++ (codes " bytes " ++ (decimal bytes ++ codes "\n")))))

-- the line that is written: the seed and the size, how many script lines there are, how many of them the job's text says are
-- refused, how many frames it shows, and how many bytes it has
unfoldable pub summary : ℕ → ℕ → List ℕ → List ℕ
summary seed size text =
    made_text seed size (size + 2)
    ++ found_text (lines_starting (codes "refused ") text) (lines_starting (codes "frame ") text) (length text)
