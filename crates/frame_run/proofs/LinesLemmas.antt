-- Lines of bytes that come one after the other.
use Rattle.std.proofs.Common.{◌≡◌, ℕ, true, false, ◌==◌, List, [], ◌∷◌, ◌++◌, refl, ap, sym, ◌∙◌, append_assoc}
use Rattle.frame_run.specs.Lines.{ended_lines, last_line}
use Rattle.frame_run.specs.Text.{At, stopped, after_line, line_text, after_lines, lines_text}
use Rattle.frame_run.specs.declared.stage.RunStop.{RunStop}

pub after_lines-append : (at : At) (a b : List (List ℕ)) → after_lines at (a ++ b) ≡ after_lines (after_lines at a) b
after_lines-append at [] b = refl
after_lines-append at (line ∷ a) b = after_lines-append (after_line at line) a b

pub lines_text-append : (at : At) (a b : List (List ℕ)) → lines_text at (a ++ b) ≡ lines_text at a ++ lines_text (after_lines at a) b
lines_text-append at [] b = refl
lines_text-append at (line ∷ a) b =
    ap (λ t. line_text at line ++ t) (lines_text-append (after_line at line) a b)
    ∙ sym (append_assoc (line_text at line) (lines_text (after_line at line) a) (lines_text (after_lines (after_line at line) a) b))

pub ended_lines-append : (start a b : List ℕ) → ended_lines start (a ++ b) ≡ ended_lines start a ++ ended_lines (last_line start a) b
ended_lines-append start [] b = refl
ended_lines-append start (x ∷ xs) b =
    elim (x == 10) as (λ v. (elim v [ true ↦ start ∷ ended_lines [] (xs ++ b) | false ↦ ended_lines (start ++ x ∷ []) (xs ++ b) ])
    ≡ (elim v [ true ↦ start ∷ ended_lines [] xs | false ↦ ended_lines (start ++ x ∷ []) xs ])
    ++ ended_lines (elim v [ true ↦ last_line [] xs | false ↦ last_line (start ++ x ∷ []) xs ]) b)
    [ true ↦ ap (λ t. start ∷ t) (ended_lines-append [] xs b) | false ↦ ended_lines-append (start ++ x ∷ []) xs b ]

pub last_line-append : (start a b : List ℕ) → last_line start (a ++ b) ≡ last_line (last_line start a) b
last_line-append start [] b = refl
last_line-append start (x ∷ xs) b =
    elim (x == 10) as (λ v. (elim v [ true ↦ last_line [] (xs ++ b) | false ↦ last_line (start ++ x ∷ []) (xs ++ b) ])
    ≡ last_line (elim v [ true ↦ last_line [] xs | false ↦ last_line (start ++ x ∷ []) xs ]) b)
    [ true ↦ last_line-append [] xs b | false ↦ last_line-append (start ++ x ∷ []) xs b ]

-- a stopped run stays so, and prints nothing
pub after_lines-stopped : (stop : RunStop) (lines : List (List ℕ)) → after_lines (stopped stop) lines ≡ stopped stop
after_lines-stopped stop [] = refl
after_lines-stopped stop (line ∷ lines) = after_lines-stopped stop lines

pub lines_text-stopped : (stop : RunStop) (lines : List (List ℕ)) → lines_text (stopped stop) lines ≡ []
lines_text-stopped stop [] = refl
lines_text-stopped stop (line ∷ lines) = lines_text-stopped stop lines

-- the lines of some bytes and then those of more
pub after_more : (at : At) (raw a b : List ℕ)
    → after_lines at (ended_lines raw (a ++ b)) ≡ after_lines (after_lines at (ended_lines raw a)) (ended_lines (last_line raw a) b)
after_more at raw a b = ap (after_lines at) (ended_lines-append raw a b) ∙ after_lines-append at (ended_lines raw a) (ended_lines (last_line raw a) b)

pub text_more : (at : At) (raw a b : List ℕ) → lines_text at (ended_lines raw (a ++ b))
    ≡ lines_text at (ended_lines raw a) ++ lines_text (after_lines at (ended_lines raw a)) (ended_lines (last_line raw a) b)
text_more at raw a b = ap (lines_text at) (ended_lines-append raw a b) ∙ lines_text-append at (ended_lines raw a) (ended_lines (last_line raw a) b)
