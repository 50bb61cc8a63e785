-- The line of a note.
use Rattle.std.proofs.Common.{◌≡◌, ◌∙◌, ℕ, Result, Ok, Err, OnOk, is_ok, if◌then◌else◌, List, ◌++◌, codes, sym, ap, append_assoc}
use Rattle.screen_form.specs.declared.remarks.Note.{Note}
use Rattle.screen_form.specs.declared.remarks.Remark.TheVariants.{Unbounded}
use Rattle.session_form.specs.EventText.{node_text}
use Rattle.session_form.specs.FrameText.{remark_text, note_text}

-- one without a number
pub note_plain : {A E : Type 0} (r : Result A E) (note : Note) (out named at new : List ℕ) → named ≡ out ++ codes "note" → at ≡ named ++ node_text note.node
    → note.remark ≡ Unbounded → new ≡ (if is_ok r then at ++ codes " unbounded\n" else at) → OnOk r (new ≡ out ++ note_text note)
note_plain (Ok x) note out named at new first second is last =
    let node = node_text note.node in
    last ∙ ap (λ l. l ++ codes " unbounded\n") (second ∙ ap (λ l. l ++ node) first)
    ∙ append_assoc (out ++ codes "note") node (codes " unbounded\n") ∙ append_assoc out (codes "note") (node ++ codes " unbounded\n")
    ∙ ap (λ r. out ++ (codes "note" ++ (node ++ remark_text r))) (sym is)
note_plain (Err e) note out named at new first second is last = tt
