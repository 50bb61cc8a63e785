use Rattle.std.proofs.Common.{◌≡◌, ◌++◌, map, drop}
use Rattle.draw_records.specs.Quoted.{quoted}
use Rattle.session_form.specs.Values.{others_text}
use Rattle.frame_session.proofs.values.push_other_texts.Given as goal

abbrev pub invariant-loop-text : goal.invariant-loop-text
invariant-loop-text l =
    l.out.items ++ others_text (map quoted (drop l.text-index l.texts)) ≡ l.fn.out.items ++ others_text (map quoted l.texts)
