use Rattle.std.proofs.Common.{◌≡◌, ◌++◌, map, drop}
use Rattle.std.specs.Fmt.{signed_decimal}
use Rattle.session_form.specs.Values.{others_text}
use Rattle.frame_session.proofs.values.push_other_numbers.Given as goal

abbrev pub invariant-loop-n : goal.invariant-loop-n
invariant-loop-n l =
    l.out.items ++ others_text (map signed_decimal (drop l.n-index l.numbers)) ≡ l.fn.out.items ++ others_text (map signed_decimal l.numbers)
