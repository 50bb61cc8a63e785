-- Characters of ASCII.
use Rattle.std.proofs.Common.{◌≡◌, ℕ, ◌<◌, false, List, [], ◌∷◌, length, slice_index, ap, ◌∙◌, arith}
use Rattle.std.specs.Str.{chars}
use Rattle.std.proofs.lemmas.Bool.Decides.{nat_tests}
use Rattle.std.proofs.lemmas.Str.{chars-IsAscii}
use Rattle.std.proofs.lemmas.Str.Ascii.{IsAscii-nil, IsAscii-cons}
use Rattle.unicode_width.specs.Width.{past_emoji, step, str_width}

-- each character of ASCII takes one cell
width_one : (b : ℕ) → b < 128 → str_width false (b ∷ []) ≡ 1
unfolding str_width step past_emoji
width_one b small = grind (arith, nat_tests)

pub width_of_one : (s : List ℕ) → length s ≡ 1 → slice_index s 0 < 128 → str_width false (chars s) ≡ 1
width_of_one [] one small = absurd (omega arith)
width_of_one (b ∷ []) one small = ap (str_width false) (chars-IsAscii (b ∷ []) (IsAscii-cons b [] small IsAscii-nil)) ∙ width_one b small
width_of_one (b ∷ c ∷ s) one small = absurd (omega arith)
