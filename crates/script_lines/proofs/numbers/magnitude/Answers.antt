use Rattle.std.proofs.Common.{◌∙◌, sym}
use Rattle.script_lines.proofs.NumbersLemmas.{numeral_parses}
use Rattle.script_lines.proofs.numbers.magnitude.Goals as goal

pub returns : goal.returns
returns c =
    c.ok.ensures.value
    ∙ numeral_parses c.args.digits.now c.parse.result c.parse.ensures.value.0 (sym c.is_numeral.ensures ∙ c.if-not-is_numeral.false)
