use Rattle.std.proofs.Common.{Some, None, ap, arith, ◌∙◌}
use Rattle.std.proofs.lemmas.Str.Pattern.{split_parts}
use Rattle.script_lines.specs.Words.{words_of}
use Rattle.script_lines.proofs.WordsLemmas.{split_lacks, split_at}
use Rattle.script_lines.proofs.words.cut.Goals as goal

pub returns-in-Some-clause-words : goal.returns-in-Some-clause-words
returns-in-Some-clause-words c =
    let parts = split_parts 32 c.args.text.now (Some (c.in-Some.word, c.in-Some.rest)) c.in-Some.ensures.cases (omega arith) in
    ap words_of parts.0 ∙ split_at 32 c.in-Some.word.now c.in-Some.rest.now parts.1

pub returns-in-None-clause-words : goal.returns-in-None-clause-words
returns-in-None-clause-words c =
    split_lacks 32 c.args.text.now (split_parts 32 c.args.text.now None c.in-None.ensures.cases (omega arith))
