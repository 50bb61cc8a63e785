use Rattle.std.proofs.Common.{sym, ◌∙◌}
use Rattle.program_read.proofs.ObjectLemmas.{knows_w, knows_key, knows_member}
use Rattle.program_read.proofs.parts.knows.Goals as goal

pub returns-then-is_w : goal.returns-then-is_w
returns-then-is_w c = sym (knows_w c.args.kind c.args.name.now (sym c.is_w.ensures ∙ c.if-is_w.true))

pub returns-then-is_key : goal.returns-then-is_key
returns-then-is_key c =
    sym (knows_key c.args.kind c.args.name.now (sym c.is_w.ensures ∙ c.if-is_w.false) (sym c.is_key.ensures ∙ c.if-is_key.true))

pub returns : goal.returns
returns c =
    c.is_member.ensures
    ∙ sym (knows_member c.args.kind c.args.name.now (sym c.is_w.ensures ∙ c.if-is_w.false) (sym c.is_key.ensures ∙ c.if-is_key.false))
