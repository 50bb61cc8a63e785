use Rattle.std.proofs.Common.{ap, ◌∙◌}
use Rattle.fx_expr.specs.Level.{level_of}
use Rattle.fx_expr.specs.View.{exp_of}
use Rattle.fx_expr.proofs.OpenedLaws.{one_level, two_level, three_level}
use Rattle.fx_expr.proofs.sameness.parts_of.Goals as goal

pub returns-in-One-clause-level : goal.returns-in-One-clause-level
returns-in-One-clause-level c = c.with_one.ensures.level ∙ one_level c.in-One.form (exp_of c.in-One.a.now) ∙ ap level_of c.in-One.ensures.form

pub returns-in-Two-clause-level : goal.returns-in-Two-clause-level
returns-in-Two-clause-level c =
    c.with_two.ensures.level ∙ two_level c.in-Two.form (exp_of c.in-Two.a.now) (exp_of c.in-Two.b.now) ∙ ap level_of c.in-Two.ensures.form

pub returns-in-Three-clause-level : goal.returns-in-Three-clause-level
returns-in-Three-clause-level c =
    c.with_three.ensures.level ∙ three_level c.in-Three.form (exp_of c.in-Three.a.now) (exp_of c.in-Three.b.now) (exp_of c.in-Three.c.now)
    ∙ ap level_of c.in-Three.ensures.form
