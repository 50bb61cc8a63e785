use Rattle.std.proofs.Common.{sym, ◌∙◌}
use Rattle.layout_walk.specs.Rules.{parts_of}
use Rattle.layout_walk.proofs.Extents.{all_extents}
use Rattle.layout_walk.proofs.Measuring.{all_ready, ready_same, views_laid}
use Rattle.layout_walk.proofs.Viewing.{extents_same}
use Rattle.layout_walk.proofs.laws.slivers_are_measured.Goals as goal

pub returns-clause-same : goal.returns-clause-same
returns-clause-same c = λ s back axis cross f g only all m.
    (ready_same (parts_of s) back axis cross f g (all_ready s (c.rules_are_lawful.ensures s) back only axis cross f g all m)).0

pub returns-clause-here : goal.returns-clause-here
returns-clause-here c = λ s back axis cross f g only all m.
    (ready_same (parts_of s) back axis cross f g (all_ready s (c.rules_are_lawful.ensures s) back only axis cross f g all m)).1

pub returns-clause-extents : goal.returns-clause-extents
returns-clause-extents c = λ s back axis cross f g only all m.
    all_extents s (c.rules_are_lawful.ensures s) back axis cross f g all m
    ∙ sym (extents_same (parts_of s) (c.rules_are_lawful.ensures s) axis cross f g
    (ready_same (parts_of s) back axis cross f g (all_ready s (c.rules_are_lawful.ensures s) back only axis cross f g all m)).0)

pub returns-clause-laid : goal.returns-clause-laid
returns-clause-laid c = λ s back axis cross asks f g k only all m views round.
    views_laid (parts_of s) (c.rules_are_lawful.ensures s) back axis cross asks f g k views (all_ready s (c.rules_are_lawful.ensures s) back only axis cross f g all m) round
