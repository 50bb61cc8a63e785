use Rattle.template_build.proofs.WidgetLemmas.{pushed, pushed_sizes}
use Rattle.template_build.proofs.build.add_made.Goals as goal

pub returns-clause-widgets : goal.returns-clause-widgets
returns-clause-widgets c =
    pushed c.args.into.now.items c.push.new.self.items c.in_ok-new.field-0 c.in_ok-widget.widget _ c.in_ok-push.ensures.items c.in_ok-new.ensures.ok c.in_ok-widget.ensures.widget

pub returns-clause-sizes : goal.returns-clause-sizes
returns-clause-sizes c =
    pushed_sizes c.args.into.now.items c.push.new.self.items c.in_ok-new.field-0 c.in_ok-widget.widget c.in_ok-push.ensures.items c.in_ok-new.ensures.ok c.requires.into c.in_ok-widget.ensures.size
