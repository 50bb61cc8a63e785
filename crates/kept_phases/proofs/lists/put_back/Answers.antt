use Rattle.std.proofs.Common.{sym, ap, ◌∙◌, Some}
use Rattle.render_tree.specs.Tree.{object_at}
use Rattle.kept_phases.proofs.Offsets.{but_nothing, pending_out, no_viewport, scrolled_so, found_viewport, put_others, put_pending}
use Rattle.kept_phases.proofs.Puts.{puts_nothing, puts_one}
use Rattle.kept_phases.proofs.lists.put_back.Goals as goal

pub returns-in_default-clause-pending : goal.returns-in_default-clause-pending
returns-in_default-clause-pending c = λ wanted hs is p.
    let t = c.args.r.now.tree in
    pending_out wanted c.args.h hs t (λ o at view. absurd (no_viewport (object_at t c.args.h) o at (sym c.scroll.ensures ∙ c.in_default.is) view)) p

pub returns-in_default-clause-others : goal.returns-in_default-clause-others
returns-in_default-clause-others c = but_nothing c.args.r.now.tree

pub returns-then-now-scroll-clause-pending : goal.returns-then-now-scroll-clause-pending
returns-then-now-scroll-clause-pending c = λ wanted hs is p.
    let t = c.args.r.now.tree in
    pending_out wanted c.args.h hs t
    (λ o at view. scrolled_so (object_at t c.args.h) o c.args.scroll at (sym c.scroll.ensures ∙ (c.in-Some.is ∙ ap (λ n. Some n) c.if-now-scroll.true)) view ∙ sym is) p

pub returns-then-now-scroll-clause-others : goal.returns-then-now-scroll-clause-others
returns-then-now-scroll-clause-others c = but_nothing c.args.r.now.tree

pub returns-clause-others : goal.returns-clause-others
returns-clause-others c =
    let t = c.args.r.now.tree in
    let v = found_viewport (object_at t c.args.h) c.in-Some.now (sym c.scroll.ensures ∙ c.in-Some.is) in
    put_others t c.set_scroll.new.self.tree c.mark_layouts.new.self.tree c.args.h v.0 c.args.scroll v.1 (c.set_scroll.ensures.window v.0 v.1 v.2) c.mark_layouts.ensures.sets

pub returns-clause-pending : goal.returns-clause-pending
returns-clause-pending c = λ wanted hs is p.
    let t = c.args.r.now.tree in
    let v = found_viewport (object_at t c.args.h) c.in-Some.now (sym c.scroll.ensures ∙ c.in-Some.is) in
    put_pending t c.set_scroll.new.self.tree c.mark_layouts.new.self.tree c.args.h v.0 c.args.scroll v.1 (c.set_scroll.ensures.window v.0 v.1 v.2) c.mark_layouts.ensures.sets wanted hs is p

pub returns-clause-layouts : goal.returns-clause-layouts
returns-clause-layouts c = λ s keeps.
    let t = c.args.r.now.tree in
    let v = found_viewport (object_at t c.args.h) c.in-Some.now (sym c.scroll.ensures ∙ c.in-Some.is) in
    c.scrolls_keep_layouts.ensures s t c.set_scroll.new.self.tree c.mark_layouts.new.self.tree c.args.h v.0 c.args.scroll c.root.ensures.tree keeps v.1 (c.set_scroll.ensures.window v.0 v.1 v.2)
    c.mark_layouts.ensures.sets

pub returns-clause-layers : goal.returns-clause-layers
returns-clause-layers c = λ cell delegates o keeps.
    let t = c.args.r.now.tree in
    let v = found_viewport (object_at t c.args.h) c.in-Some.now (sym c.scroll.ensures ∙ c.in-Some.is) in
    c.scrolls_keep_layers.ensures cell delegates o t c.set_scroll.new.self.tree c.mark_layouts.new.self.tree c.args.h v.0 c.args.scroll c.root.ensures.tree v.1 (c.set_scroll.ensures.window v.0 v.1 v.2)
    c.mark_layouts.ensures.sets keeps

pub returns-in_default-clause-puts : goal.returns-in_default-clause-puts
returns-in_default-clause-puts c = λ wanted is. puts_nothing c.render_marks_are_marks.ensures.layout wanted c.args.r.now.tree

pub returns-then-now-scroll-clause-puts : goal.returns-then-now-scroll-clause-puts
returns-then-now-scroll-clause-puts c = λ wanted is. puts_nothing c.render_marks_are_marks.ensures.layout wanted c.args.r.now.tree

pub returns-clause-puts : goal.returns-clause-puts
returns-clause-puts c = λ wanted is.
    let t = c.args.r.now.tree in
    let v = found_viewport (object_at t c.args.h) c.in-Some.now (sym c.scroll.ensures ∙ c.in-Some.is) in
    puts_one t c.set_scroll.new.self.tree c.mark_layouts.new.self.tree c.args.h v.0 c.args.scroll v.1 (c.set_scroll.ensures.window v.0 v.1 v.2) c.mark_layouts.ensures.sets wanted is
    (λ same. c.if-now-scroll.false (sym (scrolled_so (object_at t c.args.h) v.0 c.in-Some.now v.1 (sym c.scroll.ensures ∙ c.in-Some.is) v.2) ∙ same))
