use Rattle.std.proofs.Common.{◌≡◌, ap, not, subst, sym, ◌∙◌, Option}
use Rattle.fx_geom.specs.declared.shapes.Offset.{Offset}
use Rattle.render_tree.specs.Tree.{object_at}
use Rattle.layout_rules.specs.Painting.{place_in}
use Rattle.layout_rules.specs.Reads.{state_at, put_at}
use Rattle.std.proofs.lemmas.Bool.{false≢true}
use Rattle.layout_rules.proofs.Repainting.{not_true, not_false, still_none, moved_none, still_some, moved_unseen, moved_away}
use Rattle.layout_rules.proofs.Stored.{shown_is, offset_is}
use Rattle.layout_rules.proofs.writing.moves.Goals as goal

pub returns-in-None-clause-still : goal.returns-in-None-clause-still
returns-in-None-clause-still c = λ e.
    let t = c.args.r.now.tree in
    let h = c.args.h in
    let u = state_at t h in
    let shown = c.shown-shown.ensures ∙ shown_is (object_at t h) in
    subst (λ (o : Option Offset). place_in (put_at o u) ≡ place_in u) (sym c.in-None.is) (still_none u (sym shown ∙ e))

pub returns-in-None-clause-moved : goal.returns-in-None-clause-moved
returns-in-None-clause-moved c = λ e same.
    let t = c.args.r.now.tree in
    let h = c.args.h in
    let u = state_at t h in
    let shown = c.shown-shown.ensures ∙ shown_is (object_at t h) in
    moved_none u (sym shown ∙ e) (subst (λ (o : Option Offset). place_in (put_at o u) ≡ place_in u) c.in-None.is same)

pub returns-then-not-shown-clause-still : goal.returns-then-not-shown-clause-still
returns-then-not-shown-clause-still c = λ e. absurd (false≢true (sym e ∙ ap not c.if-not-shown.true))

pub returns-then-not-shown-clause-moved : goal.returns-then-not-shown-clause-moved
returns-then-not-shown-clause-moved c = λ e same.
    let t = c.args.r.now.tree in
    let h = c.args.h in
    let u = state_at t h in
    let shown = c.shown-shown.ensures ∙ shown_is (object_at t h) in
    moved_unseen c.in-Some.place u (sym shown ∙ not_true c.shown-shown.result e) (subst (λ (o : Option Offset). place_in (put_at o u) ≡ place_in u) c.in-Some.is same)

pub returns-else-not-shown-clause-still : goal.returns-else-not-shown-clause-still
returns-else-not-shown-clause-still c = λ e.
    let t = c.args.r.now.tree in
    let h = c.args.h in
    let u = state_at t h in
    let shown = c.shown-shown.ensures ∙ shown_is (object_at t h) in
    subst (λ (o : Option Offset). place_in (put_at o u) ≡ place_in u) (sym c.in-Some.is)
    (still_some c.in-Some.place u (sym shown ∙ c.if-not-shown.false) (sym (c.offset.ensures ∙ offset_is (object_at t h)) ∙ c.is_there.ensures.0 (not_false c.is_there.result e)))

pub returns-else-not-shown-clause-moved : goal.returns-else-not-shown-clause-moved
returns-else-not-shown-clause-moved c = λ e same.
    let t = c.args.r.now.tree in
    let h = c.args.h in
    let u = state_at t h in
    let shown = c.shown-shown.ensures ∙ shown_is (object_at t h) in
    moved_away c.in-Some.place u (λ is. false≢true (sym (not_true c.is_there.result e) ∙ c.is_there.ensures.1 (c.offset.ensures ∙ offset_is (object_at t h) ∙ is)))
    (subst (λ (o : Option Offset). place_in (put_at o u) ≡ place_in u) c.in-Some.is same)
