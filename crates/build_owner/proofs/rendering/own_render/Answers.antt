use Rattle.std.proofs.Common.{◌≡◌, rules, arith, true, false, not, Some, is_some, option_map, sym, ap, ◌∙◌, true≢false, IfSome, subst}
use Rattle.widget_model.specs.Plain.{look_of}
use Rattle.widget_model.specs.View.{shared}
use Rattle.plain_tree.specs.RenderRole.{render_role_of, vanishes}
use Rattle.element_tree.specs.Element.{number_at}
use Rattle.render_tree.specs.Edits.{new_object}
use Rattle.render_tree.specs.Tree.{object_at}
use Rattle.build_owner.specs.Entry.{IsTypedElement}
use Rattle.build_owner.specs.WalkView.{plain_arrival}
use Rattle.build_owner.proofs.Drawn.{nothing_drawn, not_true, not_false, is_there, isnt_there, live_number, drawn_new, drawn_kept}
use Rattle.build_owner.proofs.Makings.{makes_nothing, makes_one, number_is}
use Rattle.build_owner.proofs.rendering.own_render.Goals as goal

pub returns-then-not-is_drawn-clause-drawn : goal.returns-then-not-is_drawn-clause-drawn
returns-then-not-is_drawn-clause-drawn c = λ f from defaults olds s was g e since o same number render.
    let w = shared c.args.arrival.now.widget in
    let gone : not (vanishes (render_role_of (look_of w))) ≡ false = search rules in
    nothing_drawn e w same (object_at c.args.r.now.tree) (f.scrolled e.number) (not_false (vanishes (render_role_of (look_of w))) gone)

pub returns-then-not-is_drawn-clause-makes : goal.returns-then-not-is_drawn-clause-makes
returns-then-not-is_drawn-clause-makes c = λ low made. makes_nothing c.args.r.now.tree made.grows

pub returns-then-is_some-clause-makes : goal.returns-then-is_some-clause-makes
returns-then-is_some-clause-makes c = λ low made. makes_nothing c.args.r.now.tree made.grows

pub returns-then-is_some-clause-unseen : goal.returns-then-is_some-clause-unseen
returns-then-is_some-clause-unseen c = λ gone.
    let w = shared c.args.arrival.now.widget in
    let there : not (vanishes (render_role_of (look_of w))) ≡ true = search rules in
    absurd (true≢false (sym gone ∙ not_true (vanishes (render_role_of (look_of w))) there))

pub returns-then-is_some-clause-drawn : goal.returns-then-is_some-clause-drawn
returns-then-is_some-clause-drawn c = λ f from defaults olds s was g e since o same number render.
    let w = shared c.args.arrival.now.widget in
    let there : is_some c.args.owned.now.partner ≡ true = search rules in
    let h = is_there c.args.owned.now.partner there in
    let typed = subst (λ x. IfSome x (λ k. (k ≡ c.args.owned.now.at) × IsTypedElement c.requires.element.0 c.args.t.now.tree k)) h.1 c.requires.element.1.partner in
    drawn_kept f from olds (plain_arrival f c.args.arrival.now) s c.args.t.now.tree g c.args.owned.now o e same number
    c.kept_elements_are_known.ensures.drawn c.kept_elements_are_known.ensures.live c.types_draw_alike.ensures.vanish c.types_draw_alike.ensures.scroll
    c.args.r.now.tree (λ k x. c.keep_laws.ensures.value f.renders c.args.r.now.tree k x since.renders) since.elements h.0 h.1 typed.0 (render ∙ c.render.ensures)

pub unreachable-requires : goal.unreachable-requires
unreachable-requires c = live_number c.args.t.now.tree c.args.owned.now.at c.requires.element.1.live (sym c.in_default.is ∙ c.number.ensures)

pub returns-in-Ok-clause-unseen : goal.returns-in-Ok-clause-unseen
returns-in-Ok-clause-unseen c = λ gone.
    let w = shared c.args.arrival.now.widget in
    let there : not (vanishes (render_role_of (look_of w))) ≡ true = search rules in
    absurd (true≢false (sym gone ∙ not_true (vanishes (render_role_of (look_of w))) there))

pub returns-in-Ok-clause-drawn : goal.returns-in-Ok-clause-drawn
returns-in-Ok-clause-drawn c = λ f from defaults olds s was g e since o same number render.
    let w = shared c.args.arrival.now.widget in
    let gone : is_some c.args.owned.now.partner ≡ false = search rules in
    let has : Some c.in-Some.number ≡ number_at c.args.t.now.tree c.args.owned.now.at = sym c.in-Some.is ∙ c.number.ensures in
    let stored : object_at c.insert_loose.new.self.tree c.in-Ok.k ≡ Some (new_object c.in-Some.number w) = ap (option_map (λ n. n.value)) c.in-Ok.ensures.inserted.adds.found in
    drawn_new f from olds (plain_arrival f c.args.arrival.now) s c.args.t.now.tree g c.args.owned.now o e same number c.insert_loose.new.self.tree c.in-Ok.k c.in-Some.number
    (isnt_there c.args.owned.now.partner gone) has stored render

pub returns-in-Ok-clause-keeps : goal.returns-in-Ok-clause-keeps
returns-in-Ok-clause-keeps c = c.keep_laws.ensures.loose c.args.r.now.tree c.insert_loose.new.self.tree c.in-Ok.k _ c.in-Ok.ensures.inserted.adds

pub returns-in-Ok-clause-makes : goal.returns-in-Ok-clause-makes
returns-in-Ok-clause-makes c = λ low made.
    let gone : is_some c.args.owned.now.partner ≡ false = search rules in
    let new = made.new (isnt_there c.args.owned.now.partner gone) in
    let has : Some c.in-Some.number ≡ number_at c.args.t.now.tree c.args.owned.now.at = sym c.in-Some.is ∙ c.number.ensures in
    let is = number_is c.in-Some.number _ (has ∙ new.0) in
    makes_one c.args.r.now.tree c.insert_loose.new.self.tree c.in-Ok.k c.in-Some.number (shared c.args.arrival.now.widget) c.in-Ok.ensures.inserted.adds c.in-Ok.ensures.inserted.root
    (omega (arith, is, new.1)) (omega (arith, is))

pub returns-in-Ok-clause-room : goal.returns-in-Ok-clause-room
returns-in-Ok-clause-room c =
    let used = c.in-Ok.ensures.inserted.adds.used in
    let retired = c.in-Ok.ensures.inserted.adds.retired in
    omega (arith, used, retired)
