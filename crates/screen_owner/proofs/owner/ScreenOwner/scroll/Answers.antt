use Rattle.std.proofs.Common.{◌≡◌, inl, inr, option_map, true, [], ◌∷◌, refl, sym, ap, subst, ◌∙◌}
use Rattle.layout_form.specs.Object.{setting_of}
use Rattle.fx_handles.specs.ArenaLaws.{same_Some}
use Rattle.layout_form.specs.Corrected.{renders_scrolled_by}
use Rattle.render_tree.specs.Edits.{with_scroll}
use Rattle.render_tree.specs.Plain.{renders_of, root_tree}
use Rattle.screen_owner.specs.Last.{only_at}
use Rattle.render_tree.specs.Object.{RenderObject}
use Rattle.screen_owner.specs.Changes.{Scrolls, MarksScrolled}
use Rattle.screen_owner.specs.Screen.{KeptScreen, IsRight, shown_in}
use Rattle.screen_owner.specs.Standing.{StandsAlone}
use Rattle.screen_owner.proofs.Indexing.{layouts_built, same_numbers, number_written, scrolls_none, scrolls_other, scrolls_write}
use Rattle.screen_owner.proofs.Owning.{ready_from, alone_from, right_by, view_there, stands_same, layouts_shown, writes_shown, none_is}
use Rattle.screen_owner.proofs.Rescrolling.{renders_missing, renders_other, renders_written}
use Rattle.screen_owner.proofs.owner.ScreenOwner.scroll.Goals as goal

pub returns-in_default-clause-nodes : goal.returns-in_default-clause-nodes
returns-in_default-clause-nodes c = λ spent.
    let t = c.self.inside.tree.tree in
    let ready = ready_from c.self.inside.spent c.self.inside.numbers t c.self.invariant (ap (λ (x : KeptScreen). x.spent) c.self.view_is ∙ spent) in
    subst (λ (x : KeptScreen). Scrolls c.args.number c.args.scroll x.nodes x.nodes) c.self.view_is
    (scrolls_none c.self.inside.numbers t ready.numbering c.args.number c.args.scroll (sym c.find.ensures ∙ c.in_default.is))

pub returns-then-is_none-clause-nodes : goal.returns-then-is_none-clause-nodes
returns-then-is_none-clause-nodes c = λ spent.
    let t = c.self.inside.tree.tree in
    let ready = ready_from c.self.inside.spent c.self.inside.numbers t c.self.invariant (ap (λ (x : KeptScreen). x.spent) c.self.view_is ∙ spent) in
    subst (λ (x : KeptScreen). Scrolls c.args.number c.args.scroll x.nodes x.nodes) c.self.view_is
    (scrolls_other c.self.inside.numbers t ready.numbering c.args.number c.args.scroll c.in-Some.h (sym c.find.ensures ∙ c.in-Some.is) (sym c.scroll.ensures ∙ none_is c.scroll.result c.if-is_none.ensures))

pub invariant_of-self : goal.invariant_of-self
invariant_of-self c =
    let t = c.self.inside.tree.tree in
    let mid = c.set_scroll.new.self.tree in
    let now = c.mark_layouts.new.self.tree in
    let view = view_there t c.in-Some.h c.scroll.result c.scroll.ensures c.if-is_none.ensures in
    let writes = c.set_scroll.ensures.window view.0 view.1 view.2 in
    let sets = c.mark_layouts.ensures.sets in
    stands_same c.self.inside.spent c.self.inside.numbers t now
    (λ k. same_numbers mid now (layouts_built true (c.in-Some.h ∷ []) mid now sets) k ∙ number_written t mid c.in-Some.h view.0 c.args.scroll view.1 writes k)
    (sets.inactive ∙ writes.inactive) c.self.invariant

pub returns-clause-nodes : goal.returns-clause-nodes
returns-clause-nodes c = λ spent.
    let t = c.self.inside.tree.tree in
    let mid = c.set_scroll.new.self.tree in
    let now = c.mark_layouts.new.self.tree in
    let ready = ready_from c.self.inside.spent c.self.inside.numbers t c.self.invariant (ap (λ (x : KeptScreen). x.spent) c.self.view_is ∙ spent) in
    let view = view_there t c.in-Some.h c.scroll.result c.scroll.ensures c.if-is_none.ensures in
    subst (λ (x : KeptScreen). Scrolls c.args.number c.args.scroll x.nodes now) c.self.view_is
    (scrolls_write c.self.inside.numbers t ready.numbering c.args.number c.args.scroll mid now c.in-Some.h view.0 (sym c.find.ensures ∙ c.in-Some.is) view.1 view.2
    (c.set_scroll.ensures.window view.0 view.1 view.2) (layouts_built true (c.in-Some.h ∷ []) mid now c.mark_layouts.ensures.sets))

pub returns-clause-shown : goal.returns-clause-shown
returns-clause-shown c = λ spent.
    let t = c.self.inside.tree.tree in
    let mid = c.set_scroll.new.self.tree in
    let now = c.mark_layouts.new.self.tree in
    let ready = ready_from c.self.inside.spent c.self.inside.numbers t c.self.invariant (ap (λ (x : KeptScreen). x.spent) c.self.view_is ∙ spent) in
    let view = view_there t c.in-Some.h c.scroll.result c.scroll.ensures c.if-is_none.ensures in
    let writes = c.set_scroll.ensures.window view.0 view.1 view.2 in
    let is = c.root.ensures.tree in
    layouts_shown mid now (writes.inactive ∙ ready.alone) (_, writes.plain is.0 is.1) true (c.in-Some.h ∷ []) c.mark_layouts.ensures.sets
    ∙ (writes_shown t mid ready.alone is c.in-Some.h view.0 c.args.scroll view.1 writes ∙ ap shown_in c.self.view_is)

pub returns-clause-right : goal.returns-clause-right
returns-clause-right c = λ delegates spent right.
    let t = c.self.inside.tree.tree in
    let mid = c.set_scroll.new.self.tree in
    let now = c.mark_layouts.new.self.tree in
    let h = c.in-Some.h in
    let cell = c.self.inside.tree.scale.cell in
    let view = view_there t h c.scroll.result c.scroll.ensures c.if-is_none.ensures in
    let writes = c.set_scroll.ensures.window view.0 view.1 view.2 in
    let sets = c.mark_layouts.ensures.sets in
    let is = c.root.ensures.tree in
    right_by delegates delegates t now c.self.inside.tree.scale c.mark_layouts.new.self.scale c.self.inside.layers c.self.inside.spent (c.mark_layouts.ensures.scale ∙ c.set_scroll.ensures.scale)
    (λ keeps. c.scrolls_keep_layouts.ensures (setting_of c.self.inside.tree.scale delegates) t mid now h view.0 c.args.scroll is keeps view.1 writes sets)
    (λ kept.
    c.writes_keep_layers.ensures.layouts cell delegates c.self.inside.layers true (h ∷ []) mid now (_, writes.plain is.0 is.1) sets
    (c.writes_keep_layers.ensures.unread cell delegates c.self.inside.layers t mid h view.0 (with_scroll c.args.scroll view.0) is view.1 writes (record { flag = refl; mark = refl }) refl refl kept))
    (subst (IsRight delegates) (sym c.self.view_is) right)

pub returns-in_default-clause-renders : goal.returns-in_default-clause-renders
returns-in_default-clause-renders c = λ spent.
    let t = c.self.inside.tree.tree in
    let ready = ready_from c.self.inside.spent c.self.inside.numbers t c.self.invariant (ap (λ (x : KeptScreen). x.spent) c.self.view_is ∙ spent) in
    subst (λ (x : KeptScreen). renders_of (root_tree x.nodes) ≡ renders_scrolled_by (only_at c.args.number c.args.scroll) (renders_of (root_tree x.nodes))) c.self.view_is
    (renders_missing c.self.inside.numbers t ready c.root.ensures.tree c.args.number c.args.scroll (sym c.find.ensures ∙ c.in_default.is))

pub returns-then-is_none-clause-renders : goal.returns-then-is_none-clause-renders
returns-then-is_none-clause-renders c = λ spent.
    let t = c.self.inside.tree.tree in
    let ready = ready_from c.self.inside.spent c.self.inside.numbers t c.self.invariant (ap (λ (x : KeptScreen). x.spent) c.self.view_is ∙ spent) in
    subst (λ (x : KeptScreen). renders_of (root_tree x.nodes) ≡ renders_scrolled_by (only_at c.args.number c.args.scroll) (renders_of (root_tree x.nodes))) c.self.view_is
    (renders_other c.self.inside.numbers t ready c.root.ensures.tree c.args.number c.args.scroll c.in-Some.h (sym c.find.ensures ∙ c.in-Some.is)
    (sym c.scroll.ensures ∙ none_is c.scroll.result c.if-is_none.ensures))

pub returns-clause-renders : goal.returns-clause-renders
returns-clause-renders c = λ spent.
    let t = c.self.inside.tree.tree in
    let mid = c.set_scroll.new.self.tree in
    let now = c.mark_layouts.new.self.tree in
    let ready = ready_from c.self.inside.spent c.self.inside.numbers t c.self.invariant (ap (λ (x : KeptScreen). x.spent) c.self.view_is ∙ spent) in
    let view = view_there t c.in-Some.h c.scroll.result c.scroll.ensures c.if-is_none.ensures in
    subst (λ (x : KeptScreen). renders_of (root_tree now) ≡ renders_scrolled_by (only_at c.args.number c.args.scroll) (renders_of (root_tree x.nodes))) c.self.view_is
    (renders_written c.self.inside.numbers t ready c.root.ensures.tree c.args.number c.args.scroll mid now c.in-Some.h view.0 (c.in-Some.h ∷ []) (sym c.find.ensures ∙ c.in-Some.is) view.1 view.2
    (c.set_scroll.ensures.window view.0 view.1 view.2) c.mark_layouts.ensures.sets)

pub returns-in_default-clause-marks : goal.returns-in_default-clause-marks
returns-in_default-clause-marks c = λ spent. inl refl

pub returns-then-is_none-clause-marks : goal.returns-then-is_none-clause-marks
returns-then-is_none-clause-marks c = λ spent. inl refl

pub returns-clause-marks : goal.returns-clause-marks
returns-clause-marks c = λ spent.
    let t = c.self.inside.tree.tree in
    let now = c.mark_layouts.new.self.tree in
    let h = c.in-Some.h in
    let ready = ready_from c.self.inside.spent c.self.inside.numbers t c.self.invariant (ap (λ (x : KeptScreen). x.spent) c.self.view_is ∙ spent) in
    let view = view_there t h c.scroll.result c.scroll.ensures c.if-is_none.ensures in
    inr (subst (λ (x : KeptScreen). MarksScrolled c.args.number c.args.scroll x.nodes now) c.self.view_is (record {
      at = h;
      object = view.0;
      there = view.1;
      number_is = same_Some (sym (ap (option_map (λ (x : RenderObject). x.number)) view.1) ∙ ready.numbering.to_node c.args.number h (sym c.find.ensures ∙ c.in-Some.is));
      viewport = view.2;
      scrolled = c.set_scroll.new.self.tree;
      writes = c.set_scroll.ensures.window view.0 view.1 view.2;
      marks = c.mark_layouts.ensures.sets;
    }))

pub returns-in_default-clause-whole : goal.returns-in_default-clause-whole
returns-in_default-clause-whole c = λ spent.
    subst (λ (x : KeptScreen). StandsAlone x.nodes) c.self.view_is
    (alone_from c.self.inside.spent c.self.inside.numbers c.self.inside.tree.tree c.self.invariant c.root.ensures.tree (ap (λ (x : KeptScreen). x.spent) c.self.view_is ∙ spent))

pub returns-then-is_none-clause-whole : goal.returns-then-is_none-clause-whole
returns-then-is_none-clause-whole c = λ spent.
    subst (λ (x : KeptScreen). StandsAlone x.nodes) c.self.view_is
    (alone_from c.self.inside.spent c.self.inside.numbers c.self.inside.tree.tree c.self.invariant c.root.ensures.tree (ap (λ (x : KeptScreen). x.spent) c.self.view_is ∙ spent))

pub returns-clause-whole : goal.returns-clause-whole
returns-clause-whole c = λ spent.
    subst (λ (x : KeptScreen). StandsAlone x.nodes) c.self.view_is
    (alone_from c.self.inside.spent c.self.inside.numbers c.self.inside.tree.tree c.self.invariant c.root.ensures.tree (ap (λ (x : KeptScreen). x.spent) c.self.view_is ∙ spent))
