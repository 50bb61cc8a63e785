use Rattle.std.proofs.Common.{◌≡◌, ℕ, ◌+◌, ◌*◌, ◌<◌, ◌≤◌, ◌^◌, sym, subst, ◌∙◌, Option, Some, None, option_map, [], List, false, refl}
use Rattle.std.proofs.lemmas.Option.{IfSome_then}
use Rattle.std.proofs.lemmas.Result.{err_from_is_err_and}
use Rattle.fx_geom.specs.declared.scales.Scale.{Scale}
use Rattle.fx_handles.specs.Arena.{retired_count, generation_sum}
use Rattle.delegates.specs.Table.{meant_in}
use Rattle.node_tree.specs.Tree.{Tree}
use Rattle.plain_tree.specs.PlainNode.{PlainNode}
use Rattle.program_check.specs.CheckedView.{plain_checked}
use Rattle.widget_model.specs.declared.widgets.Widget.{Widget}
use Rattle.widget_model.specs.View.{plain_of, shared}
use Rattle.layout_form.specs.Object.{setting_of}
use Rattle.element_tree.specs.Element.{Element}
use Rattle.versioned_kinds.specs.Lists.{HasNoLists, WidgetHasNoLists}
use Rattle.render_tree.specs.Object.{RenderObject}
use Rattle.render_tree.specs.Plain.{root_tree}
use Rattle.kept_layouts.specs.Here.{KeepsLayouts}
use Rattle.paint_owner.specs.PaintOwner.{IsKept}
use Rattle.build_form.specs.FaultView.{fault_of}
use Rattle.build_form.specs.FullBuild.{built, failed}
use Rattle.build_form.specs.Program.{blueprint_of}
use Rattle.build_form.proofs.Outcomes.{some_map}
use Rattle.build_owner.specs.Standing.{Beginning, next_at}
use Rattle.frame_owner.specs.Building.{BuildsFrame}
use Rattle.frame_owner.specs.Frame.{KeptFrame, next_in}
use Rattle.frame_owner.specs.Framed.{screen_for, built_after, builds_after}
use Rattle.frame_owner.specs.Rooms.{HasRoomAfter}
use Rattle.frame_owner.specs.Standing.{FrameStandsFor}
use Rattle.frame_owner.specs.Working.{LaidForFault}
use Rattle.frame_owner.proofs.Keyless.{keyless_tree}
use Rattle.frame_owner.proofs.Listed.{root_to_keep_is, only_root}
use Rattle.frame_owner.proofs.Named.{none_beside}
use Rattle.frame_owner.proofs.Roomy.{nodes_of_few, room_left, room_after}
use Rattle.frame_owner.proofs.Known.{root_kept, same_built}
use Rattle.frame_owner.proofs.Unlisted.{no_list_built}
use Rattle.frame_owner.proofs.owner.FrameOwner.build_anew.Goals as goal

pub build_tree-requires-clause-stands : goal.build_tree-requires-clause-stands
build_tree-requires-clause-stands g c =
    let p = plain_checked c.args.checked.now in
    let ds = meant_in c.args.table.now (λ v. (g.dyn-1.0.entry v).1) in
    let st = subst (λ (x : KeptFrame). (marks : List ℕ) × (tree : Option PlainNode) × FrameStandsFor p ds marks tree x) (sym c.self.view_is) c.requires.stands in
    record { marks = st.0; old = st.1; scrolled = st.2.scrolled; stands = st.2.trees }

pub build_tree-requires-clause-layouts : goal.build_tree-requires-clause-layouts
build_tree-requires-clause-layouts g c =
    let p = plain_checked c.args.checked.now in
    let ds = meant_in c.args.table.now (λ v. (g.dyn-1.0.entry v).1) in
    let st = subst (λ (x : KeptFrame). (marks : List ℕ) × (tree : Option PlainNode) × FrameStandsFor p ds marks tree x) (sym c.self.view_is) c.requires.stands in
    st.2.right.layouts

pub build_tree-requires-clause-unasked : goal.build_tree-requires-clause-unasked
build_tree-requires-clause-unasked g c =
    let p = plain_checked c.args.checked.now in
    let ds = meant_in c.args.table.now (λ v. (g.dyn-1.0.entry v).1) in
    let st = subst (λ (x : KeptFrame). (marks : List ℕ) × (tree : Option PlainNode) × FrameStandsFor p ds marks tree x) (sym c.self.view_is) c.requires.stands in
    st.2.unasked

pub build_tree-requires-clause-listless : goal.build_tree-requires-clause-listless
build_tree-requires-clause-listless g c = λ on.
    let none = c.has_no_lists-listless.ensures.0 on in
    (none.0, subst (λ (w : Widget). WidgetHasNoLists (plain_of w)) c.deref.ensures none.1)

pub settled_root-requires : goal.settled_root-requires
settled_root-requires g c = λ on.
    let p = plain_checked c.args.checked.now in
    let ds = meant_in c.args.table.now (λ v. (g.dyn-1.0.entry v).1) in
    let w = shared c.args.root.now in
    let inside = c.self.inside in
    let st = subst (λ (x : KeptFrame). (marks : List ℕ) × (tree : Option PlainNode) × FrameStandsFor p ds marks tree x) (sym c.self.view_is) c.requires.stands in
    let b : Beginning p inside.elements.tree inside.nodes.tree inside.keys = record { marks = st.0; old = st.1; scrolled = st.2.scrolled; stands = st.2.trees } in
    let x = c.in_ok-build_tree.ensures.tree b in
    let none = c.has_no_lists-listless.ensures.0 on in
    let listless = subst (λ (w : Widget). WidgetHasNoLists (plain_of w)) c.deref.ensures none.1 in
    let free = no_list_built (blueprint_of p) _ st.1 (next_at inside.elements.tree) _ w x.gives.tree x.gives.is
    (λ mid s is. c.programs_without_lists_build_none.ensures.trees p st.1 (next_at inside.elements.tree) w mid s none.0 listless is) in
    root_to_keep_is p [] x.gives.tree st.2.scrolled c.build_tree.new.t.tree c.build_tree.new.r.tree c.build_tree.new.g w x.gives.stands free

pub build_tree-requires-clause-room : goal.build_tree-requires-clause-room
build_tree-requires-clause-room g c =
    let p = plain_checked c.args.checked.now in
    let room = subst (λ (x : KeptFrame). (frames : ℕ) × (frames < 2 ^ 32) × HasRoomAfter frames x) (sym c.self.view_is) c.requires.room in
    let elements = subst (λ (x : Tree Element). retired_count x.nodes * 4294967295 ≤ generation_sum x.nodes) c.tree.ensures c.count_laws.ensures.removals in
    let renders = subst (λ (x : Tree RenderObject). retired_count x.nodes * 4294967295 ≤ generation_sum x.nodes) c.tree-2.ensures c.count_laws-2.ensures.removals in
    record {
      elements = room_left c.self.inside.elements.tree.nodes room.0 (blueprint_of p).nodes elements room.2.made room.1 room.2.elements (nodes_of_few p);
      renders = room_left c.self.inside.nodes.tree.nodes room.0 (blueprint_of p).nodes renders room.2.made_drawn room.1 room.2.renders (nodes_of_few p);
    }

pub returns-in_err-build_tree-clause-fault : goal.returns-in_err-build_tree-clause-fault
returns-in_err-build_tree-clause-fault g c =
    let q = err_from_is_err_and c.from_residual.result c.from_residual.ensures.1 in
    let p = plain_checked c.args.checked.now in
    let ds = meant_in c.args.table.now (λ v. (g.dyn-1.0.entry v).1) in
    rw (q.1, q.2) (some_map _ _ (fault_of c.in_err-build_tree.field-0.0) (λ f is. λ marks tree now.
    let st = subst (FrameStandsFor p ds marks tree) (sym c.self.view_is) now in
    subst (λ (x : KeptFrame). built_after p (screen_for x ds c.args.view) x tree (shared c.args.root.now) ≡ failed f) c.self.view_is (is (record { marks = marks; old = tree; scrolled = st.scrolled; stands = st.trees }))) c.in_err-build_tree.ensures.fault)

pub returns-in_err-build_tree-clause-builds_at_fault : goal.returns-in_err-build_tree-clause-builds_at_fault
returns-in_err-build_tree-clause-builds_at_fault g c =
    let q = err_from_is_err_and c.from_residual.result c.from_residual.ensures.1 in
    let p = plain_checked c.args.checked.now in
    let ds = meant_in c.args.table.now (λ v. (g.dyn-1.0.entry v).1) in
    let w = shared c.args.root.now in
    rw (q.1, q.2) (some_map _ _ (fault_of c.in_err-build_tree.field-0.0) (λ f counted. λ marks tree now.
    let st = subst (FrameStandsFor p ds marks tree) (sym c.self.view_is) now in
    subst (λ (x : KeptFrame). c.build_tree.new.builds ≡ c.args.builds.now + builds_after p (screen_for x ds c.args.view) x tree marks w) c.self.view_is
    (counted (record { marks = marks; old = tree; scrolled = st.scrolled; stands = st.trees }))) c.in_err-build_tree.ensures.builds_at_fault)

pub returns-in_err-build_tree-clause-laid_at_fault : goal.returns-in_err-build_tree-clause-laid_at_fault
returns-in_err-build_tree-clause-laid_at_fault g c =
    let q = err_from_is_err_and c.from_residual.result c.from_residual.ensures.1 in
    let p = plain_checked c.args.checked.now in
    let ds = meant_in c.args.table.now (λ v. (g.dyn-1.0.entry v).1) in
    rw (q.1, q.2) (some_map _ _ (fault_of c.in_err-build_tree.field-0.0) (λ f laid. λ marks tree now.
    let st = subst (FrameStandsFor p ds marks tree) (sym c.self.view_is) now in
    subst (λ (x : KeptFrame). LaidForFault p (screen_for x ds c.args.view) tree (next_in x) (shared c.args.root.now) x.screen.nodes c.args.layouts.now c.build_tree.new.layouts) c.self.view_is
    (laid (record { marks = marks; old = tree; scrolled = st.scrolled; stands = st.trees }))) c.in_err-build_tree.ensures.laid_at_fault)

pub returns-clause-builds : goal.returns-clause-builds
returns-clause-builds g c = λ marks tree now.
    let p = plain_checked c.args.checked.now in
    let ds = meant_in c.args.table.now (λ v. (g.dyn-1.0.entry v).1) in
    let st = subst (FrameStandsFor p ds marks tree) (sym c.self.view_is) now in
    subst (λ (x : KeptFrame). c.build_tree.new.builds ≡ c.args.builds.now + builds_after p (screen_for x ds c.args.view) x tree marks (shared c.args.root.now)) c.self.view_is
    (c.in_ok-build_tree.ensures.builds (record { marks = marks; old = tree; scrolled = st.scrolled; stands = st.trees }))

pub returns-clause-builds_frame : goal.returns-clause-builds_frame
returns-clause-builds_frame g c = λ marks tree now.
    let p = plain_checked c.args.checked.now in
    let ds = meant_in c.args.table.now (λ v. (g.dyn-1.0.entry v).1) in
    let w = shared c.args.root.now in
    let inside = c.self.inside in
    let t = inside.elements.tree in
    let r = inside.nodes.tree in
    let t2 = c.build_tree.new.t.tree in
    let r2 = c.build_tree.new.r.tree in
    let g2 = c.build_tree.new.g in
    let st = subst (FrameStandsFor p ds marks tree) (sym c.self.view_is) now in
    let b : Beginning p t r inside.keys = record { marks = marks; old = tree; scrolled = st.scrolled; stands = st.trees } in
    let x = c.in_ok-build_tree.ensures.tree b in
    let cell = inside.nodes.scale.cell in
    let alone = none_beside p marks tree st.scrolled t r inside.keys st.trees in
    let alone2 = none_beside p [] (Some x.gives.tree) st.scrolled t2 r2 g2 x.gives.stands in
    let before : KeptFrame = record { elements = t; keys = inside.keys; screen = record { nodes = r; scale = inside.nodes.scale; layers = inside.layers; spent = inside.spent }; settled = option_map shared inside.settled; keyless = inside.keyless; marked = inside.marked; still = inside.still } in
    let after : KeptFrame = record { elements = t2; keys = g2; screen = record { nodes = r2; scale = c.build_tree.new.r.scale; layers = inside.layers; spent = false }; settled = option_map shared c.in_ok-kept.kept; keyless = c.is_keyless-self-inside.result; marked = None; still = None } in
    let kept : IsKept cell ds inside.layers (root_tree r2) =
    c.layers_are_kept_whole.ensures.root cell ds inside.layers r2 alone2 c.root-self-inside.ensures.tree (x.layers inside.layers (c.layers_are_kept_whole.ensures.whole cell ds inside.layers r alone st.right.layers)) in
    let done : BuildsFrame p (screen_for before ds c.args.view) tree w before after c.args.layouts.now c.build_tree.new.layouts = record {
      tree = x.gives.tree;
      is = x.gives.is;
      stands = record {
        scrolled = st.scrolled;
        trees = x.gives.stands;
        right = record {
          layouts = subst (λ (s : Scale). KeepsLayouts (setting_of s ds) r2) (sym c.build_tree.ensures.scale) x.gives.layouts;
          layers = subst (λ (s : Scale). IsKept s.cell ds inside.layers (root_tree r2)) (sym c.build_tree.ensures.scale) kept;
        };
        unasked = x.gives.unasked;
        settled = root_kept c.in_ok-kept.kept p x.gives.tree t2 c.is_keyless-self-inside.result
            (IfSome_then c.in_ok-kept.kept c.in_ok-kept.ensures.settled (λ kept law. law p (screen_for before ds c.args.view) tree (next_at t) (next_at t2) x.gives.tree st.scrolled r2 g2 x.gives.stands x.gives.is))
            (λ on. keyless_tree p [] x.gives.tree st.scrolled t2 r2 g2 c.is_keyless-self-inside.result x.gives.stands (c.is_keyless-self-inside.ensures p (Some x.gives.tree) st.scrolled t2 r2 x.gives.stands) on);
        still = tt;
      };
      brings = x.brings;
    } in
    subst (λ (y : KeptFrame). BuildsFrame p (screen_for y ds c.args.view) tree w y after c.args.layouts.now c.build_tree.new.layouts) c.self.view_is done

pub returns-clause-kept : goal.returns-clause-kept
returns-clause-kept g c = λ marks tree made next now is free.
    let p = plain_checked c.args.checked.now in
    let ds = meant_in c.args.table.now (λ v. (g.dyn-1.0.entry v).1) in
    let w = shared c.args.root.now in
    let inside = c.self.inside in
    let st = subst (FrameStandsFor p ds marks tree) (sym c.self.view_is) now in
    let b : Beginning p inside.elements.tree inside.nodes.tree inside.keys = record { marks = marks; old = tree; scrolled = st.scrolled; stands = st.trees } in
    let x = c.in_ok-build_tree.ensures.tree b in
    let gave = subst (λ (y : KeptFrame). built_after p (screen_for y ds c.args.view) y tree w ≡ built made next) (sym c.self.view_is) is in
    let one : x.gives.tree ≡ made = same_built x.gives.tree made _ next (sym x.gives.is ∙ gave) in (
      c.in_ok-kept.ensures.kept
          ∙ root_to_keep_is p [] x.gives.tree st.scrolled c.build_tree.new.t.tree c.build_tree.new.r.tree c.build_tree.new.g w x.gives.stands (subst HasNoLists (sym one) free),
      refl,
    )

pub returns-clause-settles : goal.returns-clause-settles
returns-clause-settles g c = only_root (shared c.args.root.now) c.build_tree.new.t.tree (option_map shared c.in_ok-kept.kept) c.in_ok-kept.ensures.kept

pub returns-clause-room : goal.returns-clause-room
returns-clause-room g c = λ frames had.
    let p = plain_checked c.args.checked.now in
    let ds = meant_in c.args.table.now (λ v. (g.dyn-1.0.entry v).1) in
    let w = shared c.args.root.now in
    let inside = c.self.inside in
    let st = subst (λ (x : KeptFrame). (marks : List ℕ) × (tree : Option PlainNode) × FrameStandsFor p ds marks tree x) (sym c.self.view_is) c.requires.stands in
    let room = subst (HasRoomAfter frames) (sym c.self.view_is) had in
    let b : Beginning p inside.elements.tree inside.nodes.tree inside.keys = record { marks = st.0; old = st.1; scrolled = st.2.scrolled; stands = st.2.trees } in
    let x = c.in_ok-build_tree.ensures.tree b in
    let screen = screen_for (record { elements = inside.elements.tree; keys = inside.keys; screen = record { nodes = inside.nodes.tree; scale = inside.nodes.scale; layers = inside.layers; spent = inside.spent }; settled = option_map shared inside.settled; keyless = inside.keyless; marked = inside.marked; still = inside.still }) ds c.args.view in
    let given = c.few_numbers_are_given.ensures (blueprint_of p) screen st.1 (next_at inside.elements.tree) (next_at c.build_tree.new.t.tree) w x.gives.tree x.gives.is in
    let small = c.trees_keep_to_the_limit.ensures.whole (blueprint_of p) screen st.1 (next_at inside.elements.tree) (next_at c.build_tree.new.t.tree) w x.gives.tree x.gives.is in
    let limit = nodes_of_few p in
    room_after frames
    (record { elements = inside.elements.tree; keys = inside.keys; screen = record { nodes = inside.nodes.tree; scale = inside.nodes.scale; layers = inside.layers; spent = inside.spent }; settled = option_map shared inside.settled; keyless = inside.keyless; marked = inside.marked; still = inside.still })
    (record { elements = c.build_tree.new.t.tree; keys = c.build_tree.new.g; screen = record { nodes = c.build_tree.new.r.tree; scale = c.build_tree.new.r.scale; layers = inside.layers; spent = false }; settled = option_map shared c.in_ok-kept.kept; keyless = c.is_keyless-self-inside.result; marked = None; still = None })
    _ (blueprint_of p).nodes limit small x.gives.used x.gives.used_drawn given c.in_ok-build_tree.ensures.few room
