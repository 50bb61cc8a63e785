use Rattle.std.proofs.Common.{◌≡◌, ℕ, ◌+◌, ◌*◌, ◌≤◌, ap, sym, subst, ◌∙◌, Option, Some, None, option_map, List, false, inl, refl, arith}
use Rattle.std.proofs.lemmas.Result.{err_from_is_err_and}
use Rattle.fx_geom.specs.declared.scales.Scale.{Scale}
use Rattle.fx_handles.specs.declared.Handle.{Handle}
use Rattle.fx_handles.specs.ArenaLaws.{same_Some}
use Rattle.plain_tree.specs.PlainNode.{PlainNode}
use Rattle.program_check.specs.CheckedView.{plain_checked}
use Rattle.template_build.specs.Program.{declarations_of}
use Rattle.widget_model.specs.View.{shared}
use Rattle.layout_form.specs.Object.{setting_of}
use Rattle.build_form.specs.FaultView.{fault_of}
use Rattle.build_form.specs.FullBuild.{built, failed}
use Rattle.build_form.proofs.Outcomes.{some_map}
use Rattle.render_tree.specs.Plain.{root_tree}
use Rattle.kept_layouts.specs.Here.{KeepsLayouts}
use Rattle.paint_owner.specs.PaintOwner.{IsKept}
use Rattle.renewed_builds.specs.Renewing.{Change}
use Rattle.renewed_builds.specs.Stale.{IsStaleElement}
use Rattle.build_owner.specs.Standing.{next_at}
use Rattle.frame_owner.specs.Building.{BuildsFrame, LeavesBuild}
use Rattle.frame_owner.specs.Frame.{KeptFrame, next_in}
use Rattle.frame_owner.specs.Framed.{built_after, builds_after}
use Rattle.frame_owner.specs.InPlace.{BuildsInPlace, LeavesInPlace, CannotBuildInPlace}
use Rattle.frame_owner.specs.Redrawing.{CanRedraw, TakesWidgets}
use Rattle.frame_owner.specs.Rooms.{HasRoomAfter}
use Rattle.frame_owner.specs.Standing.{FrameStandsFor}
use Rattle.frame_owner.proofs.Going.{held_by, on_err}
use Rattle.frame_owner.proofs.Renewed as renewed
use Rattle.frame_owner.proofs.Known.{known_small}
use Rattle.frame_owner.proofs.Windows.{none_some, stands_alone}
use Rattle.frame_owner.proofs.owner.FrameOwner.renew_marked.Goals as goal

pub build_in_place-requires : goal.build_in_place-requires
build_in_place-requires g c =
    let inside = c.self.inside in
    let p = plain_checked c.args.checked.now in
    let w = shared c.args.root.now in
    let h = c.in-Some.h in
    let t = inside.elements.tree in
    let r = inside.nodes.tree in
    let lit : KeptFrame = record { elements = t; keys = inside.keys; screen = record { nodes = r; scale = inside.nodes.scale; layers = inside.layers; spent = inside.spent }; settled = option_map shared inside.settled; keyless = inside.keyless; marked = inside.marked; still = inside.still } in
    let held = c.in-Some.ensures.known in
    let apart = c.projection_keeps_numbers_apart.ensures in
    let rq = c.requires.stands in
    let f = renewed.stale_frame c.marked_trees_are_stale.ensures.spot c.marked_trees_are_stale.ensures.node p rq.0 rq.1 rq.2 lit h w (ap (λ (x : KeptFrame). x.settled) c.self.view_is ∙ held.0) (ap (λ (x : KeptFrame). x.marked) c.self.view_is ∙ held.1)
    (ap (λ (x : KeptFrame). x.keyless) c.self.view_is ∙ held.2) (subst (FrameStandsFor p rq.0 rq.1 rq.2) (sym c.self.view_is) rq.3) in
    let e = renewed.stale_element apart p rq.1 f.node f.stands.scrolled t r inside.keys f.stands.trees h w f.known in
    e

pub redraw-requires-clause-stands : goal.redraw-requires-clause-stands
redraw-requires-clause-stands g c =
    let inside = c.self.inside in
    let p = plain_checked c.args.checked.now in
    let w = shared c.args.root.now in
    let h = c.in-Some.h in
    let t = inside.elements.tree in
    let r = inside.nodes.tree in
    let lit : KeptFrame = record { elements = t; keys = inside.keys; screen = record { nodes = r; scale = inside.nodes.scale; layers = inside.layers; spent = inside.spent }; settled = option_map shared inside.settled; keyless = inside.keyless; marked = inside.marked; still = inside.still } in
    let held = c.in-Some.ensures.known in
    let apart = c.projection_keeps_numbers_apart.ensures in
    let rq = c.requires.stands in
    let f = renewed.stale_frame c.marked_trees_are_stale.ensures.spot c.marked_trees_are_stale.ensures.node p rq.0 rq.1 rq.2 lit h w (ap (λ (x : KeptFrame). x.settled) c.self.view_is ∙ held.0) (ap (λ (x : KeptFrame). x.marked) c.self.view_is ∙ held.1)
    (ap (λ (x : KeptFrame). x.keyless) c.self.view_is ∙ held.2) (subst (FrameStandsFor p rq.0 rq.1 rq.2) (sym c.self.view_is) rq.3) in
    let e = renewed.stale_element apart p rq.1 f.node f.stands.scrolled t r inside.keys f.stands.trees h w f.known in
    stands_alone apart p rq.1 (Some f.node) f.stands.scrolled t r inside.keys f.stands.trees

pub redraw-requires-clause-changes : goal.redraw-requires-clause-changes
redraw-requires-clause-changes g c =
    let inside = c.self.inside in
    let p = plain_checked c.args.checked.now in
    let w = shared c.args.root.now in
    let h = c.in-Some.h in
    let t = inside.elements.tree in
    let r = inside.nodes.tree in
    let lit : KeptFrame = record { elements = t; keys = inside.keys; screen = record { nodes = r; scale = inside.nodes.scale; layers = inside.layers; spent = inside.spent }; settled = option_map shared inside.settled; keyless = inside.keyless; marked = inside.marked; still = inside.still } in
    let held = c.in-Some.ensures.known in
    let apart = c.projection_keeps_numbers_apart.ensures in
    let rq = c.requires.stands in
    let f = renewed.stale_frame c.marked_trees_are_stale.ensures.spot c.marked_trees_are_stale.ensures.node p rq.0 rq.1 rq.2 lit h w (ap (λ (x : KeptFrame). x.settled) c.self.view_is ∙ held.0) (ap (λ (x : KeptFrame). x.marked) c.self.view_is ∙ held.1)
    (ap (λ (x : KeptFrame). x.keyless) c.self.view_is ∙ held.2) (subst (FrameStandsFor p rq.0 rq.1 rq.2) (sym c.self.view_is) rq.3) in
    let e = renewed.stale_element apart p rq.1 f.node f.stands.scrolled t r inside.keys f.stands.trees h w f.known in
    let cs = c.in-Some-built.changes.items in
    let x : BuildsInPlace p t c.build_in_place.new.t.tree h e cs c.args.builds.now c.build_in_place.new.builds = held_by c.in_ok-built.built c.in-Some-built.changes (λ changes. (y : IsStaleElement p t h) → BuildsInPlace p t c.build_in_place.new.t.tree h y changes.items c.args.builds.now c.build_in_place.new.builds) c.in-Some-built.is c.in_ok-built.ensures.built e in
    subst (CanRedraw r) (sym c.as_slice.ensures.value) (renewed.can_take_them apart p rq.1 f.node f.stands.scrolled t r inside.keys f.stands.trees h w f.known c.number_laws.ensures.once c.built_trees_vanish_alone.ensures c.build_in_place.new.t.tree cs c.args.builds.now c.build_in_place.new.builds x)

pub returns-clause-renewed : goal.returns-clause-renewed
returns-clause-renewed g c = λ on screen marks tree layouts now.
    let inside = c.self.inside in
    let p = plain_checked c.args.checked.now in
    let w = shared c.args.root.now in
    let h = c.in-Some.h in
    let t = inside.elements.tree in
    let r = inside.nodes.tree in
    let lit : KeptFrame = record { elements = t; keys = inside.keys; screen = record { nodes = r; scale = inside.nodes.scale; layers = inside.layers; spent = inside.spent }; settled = option_map shared inside.settled; keyless = inside.keyless; marked = inside.marked; still = inside.still } in
    let held = c.in-Some.ensures.known in
    let apart = c.projection_keeps_numbers_apart.ensures in
    let ds = screen.delegates in
    let f = renewed.stale_frame c.marked_trees_are_stale.ensures.spot c.marked_trees_are_stale.ensures.node p ds marks tree lit h w (ap (λ (x : KeptFrame). x.settled) c.self.view_is ∙ held.0) (ap (λ (x : KeptFrame). x.marked) c.self.view_is ∙ held.1)
    (ap (λ (x : KeptFrame). x.keyless) c.self.view_is ∙ held.2) (subst (FrameStandsFor p ds marks tree) (sym c.self.view_is) now) in
    let e = renewed.stale_element apart p marks f.node f.stands.scrolled t r inside.keys f.stands.trees h w f.known in
    let cs = c.in-Some-built.changes.items in
    let x : BuildsInPlace p t c.build_in_place.new.t.tree h e cs c.args.builds.now c.build_in_place.new.builds = held_by c.in_ok-built.built c.in-Some-built.changes (λ changes. (y : IsStaleElement p t h) → BuildsInPlace p t c.build_in_place.new.t.tree h y changes.items c.args.builds.now c.build_in_place.new.builds) c.in-Some-built.is c.in_ok-built.ensures.built e in
    let takes : TakesWidgets cs r c.redraw.new.r.tree = subst (λ (ds : List Change). TakesWidgets ds r c.redraw.new.r.tree) c.as_slice.ensures.value c.in_ok-redraw.ensures.takes in
    let n = renewed.tree_then apart p marks f.node f.stands.scrolled t r inside.keys f.stands.trees h w f.known c.number_laws.ensures.once c.built_trees_vanish_alone.ensures c.build_in_place.new.t.tree cs c.args.builds.now c.build_in_place.new.builds x in
    let one = c.one_root_is_laid_out.ensures n (c.built_trees_vanish_alone.ensures (declarations_of p) n x.stands.well) in
    let u = c.build_in_place.new.t.tree in
    let s = c.redraw.new.r.tree in
    let cell = inside.nodes.scale.cell in
    let end = c.steps_follow_on.ensures.end in
    let made : next_at u ≡ next_at t = ap (λ (k : ℕ). k + 1) c.in_ok-built.ensures.handles.inserted in
    let kept = renewed.layers_then apart p marks f.node f.stands.scrolled t r inside.keys f.stands.trees h w f.known c.number_laws.ensures.once c.built_trees_vanish_alone.ensures c.build_in_place.new.t.tree cs c.args.builds.now c.build_in_place.new.builds x s takes one c.layers_are_kept_whole.ensures.whole c.layers_are_kept_whole.ensures.root c.redraws_keep_layers.ensures cell ds inside.layers f.stands.right.layers in
    let keeps = renewed.layouts_then apart p marks f.node f.stands.scrolled t r inside.keys f.stands.trees h w f.known c.number_laws.ensures.once c.built_trees_vanish_alone.ensures c.build_in_place.new.t.tree cs c.args.builds.now c.build_in_place.new.builds x s takes one c.redraws_keep_layouts.ensures (setting_of inside.nodes.scale ds) f.stands.right.layouts in
    let then : KeptFrame = record { elements = u; keys = inside.keys; screen = record { nodes = s; scale = c.redraw.new.r.scale; layers = inside.layers; spent = false }; settled = option_map shared inside.settled; keyless = inside.keyless; marked = None; still = None } in
    let done : BuildsFrame p screen (Some f.node) w lit then layouts layouts = record {
      tree = n;
      is = subst (λ (k : ℕ). built_after p screen lit (Some f.node) w ≡ built n k) (sym made) (renewed.is_then apart p marks f.node f.stands.scrolled t r inside.keys f.stands.trees h w f.known c.number_laws.ensures.once c.built_trees_vanish_alone.ensures c.build_in_place.new.t.tree cs c.args.builds.now c.build_in_place.new.builds x end screen);
      stands = record {
        scrolled = f.stands.scrolled;
        trees = renewed.trees_then apart p marks f.node f.stands.scrolled t r inside.keys f.stands.trees h w f.known c.number_laws.ensures.once c.built_trees_vanish_alone.ensures c.build_in_place.new.t.tree cs c.args.builds.now c.build_in_place.new.builds x s takes one (c.in_ok-built.ensures.names inside.keys f.stands.trees.names);
        right = record {
          layouts = subst (λ (q : Scale). KeepsLayouts (setting_of q ds) s) (sym c.redraw.ensures.scale) keeps;
          layers = subst (λ (q : Scale). IsKept q.cell ds inside.layers (root_tree s)) (sym c.redraw.ensures.scale) kept;
        };
        unasked = renewed.unasked_then apart p marks f.node f.stands.scrolled t r inside.keys f.stands.trees h w f.known c.number_laws.ensures.once c.built_trees_vanish_alone.ensures c.build_in_place.new.t.tree cs c.args.builds.now c.build_in_place.new.builds x s takes one end screen;
        settled = renewed.known_then apart p marks f.node f.stands.scrolled t r inside.keys f.stands.trees h w f.known c.number_laws.ensures.once c.built_trees_vanish_alone.ensures c.build_in_place.new.t.tree cs c.args.builds.now c.build_in_place.new.builds x s takes one inside.keyless (option_map shared inside.settled) (ap (λ (y : KeptFrame). y.settled) c.self.view_is ∙ held.0);
        still = tt;
      };
      brings = inl (renewed.brings_then apart p marks f.node f.stands.scrolled t r inside.keys f.stands.trees h w f.known c.number_laws.ensures.once c.built_trees_vanish_alone.ensures c.build_in_place.new.t.tree cs c.args.builds.now c.build_in_place.new.builds x s takes one, refl);
    } in
    subst (λ (y : KeptFrame). BuildsFrame p screen tree w y then layouts layouts) c.self.view_is (subst (λ (q : Option PlainNode). BuildsFrame p screen q w lit then layouts layouts) (sym f.is) done)

pub returns-clause-builds : goal.returns-clause-builds
returns-clause-builds g c = λ on screen marks tree now.
    let inside = c.self.inside in
    let p = plain_checked c.args.checked.now in
    let w = shared c.args.root.now in
    let h = c.in-Some.h in
    let t = inside.elements.tree in
    let r = inside.nodes.tree in
    let lit : KeptFrame = record { elements = t; keys = inside.keys; screen = record { nodes = r; scale = inside.nodes.scale; layers = inside.layers; spent = inside.spent }; settled = option_map shared inside.settled; keyless = inside.keyless; marked = inside.marked; still = inside.still } in
    let held = c.in-Some.ensures.known in
    let apart = c.projection_keeps_numbers_apart.ensures in
    let ds = screen.delegates in
    let f = renewed.stale_frame c.marked_trees_are_stale.ensures.spot c.marked_trees_are_stale.ensures.node p ds marks tree lit h w (ap (λ (x : KeptFrame). x.settled) c.self.view_is ∙ held.0) (ap (λ (x : KeptFrame). x.marked) c.self.view_is ∙ held.1)
    (ap (λ (x : KeptFrame). x.keyless) c.self.view_is ∙ held.2) (subst (FrameStandsFor p ds marks tree) (sym c.self.view_is) now) in
    let e = renewed.stale_element apart p marks f.node f.stands.scrolled t r inside.keys f.stands.trees h w f.known in
    let cs = c.in-Some-built.changes.items in
    let x : BuildsInPlace p t c.build_in_place.new.t.tree h e cs c.args.builds.now c.build_in_place.new.builds = held_by c.in_ok-built.built c.in-Some-built.changes (λ changes. (y : IsStaleElement p t h) → BuildsInPlace p t c.build_in_place.new.t.tree h y changes.items c.args.builds.now c.build_in_place.new.builds) c.in-Some-built.is c.in_ok-built.ensures.built e in
    let all = renewed.all_built apart p marks f.node f.stands.scrolled t r inside.keys f.stands.trees h w f.known c.number_laws.ensures.once c.built_trees_vanish_alone.ensures c.build_in_place.new.t.tree cs c.args.builds.now c.build_in_place.new.builds x c.steps_follow_on.ensures.builds screen in
    let counted = x.counted in
    let here : c.build_in_place.new.builds ≡ c.args.builds.now + builds_after p screen lit (Some f.node) marks w = omega (arith, all, counted) in
    subst (λ (y : KeptFrame). c.build_in_place.new.builds ≡ c.args.builds.now + builds_after p screen y tree marks w) c.self.view_is
    (subst (λ (q : Option PlainNode). c.build_in_place.new.builds ≡ c.args.builds.now + builds_after p screen lit q marks w) (sym f.is) here)

pub returns-clause-kept : goal.returns-clause-kept
returns-clause-kept g c = λ on. (ap (λ (x : KeptFrame). x.settled) c.self.view_is ∙ c.in-Some.ensures.known.0, refl)

pub returns-clause-small : goal.returns-clause-small
returns-clause-small g c = λ on.
    let rq = c.requires.stands in
    (known_small (plain_checked c.args.checked.now) rq.0 rq.1 rq.2 c.args.self.now (shared c.args.root.now) c.in-Some.ensures.known.0 rq.3)

pub returns-in_err-built-clause-small_at_err : goal.returns-in_err-built-clause-small_at_err
returns-in_err-built-clause-small_at_err g c =
    let rq = c.requires.stands in
    on_err _ c.from_residual.result (known_small (plain_checked c.args.checked.now) rq.0 rq.1 rq.2 c.args.self.now (shared c.args.root.now) c.in-Some.ensures.known.0 rq.3)

pub returns-in_err-redraw-clause-small_at_err : goal.returns-in_err-redraw-clause-small_at_err
returns-in_err-redraw-clause-small_at_err g c =
    let rq = c.requires.stands in
    on_err _ c.from_residual-in_err-redraw.result (known_small (plain_checked c.args.checked.now) rq.0 rq.1 rq.2 c.args.self.now (shared c.args.root.now) c.in-Some.ensures.known.0 rq.3)

pub returns-clause-room : goal.returns-clause-room
returns-clause-room g c = λ frames had.
    let handles = c.in_ok-built.ensures.handles in
    let nodes = c.in_ok-redraw.ensures.takes.handles in
    let room = subst (HasRoomAfter frames) (sym c.self.view_is) had in
    record {
      elements = subst (λ (k : ℕ). k ≤ 1048576) (sym handles.used) room.elements;
      renders = subst (λ (k : ℕ). k ≤ 1048576) (sym nodes.used) room.renders;
      made = subst (λ (k : ℕ). k ≤ frames * 1048576) (sym handles.inserted) room.made;
      made_drawn = subst (λ (k : ℕ). k ≤ frames * 1048576) (sym nodes.inserted) room.made_drawn;
    }

pub returns-clause-next : goal.returns-clause-next
returns-clause-next g c =
    ap (λ (k : ℕ). k + 1) c.in_ok-built.ensures.handles.inserted ∙ ap next_in c.self.view_is

pub returns-in_default-built-clause-left : goal.returns-in_default-built-clause-left
returns-in_default-built-clause-left g c = λ off ds marks tree now.
    let inside = c.self.inside in
    let p = plain_checked c.args.checked.now in
    let w = shared c.args.root.now in
    let h = c.in-Some.h in
    let t = inside.elements.tree in
    let r = inside.nodes.tree in
    let lit : KeptFrame = record { elements = t; keys = inside.keys; screen = record { nodes = r; scale = inside.nodes.scale; layers = inside.layers; spent = inside.spent }; settled = option_map shared inside.settled; keyless = inside.keyless; marked = inside.marked; still = inside.still } in
    let held = c.in-Some.ensures.known in
    let apart = c.projection_keeps_numbers_apart.ensures in
    let f = renewed.stale_frame c.marked_trees_are_stale.ensures.spot c.marked_trees_are_stale.ensures.node p ds marks tree lit h w (ap (λ (x : KeptFrame). x.settled) c.self.view_is ∙ held.0) (ap (λ (x : KeptFrame). x.marked) c.self.view_is ∙ held.1)
    (ap (λ (x : KeptFrame). x.keyless) c.self.view_is ∙ held.2) (subst (FrameStandsFor p ds marks tree) (sym c.self.view_is) now) in
    let e = renewed.stale_element apart p marks f.node f.stands.scrolled t r inside.keys f.stands.trees h w f.known in
    let u = c.build_in_place.new.t.tree in
    let before = c.args.builds.now in
    let after = c.build_in_place.new.builds in
    let l : LeavesInPlace p t u h e before after = c.in_ok-built.ensures.left c.in_default-built.is e in
    let then : KeptFrame = record { elements = u; keys = inside.keys; screen = record { nodes = r; scale = inside.nodes.scale; layers = inside.layers; spent = false }; settled = None; keyless = inside.keyless; marked = inside.marked; still = inside.still } in
    let here : FrameStandsFor p ds l.left (Some l.tree) then = record {
      scrolled = f.stands.scrolled;
      trees = renewed.left_stands apart p marks f.node f.stands.scrolled t r inside.keys f.stands.trees h w f.known c.number_laws.ensures.once u before after l (c.in_ok-built.ensures.names inside.keys f.stands.trees.names);
      right = record { layouts = f.stands.right.layouts; layers = f.stands.right.layers };
      unasked = f.stands.unasked;
      settled = tt;
      still = f.stands.still;
    } in
    let done : LeavesBuild p ds marks (Some f.node) w lit then before after = record {
      now = Some l.tree;
      left = l.left;
      stands = here;
      full = l.full;
      first = l.first;
      builds = l.builds;
    } in
    subst (λ (y : KeptFrame). LeavesBuild p ds marks tree w y then c.args.builds.now c.build_in_place.new.builds) c.self.view_is
    (subst (λ (q : Option PlainNode). LeavesBuild p ds marks q w lit then c.args.builds.now c.build_in_place.new.builds) (sym f.is) done)

pub returns-in_default-built-clause-room : goal.returns-in_default-built-clause-room
returns-in_default-built-clause-room g c = λ frames had.
    let handles = c.in_ok-built.ensures.handles in
    let room = subst (HasRoomAfter frames) (sym c.self.view_is) had in
    record {
      elements = subst (λ (k : ℕ). k ≤ 1048576) (sym handles.used) room.elements;
      renders = room.renders;
      made = subst (λ (k : ℕ). k ≤ frames * 1048576) (sym handles.inserted) room.made;
      made_drawn = room.made_drawn;
    }

pub returns-in_default-built-clause-next : goal.returns-in_default-built-clause-next
returns-in_default-built-clause-next g c =
    ap (λ (k : ℕ). k + 1) c.in_ok-built.ensures.handles.inserted ∙ ap next_in c.self.view_is

pub returns-in_default-clause-left : goal.returns-in_default-clause-left
returns-in_default-clause-left g c = λ off ds marks tree now.
    record { now = tree; left = marks; stands = now; full = λ screen. refl; first = λ screen. refl; builds = λ screen. refl }

pub returns-in_err-built-clause-fault : goal.returns-in_err-built-clause-fault
returns-in_err-built-clause-fault g c =
    let q = err_from_is_err_and c.from_residual.result c.from_residual.ensures.1 in
    let inside = c.self.inside in
    let p = plain_checked c.args.checked.now in
    let w = shared c.args.root.now in
    let h = c.in-Some.h in
    let t = inside.elements.tree in
    let r = inside.nodes.tree in
    let lit : KeptFrame = record { elements = t; keys = inside.keys; screen = record { nodes = r; scale = inside.nodes.scale; layers = inside.layers; spent = inside.spent }; settled = option_map shared inside.settled; keyless = inside.keyless; marked = inside.marked; still = inside.still } in
    let held = c.in-Some.ensures.known in
    let apart = c.projection_keeps_numbers_apart.ensures in
    rw (q.1, q.2) (some_map _ _ (fault_of c.in_err-built.field-0.0) (λ y is. λ screen marks tree now.
    let f = renewed.stale_frame c.marked_trees_are_stale.ensures.spot c.marked_trees_are_stale.ensures.node p screen.delegates marks tree lit h w (ap (λ (x : KeptFrame). x.settled) c.self.view_is ∙ held.0) (ap (λ (x : KeptFrame). x.marked) c.self.view_is ∙ held.1)
    (ap (λ (x : KeptFrame). x.keyless) c.self.view_is ∙ held.2) (subst (FrameStandsFor p screen.delegates marks tree) (sym c.self.view_is) now) in
    let e = renewed.stale_element apart p marks f.node f.stands.scrolled t r inside.keys f.stands.trees h w f.known in
    subst (λ (x : KeptFrame). built_after p screen x tree w ≡ failed y) c.self.view_is (subst (λ (o : Option PlainNode). built_after p screen lit o w ≡ failed y) (sym f.is) (is e screen))) c.in_err-built.ensures.fault)

pub returns-in_err-built-clause-builds_at_fault : goal.returns-in_err-built-clause-builds_at_fault
returns-in_err-built-clause-builds_at_fault g c =
    let q = err_from_is_err_and c.from_residual.result c.from_residual.ensures.1 in
    let inside = c.self.inside in
    let p = plain_checked c.args.checked.now in
    let w = shared c.args.root.now in
    let h = c.in-Some.h in
    let t = inside.elements.tree in
    let r = inside.nodes.tree in
    let lit : KeptFrame = record { elements = t; keys = inside.keys; screen = record { nodes = r; scale = inside.nodes.scale; layers = inside.layers; spent = inside.spent }; settled = option_map shared inside.settled; keyless = inside.keyless; marked = inside.marked; still = inside.still } in
    let held = c.in-Some.ensures.known in
    let apart = c.projection_keeps_numbers_apart.ensures in
    rw (q.1, q.2) (some_map _ _ (fault_of c.in_err-built.field-0.0) (λ y is. λ screen marks tree now.
    let f = renewed.stale_frame c.marked_trees_are_stale.ensures.spot c.marked_trees_are_stale.ensures.node p screen.delegates marks tree lit h w (ap (λ (x : KeptFrame). x.settled) c.self.view_is ∙ held.0) (ap (λ (x : KeptFrame). x.marked) c.self.view_is ∙ held.1)
    (ap (λ (x : KeptFrame). x.keyless) c.self.view_is ∙ held.2) (subst (FrameStandsFor p screen.delegates marks tree) (sym c.self.view_is) now) in
    let e = renewed.stale_element apart p marks f.node f.stands.scrolled t r inside.keys f.stands.trees h w f.known in
    let here : c.build_in_place.new.builds ≡ c.args.builds.now + builds_after p screen lit (Some f.node) marks w = is e screen in
    subst (λ (x : KeptFrame). c.build_in_place.new.builds ≡ c.args.builds.now + builds_after p screen x tree marks w) c.self.view_is
    (subst (λ (o : Option PlainNode). c.build_in_place.new.builds ≡ c.args.builds.now + builds_after p screen lit o marks w) (sym f.is) here))
    c.in_err-built.ensures.builds_at_fault)

pub returns-in_default-clause-given_up : goal.returns-in_default-clause-given_up
returns-in_default-clause-given_up g c = λ off h settled keyless marked x. absurd (none_some (sym (c.stale_for.ensures.unknown c.in_default.is settled keyless) ∙ marked))

pub returns-in_default-built-clause-given_up : goal.returns-in_default-built-clause-given_up
returns-in_default-built-clause-given_up g c = λ off h settled keyless marked x.
    let p = plain_checked c.args.checked.now in
    let u = c.build_in_place.new.t.tree in
    let one : c.in-Some.h ≡ h = same_Some (sym c.in-Some.ensures.known.1 ∙ marked) in
    let here = subst (λ (y : KeptFrame). (z : IsStaleElement p y.elements c.in-Some.h) → CannotBuildInPlace p y.elements u c.in-Some.h z) c.self.view_is (λ z. c.in_ok-built.ensures.cannot c.in_default-built.is z) in
    subst (λ (k : Handle). (z : IsStaleElement p c.args.self.now.elements k) → CannotBuildInPlace p c.args.self.now.elements u k z) one here x
