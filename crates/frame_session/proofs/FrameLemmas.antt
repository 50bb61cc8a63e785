-- A frame: what is built, what it shows, and what is kept after it.
use Rattle.std.proofs.lemmas.Bool.Decides.{nat_tests}
use Rattle.std.proofs.Common.{◌≡◌, ℕ, ◌+◌, ◌*◌, ◌<◌, ◌≤◌, Bool, true, false, nat_lt, Option, Some, None, IfSome, Result, Ok, Err, IfOk, OnOk, option_copied, List, [], ◌∷◌, ◌++◌, length, codes, map, inl, inr, refl, sym, subst, ap, ◌∙◌, append_assoc, if◌then◌else◌, arith, Vec}
use Rattle.std.specs.Borrow.{Bor}
use Rattle.std.specs.Fmt.{decimal}
use Rattle.std.specs.declared.alloc.AllocError.{AllocError}
use Rattle.std.specs.declared.alloc.Global.{Global}
use Rattle.std.specs.declared.rc.Rc.{Rc}
use Rattle.fx_expr.specs.declared.handlers.Handler.{Handler}
use Rattle.fx_expr.specs.Sets.{FitFields}
use Rattle.fx_expr.specs.Value.{type_of}
use Rattle.fx_geom.specs.Scale.{standard_scale, fine_scale}
use Rattle.fx_geom.specs.declared.shapes.Size.{Size}
use Rattle.delegates.specs.Table.{Plug}
use Rattle.gesture_arena.specs.declared.gesture.Gesture.{Gesture}
use Rattle.gesture_arena.specs.declared.gesture.Gesture.TheVariants as gesture
use Rattle.screen_form.specs.Members.{handler_by, handler_in}
use Rattle.layer_tree.specs.declared.layers.Layer.{Layer}
use Rattle.layer_tree.specs.Printed.{layer_text}
use Rattle.layout_form.specs.Object.{setting_of}
use Rattle.screen_form.specs.Remarks.{notes_of}
use Rattle.render_readers.specs.Shown.{read_off}
use Rattle.widget_model.specs.Look.{Look, sized_box, constrained_box, padding, align, colored_box, text, row, column, wrap, table, stack, flexible, positioned, opacity, clip_rect, repaint_boundary, merge_semantics, intrinsic_width, intrinsic_height, offstage, ignore_pointer, absorb_pointer, detector, semantics, exclude_semantics, custom_paint, custom_layout, viewport, sliver_to_box, sliver_padding, sliver_fixed, sliver_lazy, keep, inherit, component}
use Rattle.widget_model.specs.Plain.{PlainWidget, look_of}
use Rattle.widget_model.specs.Size.{count_of}
use Rattle.widget_model.specs.Typed.{IsTypedWidget}
use Rattle.widget_model.specs.declared.words.Behavior.{Behavior}
use Rattle.widget_model.specs.View.{shared}
use Rattle.widget_model.specs.declared.widgets.Widget.{Widget}
use Rattle.plain_tree.specs.At.{node_at, numbers_of}
use Rattle.plain_tree.specs.Laid.{Laid}
use Rattle.plain_tree.specs.Laws.{AllDiffer}
use Rattle.plain_tree.specs.Offsets.{corrected, scrolled_by}
use Rattle.plain_tree.specs.PlainNode.{PlainNode, widget_of, fields_of}
use Rattle.program_check.specs.Checked.{PlainChecked}
use Rattle.program_check.specs.CheckedView.{plain_checked}
use Rattle.program_check.specs.TypedChecked.{IsTypedChecked}
use Rattle.program_check.specs.declared.checked.CheckedParts.{CheckedParts}
use Rattle.template_build.specs.HandlersIn.{HandlersMeet, SetsNothing}
use Rattle.template_build.specs.Program.{declarations_of}
use Rattle.build_form.specs.Entering.{output_limit, Blueprint}
use Rattle.build_form.specs.FaultView.{fault_of}
use Rattle.build_form.specs.FullBuild.{Screen, Built, failed, built, full_build, built_by, live_ranges, both_phases, basis, started}
use Rattle.build_form.specs.Numbered.{IsNumbered}
use Rattle.build_form.specs.Owned.{HasHandler, AreOwned}
use Rattle.build_form.specs.Partner.{root_arrival}
use Rattle.build_form.specs.Program.{blueprint_of}
use Rattle.build_form.specs.Step.{Fault, repeated_sibling_key, repeated_global_key, tree_too_large, output_too_large}
use Rattle.build_form.specs.WellBuilt.{IsWellBuilt}
use Rattle.build_form.specs.declared.faults.FrameFault.{FrameFault}
use Rattle.build_form.specs.declared.faults.FrameFault.TheVariants as frame_fault
use Rattle.frame_session.specs.declared.held.HeldSession.{HeldSession}
use Rattle.session_form.specs.declared.line_end.LineEnd.{LineEnd}
use Rattle.session_form.specs.declared.line_end.LineEnd.TheVariants as line_end
use Rattle.session_form.specs.EventText.{events_text}
use Rattle.session_form.specs.FaultText.{fault_text}
use Rattle.session_form.specs.FrameText.{layers_of, notes_text, frame_text}
use Rattle.screen_owner.specs.Screen.{shown_in, layer_in}
use Rattle.frame_owner.specs.Frame.{KeptFrame, next_in}
use Rattle.frame_owner.specs.Framed.{screen_for, built_after, builds_after, ShowsFrame}
use Rattle.frame_owner.specs.Rooms.{HasRoomAfter}
use Rattle.frame_owner.specs.Standing.{FrameStandsFor}
use Rattle.frame_owner.specs.Working.{FrameWorks, LaidForFault}
use Rattle.node_tree.specs.Tree.{Tree}
use Rattle.render_tree.specs.Object.{RenderObject}
use Rattle.session_form.specs.Framing.{screen_of, built_of, laid_of, shown_of, framed, after_drops, drop_events, frame_by, frame_line}
use Rattle.session_form.specs.Handlers.{handler_of_node}
use Rattle.session_form.specs.Outcome.{faulted, state_after, text_of, end_of}
use Rattle.session_form.specs.Program.{scale_of}
use Rattle.work_sets.specs.Work.{due_components}
use Rattle.frame_session.specs.Ending.{IfGoesOn}
use Rattle.frame_session.specs.StandsFor.{StandsFor, IsRoot, HasFramed, HandlersFit, AreSound, AreSoundOn, IsRightStill, body_text}
use Rattle.session_form.specs.State.{SessionState, Shown}
use Rattle.frame_session.proofs.LastLemmas.{root_known}
use Rattle.frame_session.proofs.LikeLemmas.{sound_corrected}
use Rattle.frame_session.proofs.StandsLemmas.{stands_by}
use Rattle.session_form.proofs.TreeLemmas.{none_some, some_inj}

-- ---- what is built

pub too_large : (kept : HeldSession) (ds : List Plug) (s : SessionState) → StandsFor kept ds s → kept.root ≡ None → built_of s ≡ failed output_too_large
unfolding full_build
too_large kept ds s h is =
    let P : Option (Rc Widget Global) → Type 0 = λ o. IsRoot o s.root in
    let large : output_limit < count_of s.root = subst P is h.root in
    let test : nat_lt output_limit (count_of s.root) ≡ true = grind (arith, nat_tests) in
    ap (λ (b : Bool). if b then failed output_too_large
    else built_by (both_phases (basis (blueprint_of s.program) s.tree) (live_ranges (screen_of s)) (root_arrival s.tree s.root) (started s.next))) test

-- of what the owner is asked for
module _ (kept : HeldSession) (ds : List Plug) (s : SessionState) (root : Rc Widget Global) (h : StandsFor kept ds s) (scale_is : kept.owner.screen.scale ≡ scale_of (plain_checked kept.program))
    (is : kept.root ≡ Some root) where
  abbrev program : PlainChecked
  program = plain_checked kept.program

  -- the owner stands for the tree of the state
  pub stands_here : FrameStandsFor program ds s.marks s.tree kept.owner
  stands_here = subst (λ (c : PlainChecked). FrameStandsFor c ds s.marks s.tree kept.owner) (sym h.program) h.tree

  screen_same : screen_for kept.owner ds kept.view ≡ screen_of s
  screen_same = λ i. record { scale = (scale_is ∙ ap scale_of h.program) i; delegates = h.delegates_mean i; view = h.view i }

  pub built_same : built_after program (screen_for kept.owner ds kept.view) kept.owner s.tree (shared root) ≡ built_of s
  built_same =
      let P : Option (Rc Widget Global) → Type 0 = λ o. IsRoot o s.root in
      let same : shared root ≡ s.root = subst P is h.root in
      let screen = screen_same in
      λ i. full_build (blueprint_of (h.program i)) (screen i) s.tree (h.next i) (same i)

  -- the text that is left is that of what is shown then
  abbrev LeavesText : KeptFrame → Option (Vec ℕ Global) → Type 0
  LeavesText owner last =
      (now : Shown) → shown_in owner.screen ≡ Some now.laid → layer_in owner.screen ≡ Some (layers_of (scale_of s.program).cell now)
      → IfSome last (λ text. text.items ≡ body_text (Some now.laid) (layers_of (scale_of s.program).cell now))

  framed_by : (owner : KeptFrame) (last : Option (Vec ℕ Global)) → LeavesText owner last → (b : Built) → ShowsFrame s.program (screen_of s) b owner
      → HasFramed b (record kept { owner = owner; same_root = true; frames = kept.frames + 1; last = last }) ds s
  framed_by owner last leaves (failed fault) shows = shows
  framed_by owner last leaves (built made next) shows = record {
    program = h.program;
    root = h.root;
    tree = subst (λ (es : List Plug). FrameStandsFor s.program es [] (Some (corrected (laid_of (screen_of s) made) made)) owner) (sym h.delegates_mean) shows.0.stands;
    next = shows.1;
    shown = record { laid = shows.0.laid; layers = shows.0.layer };
    view = h.view;
    delegates_mean = h.delegates_mean;
    pointers = h.pointers;
    time = h.time;
    frames = ap (λ n. n + 1) h.frames;
    last = leaves (shown_of (screen_of s) made) shows.0.laid shows.0.layer;
  }

  -- what is kept after a frame
  pub framed_stands : (owner : KeptFrame) (last : Option (Vec ℕ Global)) → LeavesText owner last → ShowsFrame program (screen_for kept.owner ds kept.view) (built_after program (screen_for kept.owner ds kept.view) kept.owner s.tree (shared root)) owner
      → HasFramed (built_of s) (record kept { owner = owner; same_root = true; frames = kept.frames + 1; last = last }) ds s
  framed_stands owner last leaves shows =
      let screen = screen_same in
      let made = built_same in
      framed_by owner last leaves (built_of s) (subst (λ (b : Built). ShowsFrame s.program (screen_of s) b owner) made
      (subst (λ (x : Screen). ShowsFrame s.program x (built_after program (screen_for kept.owner ds kept.view) kept.owner s.tree (shared root)) owner) screen
      (subst (λ (c : PlainChecked). ShowsFrame c (screen_for kept.owner ds kept.view) (built_after program (screen_for kept.owner ds kept.view) kept.owner s.tree (shared root)) owner) h.program shows)))

  -- the root is typed
  pub root_here : IfSome kept.root (λ r. IsTypedWidget (declarations_of program) (shared r)) → IsTypedWidget (declarations_of s.program) s.root
  root_here typed =
      let P : Option (Rc Widget Global) → Type 0 = λ o. IsRoot o s.root in
      let T : Option (Rc Widget Global) → Type 0 = λ o. IfSome o (λ r. IsTypedWidget (declarations_of program) (shared r)) in
      let same : shared root ≡ s.root = subst P is h.root in
      let here : IsTypedWidget (declarations_of program) (shared root) = subst T is typed in
      subst (λ (x : PlainWidget). IsTypedWidget (declarations_of s.program) x) same (subst (λ (c : PlainChecked). IsTypedWidget (declarations_of c) (shared root)) h.program here)

  -- what is built is due
  builds_here : builds_after program (screen_for kept.owner ds kept.view) kept.owner s.tree s.marks (shared root) ≡ builds_after s.program (screen_of s) kept.owner s.tree s.marks s.root
  builds_here =
      let P : Option (Rc Widget Global) → Type 0 = λ o. IsRoot o s.root in
      let same : shared root ≡ s.root = subst P is h.root in
      let screen = screen_same in
      λ i. builds_after (h.program i) (screen i) kept.owner s.tree s.marks (same i)

  pub few_built : ((t : SessionState) (x : KeptFrame) → next_in x ≡ t.next → builds_after t.program (screen_of t) x t.tree t.marks t.root ≤ length (due_components t)) → (before after : ℕ)
      → after ≡ before + builds_after program (screen_for kept.owner ds kept.view) kept.owner s.tree s.marks (shared root) → after ≤ before + length (due_components s)
  few_built law before after counts =
      let same = builds_here in
      let few = law s kept.owner h.next in
      omega (arith, counts, same, few)

  -- what a frame does and counts, in the words of the state
  pub works_here : (old new : Tree RenderObject) (lo ln po pn : ℕ)
      → FrameWorks (setting_of kept.owner.screen.scale ds) kept.view (built_after program (screen_for kept.owner ds kept.view) kept.owner s.tree (shared root)) old new lo ln po pn
      → FrameWorks (setting_of (scale_of s.program) s.delegates) s.view (built_of s) old new lo ln po pn
  works_here old new lo ln po pn works =
      let screen = screen_same in
      let made = built_same in
      subst (λ (b : Built). FrameWorks (setting_of (scale_of s.program) s.delegates) s.view b old new lo ln po pn) made
      (subst (λ (x : Screen). FrameWorks (setting_of x.scale x.delegates) x.view (built_after program (screen_for kept.owner ds kept.view) kept.owner s.tree (shared root)) old new lo ln po pn) screen works)

  pub fault_here : (old : Tree RenderObject) (lo ln : ℕ) → LaidForFault program (screen_for kept.owner ds kept.view) s.tree (next_in kept.owner) (shared root) old lo ln
      → LaidForFault s.program (screen_of s) s.tree s.next s.root old lo ln
  fault_here old lo ln laid =
      let P : Option (Rc Widget Global) → Type 0 = λ o. IsRoot o s.root in
      let same : shared root ≡ s.root = subst P is h.root in
      let screen = screen_same in
      subst (λ (x : PlainWidget). LaidForFault s.program (screen_of s) s.tree s.next x old lo ln) same
      (subst (λ (n : ℕ). LaidForFault s.program (screen_of s) s.tree n (shared root) old lo ln) h.next
      (subst (λ (x : Screen). LaidForFault s.program x s.tree (next_in kept.owner) (shared root) old lo ln) screen
      (subst (λ (c : PlainChecked). LaidForFault c (screen_for kept.owner ds kept.view) s.tree (next_in kept.owner) (shared root) old lo ln) h.program laid)))

-- what holds at a fault in three ways
pub some_all : {A : Type 0} (P Q R : A → Type 0) (o : Option A) → IfSome o P → IfSome o Q → IfSome o R → IfSome o (λ x. P x × Q x × R x)
some_all P Q R None h k l = tt
some_all P Q R (Some x) h k l = (h, k, l)

pub at_most : (n m : ℕ) → n ≤ n + m
at_most n m = omega arith

-- a frame that was shown was built
pub framed_case : (s : SessionState) (kept : HeldSession) (ds : List Plug) (P : Type 0) → HasFramed (built_of s) kept ds s
    → ((made : PlainNode) (next : ℕ) → built_of s ≡ built made next → StandsFor kept ds (framed s made next) → P) → P
framed_case s kept ds P h k = by_built (built_of s) refl h
  where
    by_built : (b : Built) → built_of s ≡ b → HasFramed b kept ds s → P
    by_built (failed fault) e h = absurd h
    by_built (built made next) e h = k made next e h

-- ---- what holds of the tree that is built

by_gesture : (tap long vertical horizontal pan : Option Handler) (behavior : Behavior) (g : Gesture) (h : Handler)
    → handler_by tap long vertical horizontal pan g ≡ Some h → HasHandler h (detector behavior tap long vertical horizontal pan)
by_gesture tap long vertical horizontal pan behavior gesture.Tap h e = inl e
by_gesture tap long vertical horizontal pan behavior gesture.Long h e = inr (inl e)
by_gesture tap long vertical horizontal pan behavior gesture.Vertical h e = inr (inr (inl e))
by_gesture tap long vertical horizontal pan behavior gesture.Horizontal h e = inr (inr (inr (inl e)))
by_gesture tap long vertical horizontal pan behavior gesture.Pan h e = inr (inr (inr (inr e)))

pub has_handler : (l : Look) (g : Gesture) (h : Handler) → handler_in l g ≡ Some h → HasHandler h l
has_handler (sized_box width height) g h e = absurd (none_some e)
has_handler (constrained_box min_width max_width min_height max_height) g h e = absurd (none_some e)
has_handler (padding left top right bottom) g h e = absurd (none_some e)
has_handler (align ax ay) g h e = absurd (none_some e)
has_handler (colored_box color) g h e = absurd (none_some e)
has_handler (text words color) g h e = absurd (none_some e)
has_handler (row main cross size) g h e = absurd (none_some e)
has_handler (column main cross size) g h e = absurd (none_some e)
has_handler (wrap spacing run_spacing) g h e = absurd (none_some e)
has_handler (table widths) g h e = absurd (none_some e)
has_handler (stack ax ay fit) g h e = absurd (none_some e)
has_handler (flexible flex fit) g h e = absurd (none_some e)
has_handler (positioned left top right bottom width height) g h e = absurd (none_some e)
has_handler (opacity alpha) g h e = absurd (none_some e)
has_handler clip_rect g h e = absurd (none_some e)
has_handler repaint_boundary g h e = absurd (none_some e)
has_handler merge_semantics g h e = absurd (none_some e)
has_handler intrinsic_width g h e = absurd (none_some e)
has_handler intrinsic_height g h e = absurd (none_some e)
has_handler (offstage hidden) g h e = absurd (none_some e)
has_handler (ignore_pointer ignoring) g h e = absurd (none_some e)
has_handler (absorb_pointer absorbing) g h e = absurd (none_some e)
has_handler (detector behavior tap long vertical horizontal pan) g h e = by_gesture tap long vertical horizontal pan behavior g h e
has_handler (semantics label button container) g h e = absurd (none_some e)
has_handler (exclude_semantics excluding) g h e = absurd (none_some e)
has_handler (custom_paint delegate) g h e = absurd (none_some e)
has_handler (custom_layout delegate) g h e = absurd (none_some e)
has_handler (viewport axis) g h e = absurd (none_some e)
has_handler sliver_to_box g h e = absurd (none_some e)
has_handler (sliver_padding left top right bottom) g h e = absurd (none_some e)
has_handler (sliver_fixed extent) g h e = absurd (none_some e)
has_handler (sliver_lazy extent) g h e = absurd (none_some e)
has_handler (keep kept) g h e = absurd (none_some e)
has_handler (inherit name value) g h e = absurd (none_some e)
has_handler (component place props declaration) g h e = absurd (none_some e)

node_handler : (o : Option PlainNode) (g : Gesture) (h : Handler) (Fits : Type 0) → handler_of_node o g ≡ Some h
    → ((n : PlainNode) → o ≡ Some n → HasHandler h (look_of (widget_of n)) → Fits) → Fits
node_handler None g h Fits e k = absurd (none_some e)
node_handler (Some n) g h Fits e k = k n refl (has_handler (look_of (widget_of n)) g h e)

pub handlers_fit : (tree : PlainNode)
    → ((number : ℕ) (n owner : PlainNode) (h : Handler) → node_at number tree ≡ Some n → HasHandler h (look_of (widget_of n))
    → node_at h.owner tree ≡ Some owner → FitFields (map type_of (fields_of owner)) h.sets) → HandlersFit (Some tree)
handlers_fit tree k number g h owner has found =
    node_handler (node_at number tree) g h (FitFields (map type_of (fields_of owner)) h.sets) has (λ n is own. k number n owner h is own found)

nodes_few : (b : Bool) → (if b then standard_scale else fine_scale).nodes ≤ 1048576
nodes_few true = omega arith
nodes_few false = omega arith

pub nodes_of_few : (c : PlainChecked) → (blueprint_of c).nodes ≤ 1048576
nodes_of_few c = nodes_few (nat_lt c.version 3)

few_after : (next frames nodes after : ℕ) → next ≤ 1 + frames * 1048576 → nodes ≤ 1048576 → after ≤ next + nodes → after ≤ 1 + (frames + 1) * 1048576
few_after next frames nodes after a b c = omega arith

pub sound_built : (program : CheckedParts) (root : Option (Rc Widget Global)) (old : Option PlainNode) (tree : PlainNode) (next after frames : ℕ)
    → AreSound program root old next frames → IsWellBuilt (declarations_of (plain_checked program)) tree → IsNumbered after tree
    → after ≤ next + (blueprint_of (plain_checked program)).nodes
    → ((number : ℕ) (n owner : PlainNode) (h : Handler) → node_at number tree ≡ Some n → HasHandler h (look_of (widget_of n))
    → node_at h.owner tree ≡ Some owner → FitFields (map type_of (fields_of owner)) h.sets)
    → AreSound program root (Some tree) after (frames + 1)
sound_built program root old tree next after frames h well numbered few fit = record {
  tree_built = well;
  numbered = numbered;
  handlers = handlers_fit tree fit;
  few = few_after next frames (blueprint_of (plain_checked program)).nodes after h.few (nodes_of_few (plain_checked program)) few;
  root_typed = h.root_typed;
  root_sized = h.root_sized;
  root_sets = h.root_sets;
}

-- ---- what is shown

-- the layer that the screen lends
pub layer_found : (o : Option (Bor Layer)) (lent_layer : Bor Layer) (layer : Layer) (shown : Option Layer) → o ≡ Some lent_layer → option_copied o ≡ shown → shown ≡ Some layer
    → lent_layer.now ≡ layer
layer_found o lent_layer layer shown is copied painted = some_inj (sym (ap option_copied is) ∙ (copied ∙ painted))

-- the text of what the screen shows
pub shown_printed : (number : ℕ) (cell : Size) (shown : Shown) (laid : Option Laid) (layer : Layer) → laid ≡ Some shown.laid → layer ≡ layers_of cell shown
    → codes "frame " ++ (decimal number ++ (codes "\n" ++ (notes_text (read_off notes_of laid) ++ (layer_text 0 layer ++ codes "end\n"))))
    ≡ frame_text number cell shown
shown_printed number cell shown laid layer is painted =
    λ i. codes "frame " ++ (decimal number ++ (codes "\n" ++ (notes_text (read_off notes_of (is i)) ++ (layer_text 0 (painted i) ++ codes "end\n"))))

-- ---- all that holds of it

pub one_sound : (program : CheckedParts) (kept : Option (Rc Widget Global)) (root : Rc Widget Global) (old : Option PlainNode) (screen : Screen) (tree : PlainNode)
    (next after frames : ℕ)
    → ((b : Blueprint) (screen : Screen) (old : Option PlainNode) (next after : ℕ) (root : PlainWidget) (tree : PlainNode)
    → IfSome old (IsNumbered next) → full_build b screen old next root ≡ built tree after → IsNumbered after tree)
    → ((b : Blueprint) (screen : Screen) (old : Option PlainNode) (next after : ℕ) (root : PlainWidget) (tree : PlainNode)
    → full_build b screen old next root ≡ built tree after → after ≤ next + b.nodes)
    → ((c : PlainChecked) (screen : Screen) (old : Option PlainNode) (next after : ℕ) (root : PlainWidget) (tree : PlainNode)
    → IsTypedChecked c → full_build (blueprint_of c) screen old next root ≡ built tree after → IsWellBuilt (declarations_of c) tree
    → HandlersMeet SetsNothing root → AreOwned ((0, []) ∷ []) tree)
    → ((tree : PlainNode) → AreOwned ((0, []) ∷ []) tree → AllDiffer (numbers_of tree)
    → (number : ℕ) (n owner : PlainNode) (h : Handler) → node_at number tree ≡ Some n → HasHandler h (look_of (widget_of n))
    → node_at h.owner tree ≡ Some owner → FitFields (map type_of (fields_of owner)) h.sets)
    → AreSound program kept old next frames → kept ≡ Some root → IsTypedChecked (plain_checked program)
    → full_build (blueprint_of (plain_checked program)) screen old next (shared root) ≡ built tree after → IsWellBuilt (declarations_of (plain_checked program)) tree
    → AreSound program kept (Some tree) after (frames + 1)
one_sound program kept root old screen tree next after frames differ few above fit h is typed made well =
    let c = plain_checked program in
    let P : Option (Rc Widget Global) → Type 0 = λ o. IfSome o (λ r. HandlersMeet SetsNothing (shared r)) in
    let sets : HandlersMeet SetsNothing (shared root) = subst P is h.root_sets in
    let numbered : IsNumbered after tree = differ (blueprint_of c) screen old next after (shared root) tree h.numbered made in
    sound_built program kept old tree next after frames h well numbered (few (blueprint_of c) screen old next after (shared root) tree made)
    (fit tree (above c screen old next after (shared root) tree typed made well sets) numbered.differ)

-- laws of builds
pub record BuildLaws : Type 0 where
  pub well : (c : PlainChecked) (screen : Screen) (old : Option PlainNode) (next after : ℕ) (root : PlainWidget) (tree : PlainNode) → IsTypedChecked c → IfSome old (IsWellBuilt (declarations_of c))
      → IsTypedWidget (declarations_of c) root → full_build (blueprint_of c) screen old next root ≡ built tree after → IsWellBuilt (declarations_of c) tree
  pub differ : (b : Blueprint) (screen : Screen) (old : Option PlainNode) (next after : ℕ) (root : PlainWidget) (tree : PlainNode)
      → IfSome old (IsNumbered next) → full_build b screen old next root ≡ built tree after → IsNumbered after tree
  pub few : (b : Blueprint) (screen : Screen) (old : Option PlainNode) (next after : ℕ) (root : PlainWidget) (tree : PlainNode)
      → full_build b screen old next root ≡ built tree after → after ≤ next + b.nodes
  pub above : (c : PlainChecked) (screen : Screen) (old : Option PlainNode) (next after : ℕ) (root : PlainWidget) (tree : PlainNode)
      → IsTypedChecked c → full_build (blueprint_of c) screen old next root ≡ built tree after → IsWellBuilt (declarations_of c) tree
      → HandlersMeet SetsNothing root → AreOwned ((0, []) ∷ []) tree
  pub fit : (tree : PlainNode) → AreOwned ((0, []) ∷ []) tree → AllDiffer (numbers_of tree)
      → (number : ℕ) (n owner : PlainNode) (h : Handler) → node_at number tree ≡ Some n → HasHandler h (look_of (widget_of n))
      → node_at h.owner tree ≡ Some owner → FitFields (map type_of (fields_of owner)) h.sets
  pub offsets : (offset : ℕ → Option ℕ) (after : ℕ) (n : PlainNode) → IsNumbered after n → IsNumbered after (scrolled_by offset n)

-- what stands with some delegates stands with those with which all is right
pub held_stands : (c : PlainChecked) (ds es : List Plug) (marks : List ℕ) (tree : Option PlainNode) (x : KeptFrame) → FrameStandsFor c ds marks tree x → IsRightStill es x → FrameStandsFor c es marks tree x
held_stands c ds es marks tree x h right = record { scrolled = h.scrolled; trees = h.trees; right = right.0; unasked = h.unasked; settled = h.settled; still = right.1 }

-- what is kept after a frame is sound, of the tree that it shows
pub sound_framed : BuildLaws → (old new : KeptFrame) (program : CheckedParts) (kept : Option (Rc Widget Global)) (root : Rc Widget Global) (same_root : Bool) (frames : ℕ) (ds : List Plug) (view : Size)
    (h : AreSoundOn old program kept same_root frames) → kept ≡ Some root → IsTypedChecked (plain_checked program) → (b : Built)
    → built_after (plain_checked program) (screen_for old ds view) old h.tree (shared root) ≡ b → ShowsFrame (plain_checked program) (screen_for old ds view) b new
    → new.screen.spent ≡ false → new.screen.scale ≡ old.screen.scale → HasRoomAfter (frames + 1) new → IfSome new.settled (λ w. w ≡ shared root)
    → AreSoundOn new program kept true (frames + 1)
sound_framed laws old new program kept root same_root frames ds view h is typed (failed fault) e shows ready scale room settles = absurd shows
sound_framed laws old new program kept root same_root frames ds view h is typed (built made next) e shows ready scale room settles =
    let c = plain_checked program in
    let screen = screen_for old ds view in
    let after = corrected (laid_of screen made) made in
    let P : Option (Rc Widget Global) → Type 0 = λ o. IfSome o (λ r. IsTypedWidget (declarations_of c) (shared r)) in
    let root_typed : IsTypedWidget (declarations_of c) (shared root) = subst P is h.parts.root_typed in
    let well = laws.well c screen h.tree (next_in old) next (shared root) made typed h.parts.tree_built root_typed e in
    let one = one_sound program kept root h.tree screen made (next_in old) next frames laws.differ laws.few laws.above laws.fit h.parts is typed e well in
    record {
      delegates = ds;
      marks = [];
      tree = Some after;
      stands = shows.0.stands;
      parts = subst (λ (n : ℕ). AreSound program kept (Some after) n (frames + 1)) (sym shows.1) (sound_corrected program kept made after next (frames + 1) (laid_of screen made) laws.offsets one refl);
      ready = ready;
      scale_is = scale ∙ h.scale_is;
      room = room;
      known = λ on. root_known new.settled kept root is settles;
    }

-- ---- the line `frame`

pub frame_built : (s : SessionState) (tree : PlainNode) (next : ℕ) → built_of s ≡ built tree next → frame_line s ≡ frame_by (built tree next) s
frame_built s tree next e = ap (λ b. frame_by b s) e

pub frame_failed : (s : SessionState) (f : Fault) → built_of s ≡ failed f → frame_line s ≡ faulted f
frame_failed s f e = ap (λ b. frame_by b s) e

pub frame_state : (kept : HeldSession) (ds : List Plug) (s : SessionState) (tree : PlainNode) (next : ℕ) → built_of s ≡ built tree next
    → StandsFor kept ds (after_drops (framed s tree next)) → StandsFor kept ds (state_after s (frame_line s))
frame_state kept ds s tree next e h = stands_by kept ds s (frame_line s) (frame_by (built tree next) s) (frame_built s tree next e) h

pub frame_printed : (s : SessionState) (tree : PlainNode) (next : ℕ) (old shown new : List ℕ) → built_of s ≡ built tree next
    → shown ≡ old ++ frame_text (s.frames + 1) (scale_of s.program).cell (shown_of (screen_of s) tree)
    → new ≡ shown ++ events_text (drop_events (framed s tree next)) → new ≡ old ++ text_of (frame_line s)
frame_printed s tree next old shown new e first more =
    let said = frame_text (s.frames + 1) (scale_of s.program).cell (shown_of (screen_of s) tree) in
    let events = events_text (drop_events (framed s tree next)) in
    more ∙ ap (λ o. o ++ events) first ∙ append_assoc old said events ∙ ap (λ o. old ++ text_of o) (sym (frame_built s tree next e))

pub frame_ended : (s : SessionState) (tree : PlainNode) (next : ℕ) → built_of s ≡ built tree next → line_end.Done ≡ end_of (frame_line s)
frame_ended s tree next e = sym (ap end_of (frame_built s tree next e))

-- a fault, as a call names it, is named so
pub named_back : (x : FrameFault) (f : Fault) → fault_of x ≡ Some f → line_end.Fault x ≡ end_of (faulted f)
named_back (frame_fault.RepeatedSiblingKey k) f e = let same : repeated_sibling_key k ≡ f = cc in ap (λ g. end_of (faulted g)) same
named_back (frame_fault.RepeatedGlobalKey v) f e = let same : repeated_global_key v ≡ f = cc in ap (λ g. end_of (faulted g)) same
named_back frame_fault.TreeTooLarge f e = let same : tree_too_large ≡ f = cc in ap (λ g. end_of (faulted g)) same
named_back frame_fault.OutputTooLarge f e = let same : output_too_large ≡ f = cc in ap (λ g. end_of (faulted g)) same
named_back frame_fault.OutOfMemory f e = absurd (none_some e)

by_fault : (C : Type 0) (s : SessionState) (o : Option Fault) → IfSome o (λ g. built_of s ≡ failed g) → (o ≡ None → C)
    → ((g : Fault) → o ≡ Some g → frame_line s ≡ faulted g → C) → C
by_fault C s None h none some = none refl
by_fault C s (Some g) h none some = some g refl (frame_failed s g h)

-- a fault ends the session
pub fault_over : (o : Option Fault) (r : Result LineEnd AllocError) (P : Type 0) → (o ≡ None → OnOk r ⊥) → ((f : Fault) → o ≡ Some f → IfOk r (λ x. x ≡ end_of (faulted f))) → IfGoesOn r P
fault_over None (Ok end) P none ends = absurd (none refl)
fault_over (Some f) (Ok end) P none ends = subst (λ (x : LineEnd). IfGoesOn (Ok x) P) (sym (ends f refl)) tt
fault_over o (Err short) P none ends = tt

-- what holds at each fault holds where the line is written
pub fault_known : {A E : Type 0} (o : Option Fault) (r : Result A E) (P : Type 0) → (o ≡ None → OnOk r ⊥) → IfSome o (λ f. P) → OnOk r P
fault_known None (Ok end) P none h = absurd (none refl)
fault_known (Some f) (Ok end) P none h = h
fault_known o (Err short) P none h = tt

pub fault_printed : {E : Type 0} (s : SessionState) (o : Option Fault) (r : Result LineEnd E) (old new : List ℕ)
    → IfSome o (λ g. built_of s ≡ failed g) → (o ≡ None → OnOk r ⊥) → ((f : Fault) → o ≡ Some f → OnOk r (new ≡ old ++ fault_text f))
    → OnOk r (new ≡ old ++ text_of (frame_line s))
fault_printed s o (Ok x) old new fault none said =
    by_fault (new ≡ old ++ text_of (frame_line s)) s o fault (λ e. absurd (none e)) (λ g e is. said g e ∙ ap (λ l. old ++ text_of l) (sym is))
fault_printed s o (Err e) old new fault none said = tt

pub fault_ended : {E : Type 0} (s : SessionState) (o : Option Fault) (r : Result LineEnd E)
    → IfSome o (λ g. built_of s ≡ failed g) → (o ≡ None → OnOk r ⊥) → ((f : Fault) → o ≡ Some f → IfOk r (λ x. x ≡ end_of (faulted f)))
    → IfOk r (λ x. x ≡ end_of (frame_line s))
fault_ended s o (Ok x) fault none ends =
    by_fault (x ≡ end_of (frame_line s)) s o fault (λ e. absurd (none e)) (λ g e is. ends g e ∙ ap end_of (sym is))
fault_ended s o (Err e) fault none ends = tt
