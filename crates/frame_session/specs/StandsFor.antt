-- What a session keeps, and which state it stands for.
use Rattle.std.specs.Prelude.{◌≡◌, ℕ, ◌+◌, ◌*◌, ◌<◌, ◌≤◌, ◌++◌, Bool, true, false, Option, Some, None, IfSome, option_map, List, [], map, codes}
use Rattle.std.specs.declared.rc.Rc.{Rc}
use Rattle.std.specs.declared.alloc.Global.{Global}
use Rattle.fx_geom.specs.declared.shapes.Size.{Size}
use Rattle.fx_expr.specs.Sets.{FitFields}
use Rattle.fx_expr.specs.Value.{type_of}
use Rattle.fx_expr.specs.declared.handlers.Handler.{Handler}
use Rattle.delegates.specs.Table.{Plug}
use Rattle.gesture_arena.specs.declared.gesture.Gesture.{Gesture}
use Rattle.plain_tree.specs.PlainNode.{PlainNode, fields_of}
use Rattle.gesture_arena.specs.StandsFor as arena
use Rattle.gesture_arena.specs.StandsFor.{events_left}
use Rattle.widget_model.specs.Plain.{PlainWidget}
use Rattle.widget_model.specs.Size.{count_of}
use Rattle.widget_model.specs.Sized.{IsSized}
use Rattle.widget_model.specs.Typed.{IsTypedWidget}
use Rattle.widget_model.specs.View.{shared}
use Rattle.widget_model.specs.declared.widgets.Widget.{Widget}
use Rattle.program_check.specs.declared.checked.CheckedParts.{CheckedParts}
use Rattle.program_check.specs.CheckedView.{plain_checked}
use Rattle.template_build.specs.HandlersIn.{HandlersMeet, SetsNothing}
use Rattle.template_build.specs.Program.{declarations_of}
use Rattle.build_form.specs.Entering.{output_limit}
use Rattle.build_form.specs.FullBuild.{Built, failed, built}
use Rattle.build_form.specs.Numbered.{IsNumbered}
use Rattle.build_form.specs.WellBuilt.{IsWellBuilt}
use Rattle.frame_session.specs.declared.held.HeldSession.{HeldSession}
use Rattle.frame_session.specs.declared.kept.KeptParts.{KeptParts}
use Rattle.layer_tree.specs.declared.layers.Layer.{Layer}
use Rattle.layer_tree.specs.Printed.{layer_text}
use Rattle.plain_tree.specs.Laid.{Laid}
use Rattle.screen_form.specs.Remarks.{notes_of}
use Rattle.render_readers.specs.Shown.{read_off}
use Rattle.screen_owner.specs.Screen.{KeptScreen, IsRight, shown_in, layer_in}
use Rattle.frame_owner.specs.Frame.{KeptFrame, next_in}
use Rattle.frame_owner.specs.Rooms.{HasRoomAfter}
use Rattle.frame_owner.specs.Standing.{ShowsStill, FrameStandsFor}
use Rattle.session_form.specs.FrameText.{notes_text, layers_of}
use Rattle.session_form.specs.Framing.{framed}
use Rattle.session_form.specs.Handlers.{node_in, handler_at}
use Rattle.session_form.specs.Program.{scale_of}
use Rattle.session_form.specs.State.{SessionState, Shown}

-- of a root widget that is too large for a build it is kept only that it is
abbrev pub IsRoot : Option (Rc Widget Global) → PlainWidget → Type 0
IsRoot (Some kept) root = shared kept ≡ root
IsRoot None root = output_limit < count_of root

-- the screen shows the laid tree of the last frame, by its layers; before the first frame it shows nothing
pub record IsShown (cell : Size) (screen : KeptScreen) (shown : Option Shown) : Type 0 where
  pub laid : shown_in screen ≡ option_map (λ (s : Shown). s.laid) shown
  pub layers : layer_in screen ≡ option_map (layers_of cell) shown

-- what the text of a frame has after its number: the notes of a laid tree, its layers, `end`
abbrev pub body_text : Option Laid → Layer → List ℕ
body_text laid layer = notes_text (read_off notes_of laid) ++ (layer_text 0 layer ++ codes "end\n")

-- a text is that of what is shown
abbrev pub IsTextOf : Size → Option Shown → List ℕ → Type 0
IsTextOf cell shown text = IfSome shown (λ (x : Shown). text ≡ body_text (Some x.laid) (layers_of cell x))

-- the layouts and the layers that are kept are right, where the delegates mean this, and what is shown stands still in the view in which it does
abbrev pub IsRightStill : List Plug → KeptFrame → Type 0
IsRightStill delegates owner = IsRight delegates owner.screen × IfSome owner.still (ShowsStill delegates owner.screen)

-- what is kept, with delegates that mean this, stands for a state; what was touched isn't kept
pub record StandsFor (kept : HeldSession) (delegates : List Plug) (s : SessionState) : Type 0 where
  pub program : plain_checked kept.program ≡ s.program
  pub root : IsRoot kept.root s.root
  -- elements, render nodes and the registry of global keys stand for the tree, the elements that are flagged are those whose numbers are
  -- marked, and all layouts and layers that are kept are right, but for what is marked
  pub tree : FrameStandsFor s.program delegates s.marks s.tree kept.owner
  pub next : next_in kept.owner ≡ s.next
  pub shown : IsShown (scale_of s.program).cell kept.owner.screen s.shown
  pub view : kept.view ≡ s.view
  pub delegates_mean : delegates ≡ s.delegates
  pub pointers : arena.StandsFor kept.pointers (scale_of s.program) s.pointers
  pub time : kept.time ≡ s.time
  pub frames : kept.frames ≡ s.frames
  -- a text that is kept is that of what is shown
  pub last : IfSome kept.last (λ text. IsTextOf (scale_of s.program).cell s.shown text.items)

-- a frame was shown of what a build gave in a state
abbrev pub HasFramed : Built → HeldSession → List Plug → SessionState → Type 0
HasFramed (failed fault) kept delegates s = ⊥
HasFramed (built made next) kept delegates s = StandsFor kept delegates (framed s made next)

-- the handlers of a tree's nodes fit the fields of the nodes that own them
abbrev pub HandlersFit : Option PlainNode → Type 0
HandlersFit tree =
    (number : ℕ) (g : Gesture) (h : Handler) (owner : PlainNode) → handler_at tree number g ≡ Some h → node_in tree h.owner ≡ Some owner
    → FitFields (map type_of (fields_of owner)) h.sets

-- what holds of all that is kept, whatever state it stands for
pub record AreSound (program : CheckedParts) (root : Option (Rc Widget Global)) (tree : Option PlainNode) (next frames : ℕ) : Type 0 where
  -- the tree is one that a build gave over the program, with fields of their types and any offsets
  pub tree_built : IfSome tree (IsWellBuilt (declarations_of (plain_checked program)))
  -- its numbers differ, and are below the next one
  pub numbered : IfSome tree (IsNumbered next)
  -- its handlers fit the fields of the nodes that own them; a node that a handler of the tree names stands above it there
  pub handlers : HandlersFit tree
  -- each frame gave at most 2^20 numbers
  pub few : next ≤ 1 + frames * 1048576
  -- the root is typed, knows its size, and sets nothing
  pub root_typed : IfSome root (λ r. IsTypedWidget (declarations_of (plain_checked program)) (shared r))
  pub root_sized : IfSome root (λ r. IsSized r.value)
  pub root_sets : IfSome root (λ r. HandlersMeet SetsNothing (shared r))

-- all that is kept is sound, of a tree for which the owner stands; and the owner isn't spent, has lengths of the program's scale, and room
-- for the nodes of the next frame; where it is said so its tree is settled for no other root
pub record AreSoundOn (owner : KeptFrame) (program : CheckedParts) (root : Option (Rc Widget Global)) (same_root : Bool) (frames : ℕ) : Type 0 where
  pub delegates : List Plug
  pub marks : List ℕ
  pub tree : Option PlainNode
  pub stands : FrameStandsFor (plain_checked program) delegates marks tree owner
  pub parts : AreSound program root tree (next_in owner) frames
  pub ready : owner.screen.spent ≡ false
  pub scale_is : owner.screen.scale ≡ scale_of (plain_checked program)
  pub room : HasRoomAfter frames owner
  pub known : same_root ≡ true → IfSome owner.settled (λ w. IfSome root (λ r. w ≡ shared r))

abbrev pub IsSound : HeldSession → Type 0
IsSound kept = AreSoundOn kept.owner kept.program kept.root kept.same_root kept.frames

-- unless want of memory spent the session, or a fault ended it, this holds of what it keeps, and no event is left to be told
abbrev pub IsReady : Bool → Bool → HeldSession → Type 0
IsReady true over held = Unit {0}
IsReady false true held = Unit {0}
IsReady false false held = IsSound held × (events_left held.pointers ≡ [])

abbrev pub IsKept : KeptParts → Type 0
IsKept kept = IsReady kept.spent kept.over kept.held
