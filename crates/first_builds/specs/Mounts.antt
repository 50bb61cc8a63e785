-- What the mount of one widget changes: its element is made, and its render node, if it has one, and nothing is below them.
use Rattle.std.specs.Prelude.{◌≡◌, ℕ, ◌+◌, ◌<◌, true, false, List, [], length, Option, Some, None, IsSome}
use Rattle.fx_expr.specs.declared.values.Value.{Value}
use Rattle.fx_handles.specs.declared.Handle.{Handle}
use Rattle.fx_handles.specs.declared.TheConstants.{SLOTS_MAX}
use Rattle.fx_handles.specs.Arena.{used_count, retired_count}
use Rattle.node_tree.specs.Edits.{Adds}
use Rattle.node_tree.specs.Forest.{Forest}
use Rattle.node_tree.specs.Forest.Forest.{none, tree}
use Rattle.node_tree.specs.Mounting.{put_last, children_below, CanMount}
use Rattle.node_tree.specs.Tree.{Tree, Is}
use Rattle.widget_model.specs.Plain.{PlainWidget, look_of, key_of}
use Rattle.plain_tree.specs.Projection.{told_at}
use Rattle.plain_tree.specs.RenderRole.{render_role_of, vanishes}
use Rattle.build_form.specs.BuildRole.{build_role_of}
use Rattle.build_form.specs.Entering.{Blueprint, met_once, first_fields, given_by}
use Rattle.build_form.specs.Step.{Progress, gives}
use Rattle.element_tree.specs.Element.{Element, made_count}
use Rattle.element_tree.specs.Renewal.{mounted}
use Rattle.global_keys.specs.Holders.{Registry, recorded, is_met, Notes}
use Rattle.global_keys.specs.Named.{global_in, NamesExactly}
use Rattle.render_tree.specs.Object.{RenderObject}
use Rattle.build_walk.specs.Walked.{WalkPlace}
use Rattle.first_builds.specs.Inflated.{given_of}
use Rattle.first_builds.specs.Mounted.{drawn_object}

-- ---- a node

-- a node was made as the last child of its parent, or as the root
pub record MountsNode {T : Type 0} (old new : Tree T) (q : Option Handle) (h : Handle) (v : T) : Type 0 where
  pub adds : Adds old.nodes new.nodes q (length (children_below old q)) h v
  pub inactive : new.inactive ≡ old.inactive
  pub plain : (f : Forest T) → Is old f → Is new (put_last q (tree h v none none) f)

-- a render node was made, where its handle is given, and else none was
abbrev pub MountsIfDrawn : Tree RenderObject → Tree RenderObject → Option Handle → RenderObject → Option Handle → Type 0
MountsIfDrawn old new q o None = new ≡ old
MountsIfDrawn old new q o (Some k) = MountsNode old new q k o

-- ---- a key

-- an element was noted for a global key, where there is one
abbrev pub NotesKey : Option Value → Registry → Registry → Handle → Type 0
NotesKey None old new h = new ≡ old
NotesKey (Some k) old new h = Notes old new k h

-- the element of a widget can be made as the last child of a parent: no element has its global key
pub record IsFreeFor (w : PlainWidget) (q : Option Handle) (g : Registry) (t : Tree Element) : Type 0 where
  pub place : CanMount t q
  pub room : used_count t.nodes + retired_count t.nodes < SLOTS_MAX
  pub names : NamesExactly g t
  pub met : (k : Value) → is_met g k ≡ false → recorded g k ≡ None
  pub fresh : (k : Value) → global_in (key_of w) ≡ Some k → recorded g k ≡ None

-- its key was met, and the registry names each element again
pub record IsNoted (w : PlainWidget) (old new : Registry) (t : Tree Element) : Type 0 where
  pub names : NamesExactly new t
  pub met : (k : Value) → is_met new k ≡ false → recorded new k ≡ None
  pub once : (s : Progress) → s.met ≡ (λ k. is_met old k) → met_once (key_of w) s ≡ gives tt (record { entered = s.entered; met = λ k. is_met new k; next = s.next; waiting = s.waiting })

-- ---- a widget

-- the element of a widget that gets the next number
abbrev pub new_element : Tree Element → PlainWidget → ℕ → List Value → Option PlainWidget → Option Handle → Element
new_element t w place fields output render = mounted (made_count t + 1) fields (record { widget = w; index = place; output = output; render = render })

pub record MountsWidget (fields : List Value) (at : WalkPlace) (w : PlainWidget) (place : ℕ) (t0 t : Tree Element) (r0 r : Tree RenderObject) (g0 g : Registry) (h : Handle) (output : Option PlainWidget) (k : Option Handle)
    : Type 0 where
  pub element : MountsNode t0 t at.parent h (new_element t0 w place fields output k)
  pub render : MountsIfDrawn r0 r at.above (drawn_object (new_element t0 w place fields output k) (told_at at.role at.told place)) k
  pub unseen : vanishes (render_role_of (look_of w)) ≡ true → k ≡ None
  pub seen : vanishes (render_role_of (look_of w)) ≡ false → IsSome k
  pub noted : IsNoted w g0 g t

-- a component: its body was built, and gave one widget
pub record MountsComponent (b : Blueprint) (values : List Value) (at : WalkPlace) (w : PlainWidget) (place : ℕ) (t0 t : Tree Element) (g0 g : Registry) (h : Handle) (output : Option PlainWidget) (k : Option Handle) : Type 0 where
  pub mounts : (r : Tree RenderObject) → MountsWidget (first_fields b (build_role_of (look_of w))) at w place t0 t r r g0 g h output k
  pub some : IsSome output
  pub given : (s : Progress) → given_by b (build_role_of (look_of w)) values (made_count t0 + 1) (first_fields b (build_role_of (look_of w))) w s ≡ gives (given_of w output) s

-- another widget: it stores no output
pub record MountsOther (at : WalkPlace) (w : PlainWidget) (place : ℕ) (t0 t : Tree Element) (r0 r : Tree RenderObject) (g0 g : Registry) (h : Handle) (output : Option PlainWidget) (k : Option Handle) : Type 0 where
  pub mounts : MountsWidget [] at w place t0 t r0 r g0 g h output k
  pub none : output ≡ None
