-- When a fact of a session's state stays at each change that a line makes.
use Rattle.std.specs.Prelude.{◌≡◌, ℕ, ◌==◌, ℤ, false, Some, option_map, Ok, List, [], ◌∷◌, ◌++◌}
use Rattle.delegates.specs.Table.{Plug}
use Rattle.expr_check.specs.Names.{place_of}
use Rattle.fx_expr.specs.declared.handlers.Handler.{Handler}
use Rattle.fx_expr.specs.declared.values.Ty.{Ty}
use Rattle.fx_expr.specs.declared.values.Value.{Value}
use Rattle.fx_geom.specs.declared.shapes.Size.{Size}
use Rattle.gesture_arena.specs.Moment.{Pointer}
use Rattle.gesture_arena.specs.declared.gesture.Gesture.{Gesture}
use Rattle.plain_tree.specs.At.{changed_at}
use Rattle.plain_tree.specs.PlainNode.{PlainNode}
use Rattle.plain_tree.specs.States.{State, holding, own_state}
use Rattle.program_check.specs.Body.{PlainBody}
use Rattle.program_check.specs.ProgramCheck.{checked_widget}
use Rattle.program_form.specs.Template.{PlainTemplate}
use Rattle.widget_model.specs.declared.decl.Decl.{Decl}
use Rattle.build_form.specs.FullBuild.{built}
use Rattle.session_form.specs.Changing.{with_field, scrolled_to}
use Rattle.session_form.specs.FieldValue.{value_read}
use Rattle.session_form.specs.Framing.{built_of, framed}
use Rattle.session_form.specs.Handlers.{node_in, handler_at, set_by}
use Rattle.session_form.specs.Program.{root_widget}
use Rattle.session_form.specs.State.{SessionState, delegate}

-- at a field that is set, a Viewport that is scrolled, a handler that is run, another root, view, delegates, pointers and time
pub record StaysChanged (P : SessionState → Type 0) : Type 0 where
  pub set : (s : SessionState) (number k : ℕ) (n : PlainNode) (d : Decl) (vs : List Value) (more : List State) (name bytes : List ℕ) (field : ℕ × Ty) (v : Value)
      → node_in s.tree number ≡ Some n → own_state n ≡ holding k d vs ∷ more → place_of d.fields name ≡ Some field → value_read field.1 bytes ≡ Some v
      → P s → P (with_field k field.0 v s)
  pub scroll : (s : SessionState) (k offset : ℕ) → P s → P (scrolled_to k offset s)
  pub handle : (s : SessionState) (number : ℕ) (g : Gesture) (h : Handler) (dx dy : ℤ) → handler_at s.tree number g ≡ Some h → (h.owner == 0) ≡ false
      → P s → P (record s { tree = option_map (changed_at (set_by h dx dy) h.owner) s.tree; marks = s.marks ++ h.owner ∷ [] })
  pub root : (s : SessionState) (t : PlainTemplate) (b : PlainBody) → checked_widget s.program t ≡ Ok b → P s → P (record s { root = root_widget s.program b })
  pub resize : (s : SessionState) (view : Size) → P s → P (record s { view = view })
  pub plug : (s : SessionState) (ds : List Plug) (name : List ℕ) → P s → P (record s { delegates = ds; touched = s.touched ++ delegate name ∷ [] })
  pub pointers : (s : SessionState) (ps : List Pointer) → P s → P (record s { pointers = ps })
  pub time : (s : SessionState) (t : ℕ) → P s → P (record s { time = t })

-- and at a frame that is built
abbrev pub StaysFramed : (SessionState → Type 0) → Type 0
StaysFramed P = (s : SessionState) (tree : PlainNode) (next : ℕ) → built_of s ≡ built tree next → P s → P (framed s tree next)
