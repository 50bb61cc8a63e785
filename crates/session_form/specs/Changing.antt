-- The lines that change what the next frame is made of.
use Rattle.std.specs.Prelude.{ℕ, ◌^◌, ℤ, pos, ◌+ℤ◌, is_some, Option, Some, None, option_map, Result, Ok, Err, List, [], ◌∷◌, ◌++◌, slice_set, if◌then◌else◌}
use Rattle.std.specs.Result.{result_ok}
use Rattle.fx_expr.specs.declared.values.Ty.{Ty}
use Rattle.fx_expr.specs.declared.values.Value.{Value}
use Rattle.delegates.specs.Answers.{clamped}
use Rattle.delegates.specs.Table.{meaning_of, with_number, unplugged, set_end}
use Rattle.delegates.specs.declared.table.SetEnd.{SetEnd}
use Rattle.delegates.specs.declared.table.SetEnd.TheVariants as set_end
use Rattle.expr_check.specs.Names.{place_of}
use Rattle.program_form.specs.Template.{PlainTemplate}
use Rattle.program_read.specs.ProgramWalk.{as_side}
use Rattle.program_read.specs.Reading.{Unread, read_as}
use Rattle.program_read.specs.TemplateWalk.{template_of}
use Rattle.program_check.specs.Body.{PlainBody}
use Rattle.program_check.specs.ProgramCheck.{CheckedAt, checked_widget}
use Rattle.plain_tree.specs.At.{changed_at, having_fields, having_scroll}
use Rattle.plain_tree.specs.PlainNode.{PlainNode, fields_of}
use Rattle.plain_tree.specs.States.{State, holding, scrolled, own_state}
use Rattle.session_form.specs.declared.refusal.Refusal.TheVariants.{NoNode, NotStateful, NoField, WrongType, NotAViewport, NoDelegate, NoDelegateField, BadWidget, WidgetCheck, ViewOutOfRange}
use Rattle.session_form.specs.FieldValue.{value_read}
use Rattle.session_form.specs.Handlers.{node_in}
use Rattle.session_form.specs.Outcome.{Outcome, quietly, refused}
use Rattle.session_form.specs.Program.{root_widget}
use Rattle.session_form.specs.State.{SessionState, delegate, viewport}

-- ---- `set #n field value`: the field of the node's state has the value, and the node is marked, also where it had that value
-- before

abbrev pub with_field : ℕ → ℕ → Value → SessionState → SessionState
with_field number place v s = record s {
  tree = option_map (changed_at (λ n. having_fields (slice_set (fields_of n) place v) n) number) s.tree;
  marks = s.marks ++ number ∷ [];
}

abbrev pub set_to : ℕ → ℕ → Option Value → SessionState → Outcome
set_to number place None s = refused WrongType
set_to number place (Some v) s = quietly (with_field number place v s)

abbrev pub set_field : ℕ → Option (ℕ × Ty) → List ℕ → SessionState → Outcome
set_field number None bytes s = refused NoField
set_field number (Some field) bytes s = set_to number field.0 (value_read field.1 bytes) s

-- only a component with fields has them
abbrev pub set_state : List State → List ℕ → List ℕ → SessionState → Outcome
set_state [] name bytes s = refused NotStateful
set_state (scrolled number scroll ∷ more) name bytes s = refused NotStateful
set_state (holding number declaration fields ∷ more) name bytes s = set_field number (place_of declaration.fields name) bytes s

abbrev pub set_node : Option PlainNode → List ℕ → List ℕ → SessionState → Outcome
set_node None name bytes s = refused NoNode
set_node (Some n) name bytes s = set_state (own_state n) name bytes s

abbrev pub set_line : ℕ → List ℕ → List ℕ → SessionState → Outcome
set_line number name bytes s = set_node (node_in s.tree number) name bytes s

-- ---- `scroll #n D`: the offset of a Viewport is so much more, and stops at 0 and at 2^40

abbrev pub scrolled_to : ℕ → ℕ → SessionState → SessionState
scrolled_to number offset s = record s {
  tree = option_map (changed_at (having_scroll offset) number) s.tree;
  touched = s.touched ++ viewport number ∷ [];
}

abbrev pub scroll_state : List State → ℤ → SessionState → Outcome
scroll_state [] by s = refused NotAViewport
scroll_state (holding number declaration fields ∷ more) by s = refused NotAViewport
scroll_state (scrolled number offset ∷ more) by s = quietly (scrolled_to number (clamped (2 ^ 40) (pos offset +ℤ by)) s)

abbrev pub scroll_node : Option PlainNode → ℤ → SessionState → Outcome
scroll_node None by s = refused NoNode
scroll_node (Some n) by s = scroll_state (own_state n) by s

abbrev pub scroll_line : ℕ → ℤ → SessionState → Outcome
scroll_line number by s = scroll_node (node_in s.tree number) by s

-- ---- `root JSON`: the next frame is made of this widget

abbrev pub root_checked : CheckedAt PlainBody → SessionState → Outcome
root_checked (Err bad) s = refused WidgetCheck
root_checked (Ok b) s = quietly (record s { root = root_widget s.program b })

abbrev pub root_read : Result PlainTemplate Unread → SessionState → Outcome
root_read (Err why) s = refused BadWidget
root_read (Ok t) s = root_checked (checked_widget s.program t) s

unfoldable pub root_line : List ℕ → SessionState → Outcome
root_line json s = root_read (read_as (template_of s.program.version) json) s

-- ---- `resize W H`: the next frame has this size

-- a side is one that a program's view may have
abbrev pub side_of : ℤ → Option ℕ
side_of length = result_ok (as_side length)

abbrev pub resized : Option ℕ → Option ℕ → SessionState → Outcome
resized (Some w) (Some h) s = quietly (record s { view = record { w = w; h = h } })
resized (Some w) None s = refused ViewOutOfRange
resized None h s = refused ViewOutOfRange

abbrev pub resize_line : ℤ → ℤ → SessionState → Outcome
resize_line w h s = resized (side_of w) (side_of h) s

-- ---- `delegate NAME FIELD N`: the delegate's field has the number

abbrev pub delegate_ended : SetEnd → List ℕ → List ℕ → ℤ → SessionState → Outcome
delegate_ended set_end.Done name field n s =
    quietly (record s { delegates = with_number s.delegates name field n; touched = s.touched ++ delegate name ∷ [] })
delegate_ended set_end.NoDelegate name field n s = refused NoDelegate
delegate_ended set_end.NoField name field n s = refused NoDelegateField

abbrev pub delegate_line : List ℕ → List ℕ → ℤ → SessionState → Outcome
delegate_line name field n s = delegate_ended (set_end (meaning_of s.delegates name) field) name field n s

-- ---- `unplug NAME`: the delegate is dropped

abbrev pub unplug_line : List ℕ → SessionState → Outcome
unplug_line name s =
    if is_some (meaning_of s.delegates name)
    then quietly (record s { delegates = unplugged s.delegates name; touched = s.touched ++ delegate name ∷ [] })
    else refused NoDelegate
