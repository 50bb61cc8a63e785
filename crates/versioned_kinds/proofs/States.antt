-- Commands of a session leave its program, and give a root widget and a tree that keep to its version.
use Rattle.std.proofs.Common.{◌≡◌, ℕ, ◌≤◌, ◌==◌, ℤ, pos, nat_lt, nat_le, Bool, true, false, cond, is_some, Option, Some, None, option_map, IfSome, Result, Ok, Err, List, [], ◌∷◌, ◌++◌, length, refl, slice_set, arith}
use Rattle.fx_expr.specs.declared.handlers.Handler.{Handler}
use Rattle.fx_expr.specs.declared.values.Ty.{Ty}
use Rattle.fx_expr.specs.declared.values.Value.{Value}
use Rattle.fx_geom.specs.declared.shapes.Offset.{Offset}
use Rattle.delegates.specs.Table.{Plug, meaning_of, set_end}
use Rattle.delegates.specs.declared.table.SetEnd.{SetEnd}
use Rattle.delegates.specs.declared.table.SetEnd.TheVariants as set_end
use Rattle.expr_check.specs.Names.{place_of}
use Rattle.gesture_arena.specs.declared.gesture.ArenaEvent.{ArenaEvent}
use Rattle.gesture_arena.specs.declared.gesture.ArenaEvent.TheVariants as event
use Rattle.gesture_arena.specs.declared.gesture.Gesture.TheVariants as gesture
use Rattle.gesture_arena.specs.Moment.{Pointer, move, up, cancel}
use Rattle.gesture_arena.specs.Pointers.{GivenMoments, one_gets, comes_due, after, loses, is_down, without, down_events, put_down}
use Rattle.program_check.specs.Body.{PlainBody, body}
use Rattle.program_check.specs.Checked.{PlainChecked}
use Rattle.program_check.specs.ProgramCheck.{CheckedAt, checked_widget}
use Rattle.program_form.specs.declared.kinds.KindName.{KindName}
use Rattle.program_form.specs.declared.kinds.KindName.TheVariants as kind
use Rattle.program_form.specs.Kinds.{since}
use Rattle.program_form.specs.Template.{PlainTemplate}
use Rattle.program_read.specs.Reading.{Unread, read_as}
use Rattle.program_read.specs.TemplateWalk.{template_of}
use Rattle.screen_form.specs.Acts.{acted}
use Rattle.screen_form.specs.Sem.{Sem}
use Rattle.screen_form.specs.declared.act_fault.ActFault.{ActFault}
use Rattle.screen_form.specs.declared.act_fault.ActFault.TheVariants as act_fault
use Rattle.script_lines.specs.declared.command.Action.{Action}
use Rattle.script_lines.specs.declared.command.Command.{Command}
use Rattle.script_lines.specs.declared.command.Command.TheVariants as command
use Rattle.widget_model.specs.Plain.{PlainWidget}
use Rattle.plain_tree.specs.At.{changed_at, changed_in, is_there, having_fields, having_scroll}
use Rattle.plain_tree.specs.Offsets.{scrolled_by, all_scrolled_by}
use Rattle.plain_tree.specs.PlainNode.{PlainNode, node, PlainNodes, no_nodes, more_nodes, fields_of}
use Rattle.plain_tree.specs.States.{State, holding, scrolled, own_state}
use Rattle.build_form.specs.FullBuild.{Built, failed, built}
use Rattle.build_form.specs.KeptStates.{AllAre}
use Rattle.build_form.specs.Program.{blueprint_of}
use Rattle.session_form.specs.Changing.{set_to, set_field, set_state, set_node, scroll_state, scroll_node, root_checked, root_read, root_line, side_of, resized, delegate_ended, unplug_line}
use Rattle.session_form.specs.FieldValue.{value_read}
use Rattle.session_form.specs.Framing.{screen_of, built_of, framed, gone_members, frame_by}
use Rattle.session_form.specs.Gestures.{happened, events_given, given_moment, advanced, at_line, pointer_limit, members_at, down_line, if_down, goes_on, goes_away, event_by, act_by, act_in}
use Rattle.session_form.specs.Handlers.{node_in, handler_at, set_by, handled, handled_by, after_event, after_events}
use Rattle.session_form.specs.Outcome.{Outcome, state_after}
use Rattle.session_form.specs.Program.{scale_of, the_one, root_widget}
use Rattle.session_form.specs.Seeing.{point, semantics_in}
use Rattle.session_form.specs.State.{SessionState, first_state}
use Rattle.session_form.specs.Step.{step}
use Rattle.template_build.specs.Program.{root_output}
use Rattle.versioned_kinds.specs.Versions.{TemplateKeepsTo, BodyKeepsTo, LookIsOf, WidgetKeepsTo, TreeKeepsTo, KeepsToVersion, StateKeepsToVersion}
use Rattle.versioned_kinds.specs.Widgets.{WidgetsMeet}
use Rattle.versioned_kinds.proofs.Built.{Meet, built_meets}
use Rattle.versioned_kinds.proofs.Checked.{checked_keeps}
use Rattle.versioned_kinds.proofs.Outputs.{outputs_keep, root_keeps}
use Rattle.versioned_kinds.proofs.Reading.{read_keeps}

-- ---- trees with other fields or offsets

module _ (P : PlainWidget → Type 0) where
  abbrev AllMeet : PlainNodes → Type 0
  AllMeet ns = AllAre (λ number widget fields scroll. P widget) ns

  fields_meet : (fields : List Value) (n : PlainNode) → WidgetsMeet P n → WidgetsMeet P (having_fields fields n)
  fields_meet fields (node number widget old scroll index children) h = h

  scroll_meets : (scroll : ℕ) (n : PlainNode) → WidgetsMeet P n → WidgetsMeet P (having_scroll scroll n)
  scroll_meets scroll (node number widget fields old index children) h = h

  one_of : (b : Bool) (n m : PlainNode) → WidgetsMeet P n → WidgetsMeet P m → WidgetsMeet P (cond b n m)
  one_of true n m h k = h
  one_of false n m h k = k

  some_of : (b : Bool) (ns ms : PlainNodes) → AllMeet ns → AllMeet ms → AllMeet (cond b ns ms)
  some_of true ns ms h k = h
  some_of false ns ms h k = k

  mutual
    changed_meets : (change : PlainNode → PlainNode) → ((n : PlainNode) → WidgetsMeet P n → WidgetsMeet P (change n))
        → (wanted : ℕ) (n : PlainNode) → WidgetsMeet P n → WidgetsMeet P (changed_at change wanted n)
    changed_meets change keeps wanted (node number widget fields scroll index children) h =
        one_of (number == wanted) (change (node number widget fields scroll index children)) (node number widget fields scroll index (changed_in change wanted children))
        (keeps (node number widget fields scroll index children) h) (h.0, all_changed_meet change keeps wanted children h.1)

    all_changed_meet : (change : PlainNode → PlainNode) → ((n : PlainNode) → WidgetsMeet P n → WidgetsMeet P (change n))
        → (wanted : ℕ) (ns : PlainNodes) → AllMeet ns → AllMeet (changed_in change wanted ns)
    all_changed_meet change keeps wanted no_nodes h = tt
    all_changed_meet change keeps wanted (more_nodes n ns) h =
        some_of (is_there wanted n) (more_nodes (changed_at change wanted n) ns) (more_nodes n (changed_in change wanted ns))
        (changed_meets change keeps wanted n h.0, h.1) (h.0, all_changed_meet change keeps wanted ns h.1)

  mutual
    scrolled_meets : (offset : ℕ → Option ℕ) (n : PlainNode) → WidgetsMeet P n → WidgetsMeet P (scrolled_by offset n)
    scrolled_meets offset (node number widget fields scroll index children) h = (h.0, all_scrolled_meet offset children h.1)

    all_scrolled_meet : (offset : ℕ → Option ℕ) (ns : PlainNodes) → AllMeet ns → AllMeet (all_scrolled_by offset ns)
    all_scrolled_meet offset no_nodes h = tt
    all_scrolled_meet offset (more_nodes n ns) h = (scrolled_meets offset n h.0, all_scrolled_meet offset ns h.1)

  tree_meets : (change : PlainNode → PlainNode) → ((n : PlainNode) → WidgetsMeet P n → WidgetsMeet P (change n)) → (wanted : ℕ) (tree : Option PlainNode)
      → IfSome tree (WidgetsMeet P) → IfSome (option_map (changed_at change wanted) tree) (WidgetsMeet P)
  tree_meets change keeps wanted None h = tt
  tree_meets change keeps wanted (Some n) h = changed_meets change keeps wanted n h

-- ---- events

abbrev Keeps : SessionState → Type 0
Keeps s = StateKeepsToVersion s

either_keeps : (b : Bool) (s t : SessionState) → Keeps s → Keeps t → Keeps (cond b s t)
either_keeps true s t h k = h
either_keeps false s t h k = k

handled_keeps : (h : Handler) (dx dy : ℤ) (s : SessionState) → Keeps s → Keeps (handled h dx dy s)
handled_keeps h dx dy s k =
    let P = WidgetKeepsTo s.program.version in
    either_keeps (h.owner == 0) s _ k (record {
      program = k.program;
      root = k.root;
      tree = tree_meets P (set_by h dx dy) (λ n m. fields_meet P _ n m) h.owner s.tree k.tree;
    })

by_handler : (o : Option Handler) (dx dy : ℤ) (s : SessionState) → Keeps s → Keeps (handled_by o dx dy s)
by_handler None dx dy s k = k
by_handler (Some h) dx dy s k = handled_keeps h dx dy s k

event_keeps : (e : ArenaEvent) (s : SessionState) → Keeps s → Keeps (after_event e s)
event_keeps (event.Won pointer number g) s k = k
event_keeps (event.Nobody pointer) s k = k
event_keeps (event.Tap number) s k = by_handler (handler_at s.tree number gesture.Tap) (pos 0) (pos 0) s k
event_keeps (event.Long number) s k = by_handler (handler_at s.tree number gesture.Long) (pos 0) (pos 0) s k
event_keeps (event.Start number g) s k = k
event_keeps (event.Update number g dx dy) s k = by_handler (handler_at s.tree number g) dx dy s k
event_keeps (event.End number g) s k = k

events_keep : (es : List ArenaEvent) (s : SessionState) → Keeps s → Keeps (after_events es s)
events_keep [] s k = k
events_keep (e ∷ es) s k = events_keep es (after_event e s) (event_keeps e s k)

happened_keeps : (es : List ArenaEvent) (ps : List Pointer) (s : SessionState) → Keeps s → Keeps (happened es ps s)
happened_keeps es ps s k = events_keep es (record s { pointers = ps }) (record { program = k.program; root = k.root; tree = k.tree })

moment_keeps : (given : GivenMoments) (s : SessionState) → Keeps s → Keeps (given_moment given s)
moment_keeps given s k = happened_keeps (events_given given s) (after given s.pointers) s k

advanced_keeps : (time : ℕ) (s : SessionState) → Keeps s → Keeps (advanced time s)
advanced_keeps time s k = let m = moment_keeps (comes_due time) s k in record { program = m.program; root = m.root; tree = m.tree }

-- ---- what a command comes to

abbrev Goes : SessionState → Outcome → Type 0
Goes s o = Keeps (state_after s o)

either_goes : (s : SessionState) (b : Bool) (o p : Outcome) → Goes s o → Goes s p → Goes s (cond b o p)
either_goes s true o p h k = h
either_goes s false o p h k = k

-- ---- `set` and `scroll`

field_goes : (number place : ℕ) (v : Option Value) (s : SessionState) → Keeps s → Goes s (set_to number place v s)
field_goes number place None s k = k
field_goes number place (Some v) s k =
    let P = WidgetKeepsTo s.program.version in
    record { program = k.program; root = k.root; tree = tree_meets P (λ n. having_fields (slice_set (fields_of n) place v) n) (λ n m. fields_meet P _ n m) number s.tree k.tree }

named_goes : (number : ℕ) (field : Option (ℕ × Ty)) (bytes : List ℕ) (s : SessionState) → Keeps s → Goes s (set_field number field bytes s)
named_goes number None bytes s k = k
named_goes number (Some field) bytes s k = field_goes number field.0 (value_read field.1 bytes) s k

state_goes : (states : List State) (name bytes : List ℕ) (s : SessionState) → Keeps s → Goes s (set_state states name bytes s)
state_goes [] name bytes s k = k
state_goes (scrolled number scroll ∷ more) name bytes s k = k
state_goes (holding number declaration fields ∷ more) name bytes s k = named_goes number (place_of declaration.fields name) bytes s k

set_goes : (o : Option PlainNode) (name bytes : List ℕ) (s : SessionState) → Keeps s → Goes s (set_node o name bytes s)
set_goes None name bytes s k = k
set_goes (Some n) name bytes s k = state_goes (own_state n) name bytes s k

offset_goes : (states : List State) (by : ℤ) (s : SessionState) → Keeps s → Goes s (scroll_state states by s)
offset_goes [] by s k = k
offset_goes (holding number declaration fields ∷ more) by s k = k
offset_goes (scrolled number offset ∷ more) by s k =
    let P = WidgetKeepsTo s.program.version in
    record { program = k.program; root = k.root; tree = tree_meets P (having_scroll _) (scroll_meets P _) number s.tree k.tree }

scroll_goes : (o : Option PlainNode) (by : ℤ) (s : SessionState) → Keeps s → Goes s (scroll_node o by s)
scroll_goes None by s k = k
scroll_goes (Some n) by s k = offset_goes (own_state n) by s k

-- ---- `resize`, `delegate` and `unplug`

resize_goes : (w h : Option ℕ) (s : SessionState) → Keeps s → Goes s (resized w h s)
resize_goes (Some w) (Some h) s k = record { program = k.program; root = k.root; tree = k.tree }
resize_goes (Some w) None s k = k
resize_goes None h s k = k

delegate_goes : (e : SetEnd) (name field : List ℕ) (n : ℤ) (s : SessionState) → Keeps s → Goes s (delegate_ended e name field n s)
delegate_goes set_end.Done name field n s k = record { program = k.program; root = k.root; tree = k.tree }
delegate_goes set_end.NoDelegate name field n s k = k
delegate_goes set_end.NoField name field n s k = k

unplug_goes : (name : List ℕ) (s : SessionState) → Keeps s → Goes s (unplug_line name s)
unplug_goes name s k = either_goes s (is_some (meaning_of s.delegates name)) _ _ (record { program = k.program; root = k.root; tree = k.tree }) k

-- ---- time, pointers and semantics actions

at_goes : (time : ℕ) (s : SessionState) → Keeps s → Goes s (at_line time s)
at_goes time s k = either_goes s (nat_lt time s.time) _ _ k (advanced_keeps time s k)

down_goes : (pointer : ℕ) (at : Offset) (s : SessionState) → Keeps s → Goes s (down_line pointer at s)
down_goes pointer at s k =
    either_goes s (is_down pointer s.pointers) _ _ k
    (either_goes s (nat_le pointer_limit (length s.pointers)) _ _ k
    (happened_keeps (down_events (scale_of s.program) pointer at s.time (members_at s.shown at)) (s.pointers ++ put_down pointer at s.time (members_at s.shown at) ∷ []) s k))

on_goes : (pointer : ℕ) (given : GivenMoments) (s : SessionState) → Keeps s → Goes s (if_down pointer s (goes_on given s))
on_goes pointer given s k = either_goes s (is_down pointer s.pointers) _ _ (moment_keeps given s k) k

away_goes : (pointer : ℕ) (given : GivenMoments) (s : SessionState) → Keeps s → Goes s (if_down pointer s (goes_away pointer given s))
away_goes pointer given s k = either_goes s (is_down pointer s.pointers) _ _ (happened_keeps (events_given given s) (without pointer s.pointers) s k) k

acted_goes : (what : Action) (r : Result ℕ ActFault) (s : SessionState) → Keeps s → Goes s (act_by what r s)
acted_goes what (Err act_fault.NoSemanticsNode) s k = k
acted_goes what (Err act_fault.NoAction) s k = k
acted_goes what (Ok detector) s k = events_keep (event_by what detector ∷ []) s k

act_goes : (o : Option Sem) (number : ℕ) (what : Action) (s : SessionState) → Keeps s → Goes s (act_in o number what s)
act_goes None number what s k = k
act_goes (Some root) number what s k = acted_goes what (acted root number what) s k

-- ---- `frame`

pub tree_keeps : (s : SessionState) (tree : PlainNode) (next : ℕ) → Keeps s → built_of s ≡ built tree next → TreeKeepsTo s.program.version tree
tree_keeps s tree next k e =
    built_meets (LookIsOf s.program.version) (blueprint_of s.program) s.tree (outputs_keep s.program k.program) (screen_of s) s.next next s.root tree k.root e

framed_goes : (b : Built) (s : SessionState) → Keeps s → ((tree : PlainNode) (next : ℕ) → b ≡ built tree next → TreeKeepsTo s.program.version tree) → Goes s (frame_by b s)
framed_goes (failed fault) s k h = k
framed_goes (built tree next) s k h =
    let now = framed s tree next in
    moment_keeps (loses (gone_members now)) now (record {
      program = k.program;
      root = k.root;
      tree = scrolled_meets (WidgetKeepsTo s.program.version) _ tree (h tree next refl);
    })

-- ---- `root`

first_version : (k : KindName) → 1 ≤ since k
first_version kind.SizedBox = omega arith
first_version k = omega arith

some_version : (version : ℕ) (b : PlainBody) → BodyKeepsTo version b → 1 ≤ version
some_version version (body k key ms) h = omega (arith, first_version k, h.0)

one_keeps : (version : ℕ) (ws : List PlainWidget) → 1 ≤ version → Meet (LookIsOf version) ws → WidgetKeepsTo version (the_one ws)
one_keeps version [] least h = (least, tt, tt)
one_keeps version (w ∷ ws) least h = h.0

widget_keeps : (c : PlainChecked) (b : PlainBody) → BodyKeepsTo c.version b → WidgetKeepsTo c.version (root_widget c b)
widget_keeps c b h = one_keeps c.version (root_output c b) (some_version c.version b h) (root_keeps c b h)

body_goes : (r : CheckedAt PlainBody) (s : SessionState) → Keeps s → ((b : PlainBody) → r ≡ Ok b → BodyKeepsTo s.program.version b) → Goes s (root_checked r s)
body_goes (Err bad) s k h = k
body_goes (Ok b) s k h = record { program = k.program; root = widget_keeps s.program b (h b refl); tree = k.tree }

read_goes : (r : Result PlainTemplate Unread) (s : SessionState) → Keeps s → ((t : PlainTemplate) → r ≡ Ok t → TemplateKeepsTo s.program.version t) → Goes s (root_read r s)
read_goes (Err why) s k h = k
read_goes (Ok t) s k h = body_goes (checked_widget s.program t) s k (λ b e. checked_keeps s.program t b (h t refl) e)

root_goes : (json : List ℕ) (s : SessionState) → Keeps s → Goes s (root_line json s)
unfolding root_line
root_goes json s k = read_goes (read_as (template_of s.program.version) json) s k (λ t e. read_keeps s.program.version json t e)

-- ---- each command

pub step_keeps : (s : SessionState) (what : Command) → Keeps s → Goes s (step s what)
step_keeps s command.Frame k = framed_goes (built_of s) s k (λ tree next e. tree_keeps s tree next k e)
step_keeps s (command.At time) k = at_goes time s k
step_keeps s (command.Set number field value) k = set_goes (node_in s.tree number) field value s k
step_keeps s (command.Root json) k = root_goes json s k
step_keeps s (command.Resize w h) k = resize_goes (side_of w) (side_of h) s k
step_keeps s (command.Scroll number by) k = scroll_goes (node_in s.tree number) by s k
step_keeps s (command.Down pointer x y) k = down_goes pointer (point x y) s k
step_keeps s (command.Move pointer x y) k = on_goes pointer (one_gets pointer (move (point x y))) s k
step_keeps s (command.Up pointer) k = away_goes pointer (one_gets pointer up) s k
step_keeps s (command.Cancel pointer) k = away_goes pointer (one_gets pointer cancel) s k
step_keeps s (command.Hit x y) k = k
step_keeps s command.Semantics k = k
step_keeps s (command.Act number action) k = act_goes (semantics_in s.shown) number action s k
step_keeps s (command.Delegate name field n) k = delegate_goes (set_end (meaning_of s.delegates name) field) name field n s k
step_keeps s (command.Unplug name) k = unplug_goes name s k
step_keeps s command.States k = k

-- ---- before the first

pub first_keeps : (c : PlainChecked) (delegates : List Plug) → KeepsToVersion c → Keeps (first_state c delegates)
first_keeps c delegates h = record { program = h; root = widget_keeps c c.root h.root; tree = tt }
