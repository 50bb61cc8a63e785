-- Lines that touch a Viewport or a delegate.
use Rattle.std.proofs.Common.{◌≡◌, ℕ, ℤ, pos, ◌+ℤ◌, ◌^◌, Bool, true, false, Option, Some, None, is_some, option_map, List, [], ◌∷◌, ◌++◌, refl, sym, ap, ◌∙◌, subst, inl, inr, if◌then◌else◌}
use Rattle.delegates.specs.Answers.{clamped}
use Rattle.delegates.specs.Meaning.{Meaning, with_field}
use Rattle.delegates.specs.Table.{Plug, meaning_of, unplugged, set_end}
use Rattle.delegates.specs.declared.table.SetEnd.{SetEnd}
use Rattle.delegates.specs.declared.table.SetEnd.TheVariants as set_end
use Rattle.fx_geom.specs.declared.shapes.Size.{Size}
use Rattle.node_tree.specs.Tree.{Tree}
use Rattle.plain_tree.specs.At.{changed_at, having_scroll}
use Rattle.plain_tree.specs.Laid.{Laid}
use Rattle.plain_tree.specs.PlainNode.{PlainNode}
use Rattle.plain_tree.specs.States.{State, holding, scrolled, own_state}
use Rattle.session_form.specs.Changing.{scrolled_to, scroll_state, scroll_node, scroll_line, delegate_ended, delegate_line, unplug_line}
use Rattle.session_form.specs.Handlers.{node_in}
use Rattle.session_form.specs.Outcome.{Outcome, quietly, refused, state_after}
use Rattle.session_form.specs.State.{SessionState, Touched, delegate, viewport}
use Rattle.session_form.specs.declared.refusal.Refusal.{Refusal}
use Rattle.session_form.specs.declared.refusal.Refusal.TheVariants.{NoDelegate, NoDelegateField, NotAViewport, NoNode}
use Rattle.work_sets.specs.Before.{Before, Frames}
use Rattle.work_sets.specs.Work.{before, frames_then, render_root}
use Rattle.layout_owner.specs.Roots.{IsAskedAs, top_render}
use Rattle.render_tree.specs.Object.{RenderObject}
use Rattle.render_tree.specs.Plain.{renders_of, root_tree}
use Rattle.screen_owner.specs.Changes.{MarksScrolled, MarksUsers}
use Rattle.screen_owner.specs.Standing.{StandsAlone}
use Rattle.counted_work.specs.Caused.{LayoutsAreCaused}
use Rattle.counted_work.specs.Drawn.{PaintsAreCaused}
use Rattle.counted_work.specs.Known.{WorkIsCaused, IsDrawn, ScrollGoes, DelegateGoes, with_delegate}
use Rattle.counted_work.specs.Touches.{Touches}
use Rattle.counted_work.proofs.Known.{Leaves, passed, left_alone, plugged_scrolled, plugged_changed}
use Rattle.counted_work.proofs.Quiet.{quiet_leaves, quiet_same}

-- what is known of marks between two frames
pub record LineLaws : Type 0 where
  pub scrolls : (old_before now_before : Before) (number scroll : ℕ) (old new : Tree RenderObject) → MarksScrolled number scroll old new → StandsAlone old
      → Touches (viewport number) old_before now_before new → LayoutsAreCaused old_before old → LayoutsAreCaused now_before new
  pub scrolls_paints : (old_before now_before : Before) (last : Laid) (plugs : List Plug) (number scroll : ℕ) (old new : Tree RenderObject) → MarksScrolled number scroll old new → StandsAlone old
      → Touches (viewport number) old_before now_before new → PaintsAreCaused old_before last plugs old → PaintsAreCaused now_before last plugs new
  pub scrolls_asked : (view : Size) (number scroll : ℕ) (old new : Tree RenderObject) → MarksScrolled number scroll old new → StandsAlone old
      → IsAskedAs view (root_tree old) → IsAskedAs view (root_tree new)
  pub users : (old_before now_before : Before) (name : List ℕ) (old new : Tree RenderObject) → MarksUsers name old new → StandsAlone old
      → Touches (delegate name) old_before now_before new → LayoutsAreCaused old_before old → LayoutsAreCaused now_before new
  pub users_paints : (old_before now_before : Before) (last : Laid) (plugs : List Plug) (name : List ℕ) (old new : Tree RenderObject) → MarksUsers name old new → StandsAlone old
      → Touches (delegate name) old_before now_before new → PaintsAreCaused old_before last plugs old → PaintsAreCaused now_before last plugs new
  pub users_asked : (view : Size) (name : List ℕ) (old new : Tree RenderObject) → MarksUsers name old new → StandsAlone old
      → IsAskedAs view (root_tree old) → IsAskedAs view (root_tree new)

-- an outcome with its state, of what is known
abbrev Known : Frames → SessionState → Tree RenderObject → Outcome → Type 0
Known frames s t o = WorkIsCaused (frames_then (state_after s o).shown frames) (state_after s o) t

no_tree : (f : PlainNode → PlainNode) (t : Option PlainNode) → option_map render_root t ≡ None → option_map render_root (option_map f t) ≡ None
no_tree f None e = refl
no_tree f (Some t) e = absurd (cc)

module _ (frames : Frames) (s : SessionState) (old new : Tree RenderObject) (same : new ≡ old) (h : WorkIsCaused frames s old) where
  -- a line whose render nodes stay
  kept : (us : List Touched) (o : Outcome) → Leaves us s (state_after s o) → Known frames s new o
  kept us o leaves =
      subst (λ t. Known frames s t o) (sym same) (passed frames s (state_after s o) old old (left_alone frames us s (state_after s o) old leaves) h)

  refused_kept : (why : Refusal) → Known frames s new (refused why)
  refused_kept why = kept [] (refused why) (quiet_leaves s s (quiet_same s))

  was_drawn : (now : SessionState) → IsDrawn now new → option_map render_root now.tree ≡ option_map render_root s.tree
  was_drawn now drawn = drawn ∙ (ap (λ t. top_render (renders_of (root_tree t))) same ∙ sym h.layouts.caused.tree)

  scroll_state_kept : (states : List State) (by : ℤ) → IsDrawn (state_after s (scroll_state states by s)) new → Known frames s new (scroll_state states by s)
  scroll_state_kept [] by drawn = refused_kept NotAViewport
  scroll_state_kept (holding n declaration fields ∷ more) by drawn = refused_kept NotAViewport
  scroll_state_kept (scrolled n offset ∷ more) by drawn =
      let now : SessionState = scrolled_to n (clamped (2 ^ 40) (pos offset +ℤ by)) s in
      kept (viewport n ∷ []) (quietly now) (record {
        tree = λ fs. was_drawn now drawn;
        touched = refl;
        shown = refl;
        next = refl;
        plugged = λ plugs. plugged_scrolled s.touched n plugs s.delegates;
      })

  scroll_node_kept : (n : Option PlainNode) (by : ℤ) → IsDrawn (state_after s (scroll_node n by s)) new → Known frames s new (scroll_node n by s)
  scroll_node_kept None by drawn = refused_kept NoNode
  scroll_node_kept (Some n) by drawn = scroll_state_kept (own_state n) by drawn

  with_delegate_kept : (name : List ℕ) (m : Option Meaning) → Known frames s new (quietly (with_delegate name m s))
  with_delegate_kept name m = kept (delegate name ∷ []) (quietly (with_delegate name m s)) (record {
    tree = λ fs. refl;
    touched = refl;
    shown = refl;
    next = refl;
    plugged = λ plugs. plugged_changed s.touched name m plugs s.delegates;
  })

  delegate_kept : (e : SetEnd) (name field : List ℕ) (n : ℤ) → Known frames s new (delegate_ended e name field n s)
  delegate_kept set_end.Done name field n = with_delegate_kept name (option_map (λ m. with_field m field n) (meaning_of s.delegates name))
  delegate_kept set_end.NoDelegate name field n = refused_kept NoDelegate
  delegate_kept set_end.NoField name field n = refused_kept NoDelegateField

  unplug_kept : (b : Bool) (name : List ℕ) → Known frames s new (if b then quietly (record s { delegates = unplugged s.delegates name; touched = s.touched ++ delegate name ∷ [] }) else refused NoDelegate)
  unplug_kept true name = with_delegate_kept name None
  unplug_kept false name = refused_kept NoDelegate

module _ (laws : LineLaws) (frames : Frames) (s : SessionState) (old new : Tree RenderObject) (h : WorkIsCaused frames s old) where
  scroll_marked : StandsAlone old → (number to scroll : ℕ) → IsDrawn (scrolled_to number to s) new → MarksScrolled number scroll old new → Known frames s new (quietly (scrolled_to number to s))
  scroll_marked alone number to scroll drawn marks =
      let now : SessionState = scrolled_to number to s in
      let touches : Touches (viewport number) (before frames s) (before frames now) new = record { tree = drawn; frames = refl; more = refl } in
      passed frames s now old new (record {
        shown = refl;
        next = refl;
        none = no_tree (changed_at (having_scroll to) number) s.tree;
        asked = λ view. laws.scrolls_asked view number scroll old new marks alone;
        layouts = laws.scrolls (before frames s) (before frames now) number scroll old new marks alone touches;
        paints = λ last plugs. laws.scrolls_paints (before frames s) (before frames now) last plugs number scroll old new marks alone touches;
        plugged = λ plugs. plugged_scrolled s.touched number plugs s.delegates;
      }) h

  delegate_marked : StandsAlone old → (name : List ℕ) (m : Option Meaning) → IsDrawn (with_delegate name m s) new → MarksUsers name old new → Known frames s new (quietly (with_delegate name m s))
  delegate_marked alone name m drawn marks =
      let now : SessionState = with_delegate name m s in
      let touches : Touches (delegate name) (before frames s) (before frames now) new = record { tree = drawn; frames = refl; more = refl } in
      passed frames s now old new (record {
        shown = refl;
        next = refl;
        none = λ e. e;
        asked = λ view. laws.users_asked view name old new marks alone;
        layouts = laws.users (before frames s) (before frames now) name old new marks alone touches;
        paints = λ last plugs. laws.users_paints (before frames s) (before frames now) last plugs name old new marks alone touches;
        plugged = λ plugs. plugged_changed s.touched name m plugs s.delegates;
      }) h

  by_outcome : (now : SessionState) (o : Outcome) → o ≡ quietly now → (IsDrawn now new → Known frames s new (quietly now)) → IsDrawn (state_after s o) new → Known frames s new o
  by_outcome now o is go drawn = subst (Known frames s new) (sym is) (go (subst (λ x. IsDrawn (state_after s x) new) is drawn))

  pub scroll_known : (number : ℕ) (by : ℤ) → IsDrawn (state_after s (scroll_line number by s)) new → ScrollGoes number (scroll_line number by s) s old new → Known frames s new (scroll_line number by s)
  scroll_known number by drawn (inl same) = scroll_node_kept frames s old new same h (node_in s.tree number) by drawn
  scroll_known number by drawn (inr m) = by_outcome (scrolled_to number m.to s) (scroll_line number by s) m.is (λ d. scroll_marked m.whole number m.to m.scroll d m.marks) drawn

  pub delegate_known : (name field : List ℕ) (n : ℤ) → IsDrawn (state_after s (delegate_line name field n s)) new → DelegateGoes name (delegate_line name field n s) s old new
      → Known frames s new (delegate_line name field n s)
  delegate_known name field n drawn (inl same) = delegate_kept frames s old new same h (set_end (meaning_of s.delegates name) field) name field n
  delegate_known name field n drawn (inr m) = by_outcome (with_delegate name m.means s) (delegate_line name field n s) m.is (λ d. delegate_marked m.whole name m.means d m.marks) drawn

  pub unplug_known : (name : List ℕ) → IsDrawn (state_after s (unplug_line name s)) new → DelegateGoes name (unplug_line name s) s old new → Known frames s new (unplug_line name s)
  unplug_known name drawn (inl same) = unplug_kept frames s old new same h (is_some (meaning_of s.delegates name)) name
  unplug_known name drawn (inr m) = by_outcome (with_delegate name m.means s) (unplug_line name s) m.is (λ d. delegate_marked m.whole name m.means d m.marks) drawn
