-- A frame of a session whose build goes in two phases: what it counts, and what is known after it.
use Rattle.std.proofs.Common.{◌≡◌, ℕ, zero, suc, ◌+◌, ◌*◌, ◌==◌, ◌≤◌, Bool, true, false, if◌then◌else◌, eqb-true, Option, Some, None, option_map, List, [], length, refl, sym, ap, ◌∙◌, subst, inl, inr, arith}
use Rattle.std.specs.Option.{option_or}
use Rattle.delegates.specs.Table.{Plug}
use Rattle.fx_geom.specs.Bounds.{IsWithin, tight}
use Rattle.fx_geom.specs.declared.boxes.Bounds.{Bounds}
use Rattle.fx_geom.specs.declared.shapes.Size.{Size}
use Rattle.node_tree.specs.Tree.{Tree}
use Rattle.build_form.specs.FullBuild.{Built, failed, built}
use Rattle.layout_form.specs.Laws.{Lays, IsBoxIn}
use Rattle.layout_form.specs.Layout.{lay_view, object}
use Rattle.layout_form.specs.Object.{Setting, setting_of, facts_of, size_in}
use Rattle.layout_owner.specs.Roots.{IsAskedAs, top_render}
use Rattle.kept_layouts.specs.Items.{all_without_items}
use Rattle.plain_tree.specs.Laid.{Laid}
use Rattle.plain_tree.specs.Laws.{AllDiffer, render_numbers_of}
use Rattle.plain_tree.specs.PlainNode.{PlainNode}
use Rattle.plain_tree.specs.Render.{Render, render, Renders, no_renders, more_renders}
use Rattle.render_tree.specs.Object.{RenderObject}
use Rattle.render_tree.specs.Plain.{renders_of, root_tree}
use Rattle.render_sync.specs.Renders.{EachNumber, AllNumbers}
use Rattle.script_lines.specs.declared.command.Command.{Command}
use Rattle.script_lines.specs.declared.command.Command.TheVariants.{Frame as FrameCommand}
use Rattle.session_form.specs.Framing.{screen_of, built_of, laid_of, shown_of, framed, after_drops, frame_by, frame_line}
use Rattle.session_form.specs.Outcome.{state_after}
use Rattle.session_form.specs.Program.{scale_of}
use Rattle.session_form.specs.Seeing.{view_in}
use Rattle.session_form.specs.State.{SessionState, Shown}
use Rattle.session_form.specs.Step.{frames_of}
use Rattle.work_sets.specs.Before.{Before, Frames, frame_in, frames_after}
use Rattle.work_sets.specs.Laws.{new_tree, tree_built}
use Rattle.work_sets.specs.Layout as layout
use Rattle.work_sets.specs.Paint as paint
use Rattle.work_sets.specs.Paint.{Shows}
use Rattle.work_sets.specs.Work.{MadeTree, nothing_made, first_made, all_made, made, coded_view, render_root, before, frames_then, shows, layout_region_of, paint_region_of, layout_region, paint_region, layout_rounds}
use Rattle.work_sets.proofs.Sameness.{is_same-Decides}
use Rattle.counted_work.specs.Caused.{FramesAgree, IsNewUnlaid, NewAreUnlaid, LayoutsAreCaused}
use Rattle.counted_work.specs.Drawn.{PaintsAreCaused}
use Rattle.counted_work.specs.Known.{WorkIsCaused, WorkGoesOn, IsThereOrFree, FrameGoes}
use Rattle.counted_work.specs.Shows.{PluggedAsBefore}
use Rattle.counted_work.specs.Windows.{WindowsStay}
use Rattle.counted_work.proofs.Known.{passed, left_alone}
use Rattle.counted_work.proofs.Quiet.{FieldsUnseen, quiet_leaves, quiet_drops}
use Rattle.counted_work.proofs.Sizes.{view_seen, asked_alike, free_missing}
use Rattle.frame_owner.specs.Working.{LaysLists, PhasedSteps}
use Rattle.counted_frames.specs.Shows.{PhasedShows, FrameGoesOn, FrameKeepsOn, FrameFaults}

-- what is known of a frame in two phases over a tree, and of layouts, states and builds
pub record PhasedLaws : Type 0 where
  pub layouts : (s : Setting) (view : Size) (was : Before) (old new : Tree RenderObject) (top : Render) (lo ln po pn : ℕ) → PhasedSteps s view old top new lo ln po pn
      → LayoutsAreCaused was old → NewAreUnlaid was.frames old top → (was.same_view ≡ true → IsAskedAs view (root_tree old)) → WindowsStay was top → ln ≤ lo + 2 * length (layout.layout_region was top)
  pub paints : (s : Setting) (view : Size) (was : Before) (old new : Tree RenderObject) (top : Render) (lo ln po pn : ℕ) (last : Laid) (plugs : List Plug) → PhasedSteps s view old top new lo ln po pn
      → PluggedAsBefore was.touched plugs s.delegates → PaintsAreCaused was last plugs old
      → pn ≤ po + length (paint.paint_region was (record { before = Some last; now = lay_view s top view }) top)
  pub first_paints : (s : Setting) (view : Size) (was : Before) (old new : Tree RenderObject) (top : Render) (lo ln po pn : ℕ) (shown : Shows) → PhasedSteps s view old top new lo ln po pn
      → was.tree ≡ None → pn ≤ po + length (paint.paint_region was shown top)
  pub layout_causes : (s : Setting) (view : Size) (was : Before) (old new : Tree RenderObject) (top : Render) (lo ln po pn : ℕ) (now : Before) → PhasedSteps s view old top new lo ln po pn
      → now.tree ≡ top_render (renders_of (root_tree new)) → now.frames ≡ frames_after (lay_view s top view) was.frames → FramesAgree was.frames old → NewAreUnlaid was.frames old top
      → LayoutsAreCaused now new
  pub paint_causes : (s : Setting) (view : Size) (was : Before) (old new : Tree RenderObject) (top : Render) (lo ln po pn : ℕ) (now : Before) → PhasedSteps s view old top new lo ln po pn
      → now.tree ≡ top_render (renders_of (root_tree new)) → now.frames ≡ frames_after (lay_view s top view) was.frames → FramesAgree was.frames old → NewAreUnlaid was.frames old top
      → PaintsAreCaused now (lay_view s top view) s.delegates new
  pub lays : (s : Setting) (r : Render) (b : Bounds) → Lays r ((object s r).in_bounds b)
  pub boxes : (s : Setting) (r : Render) (b : Bounds) → IsBoxIn b (facts_of ((object s r).in_bounds b)).frame
  pub sizes : (s : Setting) (r : Render) (b : Bounds) → IsWithin b (size_in ((object s r).in_bounds b))
  pub fields : FieldsUnseen
  pub over_builds : (s : SessionState) → new_tree (made s) ≡ tree_built (built_of s)

-- ---- numbers that a build gives were never laid out

module _ (frames : Frames) (t : Tree RenderObject) (next : ℕ) (free_unlaid : (number : ℕ) → next ≤ number → frames number ≡ None) where
  one_unlaid : (number : ℕ) → IsThereOrFree t next number → IsNewUnlaid frames t number
  one_unlaid number (inl there) absent = absurd (absent there.0 there.1)
  one_unlaid number (inr free) absent = free_unlaid number free

  mutual
    unlaid_of : (r : Render) → EachNumber (IsThereOrFree t next) r → NewAreUnlaid frames t r
    unlaid_of (render number look told scroll count children) h = (one_unlaid number h.0, unlaid_in children h.1)

    unlaid_in : (rs : Renders) → AllNumbers (IsThereOrFree t next) rs → AllNumbers (IsNewUnlaid frames t) rs
    unlaid_in no_renders h = tt
    unlaid_in (more_renders r rs) h = (unlaid_of r h.0, unlaid_in rs h.1)

-- ---- what a build gives

tree_of : (m : MadeTree) (t : PlainNode) → new_tree m ≡ Some t → m ≡ all_made t
tree_of nothing_made t e = absurd (cc)
tree_of (first_made x) t e = absurd (cc)
tree_of (all_made x) t e = cc

laid_is : (s : SessionState) (tree : PlainNode) → laid_of (screen_of s) tree ≡ lay_view (setting_of (scale_of s.program) s.delegates) (render_root tree) s.view
unfolding laid_of
laid_is s tree = refl

or_twice : {A : Type 0} (x y : Option A) → option_or x (option_or x y) ≡ option_or x y
or_twice None y = refl
or_twice (Some a) y = refl

shown_same : (a b : Shown) → Some a ≡ Some b → a ≡ b
shown_same a b e = cc

some_none : {A : Type 0} (a : A) → Some a ≡ None → ⊥
some_none a e = cc

same_view : (s : SessionState) (frames : Frames) → (before frames s).same_view ≡ true → view_in s.shown ≡ Some s.view
same_view s frames e = (is_same-Decides coded_view (view_in s.shown) (Some s.view)).0 e

module _ (laws : PhasedLaws) (frames : Frames) (s : SessionState) (tree : PlainNode) (next : ℕ) (old new : Tree RenderObject) (lo ln po pn : ℕ)
    (shows_it : PhasedShows s tree next old new lo ln po pn) (h : WorkIsCaused frames s old) where
  abbrev set : Setting
  set = setting_of (scale_of s.program) s.delegates

  abbrev top : Render
  top = render_root tree

  abbrev shown : Shown
  shown = shown_of (screen_of s) tree

  abbrev after_it : SessionState
  after_it = framed s tree next

  abbrev later : Frames
  later = frames_after shown.laid frames

  unlaid : NewAreUnlaid frames old top
  unlaid = unlaid_of frames old s.next h.layouts.free_unlaid top shows_it.numbers

  layouts_counted : ln ≤ lo + 2 * length (layout.layout_region (before frames s) top)
  layouts_counted =
      laws.layouts set s.view (before frames s) old new top lo ln po pn shows_it.steps h.layouts.caused unlaid (λ same. h.layouts.asked s.view (same_view s frames same)) (shows_it.windows frames)

  paints_counted : (o : Option Shown) → s.shown ≡ o → pn ≤ po + length (paint.paint_region (before frames s) (shows s tree) top)
  paints_counted None e = laws.first_paints set s.view (before frames s) old new top lo ln po pn (shows s tree) shows_it.steps (h.paints.none_shown e)
  paints_counted (Some last) e =
      subst (λ (x : Shows). pn ≤ po + length (paint.paint_region (before frames s) x top))
      (λ i. record { before = sym (ap (option_map (λ (x : Shown). x.laid)) e) i; now = sym (laid_is s tree) i })
      (laws.paints set s.view (before frames s) old new top lo ln po pn last.laid last.delegates shows_it.steps (h.paints.plugged last e) (h.paints.caused last e))

  asked_after : (view : Size) → view_in (Some shown) ≡ Some view → IsAskedAs view (root_tree new)
  asked_after view e =
      let laid_it : Laid = lay_view set top s.view in
      asked_alike view s.view (root_tree new)
      (view_seen laid_it s.view view (laws.boxes set top (tight s.view)) (laws.sizes set top (tight s.view)) (ap (λ l. view_in (Some (record shown { laid = l }))) (sym (laid_is s tree)) ∙ e)) shows_it.asked

  free_after : (number : ℕ) → next ≤ number → later number ≡ None
  free_after number free =
      let more = shows_it.grows in
      let missing = free_missing next number free top (lay_view set top s.view) (laws.lays set top (tight s.view)) shows_it.numbered in
      ap (λ l. option_or (frame_in l number) (frames number)) (laid_is s tree)
      ∙ (ap (λ x. option_or (option_map (λ l. (facts_of l).frame) x) (frames number)) missing ∙ h.layouts.free_unlaid number (omega (arith, more, free)))

  frames_now : later ≡ frames_after (lay_view set top s.view) frames
  frames_now = ap (λ l. frames_after l frames) (laid_is s tree)

  shown_known : WorkIsCaused later after_it new
  shown_known = record {
    layouts = record {
      caused = laws.layout_causes set s.view (before frames s) old new top lo ln po pn (before later after_it) shows_it.steps (sym shows_it.drawn) frames_now h.layouts.caused.frames unlaid;
      asked = asked_after;
      with_last = λ number. or_twice (frame_in shown.laid number) (frames number);
      free_unlaid = free_after;
    };
    paints = record {
      none_shown = λ e. absurd (some_none shown e);
      caused = λ last e.
          subst (λ (x : Shown). PaintsAreCaused (before later after_it) x.laid x.delegates new) (shown_same shown last e)
          (subst (λ l. PaintsAreCaused (before later after_it) l s.delegates new) (sym (laid_is s tree))
          (laws.paint_causes set s.view (before frames s) old new top lo ln po pn (before later after_it) shows_it.steps (sym shows_it.drawn) frames_now h.layouts.caused.frames unlaid));
      plugged = λ last e. subst (λ (x : Shown). PluggedAsBefore [] x.delegates s.delegates) (shown_same shown last e) (λ name untouched. refl);
    };
  }

  drops_known : WorkIsCaused (frames_then (after_drops after_it).shown later) (after_drops after_it) new
  drops_known = passed later after_it (after_drops after_it) new new (left_alone later [] after_it (after_drops after_it) new (quiet_leaves after_it (after_drops after_it) (quiet_drops laws.fields after_it))) shown_known

  -- the state after the frame shows what the frame did
  drops_shown : (after_drops after_it).shown ≡ Some shown
  drops_shown = (quiet_drops laws.fields after_it).shown

  known_after : WorkIsCaused (frames_then (after_drops after_it).shown frames) (after_drops after_it) new
  known_after =
      subst (λ fs. WorkIsCaused fs (after_drops after_it) new)
      (ap (λ x. frames_then x later) drops_shown ∙ ((λ i number. or_twice (frame_in shown.laid number) (frames number) i) ∙ sym (ap (λ x. frames_then x frames) drops_shown)))
      drops_known

  line_is : built_of s ≡ built tree next → frame_by (built tree next) s ≡ frame_line s
  line_is e = sym (ap (λ b. frame_by b s) e)

  made_is : built_of s ≡ built tree next → made s ≡ all_made tree
  made_is e = tree_of (made s) tree (laws.over_builds s ∙ ap tree_built e)

  -- from the second version on, so often
  rounds_are : (version : ℕ) → (version ≡ 1 → ⊥) → layout_rounds version ≡ 2
  rounds_are version not_first = by (version == 1) refl
    where
      rounds : Bool → ℕ
      rounds b = if b then 1 else 2

      by : (b : Bool) → (version == 1) ≡ b → rounds b ≡ 2
      by true e = absurd (not_first (eqb-true version 1 e))
      by false e = refl

  one_frame : (n : ℕ) (a b : ℕ) → a ≤ b + n → a ≤ b + 1 * n
  one_frame n a b e = omega (arith, e)

  layouts_of : (m : MadeTree) → m ≡ all_made tree → ln ≤ lo + layout_rounds s.program.version * length (layout_region_of (before frames s) m)
  layouts_of m e =
      subst (λ x. ln ≤ lo + layout_rounds s.program.version * length (layout_region_of (before frames s) x)) (sym e)
      (subst (λ n. ln ≤ lo + n * length (layout.layout_region (before frames s) top)) (sym (rounds_are s.program.version shows_it.later)) layouts_counted)

  paints_of : (m : MadeTree) → m ≡ all_made tree → pn ≤ po + length (paint_region_of (before frames s) s m)
  paints_of m e = subst (λ x. pn ≤ po + length (paint_region_of (before frames s) s x)) (sym e) (paints_counted s.shown refl)

  pub phased_shown : built_of s ≡ built tree next → FrameKeepsOn frames s FrameCommand new lo ln po pn
  phased_shown e = record {
    caused = subst (λ o. WorkIsCaused (frames_then (state_after s o).shown frames) (state_after s o) new) (line_is e) known_after;
    layouts = one_frame (layout_rounds s.program.version * length (layout_region frames s)) ln lo (layouts_of (made s) (made_is e));
    paints = one_frame (length (paint_region frames s)) pn po (paints_of (made s) (made_is e));
  }

-- ---- a line, and a frame in one step

-- at least one round
some_rounds : (version n : ℕ) → n ≤ layout_rounds version * n
some_rounds version n = elim (version == 1) as (λ (b : Bool). n ≤ (if b then 1 else 2) * n) [ true ↦ omega arith | false ↦ omega arith ]

no_less : (c n m a b : ℕ) → n ≤ m → a ≤ b + c * n → a ≤ b + c * m
no_less zero n m a b e r = omega (arith, e, r)
no_less (suc c) n m a b e r = let more = times_more c n m e in omega (arith, e, r, more)
  where
    times_more : (c n m : ℕ) → n ≤ m → c * n ≤ c * m
    times_more zero n m e = omega arith
    times_more (suc c) n m e = let more = times_more c n m e in omega (arith, e, more)

pub work_keeps_on : (frames : Frames) (s : SessionState) (command : Command) (t : Tree RenderObject) (lo ln po pn : ℕ) → WorkGoesOn frames s command t lo ln po pn → FrameKeepsOn frames s command t lo ln po pn
work_keeps_on frames s command t lo ln po pn goes = record {
  caused = goes.caused;
  layouts = no_less (frames_of command) (length (layout_region frames s)) (layout_rounds s.program.version * length (layout_region frames s)) ln lo (some_rounds s.program.version (length (layout_region frames s))) goes.layouts;
  paints = goes.paints;
}

-- ---- a frame by what its build gave

by_built : PhasedLaws → ((frames : Frames) (s : SessionState) (old new : Tree RenderObject) (lo ln po pn : ℕ) → FrameGoes (built_of s) s old new lo ln po pn → WorkIsCaused frames s old → WorkGoesOn frames s FrameCommand new lo ln po pn)
    → (frames : Frames) (s : SessionState) (b : Built) (old new : Tree RenderObject) (lo ln po pn : ℕ) → FrameGoesOn b s old new lo ln po pn → WorkIsCaused frames s old → built_of s ≡ b → FrameKeepsOn frames s FrameCommand new lo ln po pn
by_built laws once frames s (failed fault) old new lo ln po pn goes h e = absurd goes
by_built laws once frames s (built tree next) old new lo ln po pn (inl shows) h e =
    work_keeps_on frames s FrameCommand new lo ln po pn (once frames s old new lo ln po pn (subst (λ b. FrameGoes b s old new lo ln po pn) (sym e) shows) h)
by_built laws once frames s (built tree next) old new lo ln po pn (inr shows) h e = phased_shown laws frames s tree next old new lo ln po pn shows h e

pub frame_keeps_on : PhasedLaws → ((frames : Frames) (s : SessionState) (old new : Tree RenderObject) (lo ln po pn : ℕ) → FrameGoes (built_of s) s old new lo ln po pn → WorkIsCaused frames s old → WorkGoesOn frames s FrameCommand new lo ln po pn)
    → (frames : Frames) (s : SessionState) (old new : Tree RenderObject) (lo ln po pn : ℕ) → FrameGoesOn (built_of s) s old new lo ln po pn → WorkIsCaused frames s old → FrameKeepsOn frames s FrameCommand new lo ln po pn
frame_keeps_on laws once frames s old new lo ln po pn goes h = by_built laws once frames s (built_of s) old new lo ln po pn goes h refl

-- ---- a frame with a fault of its second phase

abbrev pub ListsCounted : Type 0
ListsCounted = (s : Setting) (view : Size) (was : Before) (old : Tree RenderObject) (top : Render) (lo ln : ℕ) (lists : LaysLists s view old lo ln)
    → all_without_items (renders_of (root_tree lists.mid)) ≡ all_without_items (more_renders top no_renders) → LayoutsAreCaused was old → NewAreUnlaid was.frames old top
    → (was.same_view ≡ true → IsAskedAs view (root_tree old)) → WindowsStay was top → AllDiffer (render_numbers_of top) → ln ≤ lo + length (layout.first_region was top)

same_or_more : (a b n : ℕ) → a ≡ b → a ≤ b + n
same_or_more a b n e = omega (arith, e)

more_rounds : (a b n m : ℕ) → a ≤ b + n → n ≤ m → a ≤ b + m
more_rounds a b n m e f = omega (arith, e, f)

pub fault_counted : ListsCounted → (frames : Frames) (s : SessionState) (old : Tree RenderObject) (lo ln : ℕ) → FrameFaults s old lo ln → WorkIsCaused frames s old
    → ln ≤ lo + layout_rounds s.program.version * length (layout_region frames s)
fault_counted counts frames s old lo ln (inl same) h = same_or_more ln lo (layout_rounds s.program.version * length (layout_region frames s)) same
fault_counted counts frames s old lo ln (inr fault) h =
    let top = render_root fault.tree in
    let few =
    counts (setting_of (scale_of s.program) s.delegates) s.view (before frames s) old top lo ln fault.lists fault.outer h.layouts.caused (unlaid_of frames old s.next h.layouts.free_unlaid top fault.numbers)
    (λ same. h.layouts.asked s.view (same_view s frames same)) (fault.windows frames) fault.differ in
    subst (λ m. ln ≤ lo + layout_rounds s.program.version * length (layout_region_of (before frames s) m)) (sym fault.is)
    (more_rounds ln lo (length (layout.first_region (before frames s) top)) (layout_rounds s.program.version * length (layout.first_region (before frames s) top)) few
    (some_rounds s.program.version (length (layout.first_region (before frames s) top))))
