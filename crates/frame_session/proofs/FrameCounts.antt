-- What a frame counts, and what is known of the render nodes after it.
use Rattle.std.proofs.Common.{◌≡◌, ◌∙◌, ℕ, ◌+◌, ◌<◌, ◌≤◌, arith, Bool, Option, Some, None, IfSome, option_map, List, [], ◌∷◌, length, refl, sym, ap, subst, inl, inr, if◌then◌else◌}
use Rattle.std.proofs.lemmas.List.{append-nil}
use Rattle.delegates.specs.Table.{Plug}
use Rattle.node_tree.specs.Tree.{Tree}
use Rattle.plain_tree.specs.At.{numbers_of}
use Rattle.plain_tree.specs.Laws.{VanishAlone, AllDiffer, render_numbers_of, render_numbers_in}
use Rattle.plain_tree.specs.Offsets.{corrected}
use Rattle.plain_tree.specs.PlainNode.{PlainNode}
use Rattle.plain_tree.specs.Projection.{render_of}
use Rattle.plain_tree.specs.Render.{Render, renders_of as renders_listed}
use Rattle.program_check.specs.Checked.{PlainChecked}
use Rattle.widget_model.specs.Plain.{PlainWidget}
use Rattle.widget_model.specs.Typed.{Declarations}
use Rattle.build_form.specs.Entering.{Blueprint}
use Rattle.build_form.specs.FullBuild.{Screen, Built, failed, built, full_build, live_ranges, second_phase, basis, first_tree}
use Rattle.build_form.specs.KeptStates.{HadOrIsNew, EachIs}
use Rattle.build_form.specs.Laws.{NumbersAre, IsOldOrNew, HasSurvivors}
use Rattle.build_form.specs.Numbered.{IsNumbered}
use Rattle.build_form.specs.Program.{blueprint_of}
use Rattle.build_form.specs.Step.{Fault, Progress, Step, stops, gives}
use Rattle.build_form.specs.WellBuilt.{IsWellBuilt}
use Rattle.layout_form.specs.Object.{setting_of}
use Rattle.layout_owner.specs.Roots.{top_render, IsAskedAs}
use Rattle.render_tree.specs.Object.{RenderObject}
use Rattle.render_tree.specs.Plain.{renders_of as renders_in, root_tree}
use Rattle.render_sync.specs.Renders.{EachNumber}
use Rattle.screen_owner.specs.Standing.{StandsAlone}
use Rattle.session_form.specs.Framing.{top_of, screen_of, built_of, laid_of}
use Rattle.session_form.specs.Outcome.{Outcome, refused}
use Rattle.session_form.specs.Program.{scale_of}
use Rattle.session_form.specs.State.{SessionState}
use Rattle.work_sets.specs.Work.{before, render_root, nothing_made, first_made, made_first, made_second}
use Rattle.counted_work.specs.Known.{WorkIsCaused, IsThereOrFree}
use Rattle.counted_frames.specs.Shows.{FrameGoesOn, FrameKeepsOn, FaultShows, FrameFaults}
use Rattle.frame_owner.specs.Frame.{KeptFrame}
use Rattle.frame_owner.specs.Nodes.{drawn_of}
use Rattle.frame_owner.specs.Standing.{FrameStandsFor}
use Rattle.frame_owner.specs.Working.{FrameWorks, LaysFirst, LaidForFault}
use Rattle.frame_session.specs.StandsFor.{StandsFor, HasFramed}
use Rattle.frame_session.specs.declared.held.HeldSession.{HeldSession}
use Rattle.program_check.specs.TypedChecked.{IsTypedChecked}
use Rattle.template_build.specs.Program.{declarations_of}
use Rattle.widget_model.specs.Typed.{IsTypedWidget}
use Rattle.script_lines.specs.declared.command.Command.TheVariants as command
use Rattle.session_form.specs.Framing.{framed, frame_by}
use Rattle.session_form.specs.Outcome.{done, faulted, state_after}
use Rattle.session_form.specs.Step.{step}
use Rattle.work_sets.specs.Before.{Frames}
use Rattle.work_sets.specs.Work.{frame_work, frames_then}
use Rattle.counted_work.specs.Windows.{WindowsStay}
use Rattle.frame_session.specs.Ending.{UnlessFaulted}
use Rattle.frame_session.specs.Works.{NodesGoOn}
use Rattle.frame_session.proofs.FrameLemmas.{framed_case}
use Rattle.frame_session.proofs.SourceLemmas.{numbers_below, numbers_there}
use Rattle.frame_session.proofs.WindowLemmas.{windows_stay}
use Rattle.versioned_kinds.specs.Versions.{TreeKeepsTo, StateKeepsToVersion}
use Rattle.versioned_kinds.specs.Lists.{RenderHasNoLists}

-- ---- a frame

-- laws of builds, and of what a FrameOwner stands for
pub record FrameLaws : Type 0 where
  pub well : (c : PlainChecked) (screen : Screen) (old : Option PlainNode) (next after : ℕ) (root : PlainWidget) (tree : PlainNode) → IsTypedChecked c → IfSome old (IsWellBuilt (declarations_of c))
      → IsTypedWidget (declarations_of c) root → full_build (blueprint_of c) screen old next root ≡ built tree after → IsWellBuilt (declarations_of c) tree
  pub differ : (b : Blueprint) (screen : Screen) (old : Option PlainNode) (next after : ℕ) (root : PlainWidget) (tree : PlainNode)
      → IfSome old (IsNumbered next) → full_build b screen old next root ≡ built tree after → IsNumbered after tree
  pub grows : (b : Blueprint) (screen : Screen) (old : Option PlainNode) (next after : ℕ) (root : PlainWidget) (tree : PlainNode)
      → full_build b screen old next root ≡ built tree after → NumbersAre (IsOldOrNew old next) tree × (next ≤ after)
  pub survive : (b : Blueprint) (screen : Screen) (old : Option PlainNode) (next after : ℕ) (root : PlainWidget) (tree : PlainNode)
      → IfSome old (IsNumbered next) → full_build b screen old next root ≡ built tree after → EachIs (HadOrIsNew b old next) tree
  pub vanish : (d : Declarations) (n : PlainNode) → IsWellBuilt d n → VanishAlone n
  pub one : (n : PlainNode) → VanishAlone n → length (render_of n) ≡ 1
  pub drawn : (c : PlainChecked) (ds : List Plug) (marks : List ℕ) (tree : Option PlainNode) (x : KeptFrame) → FrameStandsFor c ds marks tree x → renders_in (root_tree x.screen.nodes) ≡ drawn_of tree
  pub keeps : (t : SessionState) (tree : PlainNode) (after : ℕ) → StateKeepsToVersion t → built_of t ≡ built tree after → TreeKeepsTo t.program.version tree
  pub no_lists : (tree : PlainNode) → TreeKeepsTo 1 tree → RenderHasNoLists (render_root tree)
  pub root : (c : PlainChecked) (ds : List Plug) (marks : List ℕ) (tree : Option PlainNode) (x : KeptFrame) → FrameStandsFor c ds marks tree x → option_map render_root tree ≡ top_render (renders_in (root_tree x.screen.nodes))

-- the tree before has one render node
one_before : (d : Declarations) (t : Option PlainNode) → ((e : Declarations) (n : PlainNode) → IsWellBuilt e n → VanishAlone n) → ((n : PlainNode) → VanishAlone n → length (render_of n) ≡ 1)
    → IfSome t (IsWellBuilt d) → IfSome t (λ n. length (render_of n) ≡ 1)
one_before d None vanish one well = tt
one_before d (Some n) vanish one well = one n (vanish d n well)

one_root : (rs : List Render) → length rs ≡ 1 → rs ≡ top_of rs ∷ []
one_root [] e = absurd (cc)
one_root (r ∷ []) e = refl
one_root (r ∷ (q ∷ rs)) e = absurd (cc)

-- what a frame shows of the tree that was built in a state, at once or in both phases
module _ (laws : FrameLaws) (kept new : HeldSession) (ds : List Plug) (s : SessionState) (h : StandsFor kept ds s) (versions : StateKeepsToVersion s) (typed : IsTypedChecked s.program)
    (root_typed : IsTypedWidget (declarations_of s.program) s.root) (made : PlainNode) (next : ℕ) (is : built_of s ≡ built made next) (now : StandsFor new ds (framed s made next)) (lo ln po pn : ℕ) (asked : IsAskedAs s.view (root_tree new.owner.screen.nodes)) where
  abbrev old : Tree RenderObject
  old = kept.owner.screen.nodes

  well_before : IfSome s.tree (IsWellBuilt (declarations_of s.program))
  well_before = h.tree.trees.elements.well

  numbered_before : IfSome s.tree (IsNumbered s.next)
  numbered_before = subst (λ (n : ℕ). IfSome s.tree (IsNumbered n)) h.next h.tree.trees.elements.numbered

  well_made : IsWellBuilt (declarations_of s.program) made
  well_made = laws.well s.program (screen_of s) s.tree s.next next s.root made typed well_before root_typed is

  one_made : render_of made ≡ render_root made ∷ []
  one_made = one_root (render_of made) (laws.one made (laws.vanish (declarations_of s.program) made well_made))

  nodes_made : EachIs (HadOrIsNew (blueprint_of s.program) s.tree s.next) made
  nodes_made = laws.survive (blueprint_of s.program) (screen_of s) s.tree s.next next s.root made numbered_before is

  top_now : top_render (renders_in (root_tree new.owner.screen.nodes)) ≡ Some (render_root (corrected (laid_of (screen_of s) made) made))
  top_now = sym (laws.root s.program ds [] (Some (corrected (laid_of (screen_of s) made) made)) new.owner now.tree)

  numbers_now : StandsAlone old → EachNumber (IsThereOrFree old s.next) (render_root made)
  numbers_now before =
      numbers_there (blueprint_of s.program) s.tree s.next numbered_before old before (laws.drawn s.program ds s.marks s.tree kept.owner h.tree) made (render_root made) one_made nodes_made

  below_now : EachNumber (λ number. number < next) (render_root made)
  below_now = numbers_below made (render_root made) next one_made (laws.differ (blueprint_of s.program) (screen_of s) s.tree s.next next s.root made numbered_before is)

  grows_now : s.next ≤ next
  grows_now = (laws.grows (blueprint_of s.program) (screen_of s) s.tree s.next next s.root made is).1

  windows_now : (frames : Frames) → WindowsStay (before frames s) (render_root made)
  windows_now frames =
      windows_stay (blueprint_of s.program) s.next (before frames s) s.tree refl numbered_before (one_before (declarations_of s.program) s.tree laws.vanish laws.one well_before) made (render_root made) one_made
      nodes_made

  frame_goes : FrameWorks (setting_of (scale_of s.program) s.delegates) s.view (built made next) old new.owner.screen.nodes lo ln po pn → FrameGoesOn (built made next) s old new.owner.screen.nodes lo ln po pn
  frame_goes (inl steps) = inl (record {
    steps = steps;
    asked = asked;
    drawn = top_now;
    numbers = numbers_now steps.brings.before;
    numbered = below_now;
    grows = grows_now;
    windows = windows_now;
  })
  frame_goes (inr steps) = inr (record {
    steps = steps;
    asked = asked;
    drawn = top_now;
    numbers = numbers_now steps.brings.lists.before;
    numbered = below_now;
    grows = grows_now;
    windows = windows_now;
    later = λ one. steps.brings.waited (laws.no_lists made (subst (λ (v : ℕ). TreeKeepsTo v made) one (laws.keeps s made next versions is)));
  })

-- a frame that was shown, by what it did to the render nodes
pub frame_went : FrameLaws → (kept new : HeldSession) (ds : List Plug) (s : SessionState) → StandsFor kept ds s → StateKeepsToVersion s → IsTypedChecked s.program → IsTypedWidget (declarations_of s.program) s.root → HasFramed (built_of s) new ds s
    → (lo ln po pn : ℕ) → IsAskedAs s.view (root_tree new.owner.screen.nodes) → FrameWorks (setting_of (scale_of s.program) s.delegates) s.view (built_of s) kept.owner.screen.nodes new.owner.screen.nodes lo ln po pn
    → FrameGoesOn (built_of s) s kept.owner.screen.nodes new.owner.screen.nodes lo ln po pn
frame_went laws kept new ds s h versions typed root_typed shown lo ln po pn asked works =
    framed_case s new ds (FrameGoesOn (built_of s) s kept.owner.screen.nodes new.owner.screen.nodes lo ln po pn) shown (λ made next is now.
    subst (λ (b : Built). FrameGoesOn b s kept.owner.screen.nodes new.owner.screen.nodes lo ln po pn) (sym is)
    (frame_goes laws kept new ds s h versions typed root_typed made next is now lo ln po pn asked
    (subst (λ (b : Built). FrameWorks (setting_of (scale_of s.program) s.delegates) s.view b kept.owner.screen.nodes new.owner.screen.nodes lo ln po pn) is works)))

-- what holds anyhow holds where no fault was
anyhow : (o : Outcome) (P : Type 0) → P → UnlessFaulted o P
anyhow (done s text) P h = h
anyhow (refused why) P h = h
anyhow (faulted fault) P h = tt

-- what a frame keeps to, as the session says it
pub kept_on : (frames : Frames) (s : SessionState) (t : Tree RenderObject) (lo ln po pn : ℕ) → FrameKeepsOn frames s command.Frame t lo ln po pn → NodesGoOn frames s command.Frame t lo ln po pn
kept_on frames s t lo ln po pn k = record {
  caused = anyhow (step s command.Frame) (WorkIsCaused (frames_then (state_after s (step s command.Frame)).shown frames) (state_after s (step s command.Frame)) t) k.caused;
  layouts = k.layouts;
  paints = k.paints;
}

-- a frame with a fault
pub fault_counts : (frames : Frames) (s : SessionState) (f : Fault) (t : Tree RenderObject) (lo ln po pn : ℕ) → built_of s ≡ failed f → ln ≤ lo + (frame_work frames s).layouts → pn ≡ po → NodesGoOn frames s command.Frame t lo ln po pn
fault_counts frames s f t lo ln po pn is few none = record {
  caused = subst (λ (o : Outcome). UnlessFaulted o (WorkIsCaused (frames_then (state_after s o).shown frames) (state_after s o) t)) (sym (ap (λ (b : Built). frame_by b s) is)) tt;
  layouts = omega (arith, few);
  paints = omega (arith, none);
}

-- ---- a frame with a fault of the second phase

second_there : (t tree : PlainNode) (r : Step PlainNode) → made_second t r ≡ first_made tree → t ≡ tree
second_there t tree (stops f) e = cc
second_there t tree (gives n q) e = absurd (cc)

first_there : (b : Blueprint) (screen : Screen) (old : Option PlainNode) (r : Step PlainNode) (tree : PlainNode) → made_first b screen old r ≡ first_made tree → (q : Progress) × (r ≡ gives tree q)
first_there b screen old (stops f) tree e = absurd (cc)
first_there b screen old (gives t q) tree e = (q, ap (λ (n : PlainNode). gives n q) (second_there t tree (second_phase (basis b old) (live_ranges screen) t q.waiting q) e))

-- laws of the first phase
pub record FirstLaws : Type 0 where
  pub well : (c : PlainChecked) (old : Option PlainNode) (next : ℕ) (root : PlainWidget) (tree : PlainNode) (q : Progress) → IsTypedChecked c → IfSome old (IsWellBuilt (declarations_of c)) → IsTypedWidget (declarations_of c) root
      → first_tree (blueprint_of c) old next root ≡ gives tree q → IsWellBuilt (declarations_of c) tree
  pub survive : (b : Blueprint) (old : Option PlainNode) (next : ℕ) (root : PlainWidget) (tree : PlainNode) (q : Progress) → IfSome old (IsNumbered next) → first_tree b old next root ≡ gives tree q
      → EachIs (HadOrIsNew b old next) tree
  pub survivors : (b : Blueprint) (old : Option PlainNode) (next : ℕ) (root : PlainWidget) (tree : PlainNode) (q : Progress) → IfSome old (IsNumbered next) → first_tree b old next root ≡ gives tree q
      → HasSurvivors old next q.next tree
  pub apart : (n : PlainNode) → AllDiffer (numbers_of n) → AllDiffer (render_numbers_in (renders_listed (render_of n)))

-- what was laid out up to a fault
module _ (laws : FrameLaws) (firsts : FirstLaws) (kept : HeldSession) (ds : List Plug) (s : SessionState) (h : StandsFor kept ds s) (typed : IsTypedChecked s.program)
    (root_typed : IsTypedWidget (declarations_of s.program) s.root) (lo ln : ℕ) where
  module _ (f : LaysFirst s.program (screen_of s) s.tree s.next s.root kept.owner.screen.nodes lo ln) where
    well_before_fault : IfSome s.tree (IsWellBuilt (declarations_of s.program))
    well_before_fault = h.tree.trees.elements.well

    numbered_before_fault : IfSome s.tree (IsNumbered s.next)
    numbered_before_fault = subst (λ (n : ℕ). IfSome s.tree (IsNumbered n)) h.next h.tree.trees.elements.numbered

    one_first : render_of f.tree ≡ render_root f.tree ∷ []
    one_first =
        let q = first_there (blueprint_of s.program) (screen_of s) s.tree (first_tree (blueprint_of s.program) s.tree s.next s.root) f.tree f.is in
        one_root (render_of f.tree)
        (laws.one f.tree (laws.vanish (declarations_of s.program) f.tree (firsts.well s.program s.tree s.next s.root f.tree q.0 typed well_before_fault root_typed q.1)))

    nodes_first : EachIs (HadOrIsNew (blueprint_of s.program) s.tree s.next) f.tree
    nodes_first =
        let q = first_there (blueprint_of s.program) (screen_of s) s.tree (first_tree (blueprint_of s.program) s.tree s.next s.root) f.tree f.is in
        firsts.survive (blueprint_of s.program) s.tree s.next s.root f.tree q.0 numbered_before_fault q.1

    differ_first : AllDiffer (render_numbers_of (render_root f.tree))
    differ_first =
        let q = first_there (blueprint_of s.program) (screen_of s) s.tree (first_tree (blueprint_of s.program) s.tree s.next s.root) f.tree f.is in
        let all = firsts.apart f.tree (firsts.survivors (blueprint_of s.program) s.tree s.next s.root f.tree q.0 numbered_before_fault q.1).differ in
        subst AllDiffer (append-nil (render_numbers_of (render_root f.tree))) (subst (λ (rs : List Render). AllDiffer (render_numbers_in (renders_listed rs))) one_first all)

    fault_shows : FaultShows s kept.owner.screen.nodes lo ln
    fault_shows = record {
      tree = f.tree;
      is = ap (λ (b : Bool). if b then nothing_made else made_first (blueprint_of s.program) (screen_of s) s.tree (first_tree (blueprint_of s.program) s.tree s.next s.root)) f.small ∙ f.is;
      lists = f.lists;
      outer = f.outer;
      numbers = numbers_there (blueprint_of s.program) s.tree s.next numbered_before_fault kept.owner.screen.nodes f.lists.before (laws.drawn s.program ds s.marks s.tree kept.owner h.tree) f.tree (render_root f.tree) one_first
          nodes_first;
      windows = λ frames.
          windows_stay (blueprint_of s.program) s.next (before frames s) s.tree refl numbered_before_fault (one_before (declarations_of s.program) s.tree laws.vanish laws.one well_before_fault) f.tree
          (render_root f.tree) one_first nodes_first;
      differ = differ_first;
    }

  pub fault_went : LaidForFault s.program (screen_of s) s.tree s.next s.root kept.owner.screen.nodes lo ln → FrameFaults s kept.owner.screen.nodes lo ln
  fault_went (inl none) = inl none
  fault_went (inr f) = inr (fault_shows f)
