-- What is known after a command of the frames that layouts left and of flags, and what it counts.
use Rattle.std.proofs.Common.{◌≡◌, ◌∙◌, ℕ, ℤ, ◌+◌, ◌*◌, ◌≤◌, true, Option, option_map, List, Result, Ok, Err, OnOk, sym, ap, subst, arith}
use Rattle.delegates.specs.Table.{Plug}
use Rattle.node_tree.specs.Tree.{Tree}
use Rattle.plain_tree.specs.PlainNode.{PlainNode}
use Rattle.layout_owner.specs.Roots.{top_render}
use Rattle.program_check.specs.Checked.{PlainChecked}
use Rattle.render_tree.specs.Object.{RenderObject}
use Rattle.render_tree.specs.Plain.{renders_of as renders_in, root_tree}
use Rattle.screen_owner.specs.Screen.{KeptScreen}
use Rattle.script_lines.specs.declared.command.Command.{Command}
use Rattle.script_lines.specs.declared.command.Command.TheVariants as command
use Rattle.session_form.specs.Changing.{scroll_line, delegate_line, unplug_line}
use Rattle.session_form.specs.Outcome.{Outcome, done, refused, faulted, state_after}
use Rattle.session_form.specs.State.{SessionState}
use Rattle.session_form.specs.Step.{step, frames_of}
use Rattle.work_sets.specs.Before.{Frames}
use Rattle.work_sets.specs.Work.{frames_then, render_root}
use Rattle.counted_work.specs.Known.{WorkIsCaused, touches_nothing, IsDrawn, ScrollGoes, DelegateGoes}
use Rattle.counted_work.proofs.Known.{known_again}
use Rattle.versioned_kinds.specs.Versions.{StateKeepsToVersion}
use Rattle.frame_owner.specs.Frame.{KeptFrame}
use Rattle.frame_owner.specs.Standing.{FrameStandsFor}
use Rattle.frame_session.specs.Ending.{UnlessFaulted}
use Rattle.frame_session.specs.StandsFor.{StandsFor}
use Rattle.frame_session.specs.Works.{StateIsCaused, NodesGoOn, StateGoesOn}
use Rattle.frame_session.specs.declared.held.HeldSession.{HeldSession}

-- what is known of the render nodes after a command
abbrev Known : Frames → SessionState → Outcome → Tree RenderObject → Type 0
Known frames s o t = WorkIsCaused (frames_then (state_after s o).shown frames) (state_after s o) t

pub some_more : (n m : ℕ) → n ≤ n + m
some_more n m = omega arith

unless_faulted : (o : Outcome) (P : Type 0) → P → UnlessFaulted o P
unless_faulted (done s text) P h = h
unless_faulted (refused why) P h = h
unless_faulted (faulted fault) P h = tt

-- where nothing is counted
nothing_counted : (frames : Frames) (s : SessionState) (c : Command) (t : Tree RenderObject) (layouts paints : ℕ) → Known frames s (step s c) t → NodesGoOn frames s c t layouts layouts paints paints
nothing_counted frames s c t layouts paints known = record { caused = unless_faulted (step s c) (Known frames s (step s c) t) known; layouts = some_more layouts _; paints = some_more paints _ }

-- what is known is known again, of the frames with that which is shown
pub caused_again : (frames : Frames) (s : SessionState) (t : Tree RenderObject) → StateIsCaused frames s t → StateIsCaused (frames_then s.shown frames) s t
caused_again frames s t h = record { work = known_again frames s t h.work; versions = h.versions }

-- of the state after a command too
pub goes_versioned : {A E : Type 0} (r : Result A E) (frames : Frames) (s : SessionState) (c : Command) (t : Tree RenderObject) (lo ln po pn : ℕ) → StateKeepsToVersion (state_after s (step s c))
    → OnOk r (NodesGoOn frames s c t lo ln po pn) → OnOk r (StateGoesOn frames s c t lo ln po pn)
goes_versioned (Ok x) frames s c t lo ln po pn versions h = record { nodes = h; versions = versions }
goes_versioned (Err e) frames s c t lo ln po pn versions h = tt

-- ---- lines that touch nothing

abbrev pub QuietLaw : Type 0
QuietLaw = (frames : Frames) (s : SessionState) (c : Command) (t : Tree RenderObject) → touches_nothing c ≡ true → WorkIsCaused frames s t → WorkIsCaused (frames_then (state_after s (step s c)).shown frames) (state_after s (step s c)) t

pub quiet_now : QuietLaw → (frames : Frames) (s : SessionState) (c known : Command) (old new : KeptScreen) (layouts paints : ℕ) → c ≡ known → touches_nothing known ≡ true → WorkIsCaused frames s old.nodes
    → new ≡ old → NodesGoOn frames s c new.nodes layouts layouts paints paints
quiet_now law frames s c known old new layouts paints is quiet h same =
    subst (λ (x : KeptScreen). NodesGoOn frames s c x.nodes layouts layouts paints paints) (sym same)
    (nothing_counted frames s c old.nodes layouts paints (law frames s c old.nodes (ap touches_nothing is ∙ quiet) h))

pub quiet_goes : {A E : Type 0} (r : Result A E) → QuietLaw → (frames : Frames) (s : SessionState) (c known : Command) (old new : KeptScreen) (layouts paints : ℕ) → c ≡ known → touches_nothing known ≡ true
    → WorkIsCaused frames s old.nodes → OnOk r (new ≡ old) → OnOk r (NodesGoOn frames s c new.nodes layouts layouts paints paints)
quiet_goes (Ok x) law frames s c known old new layouts paints is quiet h same = quiet_now law frames s c known old new layouts paints is quiet h same
quiet_goes (Err e) law frames s c known old new layouts paints is quiet h same = tt

-- ---- the render nodes are those of the tree of a state

abbrev pub RootLaw : Type 0
RootLaw = (c : PlainChecked) (ds : List Plug) (marks : List ℕ) (tree : Option PlainNode) (x : KeptFrame) → FrameStandsFor c ds marks tree x
    → option_map render_root tree ≡ top_render (renders_in (root_tree x.screen.nodes))

is_drawn : RootLaw → (kept : HeldSession) (ds : List Plug) (s : SessionState) → StandsFor kept ds s → IsDrawn s kept.owner.screen.nodes
is_drawn law kept ds s stands = law s.program ds s.marks s.tree kept.owner stands.tree

-- ---- lines that touch something

pub scroll_goes : RootLaw
    → ((frames : Frames) (s : SessionState) (number : ℕ) (by : ℤ) (old new : Tree RenderObject) → ScrollGoes number (scroll_line number by s) s old new
    → IsDrawn (state_after s (scroll_line number by s)) new → WorkIsCaused frames s old
    → WorkIsCaused (frames_then (state_after s (scroll_line number by s)).shown frames) (state_after s (scroll_line number by s)) new)
    → (frames : Frames) (s : SessionState) (c : Command) (number : ℕ) (by : ℤ) (old : Tree RenderObject) (kept : HeldSession) (ds : List Plug) (layouts paints : ℕ) → c ≡ command.Scroll number by
    → ScrollGoes number (scroll_line number by s) s old kept.owner.screen.nodes → StandsFor kept ds (state_after s (scroll_line number by s)) → WorkIsCaused frames s old
    → NodesGoOn frames s c kept.owner.screen.nodes layouts layouts paints paints
scroll_goes root law frames s c number by old kept ds layouts paints is goes stands h =
    subst (λ x. NodesGoOn frames s x kept.owner.screen.nodes layouts layouts paints paints) (sym is)
    (nothing_counted frames s (command.Scroll number by) kept.owner.screen.nodes layouts paints
    (law frames s number by old kept.owner.screen.nodes goes (is_drawn root kept ds (state_after s (scroll_line number by s)) stands) h))

pub delegate_goes : {A E : Type 0} (r : Result A E) → RootLaw
    → ((frames : Frames) (s : SessionState) (name field : List ℕ) (n : ℤ) (old new : Tree RenderObject) → DelegateGoes name (delegate_line name field n s) s old new
    → IsDrawn (state_after s (delegate_line name field n s)) new → WorkIsCaused frames s old
    → WorkIsCaused (frames_then (state_after s (delegate_line name field n s)).shown frames) (state_after s (delegate_line name field n s)) new)
    → (frames : Frames) (s : SessionState) (c : Command) (name field : List ℕ) (n : ℤ) (old : Tree RenderObject) (kept : HeldSession) (ds : List Plug) (layouts paints : ℕ) → c ≡ command.Delegate name field n
    → OnOk r (DelegateGoes name (delegate_line name field n s) s old kept.owner.screen.nodes) → OnOk r (StandsFor kept ds (state_after s (delegate_line name field n s))) → WorkIsCaused frames s old
    → OnOk r (NodesGoOn frames s c kept.owner.screen.nodes layouts layouts paints paints)
delegate_goes (Ok x) root law frames s c name field n old kept ds layouts paints is goes stands h =
    subst (λ x. NodesGoOn frames s x kept.owner.screen.nodes layouts layouts paints paints) (sym is)
    (nothing_counted frames s (command.Delegate name field n) kept.owner.screen.nodes layouts paints
    (law frames s name field n old kept.owner.screen.nodes goes (is_drawn root kept ds (state_after s (delegate_line name field n s)) stands) h))
delegate_goes (Err e) root law frames s c name field n old kept ds layouts paints is goes stands h = tt

pub unplug_goes : {A E : Type 0} (r : Result A E) → RootLaw
    → ((frames : Frames) (s : SessionState) (name : List ℕ) (old new : Tree RenderObject) → DelegateGoes name (unplug_line name s) s old new
    → IsDrawn (state_after s (unplug_line name s)) new → WorkIsCaused frames s old
    → WorkIsCaused (frames_then (state_after s (unplug_line name s)).shown frames) (state_after s (unplug_line name s)) new)
    → (frames : Frames) (s : SessionState) (c : Command) (name : List ℕ) (old : Tree RenderObject) (kept : HeldSession) (ds : List Plug) (layouts paints : ℕ) → c ≡ command.Unplug name
    → OnOk r (DelegateGoes name (unplug_line name s) s old kept.owner.screen.nodes) → OnOk r (StandsFor kept ds (state_after s (unplug_line name s))) → WorkIsCaused frames s old
    → OnOk r (NodesGoOn frames s c kept.owner.screen.nodes layouts layouts paints paints)
unplug_goes (Ok x) root law frames s c name old kept ds layouts paints is goes stands h =
    subst (λ x. NodesGoOn frames s x kept.owner.screen.nodes layouts layouts paints paints) (sym is)
    (nothing_counted frames s (command.Unplug name) kept.owner.screen.nodes layouts paints
    (law frames s name old kept.owner.screen.nodes goes (is_drawn root kept ds (state_after s (unplug_line name s)) stands) h))
unplug_goes (Err e) root law frames s c name old kept ds layouts paints is goes stands h = tt

-- ---- a frame

pub frame_goes : {A E : Type 0} (r : Result A E) (frames : Frames) (s : SessionState) (c : Command) (t : Tree RenderObject) (lo ln po pn : ℕ) → c ≡ command.Frame → OnOk r (NodesGoOn frames s command.Frame t lo ln po pn)
    → OnOk r (NodesGoOn frames s c t lo ln po pn)
frame_goes r frames s c t lo ln po pn is h = subst (λ x. OnOk r (NodesGoOn frames s x t lo ln po pn)) (sym is) h

one_zero : ◌≡◌ {A = ℕ} 1 0 → ⊥
one_zero e = cc

pub no_frame : (c : Command) (P : Type 0) → c ≡ command.Frame → frames_of c ≡ 0 → P
no_frame c P is none = absurd (one_zero (sym (ap frames_of is) ∙ none))

-- ---- what is built

pub unbuilt : {A E : Type 0} (r : Result A E) (n m : ℕ) → OnOk r (n ≤ n + m)
unbuilt (Ok x) n m = some_more n m
unbuilt (Err e) n m = tt

one_of : {A E : Type 0} (r : Result A E) (before after work : ℕ) → OnOk r (after ≤ before + work) → OnOk r (after ≤ before + 1 * work)
one_of (Ok x) before after work h = omega (arith, h)
one_of (Err e) before after work h = tt

pub frame_built : {A E : Type 0} (r : Result A E) (c : Command) (before after work : ℕ) → c ≡ command.Frame → OnOk r (after ≤ before + work) → OnOk r (after ≤ before + frames_of c * work)
frame_built r c before after work is h = subst (λ n. OnOk r (after ≤ before + n * work)) (sym (ap frames_of is)) (one_of r before after work h)
