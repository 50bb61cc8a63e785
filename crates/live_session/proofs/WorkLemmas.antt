-- What is known after a script line of the frames that layouts left and of flags, and what it counts.
use Rattle.std.proofs.Common.{◌≡◌, ℕ, ◌+◌, ◌*◌, ◌≤◌, Bool, true, false, Option, Some, None, option_map, List, length, Result, Ok, Err, OnOk, refl, sym, ap, subst, if◌then◌else◌, arith, nat_le}
use Rattle.cell_raster.specs.CellGrid.{columns_of, rows_of, grid_of, max_cells}
use Rattle.fx_geom.specs.declared.shapes.Size.{Size}
use Rattle.layer_tree.specs.declared.layers.Layer.{Layer}
use Rattle.build_form.specs.FullBuild.{Built, failed, built}
use Rattle.script_lines.specs.declared.command.Command.{Command}
use Rattle.script_lines.specs.declared.command.Command.TheVariants as command
use Rattle.tickers.specs.Running.{is_full}
use Rattle.tickers.specs.declared.tween.Tween.{Tween}
use Rattle.session_form.specs.Framing.{built_of, frame_by}
use Rattle.session_form.specs.FrameText.{layers_of}
use Rattle.session_form.specs.Outcome as outcome
use Rattle.session_form.specs.Seeing.{view_in}
use Rattle.session_form.specs.State.{SessionState}
use Rattle.session_form.specs.Step.{step, frames_of}
use Rattle.node_tree.specs.Tree.{Tree}
use Rattle.render_tree.specs.Object.{RenderObject}
use Rattle.versioned_kinds.specs.Versions.{StateKeepsToVersion}
use Rattle.counted_work.specs.Known.{WorkIsCaused}
use Rattle.work_sets.specs.Before.{Frames}
use Rattle.work_sets.specs.Work.{frames_then, frame_work, due_components}
use Rattle.frame_session.specs.Ending.{UnlessFaulted}
use Rattle.frame_session.specs.Works.{IsCaused, GoesOn}
use Rattle.frame_session.proofs.EndingLemmas.{unfaulted}
use Rattle.frame_session.proofs.FaultLemmas.{only_frames_fault}
use Rattle.frame_session.proofs.WorkLemmas.{caused_again}
use Rattle.frame_session.specs.declared.session.Session.{Session}
use Rattle.live_session.specs.Cells.{cells_entry, cells_by, drawn, cell_of}
use Rattle.live_session.specs.EntryStep.{framed_by, frame_entry}
use Rattle.live_session.specs.Focus.{order_in, is_in, focused, focus_on}
use Rattle.live_session.specs.RunState.{RunState, Came, went, refused, faulted, with_session}
use Rattle.live_session.specs.Tweens.{set_number, started_by, tween_entry, with_values, tweens_kept}
use Rattle.live_session.specs.Works.{framed_from, CausedAfter, CameGoesOn}
use Rattle.live_session.specs.declared.live.Live.{Live}
use Rattle.live_session.specs.declared.refusal.LineRefusal.{LineRefusal}
use Rattle.live_session.specs.declared.refusal.LineRefusal.TheVariants as refusal

-- the render nodes of a session
abbrev nodes_in : {V : Type 0} {D : V → Type 0} → Session V D → Tree RenderObject
nodes_in session = session.kept.held.owner.screen.nodes

-- ---- lines that make no frame

nothing : (n m : ℕ) → n ≤ n + 0 * m
nothing n m = omega arith

module _ {V : Type 0} {D : V → Type 0} where
  pub none_counted : (frames : Frames) (r : RunState) (came : Came) (live : Live V D) (lo ln po pn : ℕ) → ln ≡ lo → pn ≡ po → CausedAfter frames r came live → CameGoesOn frames r came 0 live lo ln po pn
  none_counted frames r came live lo ln po pn layouts paints caused = record {
    caused = caused;
    layouts = subst (λ n. n ≤ lo + 0 * (frame_work frames (framed_from r)).layouts) (sym layouts) (nothing lo _);
    paints = subst (λ n. n ≤ po + 0 * (frame_work frames (framed_from r)).paints) (sym paints) (nothing po _);
  }

  -- a command of the session
  session_caused : (frames : Frames) (r : RunState) (o : outcome.Outcome) (live : Live V D)
      → StateKeepsToVersion (outcome.state_after r.session o) → UnlessFaulted o (WorkIsCaused (frames_then (outcome.state_after r.session o).shown frames) (outcome.state_after r.session o) (nodes_in live.session))
      → CausedAfter frames r (with_session o r) live
  session_caused frames r (outcome.done s text) live versions h = record { work = h; versions = versions }
  session_caused frames r (outcome.refused why) live versions h = record { work = h; versions = versions }
  session_caused frames r (outcome.faulted fault) live versions h = tt

  pub command_goes : (frames : Frames) (r : RunState) (c : Command) (session : Session V D) (live : Live V D) (lo ln po pn l p : ℕ) → ln ≡ lo → pn ≡ po → live.session ≡ session
      → GoesOn frames r.session c session l ln p pn → CameGoesOn frames r (with_session (step r.session c) r) 0 live lo ln po pn
  command_goes frames r c session live lo ln po pn l p layouts paints same h =
      none_counted frames r (with_session (step r.session c) r) live lo ln po pn layouts paints
      (session_caused frames r (step r.session c) live h.versions
      (subst (λ (x : Session V D). UnlessFaulted (step r.session c) (WorkIsCaused (frames_then (outcome.state_after r.session (step r.session c)).shown frames) (outcome.state_after r.session (step r.session c)) (nodes_in x)))
      (sym same) h.nodes.caused))

  -- one that shows nothing leaves the frames
  pub set_causes : {A E : Type 0} (result : Result A E) (frames : Frames) (s : SessionState) (c known : Command) (session : Session V D) (lo ln po pn : ℕ) → c ≡ known → frames_of known ≡ 0
      → frames_then (outcome.state_after s (step s known)).shown frames ≡ frames → OnOk result (GoesOn frames s c session lo ln po pn) → OnOk result (IsCaused frames (outcome.state_after s (step s known)) session)
  set_causes (Ok x) frames s c known session lo ln po pn is none same h =
      let after : Frames → Type 0 = λ fs. WorkIsCaused fs (outcome.state_after s (step s known)) (nodes_in session) in
      let known_after : Command → Type 0 = λ x. UnlessFaulted (step s x) (WorkIsCaused (frames_then (outcome.state_after s (step s x)).shown frames) (outcome.state_after s (step s x)) (nodes_in session)) in
      let versions_after : Command → Type 0 = λ x. StateKeepsToVersion (outcome.state_after s (step s x)) in
      record {
        work = subst after same
            (unfaulted (step s known) (after (frames_then (outcome.state_after s (step s known)).shown frames)) (only_frames_fault s known none) (subst known_after is h.nodes.caused));
        versions = subst versions_after is h.versions;
      }
  set_causes (Err e) frames s c known session lo ln po pn is none same h = tt

  -- a line that leaves the session
  module _ (frames : Frames) (r : RunState) (live : Live V D) (h : IsCaused frames r.session live.session) where
    again : IsCaused (frames_then r.session.shown frames) r.session live.session
    again = caused_again frames r.session live.session.kept.held.owner.screen.nodes h

    pub refused_again : (why : LineRefusal) → CausedAfter frames r (refused why) live
    refused_again why = again

    pub focused_caused : (focus : Option ℕ) → CausedAfter frames r (focused focus r) live
    focused_caused focus = again

    focus_by : (number : ℕ) (there : Bool) → CausedAfter frames r (if there then focused (Some number) r else refused refusal.NotFocusable) live
    focus_by number true = again
    focus_by number false = again

    pub focus_caused : (number : ℕ) → CausedAfter frames r (focus_on number r) live
    focus_caused number = focus_by number (is_in (order_in r.session.shown) number)

    drawn_by : (few : Bool) (root : Layer) (view cell : Size) → CausedAfter frames r (if few then drawn (grid_of root view cell) r else refused refusal.TooManyCells) live
    drawn_by true root view cell = again
    drawn_by false root view cell = again

    cells_caused_by : (root : Option Layer) (view : Option Size) (cell : Size) → CausedAfter frames r (cells_by root view cell r) live
    cells_caused_by None view cell = again
    cells_caused_by (Some root) None cell = again
    cells_caused_by (Some root) (Some view) cell = drawn_by (nat_le (columns_of view cell * rows_of view cell) max_cells) root view cell

    pub cells_caused : CausedAfter frames r (cells_entry r) live
    cells_caused = cells_caused_by (option_map (layers_of (cell_of r.session)) r.session.shown) (view_in r.session.shown) (cell_of r.session)

  -- of the session that a line gave back as it was
  pub stays_caused : {A E : Type 0} (result : Result A E) (frames : Frames) (r : RunState) (came : Came) (old new : Live V D) (l p : ℕ) → new.session ≡ old.session
      → ((live : Live V D) → IsCaused frames r.session live.session → CausedAfter frames r came live) → IsCaused frames r.session old.session → OnOk result (CameGoesOn frames r came 0 new l l p p)
  stays_caused (Ok x) frames r came old new l p same stays h = none_counted frames r came new l l p p refl refl (stays new (subst (IsCaused frames r.session) (sym same) h))
  stays_caused (Err e) frames r came old new l p same stays h = tt

  -- ---- `tween`

  started_caused : (frames : Frames) (r : RunState) (o : outcome.Outcome) (t : Tween) (live : Live V D) → IsCaused frames (outcome.state_after r.session o) live.session → CausedAfter frames r (started_by o t r) live
  started_caused frames r (outcome.done s text) t live h = caused_again frames s live.session.kept.held.owner.screen.nodes h
  started_caused frames r (outcome.refused why) t live h = caused_again frames r.session live.session.kept.held.owner.screen.nodes h
  started_caused frames r (outcome.faulted fault) t live h = tt

  pub tween_goes : (frames : Frames) (r : RunState) (o : outcome.Outcome) (t : Tween) (session : Session V D) (live : Live V D) (lo ln po pn : ℕ) → tween_entry t r ≡ started_by o t r → live.session ≡ session → ln ≡ lo → pn ≡ po
      → IsCaused frames (outcome.state_after r.session o) session → CameGoesOn frames r (tween_entry t r) 0 live lo ln po pn
  tween_goes frames r o t session live lo ln po pn is same layouts paints h =
      subst (λ came. CameGoesOn frames r came 0 live lo ln po pn) (sym is)
      (none_counted frames r (started_by o t r) live lo ln po pn layouts paints (started_caused frames r o t live (subst (IsCaused frames (outcome.state_after r.session o)) (sym same) h)))

  pub tween_full : (frames : Frames) (r : RunState) (t : Tween) (live : Live V D) (l p : ℕ) → is_full r.tweens t.node t.field ≡ true → IsCaused frames r.session live.session → CameGoesOn frames r (tween_entry t r) 0 live l l p p
  tween_full frames r t live l p full h =
      subst (λ came. CameGoesOn frames r came 0 live l l p p)
      (sym (ap (λ (b : Bool). if b then refused refusal.TooManyTweens else started_by (step r.session (set_number t.node t.field t.from)) t r) full))
      (none_counted frames r (refused refusal.TooManyTweens) live l l p p refl refl (refused_again frames r live h refusal.TooManyTweens))

  -- ---- `frame`

  framed_caused : (frames : Frames) (r : RunState) (s : SessionState) (b : Built) (now : ℕ) (ts : List Tween) (live : Live V D)
      → StateKeepsToVersion (outcome.state_after s (frame_by b s)) → UnlessFaulted (frame_by b s) (WorkIsCaused (frames_then (outcome.state_after s (frame_by b s)).shown frames) (outcome.state_after s (frame_by b s)) (nodes_in live.session))
      → CausedAfter frames r (framed_by (frame_by b s) now ts r) live
  framed_caused frames r s (failed fault) now ts live versions h = tt
  framed_caused frames r s (built made next) now ts live versions h = record { work = h; versions = versions }

  pub frame_goes : (frames : Frames) (r : RunState) (now : ℕ) (session : Session V D) (live : Live V D) (lo lm ln po pm pn : ℕ) → now ≡ r.session.time → live.session ≡ session → lm ≡ lo → pm ≡ po
      → GoesOn frames (with_values now r.tweens r.session) command.Frame session lm ln pm pn → CameGoesOn frames r (frame_entry r) 1 live lo ln po pn
  frame_goes frames r now session live lo lm ln po pm pn time same layouts paints goes =
      let P : ℕ → Type 0 = λ t. GoesOn frames (with_values t r.tweens r.session) command.Frame session lm ln pm pn in
      let on : GoesOn frames (framed_from r) command.Frame session lm ln pm pn = subst P time goes in
      record {
        caused = framed_caused frames r (framed_from r) (built_of (framed_from r)) r.session.time (tweens_kept r.session.time r.session r.tweens) live on.versions
            (subst (λ (x : Session V D). UnlessFaulted (step (framed_from r) command.Frame)
            (WorkIsCaused (frames_then (outcome.state_after (framed_from r) (step (framed_from r) command.Frame)).shown frames) (outcome.state_after (framed_from r) (step (framed_from r) command.Frame)) (nodes_in x)))
            (sym same) on.nodes.caused);
        layouts = subst (λ n. ln ≤ n + 1 * (frame_work frames (framed_from r)).layouts) layouts on.nodes.layouts;
        paints = subst (λ n. pn ≤ n + 1 * (frame_work frames (framed_from r)).paints) paints on.nodes.paints;
      }

  pub frame_goes_ok : {A E : Type 0} (result : Result A E) (frames : Frames) (r : RunState) (now : ℕ) (session : Session V D) (live : Live V D) (lo lm ln po pm pn : ℕ) → now ≡ r.session.time → live.session ≡ session
      → lm ≡ lo → pm ≡ po → GoesOn frames (with_values now r.tweens r.session) command.Frame session lm ln pm pn → OnOk result (CameGoesOn frames r (frame_entry r) 1 live lo ln po pn)
  frame_goes_ok (Ok x) frames r now session live lo lm ln po pm pn time same layouts paints goes = frame_goes frames r now session live lo lm ln po pm pn time same layouts paints goes
  frame_goes_ok (Err e) frames r now session live lo lm ln po pm pn time same layouts paints goes = tt

  -- ---- beside another thing that is kept

  caused_same : (frames : Frames) (r : RunState) (came : Came) (old new : Live V D) → new.session ≡ old.session → CausedAfter frames r came old → CausedAfter frames r came new
  caused_same frames r (went next text) old new same h = subst (IsCaused (frames_then next.session.shown frames) next.session) (sym same) h
  caused_same frames r (refused why) old new same h = subst (IsCaused (frames_then r.session.shown frames) r.session) (sym same) h
  caused_same frames r (faulted fault) old new same h = tt

  pub goes_same : {A E : Type 0} (result : Result A E) (frames : Frames) (r : RunState) (came : Came) (count : ℕ) (old new : Live V D) (lo ln po pn : ℕ) → new.session ≡ old.session
      → OnOk result (CameGoesOn frames r came count old lo ln po pn) → OnOk result (CameGoesOn frames r came count new lo ln po pn)
  goes_same (Ok x) frames r came count old new lo ln po pn same h = record { caused = caused_same frames r came old new same h.caused; layouts = h.layouts; paints = h.paints }
  goes_same (Err e) frames r came count old new lo ln po pn same h = tt

  -- ---- by what a line is

  pub came_by : {A E : Type 0} (result : Result A E) (frames : Frames) (r : RunState) (came known : Came) (count counted : ℕ) (live : Live V D) (lo ln po pn : ℕ) → came ≡ known → count ≡ counted
      → OnOk result (CameGoesOn frames r known counted live lo ln po pn) → OnOk result (CameGoesOn frames r came count live lo ln po pn)
  came_by result frames r came known count counted live lo ln po pn is adds h =
      subst (λ x. OnOk result (CameGoesOn frames r x count live lo ln po pn)) (sym is) (subst (λ n. OnOk result (CameGoesOn frames r known n live lo ln po pn)) (sym adds) h)

-- ---- what is built

some_more : (n m : ℕ) → n ≤ n + m
some_more n m = omega arith

pub none_built : {A E : Type 0} (result : Result A E) (before after count work : ℕ) → after ≡ before → OnOk result (after ≤ before + count * work)
none_built (Ok x) before after count work same = subst (λ n. n ≤ before + count * work) (sym same) (some_more before (count * work))
none_built (Err e) before after count work same = tt

pub built_by : {A E : Type 0} (result : Result A E) (before after count counted work : ℕ) → count ≡ counted → OnOk result (after ≤ before + counted * work) → OnOk result (after ≤ before + count * work)
built_by result before after count counted work adds h = subst (λ n. OnOk result (after ≤ before + n * work)) (sym adds) h

one_of : {A E : Type 0} (result : Result A E) (before after work : ℕ) → OnOk result (after ≤ before + work) → OnOk result (after ≤ before + 1 * work)
one_of (Ok x) before after work h = omega (arith, h)
one_of (Err e) before after work h = tt

-- a frame, by the line's count
pub one_built : {A E : Type 0} (result : Result A E) (before after count work : ℕ) → count ≡ 1 → OnOk result (after ≤ before + work) → OnOk result (after ≤ before + count * work)
one_built result before after count work adds h = built_by result before after count 1 work adds (one_of result before after work h)

-- of the state that it is made in
pub frame_built : (r : RunState) (now before between after : ℕ) → now ≡ r.session.time → between ≡ before → after ≤ between + length (due_components (with_values now r.tweens r.session))
    → after ≤ before + length (due_components (framed_from r))
frame_built r now before between after time same h =
    subst (λ n. after ≤ n + length (due_components (framed_from r))) same (subst (λ t. after ≤ between + length (due_components (with_values t r.tweens r.session))) time h)
