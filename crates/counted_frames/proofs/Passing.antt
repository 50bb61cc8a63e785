-- Flags after a frame in both phases.
use Rattle.std.proofs.Common.{◌≡◌, ℕ, false, sym, ◌∙◌}
use Rattle.fx_geom.specs.declared.shapes.Size.{Size}
use Rattle.node_tree.specs.Tree.{Tree}
use Rattle.plain_tree.specs.Laid.{Laid}
use Rattle.plain_tree.specs.Render.{Render, no_renders, more_renders}
use Rattle.layout_form.specs.Layout.{lay_view}
use Rattle.layout_form.specs.Object.{Setting}
use Rattle.kept_layouts.specs.Items.{all_without_items, ListsUnasked}
use Rattle.kept_phases.specs.Lists.{StaysBuilt, FlushesLists}
use Rattle.kept_phases.specs.Parts.{RedrawsPart}
use Rattle.kept_phases.specs.Redraws.{Redraws}
use Rattle.render_tree.specs.Object.{RenderObject}
use Rattle.render_tree.specs.Plain.{renders_of, root_tree}
use Rattle.render_sync.specs.Numbering.{NumbersDiffer}
use Rattle.screen_owner.specs.Standing.{StandsAlone}
use Rattle.work_sets.specs.Before.{Before, Frames, frames_after}
use Rattle.counted_work.specs.Caused.{FramesAgree, NewAreUnlaid}
use Rattle.counted_phases.specs.OuterLaid.{outer_laid}
use Rattle.frame_owner.specs.Working.{PhasedSteps}

-- the frames that a frame leaves once its first layout counts as one that left what it shows, without items
abbrev pub frames_between : Setting → Size → Render → Frames → Frames
frames_between s view top frames = frames_after (outer_laid (lay_view s top view)) frames

-- the laws of counted_phases
pub record PassLaws : Type 0 where
  pub agree : (s : Setting) (view : Size) (frames : Frames) (old mid ranged brought : Tree RenderObject) (top : Render) → RedrawsPart old mid → NumbersDiffer mid → FlushesLists s view mid ranged → StaysBuilt mid ranged
      → (second : Redraws ranged brought) → NumbersDiffer second.made → StandsAlone brought → renders_of (root_tree brought) ≡ more_renders top no_renders
      → all_without_items (renders_of (root_tree mid)) ≡ all_without_items (more_renders top no_renders) → ListsUnasked false top → FramesAgree frames old → NewAreUnlaid frames old top
      → FramesAgree (frames_between s view top frames) brought
  pub after : (l : Laid) (frames : Frames) (number : ℕ) → frames_after l (frames_after (outer_laid l) frames) number ≡ frames_after l frames number

module _ (laws : PassLaws) (s : Setting) (view : Size) (before : Before) (old new : Tree RenderObject) (top : Render) (lo ln po pn : ℕ) (steps : PhasedSteps s view old top new lo ln po pn) where
  pub agree_between : FramesAgree before.frames old → NewAreUnlaid before.frames old top → FramesAgree (frames_between s view top before.frames) steps.brought
  agree_between agree unlaid =
      let b = steps.brings in
      laws.agree s view before.frames old b.lists.mid b.ranged steps.brought top b.lists.first b.lists.differ b.flushes b.stays b.second b.apart b.after b.renders b.outer b.unasked agree unlaid

  pub after_between : (frames : Frames) → frames ≡ frames_after (lay_view s top view) before.frames → frames ≡ frames_after (lay_view s top view) (frames_between s view top before.frames)
  after_between frames e = e ∙ sym (λ i number. laws.after (lay_view s top view) before.frames number i)
