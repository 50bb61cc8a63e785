-- What is known before the first line.
use Rattle.std.proofs.Common.{◌≡◌, Some, None, List, refl}
use Rattle.delegates.specs.Table.{Plug}
use Rattle.node_tree.specs.Tree.{Tree}
use Rattle.program_check.specs.Checked.{PlainChecked}
use Rattle.render_tree.specs.Object.{RenderObject}
use Rattle.session_form.specs.State.{first_state}
use Rattle.work_sets.specs.Work.{before}
use Rattle.counted_work.specs.Caused.{LayoutsAreCaused}
use Rattle.counted_work.specs.Known.{no_frames, WorkIsCaused}

none_some : {A : Type 0} {x : A} → None ≡ Some x → ⊥
none_some e = cc

pub begins : (program : PlainChecked) (delegates : List Plug) (t : Tree RenderObject) → LayoutsAreCaused (before no_frames (first_state program delegates)) t
    → WorkIsCaused no_frames (first_state program delegates) t
begins program delegates t caused = record {
  layouts = record { caused = caused; asked = λ view e. absurd (none_some e); with_last = λ number. refl; free_unlaid = λ number free. refl };
  paints = record { none_shown = λ e. refl; caused = λ last e. absurd (none_some e); plugged = λ last e. absurd (none_some e) };
}
