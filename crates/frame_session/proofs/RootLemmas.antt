-- The root that a session keeps: the one widget that a checked root gives.
use Rattle.std.proofs.Common.{◌≡◌, ℕ, ◌<◌, ◌+◌, false, Option, None, IfSome, Result, Ok, List, [], ◌∷◌, sym, subst, ap, ◌∙◌, arith}
use Rattle.std.specs.declared.alloc.Global.{Global}
use Rattle.std.specs.declared.rc.Rc.{Rc}
use Rattle.delegates.specs.Table.{Plug}
use Rattle.widget_model.specs.Plain.{PlainWidget, widgets_of}
use Rattle.widget_model.specs.Size.{count_of, count_in}
use Rattle.widget_model.specs.Sized.{IsSized}
use Rattle.widget_model.specs.Typed.{IsTypedWidget}
use Rattle.widget_model.specs.View.{shared}
use Rattle.widget_model.specs.declared.widgets.Widget.{Widget}
use Rattle.program_form.specs.Template.{PlainTemplate}
use Rattle.program_read.specs.Reading.{Unread, read_as}
use Rattle.program_read.specs.TemplateWalk.{template_of}
use Rattle.program_check.specs.Body.{PlainBody}
use Rattle.program_check.specs.Checked.{PlainChecked}
use Rattle.program_check.specs.CheckedView.{plain_checked}
use Rattle.program_check.specs.ProgramCheck.{CheckedAt, checked_widget}
use Rattle.program_check.specs.declared.checked.CheckedParts.{CheckedParts}
use Rattle.template_build.specs.HandlersIn.{HandlersMeet, AllHandlersMeet, SetsNothing}
use Rattle.template_build.specs.Program.{declarations_of}
use Rattle.build_form.specs.Entering.{output_limit}
use Rattle.plain_tree.specs.PlainNode.{PlainNode}
use Rattle.frame_session.specs.declared.held.HeldSession.{HeldSession}
use Rattle.session_form.specs.Changing.{root_checked, root_read, root_line}
use Rattle.session_form.specs.Outcome.{quietly, state_after}
use Rattle.session_form.specs.Program.{the_one, root_widget}
use Rattle.frame_session.specs.StandsFor.{StandsFor, IsRoot, AreSound}
use Rattle.session_form.specs.State.{SessionState}
use Rattle.frame_session.proofs.StandsLemmas.{stands_by}
use Rattle.session_form.proofs.TreeLemmas.{none_some}

pub one_is : (ws : List PlainWidget) (w : PlainWidget) → ws ≡ w ∷ [] → w ≡ the_one ws
one_is ws w e = sym (ap the_one e)

pub one_sets : (ws : List PlainWidget) (w : PlainWidget) → ws ≡ w ∷ [] → AllHandlersMeet SetsNothing (widgets_of ws) → HandlersMeet SetsNothing w
one_sets ws w e h =
    let P : List PlainWidget → Type 0 = λ l. AllHandlersMeet SetsNothing (widgets_of l) in
    (subst P e h).0

-- the one widget is as large as the list
pub one_too_large : (ws : List PlainWidget) (w : PlainWidget) → ws ≡ w ∷ [] → 65536 < count_in ws → output_limit < count_of (the_one ws)
one_too_large ws w e h =
    let P : List PlainWidget → Type 0 = λ l. output_limit < count_of (the_one l) in
    let Q : List PlainWidget → Type 0 = λ l. 65536 < count_in l in
    let large : 65536 < count_of w + 0 = subst Q e h in
    let one : output_limit < count_of w = omega (arith, large) in
    subst P (sym e) one

-- ---- `root JSON`

pub root_reads : (json : List ℕ) (s : SessionState) (program : CheckedParts) (r : Result PlainTemplate Unread) → plain_checked program ≡ s.program
    → read_as (template_of program.version) json ≡ r → root_line json s ≡ root_read r s
unfolding root_line
root_reads json s program r same read =
    ap (λ (c : PlainChecked). root_read (read_as (template_of c.version) json) s) (sym same) ∙ ap (λ x. root_read x s) read

pub root_checks : (json : List ℕ) (s : SessionState) (program : CheckedParts) (t : PlainTemplate) (r : CheckedAt PlainBody) → plain_checked program ≡ s.program
    → read_as (template_of program.version) json ≡ Ok t → checked_widget (plain_checked program) t ≡ r → root_line json s ≡ root_checked r s
root_checks json s program t r same read check =
    root_reads json s program (Ok t) same read ∙ ap (λ c. root_checked (checked_widget c t) s) (sym same) ∙ ap (λ x. root_checked x s) check

pub root_stands : (kept : HeldSession) (ds : List Plug) (s : SessionState) (root : Option (Rc Widget Global)) (json : List ℕ) (t : PlainTemplate) (b : PlainBody)
    → StandsFor kept ds s → read_as (template_of kept.program.version) json ≡ Ok t → checked_widget (plain_checked kept.program) t ≡ Ok b
    → IsRoot root (root_widget (plain_checked kept.program) b) → StandsFor (record kept { root = root; same_root = false }) ds (state_after s (root_line json s))
root_stands kept ds s root json t b h read check is =
    let P : PlainChecked → Type 0 = λ c. IsRoot root (root_widget c b) in
    stands_by (record kept { root = root; same_root = false }) ds s (root_line json s) (quietly (record s { root = root_widget s.program b }))
    (root_checks json s kept.program t (Ok b) h.program read check) (record {
      program = h.program;
      root = subst P h.program is;
      tree = h.tree;
      next = h.next;
      shown = h.shown;
      view = h.view;
      delegates_mean = h.delegates_mean;
      pointers = h.pointers;
      time = h.time;
      frames = h.frames;
      last = h.last;
    })

-- ---- what holds of all that is kept

pub sound_root : (program : CheckedParts) (old root : Option (Rc Widget Global)) (tree : Option PlainNode) (next frames : ℕ)
    → AreSound program old tree next frames → IfSome root (λ r. IsTypedWidget (declarations_of (plain_checked program)) (shared r))
    → IfSome root (λ r. IsSized r.value) → IfSome root (λ r. HandlersMeet SetsNothing (shared r)) → AreSound program root tree next frames
sound_root program old root tree next frames h typed sized sets = record {
  tree_built = h.tree_built;
  numbered = h.numbered;
  handlers = h.handlers;
  few = h.few;
  root_typed = typed;
  root_sized = sized;
  root_sets = sets;
}

-- before the first frame
pub sound_first : (program : CheckedParts) (root : Option (Rc Widget Global)) (next : ℕ) → next ≡ 1
    → IfSome root (λ r. IsTypedWidget (declarations_of (plain_checked program)) (shared r))
    → IfSome root (λ r. IsSized r.value) → IfSome root (λ r. HandlersMeet SetsNothing (shared r)) → AreSound program root None next 0
sound_first program root next first typed sized sets = record {
  tree_built = tt;
  numbered = tt;
  handlers = λ number g h owner has found. absurd (none_some has);
  few = omega (arith, first);
  root_typed = typed;
  root_sized = sized;
  root_sets = sets;
}
