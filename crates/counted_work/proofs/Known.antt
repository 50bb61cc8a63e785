-- What is known between two lines stays known where a line touches something, or nothing.
use Rattle.std.proofs.Common.{◌≡◌, ℕ, ◌≤◌, Bool, true, false, Option, Some, None, is_some, List, [], ◌∷◌, ◌++◌, refl, sym, ap, ◌∙◌, subst, cond, inl, inr}
use Rattle.std.proofs.lemmas.Bool.{cases_Bool, or_parts, false≢true}
use Rattle.std.proofs.lemmas.List.Folds.{list_any-append}
use Rattle.std.proofs.lemmas.Slice.Eq.{bytes_eq-Decides}
use Rattle.std.specs.List.{list_any, find}
use Rattle.std.specs.Str.{bytes_eq}
use Rattle.delegates.specs.Meaning.{Meaning}
use Rattle.delegates.specs.Table.{Plug, is_named, meaning_in, meaning_of, with_meaning}
use Rattle.fx_geom.specs.declared.shapes.Size.{Size}
use Rattle.node_tree.specs.Forest.{Forest}
use Rattle.node_tree.specs.Forest.Forest.{none, tree}
use Rattle.node_tree.specs.Tree.{Tree}
use Rattle.layout_form.specs.Layout.{delegate_of}
use Rattle.plain_tree.specs.Laid.{Laid}
use Rattle.plain_tree.specs.Render.{Render}
use Rattle.session_form.specs.Seeing.{view_in}
use Rattle.session_form.specs.State.{SessionState, Touched, delegate, viewport}
use Rattle.work_roles.specs.Place.{RegionPlace, at_root, below}
use Rattle.work_sets.specs.Before.{Before, Frames, is_name, names_touched, has_touched_delegate}
use Rattle.work_sets.specs.InTree.{look_of}
use Rattle.work_sets.specs.Paint.{asks_idly}
use Rattle.work_sets.specs.Work.{before, frames_then}
use Rattle.layout_owner.specs.Roots.{IsAskedAs}
use Rattle.render_tree.specs.Object.{RenderObject, object_look}
use Rattle.render_tree.specs.Plain.{root_tree}
use Rattle.build_walk.specs.Changing.{render_over}
use Rattle.counted_work.specs.Caused.{FramesAgree, LayoutsAreCaused}
use Rattle.counted_work.specs.Drawn.{PaintsAreCaused}
use Rattle.counted_work.specs.Known.{LayoutsAreKnown, WorkIsCaused}
use Rattle.counted_work.specs.Shows.{PluggedAsBefore}
use Rattle.counted_work.proofs.Groups.{AskMore, root_flags_ask_more}
use Rattle.counted_work.proofs.Touching.{names_more, scrolls_same, touched_flags}

-- ---- the same render nodes, where no less was touched

pub layouts_again : (old new : Before) (us : List Touched) (t : Tree RenderObject) → new.tree ≡ old.tree → new.frames ≡ old.frames → new.touched ≡ old.touched ++ us
    → LayoutsAreCaused old t → LayoutsAreCaused new t
layouts_again old new us t same frames more h =
    let f : Forest RenderObject = root_tree t in
    record {
      tree = same ∙ h.tree;
      frames = subst (λ fs. FramesAgree fs t) (sym frames) h.frames;
      flags = touched_flags old new f f (scrolls_same f) h.tree (same ∙ h.tree) frames us more h.flags;
    }

more_asks : (old new : Before) (us : List Touched) (r : Render) → new.touched ≡ old.touched ++ us → has_touched_delegate old.touched r ≡ true → has_touched_delegate new.touched r ≡ true
more_asks old new us r more e = ap (λ ts. has_touched_delegate ts r) more ∙ names_more (delegate_of (look_of r)) old.touched us e

ask_again : (old new : Before) (us : List Touched) → new.touched ≡ old.touched ++ us → (p : RegionPlace) (f : Forest RenderObject) → AskMore (asks_idly old) (asks_idly new) p f f
ask_again old new us more p none = tt
ask_again old new us more p (tree h v kids rest) = (
  (record { look = refl; frame = refl; shown = refl; flag = refl }, (λ e. more_asks old new us (render_over v kids) more e)),
  ask_again old new us more (below p (object_look v)) kids,
  ask_again old new us more p rest,
)

pub paints_again : (old new : Before) (us : List Touched) (t : Tree RenderObject) (last : Laid) (then : List Plug) → new.tree ≡ old.tree → new.frames ≡ old.frames → new.touched ≡ old.touched ++ us
    → PaintsAreCaused old last then t → PaintsAreCaused new last then t
paints_again old new us t last then same frames more h =
    let f : Forest RenderObject = root_tree t in
    record {
      tree = same ∙ h.tree;
      frames = subst (λ fs. FramesAgree fs t) (sym frames) h.frames;
      placed = h.placed;
      shown = h.shown;
      put = h.put;
      flags = root_flags_ask_more (asks_idly old) (asks_idly new) f f (ask_again old new us more at_root f) h.flags;
    }

-- ---- one line

-- what stays of a state's frames
pub same_shown_frames : (frames : Frames) (s now : SessionState) (t : Tree RenderObject) → now.shown ≡ s.shown → LayoutsAreKnown frames s t → frames_then now.shown frames ≡ frames
same_shown_frames frames s now t shown h = λ i number. (ap (λ x. frames_then x frames number) shown ∙ h.with_last number) i

-- the frames with the last one's are the frames
pub with_last_again : (frames : Frames) (s : SessionState) (t : Tree RenderObject) → WorkIsCaused frames s t → frames_then s.shown frames ≡ frames
with_last_again frames s t h = same_shown_frames frames s s t refl h.layouts

pub known_again : (frames : Frames) (s : SessionState) (t : Tree RenderObject) → WorkIsCaused frames s t → WorkIsCaused (frames_then s.shown frames) s t
known_again frames s t h = subst (λ fs. WorkIsCaused fs s t) (sym (with_last_again frames s t h)) h

-- where a line shows nothing and makes no node
pub record Passes (frames : Frames) (s now : SessionState) (old new : Tree RenderObject) : Type 0 where
  pub shown : now.shown ≡ s.shown
  pub next : now.next ≡ s.next
  pub none : (before frames s).tree ≡ None → (before frames now).tree ≡ None
  pub asked : (view : Size) → IsAskedAs view (root_tree old) → IsAskedAs view (root_tree new)
  pub layouts : LayoutsAreCaused (before frames s) old → LayoutsAreCaused (before frames now) new
  pub paints : (last : Laid) (then : List Plug) → PaintsAreCaused (before frames s) last then old → PaintsAreCaused (before frames now) last then new
  pub plugged : (then : List Plug) → PluggedAsBefore s.touched then s.delegates → PluggedAsBefore now.touched then now.delegates

pub passed : (frames : Frames) (s now : SessionState) (old new : Tree RenderObject) → Passes frames s now old new → WorkIsCaused frames s old → WorkIsCaused (frames_then now.shown frames) now new
passed frames s now old new p h =
    subst (λ fs. WorkIsCaused fs now new) (sym (same_shown_frames frames s now old p.shown h.layouts))
    (record {
      layouts = record {
        caused = p.layouts h.layouts.caused;
        asked = λ view e. p.asked view (h.layouts.asked view (ap view_in (sym p.shown) ∙ e));
        with_last = λ number. ap (λ x. frames_then x frames number) p.shown ∙ h.layouts.with_last number;
        free_unlaid = λ number free. h.layouts.free_unlaid number (subst (λ n. n ≤ number) p.next free);
      };
      paints = record {
        none_shown = λ e. p.none (h.paints.none_shown (sym p.shown ∙ e));
        caused = λ last e. p.paints last.laid last.delegates (h.paints.caused last (sym p.shown ∙ e));
        plugged = λ last e. p.plugged last.delegates (h.paints.plugged last (sym p.shown ∙ e));
      };
    })

-- a line that touches this, or nothing, and leaves the render nodes
pub record Leaves (us : List Touched) (s now : SessionState) : Type 0 where
  pub tree : (fs : Frames) → (before fs now).tree ≡ (before fs s).tree
  pub touched : now.touched ≡ s.touched ++ us
  pub shown : now.shown ≡ s.shown
  pub next : now.next ≡ s.next
  pub plugged : (then : List Plug) → PluggedAsBefore s.touched then s.delegates → PluggedAsBefore now.touched then now.delegates

pub left_alone : (frames : Frames) (us : List Touched) (s now : SessionState) (t : Tree RenderObject) → Leaves us s now → Passes frames s now t t
left_alone frames us s now t l = record {
  shown = l.shown;
  next = l.next;
  none = λ e. l.tree frames ∙ e;
  asked = λ view asks. asks;
  layouts = layouts_again (before frames s) (before frames now) us t (l.tree frames) refl l.touched;
  paints = λ last then. paints_again (before frames s) (before frames now) us t last then (l.tree frames) refl l.touched;
  plugged = l.plugged;
}

-- ---- delegates that are plugged as they were

pub untouched_before : (name : List ℕ) (ts us : List Touched) → names_touched (Some name) (ts ++ us) ≡ false → (names_touched (Some name) ts ≡ false) × (names_touched (Some name) us ≡ false)
untouched_before name ts us e = or_parts (list_any (is_name name) ts) (list_any (is_name name) us) (sym (list_any-append (is_name name) ts us) ∙ e)

pub plugged_scrolled : (ts : List Touched) (number : ℕ) (then ds : List Plug) → PluggedAsBefore ts then ds → PluggedAsBefore (ts ++ viewport number ∷ []) then ds
plugged_scrolled ts number then ds h name e = h name (untouched_before name ts (viewport number ∷ []) e).0

-- the entry of one name is the only one that gets another meaning
other_entry : (named here : Bool) (e : Plug) (x : Option Meaning) (es fs : List Plug) (name : List ℕ) → (here ≡ true → named ≡ false) → meaning_in (find (is_named name) fs) ≡ meaning_in (find (is_named name) es)
    → is_named name e ≡ named → meaning_in (find (is_named name) (cond here (record { name = e.name; meaning = x } ∷ es) (e ∷ fs))) ≡ meaning_in (find (is_named name) (e ∷ es))
other_entry named true e x es fs name apart more is =
    let missed : is_named name e ≡ false = is ∙ apart refl in
    ap (λ (b : Bool). meaning_in (cond b (Some (record { name = e.name; meaning = x })) (find (is_named name) es))) missed
    ∙ sym (ap (λ (b : Bool). meaning_in (cond b (Some e) (find (is_named name) es))) missed)
other_entry true false e x es fs name apart more is =
    ap (λ (b : Bool). meaning_in (cond b (Some e) (find (is_named name) fs))) is ∙ sym (ap (λ (b : Bool). meaning_in (cond b (Some e) (find (is_named name) es))) is)
other_entry false false e x es fs name apart more is =
    ap (λ (b : Bool). meaning_in (cond b (Some e) (find (is_named name) fs))) is ∙ (more ∙ sym (ap (λ (b : Bool). meaning_in (cond b (Some e) (find (is_named name) es))) is))

not_named : (changed name : List ℕ) (e : Plug) → bytes_eq changed name ≡ false → is_named changed e ≡ true → is_named name e ≡ false
not_named changed name e apart is = elim (cases_Bool (is_named name e)) [
  | inl same ↦
      let one : changed ≡ e.name = (bytes_eq-Decides changed e.name).0 is in
      let two : name ≡ e.name = (bytes_eq-Decides name e.name).0 same in
      absurd (false≢true (sym apart ∙ (bytes_eq-Decides changed name).1 (one ∙ sym two)))
  | inr other ↦ other
]

other_meaning : (es : List Plug) (changed name : List ℕ) (x : Option Meaning) → bytes_eq changed name ≡ false → meaning_of (with_meaning es changed x) name ≡ meaning_of es name
other_meaning [] changed name x apart = refl
other_meaning (e ∷ es) changed name x apart =
    other_entry (is_named name e) (is_named changed e) e x es (with_meaning es changed x) name (not_named changed name e apart) (other_meaning es changed name x apart) refl

pub plugged_changed : (ts : List Touched) (changed : List ℕ) (x : Option Meaning) (then ds : List Plug) → PluggedAsBefore ts then ds
    → PluggedAsBefore (ts ++ delegate changed ∷ []) then (with_meaning ds changed x)
plugged_changed ts changed x then ds h name e =
    let parts = untouched_before name ts (delegate changed ∷ []) e in
    let apart : bytes_eq changed name ≡ false = (or_parts (bytes_eq changed name) false parts.1).0 in
    h name parts.0 ∙ ap is_some (sym (other_meaning ds changed name x apart))
