-- What the lines of a session say of render nodes.
use Rattle.std.proofs.Common.{◌≡◌, ◌∙◌, ℕ, ℤ, ◌+◌, Bool, true, None, is_some, option_map, List, [], ◌∷◌, ◌++◌, sym, ap, subst, inr, if◌then◌else◌}
use Rattle.delegates.specs.Meaning.{with_field}
use Rattle.delegates.specs.Table.{Plug, meaning_of, unplugged, set_end}
use Rattle.delegates.specs.declared.table.SetEnd.TheVariants as set_end
use Rattle.node_tree.specs.Tree.{Tree}
use Rattle.render_tree.specs.Object.{RenderObject}
use Rattle.screen_owner.specs.Changes.{MarksScrolled, MarksUsers}
use Rattle.screen_owner.specs.Standing.{StandsAlone}
use Rattle.session_form.specs.Changing.{scrolled_to, delegate_ended, delegate_line, unplug_line}
use Rattle.session_form.specs.Outcome.{Outcome, quietly, refused}
use Rattle.session_form.specs.State.{SessionState, delegate}
use Rattle.session_form.specs.declared.refusal.Refusal.TheVariants.{NoDelegate}
use Rattle.counted_work.specs.Known.{ScrollGoes, DelegateGoes}
use Rattle.frame_session.specs.StandsFor.{StandsFor}
use Rattle.frame_session.specs.declared.held.HeldSession.{HeldSession}

-- ---- lines that touch something

pub scroll_marked : (number scroll to : ℕ) (o : Outcome) (s : SessionState) (old new : Tree RenderObject) → MarksScrolled number scroll old new → StandsAlone old
    → o ≡ quietly (scrolled_to number to s) → ScrollGoes number o s old new
scroll_marked number scroll to o s old new marks whole is = inr (record { whole = whole; to = to; is = is; scroll = scroll; marks = marks })

pub delegate_marked : (kept : HeldSession) (ds : List Plug) (s : SessionState) (name field name2 field2 name3 : List ℕ) (n : ℤ) (old new : Tree RenderObject) → StandsFor kept ds s
    → name2 ≡ name → field2 ≡ field → set_end (meaning_of ds name2) field2 ≡ set_end.Done → name3 ≡ name → MarksUsers name3 old new → StandsAlone old
    → DelegateGoes name (delegate_line name field n s) s old new
delegate_marked kept ds s name field name2 field2 name3 n old new h same_name same_field ended same_last marks whole =
    let found : set_end (meaning_of s.delegates name) field ≡ set_end.Done = sym (λ i. set_end (meaning_of (h.delegates_mean i) (same_name i)) (same_field i)) ∙ ended in
    inr (record {
      whole = whole;
      means = option_map (λ m. with_field m field n) (meaning_of s.delegates name);
      is = ap (λ e. delegate_ended e name field n s) found;
      marks = subst (λ x. MarksUsers x old new) same_last marks;
    })

pub unplug_marked : (kept : HeldSession) (ds : List Plug) (s : SessionState) (name : List ℕ) (old new : Tree RenderObject) → StandsFor kept ds s
    → is_some (meaning_of ds name) ≡ true → MarksUsers name old new → StandsAlone old → DelegateGoes name (unplug_line name s) s old new
unplug_marked kept ds s name old new h there marks whole =
    let found : is_some (meaning_of s.delegates name) ≡ true = sym (ap (λ es. is_some (meaning_of es name)) h.delegates_mean) ∙ there in
    inr (record {
      whole = whole;
      means = None;
      is = ap (λ (b : Bool). if b then quietly (record s { delegates = unplugged s.delegates name; touched = s.touched ++ delegate name ∷ [] }) else refused NoDelegate) found;
      marks = marks;
    })
