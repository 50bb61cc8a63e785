-- What is mounted for elements is what a plan for their render nodes makes.
use Rattle.std.proofs.Common.{◌≡◌, ℕ, suc, Bool, true, false, cond, List, [], ◌∷◌, Option, Some, None, refl, sym, ap, ◌∙◌}
use Rattle.fx_expr.specs.declared.values.Value.{Value}
use Rattle.fx_handles.specs.declared.Handle.{Handle}
use Rattle.node_tree.specs.Forest.{Forest, append}
use Rattle.node_tree.specs.Forest.Forest.{none, tree}
use Rattle.node_tree.specs.Tree.{Tree}
use Rattle.widget_keys.specs.declared.keys.Key.{Key}
use Rattle.widget_keys.specs.declared.keys.Key.TheVariants as key
use Rattle.widget_model.specs.Plain.{PlainWidget, look_of, key_of}
use Rattle.plain_tree.specs.declared.render.ParentData.{ParentData}
use Rattle.plain_tree.specs.declared.role.RenderRole.{RenderRole}
use Rattle.plain_tree.specs.Projection.{told_by, told_at}
use Rattle.plain_tree.specs.RenderRole.{vanishes}
use Rattle.build_form.specs.Partner.{arrival, arrivals, arrivals_from, node_at_any, candidate, of_type, partner_of, holder_in}
use Rattle.reconcile.specs.Matching.{matching}
use Rattle.element_tree.specs.Element.{Element, element_at}
use Rattle.render_tree.specs.Object.{RenderObject}
use Rattle.render_tree.specs.Redraw.{Redraw}
use Rattle.render_tree.specs.Tree.{object_at}
use Rattle.work_sets.specs.Due.{names_read}
use Rattle.build_walk.specs.Keeping.{kept_output, kept_since}
use Rattle.build_walk.specs.Past.{Pasts}
use Rattle.build_walk.specs.Renewing.{GoesOn, AllGoOn, role_of, redraw_of, drawn_at, drawn, IsDrawn, Unless, AreDrawn}
use Rattle.first_builds.specs.Mounted.{drawn_object, mounted_at, mounted, first_arrivals, StayStored, StayDrawn}
use Rattle.first_builds.specs.Scattered.{MountedAs}

-- ---- the plan

as_append : (d e : Forest Redraw) (f g : Forest RenderObject) → MountedAs d f → MountedAs e g → MountedAs (append d e) (append f g)
as_append none e none g p q = q
as_append none e (tree k v below more) g p q = absurd p
as_append (tree h u kids rest) e none g p q = absurd p
as_append (tree h u kids rest) e (tree k v below more) g p q = (p.0, p.1, p.2, as_append rest e more g p.3 q)

as_cond : (b : Bool) (d e : Forest Redraw) (f g : Forest RenderObject) → MountedAs d f → MountedAs e g → MountedAs (cond b d e) (cond b f g)
as_cond true d e f g p q = p
as_cond false d e f g p q = q

as_at : (o : Option Handle) (e : Element) (told : ParentData) (d : Forest Redraw) (f : Forest RenderObject) → MountedAs d f → MountedAs (drawn_at o (redraw_of e told) d) (mounted_at o (drawn_object e told) f)
as_at None e told d f p = tt
as_at (Some k) e told d f p = (refl, refl, p, tt)

pub mounted_as : (above : RenderRole) (told : Option ParentData) (f : Forest Element) → MountedAs (drawn above told f) (mounted above told f)
mounted_as above told none = tt
mounted_as above told (tree h e kids rest) =
    let here = told_at above told e.index in
    let through = Some (told_by above (role_of e) here) in
    as_append
    (cond (vanishes (role_of e)) (drawn above through kids) (drawn_at e.render (redraw_of e here) (drawn (role_of e) None kids))) (drawn above told rest)
    (cond (vanishes (role_of e)) (mounted above through kids) (mounted_at e.render (drawn_object e here) (mounted (role_of e) None kids))) (mounted above told rest)
    (as_cond (vanishes (role_of e)) (drawn above through kids) (drawn_at e.render (redraw_of e here) (drawn (role_of e) None kids)) (mounted above through kids) (mounted_at e.render (drawn_object e here) (mounted (role_of e) None kids))
    (mounted_as above through kids) (as_at e.render e here (drawn (role_of e) None kids) (mounted (role_of e) None kids) (mounted_as (role_of e) None kids)))
    (mounted_as above told rest)

-- ---- one after another

append_again : (f g h : Forest RenderObject) → append (append f g) h ≡ append f (append g h)
append_again none g h = refl
append_again (tree k v below rest) g h = ap (tree k v below) (append_again rest g h)

pub mounted_append : (above : RenderRole) (told : Option ParentData) (f g : Forest Element) → mounted above told (append f g) ≡ append (mounted above told f) (mounted above told g)
mounted_append above told none g = refl
mounted_append above told (tree h e kids rest) g =
    let here = told_at above told e.index in
    let own = cond (vanishes (role_of e)) (mounted above (Some (told_by above (role_of e) here)) kids) (mounted_at e.render (drawn_object e here) (mounted (role_of e) None kids)) in
    ap (append own) (mounted_append above told rest g) ∙ sym (append_again own (mounted above told rest) (mounted above told g))

-- ---- nothing was there before

none_at : (m : Option ℕ) → node_at_any [] m ≡ None
none_at None = refl
none_at (Some place) = refl

none_from : (place : ℕ) (ws : List PlainWidget) (ms : List (Option ℕ)) → arrivals_from [] place ws ms ≡ first_arrivals place ws
none_from place [] ms = refl
none_from place (w ∷ ws) [] = ap (λ as'. arrival w place None ∷ as') (none_from (suc place) ws [])
none_from place (w ∷ ws) (m ∷ ms) = λ i. arrival w place (none_at m i) ∷ none_from (suc place) ws ms i

pub arrivals_none : (ws : List PlainWidget) → arrivals None ws ≡ first_arrivals 0 ws
arrivals_none ws = none_from 0 ws (matching [] ws)

pub new_alone : (w : PlainWidget) (place : ℕ) → partner_of (holder_in None) (arrival w place None) ≡ None
new_alone w place = by (key_of w)
  where
    by : (k : Key Value) → of_type w (candidate k (holder_in None) None) ≡ None
    by key.None = refl
    by (key.Local v) = refl
    by (key.Global v) = refl

pub none_kept : (pasts : Pasts) (w : PlainWidget) (values : List Value) → kept_output pasts None w values ≡ None
none_kept pasts w values = by (names_read (look_of w))
  where
    by : (o : Option (List ℕ)) → kept_since o None w values ≡ None
    by None = refl
    by (Some names) = refl

-- ---- what stays

goes_later : (old new : Tree Element) (h : Handle) (e : Element) → StayStored old new → GoesOn (element_at old) h e → GoesOn (element_at new) h e
goes_later old new h e stay goes = record { was = goes.was; stored = stay h goes.was goes.stored; number = goes.number; fields = goes.fields; follows = goes.follows; clean = goes.clean }

pub all_go_later : (old new : Tree Element) (f : Forest Element) → StayStored old new → AllGoOn (element_at old) f → AllGoOn (element_at new) f
all_go_later old new none stay goes = tt
all_go_later old new (tree h e kids rest) stay goes = (goes_later old new h e stay goes.0, all_go_later old new kids stay goes.1, all_go_later old new rest stay goes.2)

unless_then : (b : Bool) (P Q : Type 0) → (P → Q) → Unless b P → Unless b Q
unless_then true P Q f h = tt
unless_then false P Q f h = f h

drawn_later : (old new : Tree RenderObject) (scroll : ℕ) (e : Element) → StayDrawn old new → IsDrawn (object_at old) scroll e → IsDrawn (object_at new) scroll e
drawn_later old new scroll e stay d = record { handle = d.handle; named = d.named; object = d.object; stored = stay d.handle d.object d.stored; number = d.number; scrolled = d.scrolled }

pub all_drawn_later : (old new : Tree RenderObject) (scrolled : ℕ → ℕ) (f : Forest Element) → StayDrawn old new → AreDrawn (object_at old) scrolled f → AreDrawn (object_at new) scrolled f
all_drawn_later old new scrolled none stay d = tt
all_drawn_later old new scrolled (tree h e kids rest) stay d = (
  unless_then (vanishes (role_of e)) (IsDrawn (object_at old) (scrolled e.number) e) (IsDrawn (object_at new) (scrolled e.number) e) (drawn_later old new (scrolled e.number) e stay) d.0,
  all_drawn_later old new scrolled kids stay d.1,
  all_drawn_later old new scrolled rest stay d.2,
)
