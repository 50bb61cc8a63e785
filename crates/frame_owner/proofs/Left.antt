-- What is left of render nodes that can be laid out, and in which no lazy list is asked.
use Rattle.std.proofs.Common.{◌≡◌, ℕ, suc, ◌^◌, ◌≤◌, Bool, true, false, not, ◌||◌, ◌&&◌, cond, List, [], ◌∷◌, length, refl, sym, ap, subst, ◌∙◌, arith}
use Rattle.std.proofs.lemmas.Bool.{false≢true}
use Rattle.std.proofs.lemmas.List.Elements.{All-tail}
use Rattle.std.specs.List.{All}
use Rattle.fx_handles.specs.declared.Handle.{Handle}
use Rattle.fx_handles.specs.Handle.{same}
use Rattle.node_tree.specs.Forest.{Forest, below, pruned, or_else, tree_of}
use Rattle.node_tree.specs.Forest.Forest.{none, tree}
use Rattle.widget_model.specs.Look.{Look, sliver_lazy}
use Rattle.work_roles.specs.WorkRole.{is_intrinsic, is_viewport}
use Rattle.plain_tree.specs.declared.render.ParentData.{ParentData}
use Rattle.plain_tree.specs.Render.{Render, render, Renders, no_renders, more_renders}
use Rattle.layout_form.specs.Fits.{IsTold, Fits, data_of, told_in, CanAllBeLaidOut}
use Rattle.layout_walk.specs.Rules.{is_list}
use Rattle.render_tree.specs.Object.{RenderObject, object_look}
use Rattle.render_tree.specs.Plain.{renders_of, lazy_children}
use Rattle.kept_layouts.specs.Items.{all_without_items, ListsUnasked, AllListsUnasked}
use Rattle.build_form.specs.BuildRole.{build_role_of, is_lazy}
use Rattle.build_form.proofs.Entered.{all_cons}
use Rattle.build_owner.specs.Staying.{lists_object, bare}

-- ---- what render nodes right below a node were told

abbrev AllTold : Renders → Type 0
AllTold no_renders = Unit {0}
AllTold (more_renders r rs) = IsTold (data_of r) × AllTold rs

told_each : (rs : Renders) → All IsTold (told_in rs) → AllTold rs
told_each no_renders h = tt
told_each (more_renders r rs) h = (h 0 (data_of r) (omega arith), told_each rs (All-tail IsTold (data_of r) (told_in rs) h))

told_all : (rs : Renders) → AllTold rs → All IsTold (told_in rs)
told_all no_renders h = λ k d low. absurd (omega arith)
told_all (more_renders r rs) h = all_cons IsTold (data_of r) (told_in rs) h.0 (told_all rs h.1)

-- they may stand below a node, and no list among them is asked
pub record MayStand (rs : Renders) : Type 0 where
  pub told : AllTold rs
  pub few : length (told_in rs) ≤ 2 ^ 44
  pub can : CanAllBeLaidOut rs
  pub unasked : AllListsUnasked false rs

pub nothing_stands : MayStand no_renders
nothing_stands = record { told = tt; few = omega arith; can = tt; unasked = tt }

pub fits_with : (look : Look) (ds : List ParentData) (rs : Renders) → Fits look ds → MayStand rs → Fits look (told_in rs)
fits_with look ds rs f m = record { members = f.members; told = told_all rs m.told; few = m.few }

-- ---- what is asked less

inner_quieter : (i a n : Bool) (rs : Renders) → (AllListsUnasked (a && n) rs → AllListsUnasked false rs) → AllListsUnasked (i || (a && n)) rs → AllListsUnasked (i || (false && n)) rs
inner_quieter true a n rs f h = h
inner_quieter false a n rs f h = f h

mutual
  one_quieter : (asked : Bool) (r : Render) → ListsUnasked asked r → ListsUnasked false r
  one_quieter asked (render number look told scroll count children) h =
      ((λ e. refl), inner_quieter (is_intrinsic look) asked (not (is_viewport look)) children (λ x. all_quieter (asked && not (is_viewport look)) children x) h.1)

  pub all_quieter : (asked : Bool) (rs : Renders) → AllListsUnasked asked rs → AllListsUnasked false rs
  all_quieter asked no_renders h = tt
  all_quieter asked (more_renders r rs) h = (one_quieter asked r h.0, all_quieter asked rs h.1)

-- ---- some nodes are taken out, with all below them

module _ (drops : Handle → Bool) where
  told_if : (b : Bool) (f g : Forest RenderObject) → AllTold (renders_of f) → AllTold (renders_of g) → AllTold (renders_of (cond b f g))
  told_if true f g h k = h
  told_if false f g h k = k

  pruned_told : (f : Forest RenderObject) → AllTold (renders_of f) → AllTold (renders_of (pruned drops f))
  pruned_told none h = tt
  pruned_told (tree k v kids rest) h =
      told_if (drops k) (pruned drops rest) (tree k v (pruned drops kids) (pruned drops rest)) (pruned_told rest h.1) (h.0, pruned_told rest h.1)

  few_if : (b : Bool) (f g : Forest RenderObject) (n : ℕ) → length (told_in (renders_of f)) ≤ n → length (told_in (renders_of g)) ≤ n → length (told_in (renders_of (cond b f g))) ≤ n
  few_if true f g n h k = h
  few_if false f g n h k = k

  pruned_few : (f : Forest RenderObject) → length (told_in (renders_of (pruned drops f))) ≤ length (told_in (renders_of f))
  pruned_few none = omega arith
  pruned_few (tree k v kids rest) =
      let later = pruned_few rest in
      few_if (drops k) (pruned drops rest) (tree k v (pruned drops kids) (pruned drops rest)) (suc (length (told_in (renders_of rest)))) (omega (arith, later)) (omega (arith, later))

  can_if : (b : Bool) (f g : Forest RenderObject) → CanAllBeLaidOut (renders_of f) → CanAllBeLaidOut (renders_of g) → CanAllBeLaidOut (renders_of (cond b f g))
  can_if true f g h k = h
  can_if false f g h k = k

  pruned_fits : (look : Look) (f : Forest RenderObject) → Fits look (told_in (renders_of f)) → Fits look (told_in (renders_of (pruned drops f)))
  pruned_fits look f h =
      let fewer = pruned_few f in
      let few = h.few in
      record { members = h.members; told = told_all (renders_of (pruned drops f)) (pruned_told f (told_each (renders_of f) h.told)); few = omega (arith, fewer, few) }

  pruned_can : (f : Forest RenderObject) → CanAllBeLaidOut (renders_of f) → CanAllBeLaidOut (renders_of (pruned drops f))
  pruned_can none h = tt
  pruned_can (tree k v kids rest) h =
      can_if (drops k) (pruned drops rest) (tree k v (pruned drops kids) (pruned drops rest)) (pruned_can rest h.1)
      ((pruned_fits (object_look v) kids h.0.0, pruned_can kids h.0.1), pruned_can rest h.1)

  unasked_if : (asked b : Bool) (f g : Forest RenderObject) → AllListsUnasked asked (renders_of f) → AllListsUnasked asked (renders_of g) → AllListsUnasked asked (renders_of (cond b f g))
  unasked_if asked true f g h k = h
  unasked_if asked false f g h k = k

  pruned_unasked : (asked : Bool) (f : Forest RenderObject) → AllListsUnasked asked (renders_of f) → AllListsUnasked asked (renders_of (pruned drops f))
  pruned_unasked asked none h = tt
  pruned_unasked asked (tree k v kids rest) h =
      unasked_if asked (drops k) (pruned drops rest) (tree k v (pruned drops kids) (pruned drops rest)) (pruned_unasked asked rest h.1)
      ((h.0.0, pruned_unasked (is_intrinsic (object_look v) || (asked && not (is_viewport (object_look v)))) kids h.0.1), pruned_unasked asked rest h.1)

  pub pruned_stand : (f : Forest RenderObject) → MayStand (renders_of f) → MayStand (renders_of (pruned drops f))
  pruned_stand f m =
      let fewer = pruned_few f in
      let few = m.few in
      record { told = pruned_told f m.told; few = omega (arith, fewer, few); can = pruned_can f m.can; unasked = pruned_unasked false f m.unasked }

-- ---- what stands below a node

module _ (h : Handle) where
  stand_if : (b : Bool) (f g : Forest RenderObject) → MayStand (renders_of (below f)) → MayStand (renders_of (below g)) → MayStand (renders_of (below (cond b f g)))
  stand_if true f g m n = m
  stand_if false f g m n = n

  stand_or : (f g : Forest RenderObject) → MayStand (renders_of (below f)) → MayStand (renders_of (below g)) → MayStand (renders_of (below (or_else f g)))
  stand_or none g m n = n
  stand_or (tree k v kids rest) g m n = m

  pub below_stands : (asked : Bool) (f : Forest RenderObject) → CanAllBeLaidOut (renders_of f) → AllListsUnasked asked (renders_of f) → MayStand (renders_of (below (tree_of h f)))
  below_stands asked none can quiet = nothing_stands
  below_stands asked (tree k v kids rest) can quiet =
      let inner = is_intrinsic (object_look v) || (asked && not (is_viewport (object_look v))) in
      stand_if (same k h) (tree k v kids none) (or_else (tree_of h kids) (tree_of h rest))
      (record { told = told_each (renders_of kids) can.0.0.told; few = can.0.0.few; can = can.0.1; unasked = all_quieter inner (renders_of kids) quiet.0.1 })
      (stand_or (tree_of h kids) (tree_of h rest) (below_stands inner kids can.0.1 quiet.0.1) (below_stands asked rest can.1 quiet.1))

-- ---- lists get items

abbrev pub EitherWay : Bool → Type 0 → Type 0 → Type 0
EitherWay true A B = A
EitherWay false A B = B

-- this holds of what is below each lazy list that is no item
abbrev pub ListsHave : (Handle → Forest RenderObject → Type 0) → Forest RenderObject → Type 0
ListsHave P none = Unit {0}
ListsHave P (tree h o kids rest) = EitherWay (lists_object o) (P h kids) (ListsHave P kids) × ListsHave P rest

abbrev pub ItemsStand : Forest RenderObject → Type 0
ItemsStand f = ListsHave (λ h kids. MayStand (renders_of kids)) f

pub list_kind : (look : Look) → is_list look ≡ is_lazy (build_role_of look)
list_kind (sliver_lazy extent) = refl
list_kind look = refl

lists_ask_nobody : (look : Look) → is_lazy (build_role_of look) ≡ true → is_intrinsic look ≡ false
lists_ask_nobody (sliver_lazy extent) e = refl
lists_ask_nobody look e = absurd (false≢true e)

told_bare : (f : Forest RenderObject) → told_in (renders_of (bare lists_object f)) ≡ told_in (renders_of f)
told_bare none = refl
told_bare (tree h o kids rest) = ap (λ ds. o.parent_data ∷ ds) (told_bare rest)

fits_below : (b : Bool) (look : Look) (kids : Forest RenderObject) → Fits look (told_in (renders_of (cond b none (bare lists_object kids)))) → CanAllBeLaidOut (renders_of (cond b none (bare lists_object kids)))
    → EitherWay b (MayStand (renders_of kids)) (ItemsStand kids) → (CanAllBeLaidOut (renders_of (bare lists_object kids)) → ItemsStand kids → CanAllBeLaidOut (renders_of kids))
    → Fits look (told_in (renders_of kids)) × CanAllBeLaidOut (renders_of kids)
fits_below true look kids fits can items go = (fits_with look [] (renders_of kids) fits items, items.can)
fits_below false look kids fits can items go = (subst (Fits look) (told_bare kids) fits, go can items)

pub items_can : (f : Forest RenderObject) → CanAllBeLaidOut (renders_of (bare lists_object f)) → ItemsStand f → CanAllBeLaidOut (renders_of f)
items_can none can items = tt
items_can (tree h o kids rest) can items = (
  fits_below (lists_object o) (object_look o) kids can.0.0 can.0.1 items.0 (λ c i. items_can kids c i),
  items_can rest can.1 items.1,
)

no_question : (i a n : Bool) → i ≡ false → a ≡ false → (i || (a && n)) ≡ false
no_question true a n e f = e
no_question false true n e f = absurd (false≢true (sym f))
no_question false false n e f = refl

quiet_below : (b inner : Bool) (kids : Forest RenderObject) → (b ≡ true → inner ≡ false) → AllListsUnasked inner (renders_of (cond b none (bare lists_object kids)))
    → EitherWay b (MayStand (renders_of kids)) (ItemsStand kids) → (AllListsUnasked inner (renders_of (bare lists_object kids)) → ItemsStand kids → AllListsUnasked inner (renders_of kids)) → AllListsUnasked inner (renders_of kids)
quiet_below true inner kids none_asked quiet items go = subst (λ b. AllListsUnasked b (renders_of kids)) (sym (none_asked refl)) items.unasked
quiet_below false inner kids none_asked quiet items go = go quiet items

pub items_unasked : (asked : Bool) (f : Forest RenderObject) → AllListsUnasked asked (renders_of (bare lists_object f)) → ItemsStand f → AllListsUnasked asked (renders_of f)
items_unasked asked none quiet items = tt
items_unasked asked (tree h o kids rest) quiet items =
    let inner = is_intrinsic (object_look o) || (asked && not (is_viewport (object_look o))) in (
      (
        quiet.0.0,
        quiet_below (lists_object o) inner kids
            (λ e. no_question (is_intrinsic (object_look o)) asked (not (is_viewport (object_look o))) (lists_ask_nobody (object_look o) e) (quiet.0.0 (list_kind (object_look o) ∙ e)))
            quiet.0.1 items.0 (λ q i. items_unasked inner kids q i),
      ),
      items_unasked asked rest quiet.1 items.1,
    )

-- ---- without items

bare_below : (b c : Bool) (kids : Forest RenderObject) → b ≡ c → renders_of (bare lists_object kids) ≡ all_without_items (renders_of kids)
    → renders_of (cond b none (bare lists_object kids)) ≡ cond c no_renders (all_without_items (renders_of kids))
bare_below true true kids e is = refl
bare_below false false kids e is = is
bare_below true false kids e is = absurd (false≢true (sym e))
bare_below false true kids e is = absurd (false≢true e)

pub bare_is : (f : Forest RenderObject) → renders_of (bare lists_object f) ≡ all_without_items (renders_of f)
bare_is none = refl
bare_is (tree h o kids rest) = λ i.
    more_renders
    (render o.number (object_look o) o.parent_data o.scroll (lazy_children o) (bare_below (lists_object o) (is_list (object_look o)) kids (sym (list_kind (object_look o))) (bare_is kids) i))
    (bare_is rest i)
