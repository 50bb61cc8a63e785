-- The items of lazy lists have no part in the layout of any other node.
use Rattle.std.proofs.Common.{◌≡◌, ap, refl, sym, subst, ◌∙◌, ◌⊎◌, inl, inr, ℕ, Bool, true, false, not, ◌||◌, ◌&&◌, if◌then◌else◌, Option, Some, None, List, ◌∷◌}
use Rattle.std.proofs.lemmas.Bool.{or_right, false≢true, true≢false}
use Rattle.fx_geom.specs.Bounds.{tight}
use Rattle.fx_geom.specs.declared.boxes.Bounds.{Bounds}
use Rattle.fx_geom.specs.declared.lengths.Len.{Len}
use Rattle.fx_geom.specs.declared.shapes.Axis.{Axis}
use Rattle.fx_geom.specs.declared.shapes.Offset.{Offset}
use Rattle.fx_geom.specs.declared.shapes.Size.{Size}
use Rattle.fx_handles.specs.declared.Handle.{Handle}
use Rattle.node_tree.specs.Forest.{Forest}
use Rattle.node_tree.specs.Forest.Forest.{none, tree}
use Rattle.widget_model.specs.Look.{Look, viewport}
use Rattle.work_roles.specs.WorkRole.{is_intrinsic, is_viewport}
use Rattle.plain_tree.specs.declared.laid.Facts.{Facts}
use Rattle.plain_tree.specs.declared.render.ParentData.{ParentData}
use Rattle.plain_tree.specs.Laid.{Laid, Laids, more_laids}
use Rattle.plain_tree.specs.Render.{Render, render, Renders, no_renders, more_renders}
use Rattle.layout_form.specs.declared.asks.Ask.{Ask}
use Rattle.layout_form.specs.declared.asks.Ask.TheVariants.{AsBox, AsSliver}
use Rattle.layout_form.specs.Intrinsic.{liked_by}
use Rattle.layout_form.specs.Layout.{intrinsic_rule, object, objects as objects_of, lay_view}
use Rattle.layout_form.specs.Object.{Setting, Object, only_of}
use Rattle.layout_walk.specs.Node.{LayoutNode, member, members, renders_in, tellings}
use Rattle.layout_walk.specs.Rule.{LayoutParts, Lawful, RuleGift, asks_by, made_by, ask_of, later}
use Rattle.layout_walk.specs.Full.{asks_at, made_at, objects, place_of, past, laid_first, laid_trees, laid_node}
use Rattle.layout_walk.specs.Items.{LikesSame, SameButItems}
use Rattle.layout_walk.specs.Rules.{liked_in, parts_of, is_list}
use Rattle.kept_layouts.specs.Items.{without_items, all_without_items, ListsUnasked, AllListsUnasked}
use Rattle.kept_layouts.proofs.Extents.{Alike, AllAlike, rule_same, liked_plain, liked_alike}
use Rattle.kept_layouts.proofs.Items.{FullLaws, unlaid}
use Rattle.counted_phases.specs.OuterLaid.{outer_laid, outer_laids}
use Rattle.counted_phases.proofs.OuterShown.{list_by, other_by}

-- ---- no list is asked how much it would like, of those that are no items

unasked_if : (list asks : Bool) (rs : Renders) → AllListsUnasked asks rs → AllListsUnasked asks (if list then no_renders else rs)
unasked_if true asks rs all = tt
unasked_if false asks rs all = all

mutual
  one_unasked : (asks : Bool) (r : Render) → ListsUnasked asks r → ListsUnasked asks (without_items r)
  one_unasked asks (render number look told scroll count children) unasked = (
    unasked.0,
    unasked_if (is_list look) (is_intrinsic look || (asks && not (is_viewport look))) (all_without_items children)
        (all_unasked (is_intrinsic look || (asks && not (is_viewport look))) children unasked.1),
  )

  all_unasked : (asks : Bool) (rs : Renders) → AllListsUnasked asks rs → AllListsUnasked asks (all_without_items rs)
  all_unasked asks no_renders unasked = tt
  all_unasked asks (more_renders r rs) unasked = (one_unasked asks r unasked.0, all_unasked asks rs unasked.1)

-- ---- what boxes would like

viewport_likes : (s : Setting) (l : Look) (axis : Axis) (across : Len) (cs : List Object) → is_viewport l ≡ true → intrinsic_rule s l axis across cs ≡ 0
viewport_likes s (viewport direction) axis across cs e = refl
viewport_likes s l axis across cs e = absurd (false≢true e)

-- a node that is asked, and is no lazy list, would like as much
likes_by : (s : Setting) (look : Look) (children : Renders) (list view : Bool) → (list ≡ true → true ≡ false) → is_viewport look ≡ view
    → (list ≡ false → view ≡ false → AllAlike (objects_of s children) (objects_of s (all_without_items children))) → (axis : Axis) (across : Len)
    → intrinsic_rule s look axis across (objects_of s children) ≡ intrinsic_rule s look axis across (objects_of s (if list then no_renders else all_without_items children))
likes_by s look children true view no_list is alike axis across = absurd (true≢false (no_list refl))
likes_by s look children false true no_list is alike axis across =
    viewport_likes s look axis across (objects_of s children) is ∙ sym (viewport_likes s look axis across (objects_of s (all_without_items children)) is)
likes_by s look children false false no_list is alike axis across =
    rule_same s s refl look axis across (objects_of s children) (objects_of s (all_without_items children)) (alike refl refl)

asked_on : (asks view : Bool) → view ≡ false → (asks || (true && not view)) ≡ true
asked_on asks view e = or_right asks (not view) (ap not e)

mutual
  unfolding object objects_of

  one_alike : (s : Setting) (r : Render) → ListsUnasked true (without_items r) → Alike (object s r) (object s (without_items r))
  one_alike s (render number look told scroll count children) unasked = record {
    told = refl;
    greatest = likes_by s look children (is_list look) (is_viewport look) unasked.0 refl (λ other e.
        all_alike s children
        (subst (λ (b : Bool). AllListsUnasked b (all_without_items children)) (asked_on (is_intrinsic look) (is_viewport look) e)
        (subst (λ (b : Bool). AllListsUnasked (is_intrinsic look || (true && not (is_viewport look))) (if b then no_renders else all_without_items children)) other unasked.1)));
  }

  all_alike : (s : Setting) (rs : Renders) → AllListsUnasked true (all_without_items rs) → AllAlike (objects_of s rs) (objects_of s (all_without_items rs))
  all_alike s no_renders unasked = tt
  all_alike s (more_renders r rs) unasked = (one_alike s r unasked.0, all_alike s rs unasked.1)

liked_box : (s : Setting) (look : Look) (b : Bounds) (rs : Renders) (asks more : Bool) → is_intrinsic look ≡ asks → AllListsUnasked (asks || more) (all_without_items rs)
    → liked_by look b (only_of (objects_of s rs)) ≡ liked_by look b (only_of (objects_of s (all_without_items rs)))
liked_box s look b rs true more is unasked = liked_alike look b (objects_of s rs) (objects_of s (all_without_items rs)) (all_alike s rs unasked)
liked_box s look b rs false more is unasked = liked_plain look b (only_of (objects_of s rs)) is ∙ sym (liked_plain look b (only_of (objects_of s (all_without_items rs))) is)

liked_items : (s : Setting) (look : Look) (ask : Ask) (rs : Renders) (more : Bool) → AllListsUnasked (is_intrinsic look || more) (all_without_items rs) → liked_in s look ask rs ≡ liked_in s look ask (all_without_items rs)
liked_items s look (AsSliver b) rs more unasked = refl
liked_items s look (AsBox b) rs more unasked = liked_box s look b rs (is_intrinsic look) more refl unasked

-- ---- render nodes as nodes that were never laid out

abbrev nowhere : Handle
nowhere = record { index = 0; generation = 0 }

abbrev mutual
  node_in : Render → Forest LayoutNode → Forest LayoutNode
  node_in (render number look told scroll count children) rest = tree nowhere (unlaid number look told scroll count) (nodes_in children) rest

  nodes_in : Renders → Forest LayoutNode
  nodes_in no_renders = none
  nodes_in (more_renders r rs) = node_in r (nodes_in rs)

mutual
  one_back : (r : Render) (rest : Forest LayoutNode) (rs : Renders) → renders_in rest ≡ rs → renders_in (node_in r rest) ≡ more_renders r rs
  one_back (render number look told scroll count children) rest rs e = λ at. more_renders (render number look told scroll count (all_back children at)) (e at)

  all_back : (rs : Renders) → renders_in (nodes_in rs) ≡ rs
  all_back no_renders = refl
  all_back (more_renders r rs) = one_back r (nodes_in rs) rs (all_back rs)

-- ---- nodes without items

module _ (s : Setting) (likes : (look : Look) (ask : Ask) (f : Forest LayoutNode) → liked_in s look ask (members f) ≡ liked_in s look ask (renders_in f)) where
  likes_same : (look : Look) (number : ℕ) (told : ParentData) (scroll count : ℕ) (rs : Renders) (more : Bool) → AllListsUnasked (is_intrinsic look || more) (all_without_items rs)
      → LikesSame (parts_of s) (unlaid number look told scroll count) (nodes_in rs) (nodes_in (all_without_items rs))
  likes_same look number told scroll count rs more unasked = λ ask.
      likes look ask (nodes_in rs)
      ∙ (ap (liked_in s look ask) (all_back rs)
      ∙ (liked_items s look ask rs more unasked
      ∙ (sym (ap (liked_in s look ask) (all_back (all_without_items rs))) ∙ sym (likes look ask (nodes_in (all_without_items rs))))))

  abbrev KidsAlike : Look → ℕ → ParentData → ℕ → ℕ → Renders → Renders → Type 0
  KidsAlike look number told scroll count rs bare =
      (is_list look ≡ true) ⊎ (SameButItems (parts_of s) (nodes_in rs) (nodes_in bare) × LikesSame (parts_of s) (unlaid number look told scroll count) (nodes_in rs) (nodes_in bare))

  kids_alike : (look : Look) (number : ℕ) (told : ParentData) (scroll count : ℕ) (rs : Renders) (more list : Bool) → is_list look ≡ list
      → AllListsUnasked (is_intrinsic look || more) (if list then no_renders else all_without_items rs)
      → (AllListsUnasked (is_intrinsic look || more) (all_without_items rs) → SameButItems (parts_of s) (nodes_in rs) (nodes_in (all_without_items rs)))
      → KidsAlike look number told scroll count rs (if list then no_renders else all_without_items rs)
  kids_alike look number told scroll count rs more true is unasked same = inl is
  kids_alike look number told scroll count rs more false is unasked same = inr (same unasked, likes_same look number told scroll count rs more unasked)

  mutual
    one_items : (asks : Bool) (r : Render) (more rest : Forest LayoutNode) → ListsUnasked asks (without_items r) → SameButItems (parts_of s) more rest → SameButItems (parts_of s) (node_in r more) (node_in (without_items r) rest)
    one_items asks (render number look told scroll count children) more rest unasked same = (
      refl,
      kids_alike look number told scroll count children (asks && not (is_viewport look)) (is_list look) refl unasked.1 (all_items (is_intrinsic look || (asks && not (is_viewport look))) children),
      same,
    )

    all_items : (asks : Bool) (rs : Renders) → AllListsUnasked asks (all_without_items rs) → SameButItems (parts_of s) (nodes_in rs) (nodes_in (all_without_items rs))
    all_items asks no_renders unasked = tt
    all_items asks (more_renders r rs) unasked = one_items asks r (nodes_in rs) (nodes_in (all_without_items rs)) unasked.0 (all_items asks rs unasked.1)

-- ---- full layout gives the same to outer nodes

items_told : (P : LayoutParts) (f g : Forest LayoutNode) → SameButItems P f g → tellings f ≡ tellings g
items_told P none none same = refl
items_told P none (tree k w below rest) same = absurd same
items_told P (tree h v kids more) none same = absurd same
items_told P (tree h v kids more) (tree k w below rest) same = λ at. (same.0 at).told ∷ items_told P more rest same.2 at

module _ (s : Setting) (law : Lawful (parts_of s)) (answers : (f g : Forest LayoutNode) → SameButItems (parts_of s) f g → objects (parts_of s) f ≡ objects (parts_of s) g) where
  abbrev P : LayoutParts
  P = parts_of s

  abbrev Alikes : LayoutNode → Forest LayoutNode → Forest LayoutNode → Type 0
  Alikes v kids below = (is_list v.look ≡ true) ⊎ (SameButItems P kids below × LikesSame P v kids below)

  -- what is laid of the outer ones among some children is the same, as these are asked and put somewhere
  abbrev OuterAlike : Forest LayoutNode → Forest LayoutNode → Type 0
  OuterAlike kids below = (asks : List (Option Ask)) (places : List Offset) → outer_laids (laid_trees P asks places kids) ≡ outer_laids (laid_trees P asks places below)

  over_asks : (v : LayoutNode) (ask : Ask) (kids below : Forest LayoutNode) → SameButItems P kids below → LikesSame P v kids below
      → asks_at P v ask kids (objects P kids) ≡ asks_at P v ask below (objects P below)
  over_asks v ask kids below same likes = λ at. asks_by P (member v) v.scroll ask (likes ask at) (items_told P kids below same at) (answers kids below same at)

  over_made : (v : LayoutNode) (ask : Ask) (kids below : Forest LayoutNode) → SameButItems P kids below → LikesSame P v kids below
      → made_at P v ask kids (objects P kids) ≡ made_at P v ask below (objects P below)
  over_made v ask kids below same likes = λ at. made_by P (member v) v.scroll ask (likes ask at) (items_told P kids below same at) (answers kids below same at)

  pub node_outer : (v : LayoutNode) (ask : Ask) (kids below : Forest LayoutNode) → Alikes v kids below → (SameButItems P kids below → OuterAlike kids below)
      → outer_laid (laid_node P v ask kids) ≡ outer_laid (laid_node P v ask below)
  node_outer v ask kids below (inl list) further =
      list_by (is_list v.look) v.number v.look (made_at P v ask kids (objects P kids)).facts (made_at P v ask below (objects P below)).facts
      (laid_trees P (asks_at P v ask kids (objects P kids)) (made_at P v ask kids (objects P kids)).places kids)
      (laid_trees P (asks_at P v ask below (objects P below)) (made_at P v ask below (objects P below)).places below) list
      (ap (λ (x : Facts). x.frame)
      (law.lists (member v) v.scroll ask (P.liked v.look ask (members kids)) (P.liked v.look ask (members below)) (tellings kids) (tellings below) (objects P kids) (objects P below) list))
  node_outer v ask kids below (inr other) further =
      let made = over_made v ask kids below other.0 other.1 in
      let asks = over_asks v ask kids below other.0 other.1 in
      other_by (is_list v.look) v.number v.look (made_at P v ask kids (objects P kids)).facts (made_at P v ask below (objects P below)).facts
      (laid_trees P (asks_at P v ask kids (objects P kids)) (made_at P v ask kids (objects P kids)).places kids)
      (laid_trees P (asks_at P v ask below (objects P below)) (made_at P v ask below (objects P below)).places below)
      (ap (λ (g : RuleGift). g.facts) made)
      (further other.0 (asks_at P v ask kids (objects P kids)) (made_at P v ask kids (objects P kids)).places
      ∙ (λ at. outer_laids (laid_trees P (asks at) (made at).places below)))

  first_outer : (o : Option Ask) (at : Offset) (v : LayoutNode) (kids below : Forest LayoutNode) (ls ms : Laids) → Alikes v kids below → (SameButItems P kids below → OuterAlike kids below)
      → outer_laids ls ≡ outer_laids ms
      → outer_laids (laid_first o (λ ask. laid_node P v ask kids) at ls) ≡ outer_laids (laid_first o (λ ask. laid_node P v ask below) at ms)
  first_outer None at v kids below ls ms alike further same = same
  first_outer (Some ask) at v kids below ls ms alike further same = λ i. more_laids at (node_outer v ask kids below alike further i) (same i)

  pub all_outer : (f g : Forest LayoutNode) → SameButItems P f g → OuterAlike f g
  unfolding laid_trees
  all_outer none none same asks places = refl
  all_outer none (tree k w below rest) same asks places = absurd same
  all_outer (tree h v kids more) none same asks places = absurd same
  all_outer (tree h v kids more) (tree k w below rest) same asks places =
      first_outer (ask_of asks) (place_of places) v kids below (laid_trees P (later asks) (past (ask_of asks) places) more) (laid_trees P (later asks) (past (ask_of asks) places) rest)
      same.1 (all_outer kids below) (all_outer more rest same.2 (later asks) (past (ask_of asks) places))
      ∙ ap (λ (x : LayoutNode). outer_laids (laid_first (ask_of asks) (λ ask. laid_node P x ask below) (place_of places) (laid_trees P (later asks) (past (ask_of asks) places) rest))) same.0

-- ---- a whole tree

view_is : (s : Setting) → FullLaws s → (view : Size) (number : ℕ) (look : Look) (told : ParentData) (scroll count : ℕ) (rs : Renders)
    → laid_node (parts_of s) (unlaid number look told scroll count) (AsBox (tight view)) (nodes_in rs) ≡ lay_view s (render number look told scroll count rs) view
view_is s laws view number look told scroll count rs =
    laws.full (unlaid number look told scroll count) (nodes_in rs) (AsBox (tight view)) ∙ ap (λ (x : Renders). lay_view s (render number look told scroll count x) view) (all_back rs)

pub outer_bare : (s : Setting) → Lawful (parts_of s) → FullLaws s → (view : Size) (r : Render) → ListsUnasked false (without_items r)
    → outer_laid (lay_view s r view) ≡ outer_laid (lay_view s (without_items r) view)
outer_bare s law laws view (render number look told scroll count children) unasked =
    let bare : Renders = if is_list look then no_renders else all_without_items children in
    let v = unlaid number look told scroll count in
    let more = false && not (is_viewport look) in
    let alike = kids_alike s laws.likes look number told scroll count children more (is_list look) refl unasked.1 (all_items s laws.likes (is_intrinsic look || more) children) in
    sym (ap (λ (l : Laid). outer_laid l) (view_is s laws view number look told scroll count children))
    ∙ (node_outer s law laws.answers v (AsBox (tight view)) (nodes_in children) (nodes_in bare) alike (all_outer s law laws.answers (nodes_in children) (nodes_in bare))
    ∙ ap (λ (l : Laid). outer_laid l) (view_is s laws view number look told scroll count bare))

-- so it is of two trees that are the same without items
pub outer_same : (s : Setting) → Lawful (parts_of s) → FullLaws s → (view : Size) (q r : Render) → without_items q ≡ without_items r → ListsUnasked false r
    → outer_laid (lay_view s q view) ≡ outer_laid (lay_view s r view)
outer_same s law laws view q r same unasked =
    let bare = one_unasked false r unasked in
    outer_bare s law laws view q (subst (ListsUnasked false) (sym same) bare) ∙ (ap (λ x. outer_laid (lay_view s x view)) same ∙ sym (outer_bare s law laws view r bare))
