-- The items of lazy lists have no part in where the lists themselves are laid out.
use Rattle.std.proofs.Common.{◌≡◌, ap, refl, sym, subst, ◌∙◌, ◌⊎◌, inl, inr, ℕ, Bool, true, false, not, ◌||◌, ◌&&◌, if◌then◌else◌, Option, Some, None, List, [], ◌∷◌, ◌++◌}
use Rattle.std.proofs.lemmas.Bool.{or_right, false≢true, true≢false}
use Rattle.fx_geom.specs.Bounds.{tight}
use Rattle.fx_geom.specs.declared.boxes.Bounds.{Bounds}
use Rattle.fx_geom.specs.declared.lengths.Len.{Len}
use Rattle.fx_geom.specs.declared.shapes.Axis.{Axis}
use Rattle.fx_geom.specs.declared.shapes.Offset.{Offset}
use Rattle.fx_geom.specs.declared.shapes.Size.{Size}
use Rattle.fx_handles.specs.declared.Handle.{Handle}
use Rattle.node_tree.specs.Forest.{Forest}
use Rattle.node_tree.specs.Forest.Forest.{none, tree}
use Rattle.widget_model.specs.Look.{Look, viewport}
use Rattle.work_roles.specs.WorkRole.{is_intrinsic, is_viewport}
use Rattle.plain_tree.specs.declared.laid.Facts.{Facts}
use Rattle.plain_tree.specs.declared.laid.Frame.{Frame}
use Rattle.plain_tree.specs.declared.render.ParentData.{ParentData}
use Rattle.plain_tree.specs.Laid.{Laid, Laids, no_laids}
use Rattle.plain_tree.specs.Render.{Render, render, Renders, no_renders, more_renders}
use Rattle.layout_form.specs.declared.asks.Ask.{Ask}
use Rattle.layout_form.specs.declared.asks.Ask.TheVariants.{AsBox, AsSliver}
use Rattle.layout_form.specs.Intrinsic.{liked_by}
use Rattle.layout_form.specs.Layout.{intrinsic_rule, object, objects as objects_of, lay_view}
use Rattle.layout_form.specs.Object.{Setting, Object, only_of, no_notes}
use Rattle.layout_form.specs.Protocol.{answer}
use Rattle.layout_walk.specs.Node.{LayoutNode, member, members, renders_in, tellings}
use Rattle.layout_walk.specs.Rule.{LayoutParts, Lawful, asks_by, made_by, ask_of, later}
use Rattle.layout_walk.specs.Full.{asks_at, made_at, objects, place_of, past, laid_first, laid_trees, laid_node}
use Rattle.layout_walk.specs.Items.{LikesSame, SameButItems, list_frame, lists_of, lists_in}
use Rattle.layout_walk.specs.Rules.{liked_in, parts_of, is_list}
use Rattle.kept_layouts.specs.Items.{without_items, all_without_items, ListsUnasked, AllListsUnasked, HasNoItems, HaveNoItems}
use Rattle.kept_layouts.proofs.Extents.{Alike, AllAlike, rule_same, liked_plain, liked_alike}

-- ---- what boxes would like

viewport_likes : (s : Setting) (l : Look) (axis : Axis) (across : Len) (cs : List Object) → is_viewport l ≡ true → intrinsic_rule s l axis across cs ≡ 0
viewport_likes s (viewport direction) axis across cs e = refl
viewport_likes s l axis across cs e = absurd (false≢true e)

-- a node that is asked, and is no lazy list, would like as much
likes_by : (s : Setting) (look : Look) (children : Renders) (list view : Bool) → (list ≡ true → true ≡ false) → is_viewport look ≡ view
    → (view ≡ false → AllAlike (objects_of s children) (objects_of s (all_without_items children))) → (axis : Axis) (across : Len)
    → intrinsic_rule s look axis across (objects_of s children) ≡ intrinsic_rule s look axis across (objects_of s (if list then no_renders else all_without_items children))
likes_by s look children true view no_list is alike axis across = absurd (true≢false (no_list refl))
likes_by s look children false true no_list is alike axis across =
    viewport_likes s look axis across (objects_of s children) is ∙ sym (viewport_likes s look axis across (objects_of s (all_without_items children)) is)
likes_by s look children false false no_list is alike axis across =
    rule_same s s refl look axis across (objects_of s children) (objects_of s (all_without_items children)) (alike refl)

asked_on : (asks view : Bool) → view ≡ false → (asks || (true && not view)) ≡ true
asked_on asks view e = or_right asks (not view) (ap not e)

mutual
  unfolding object objects_of

  one_alike : (s : Setting) (r : Render) → ListsUnasked true r → Alike (object s r) (object s (without_items r))
  one_alike s (render number look told scroll count children) unasked = record {
    told = refl;
    greatest = likes_by s look children (is_list look) (is_viewport look) unasked.0 refl
        (λ e. all_alike s children (subst (λ (b : Bool). AllListsUnasked b children) (asked_on (is_intrinsic look) (is_viewport look) e) unasked.1));
  }

  all_alike : (s : Setting) (rs : Renders) → AllListsUnasked true rs → AllAlike (objects_of s rs) (objects_of s (all_without_items rs))
  all_alike s no_renders unasked = tt
  all_alike s (more_renders r rs) unasked = (one_alike s r unasked.0, all_alike s rs unasked.1)

liked_box : (s : Setting) (look : Look) (b : Bounds) (rs : Renders) (asks more : Bool) → is_intrinsic look ≡ asks → AllListsUnasked (asks || more) rs
    → liked_by look b (only_of (objects_of s rs)) ≡ liked_by look b (only_of (objects_of s (all_without_items rs)))
liked_box s look b rs true more is unasked = liked_alike look b (objects_of s rs) (objects_of s (all_without_items rs)) (all_alike s rs unasked)
liked_box s look b rs false more is unasked = liked_plain look b (only_of (objects_of s rs)) is ∙ sym (liked_plain look b (only_of (objects_of s (all_without_items rs))) is)

liked_items : (s : Setting) (look : Look) (ask : Ask) (rs : Renders) (more : Bool) → AllListsUnasked (is_intrinsic look || more) rs → liked_in s look ask rs ≡ liked_in s look ask (all_without_items rs)
liked_items s look (AsSliver b) rs more unasked = refl
liked_items s look (AsBox b) rs more unasked = liked_box s look b rs (is_intrinsic look) more refl unasked

-- ---- render nodes as nodes that were never laid out

abbrev nowhere : Handle
nowhere = record { index = 0; generation = 0 }

abbrev pub unlaid : ℕ → Look → ParentData → ℕ → ℕ → LayoutNode
unlaid number look told scroll count = record {
  number = number;
  look = look;
  told = told;
  count = count;
  scroll = scroll;
  frame = None;
  notes = no_notes;
  plugged = false;
  scrolled = 0;
  offset = None;
  shown = false;
  needs_layout = true;
  layout_below = true;
}

abbrev mutual
  node_in : Render → Forest LayoutNode → Forest LayoutNode
  node_in (render number look told scroll count children) rest = tree nowhere (unlaid number look told scroll count) (nodes_in children) rest

  nodes_in : Renders → Forest LayoutNode
  nodes_in no_renders = none
  nodes_in (more_renders r rs) = node_in r (nodes_in rs)

mutual
  one_back : (r : Render) (rest : Forest LayoutNode) (rs : Renders) → renders_in rest ≡ rs → renders_in (node_in r rest) ≡ more_renders r rs
  one_back (render number look told scroll count children) rest rs e = λ at. more_renders (render number look told scroll count (all_back children at)) (e at)

  all_back : (rs : Renders) → renders_in (nodes_in rs) ≡ rs
  all_back no_renders = refl
  all_back (more_renders r rs) = one_back r (nodes_in rs) rs (all_back rs)

-- ---- nodes without items

module _ (s : Setting) (likes : (look : Look) (ask : Ask) (f : Forest LayoutNode) → liked_in s look ask (members f) ≡ liked_in s look ask (renders_in f)) where
  likes_same : (look : Look) (number : ℕ) (told : ParentData) (scroll count : ℕ) (rs : Renders) (more : Bool) → AllListsUnasked (is_intrinsic look || more) rs
      → LikesSame (parts_of s) (unlaid number look told scroll count) (nodes_in rs) (nodes_in (all_without_items rs))
  likes_same look number told scroll count rs more unasked = λ ask.
      likes look ask (nodes_in rs)
      ∙ (ap (liked_in s look ask) (all_back rs)
      ∙ (liked_items s look ask rs more unasked
      ∙ (sym (ap (liked_in s look ask) (all_back (all_without_items rs))) ∙ sym (likes look ask (nodes_in (all_without_items rs))))))

  abbrev KidsAlike : Look → ℕ → ParentData → ℕ → ℕ → Renders → Renders → Type 0
  KidsAlike look number told scroll count rs bare =
      (is_list look ≡ true) ⊎ (SameButItems (parts_of s) (nodes_in rs) (nodes_in bare) × LikesSame (parts_of s) (unlaid number look told scroll count) (nodes_in rs) (nodes_in bare))

  kids_alike : (look : Look) (number : ℕ) (told : ParentData) (scroll count : ℕ) (rs : Renders) (more list : Bool) → is_list look ≡ list → AllListsUnasked (is_intrinsic look || more) rs
      → SameButItems (parts_of s) (nodes_in rs) (nodes_in (all_without_items rs)) → KidsAlike look number told scroll count rs (if list then no_renders else all_without_items rs)
  kids_alike look number told scroll count rs more true is unasked same = inl is
  kids_alike look number told scroll count rs more false is unasked same = inr (same, likes_same look number told scroll count rs more unasked)

  mutual
    one_items : (asked : Bool) (r : Render) (more rest : Forest LayoutNode) → ListsUnasked asked r → SameButItems (parts_of s) more rest → SameButItems (parts_of s) (node_in r more) (node_in (without_items r) rest)
    one_items asked (render number look told scroll count children) more rest unasked same = (
      refl,
      kids_alike look number told scroll count children (asked && not (is_viewport look)) (is_list look) refl unasked.1 (all_items (is_intrinsic look || (asked && not (is_viewport look))) children unasked.1),
      same,
    )

    all_items : (asked : Bool) (rs : Renders) → AllListsUnasked asked rs → SameButItems (parts_of s) (nodes_in rs) (nodes_in (all_without_items rs))
    all_items asked no_renders unasked = tt
    all_items asked (more_renders r rs) unasked = one_items asked r (nodes_in rs) (nodes_in (all_without_items rs)) unasked.0 (all_items asked rs unasked.1)

-- ---- full layout gives the lists the same frames

items_told : (P : LayoutParts) (f g : Forest LayoutNode) → SameButItems P f g → tellings f ≡ tellings g
items_told P none none same = refl
items_told P none (tree k w below rest) same = absurd same
items_told P (tree h v kids more) none same = absurd same
items_told P (tree h v kids more) (tree k w below rest) same = λ at. (same.0 at).told ∷ items_told P more rest same.2 at

list_alone : (b : Bool) (number : ℕ) (facts others : Facts) (xs ys : List (ℕ × Frame)) → b ≡ true → facts ≡ others → list_frame b number facts xs ≡ list_frame b number others ys
list_alone true number facts others xs ys is same = ap (λ (x : Facts). (number, x.frame) ∷ []) same
list_alone false number facts others xs ys is same = absurd (false≢true is)

module _ (P : LayoutParts) (law : Lawful P) (answers : (f g : Forest LayoutNode) → SameButItems P f g → objects P f ≡ objects P g) where
  abbrev Alikes : LayoutNode → Forest LayoutNode → Forest LayoutNode → Type 0
  Alikes v kids below = (P.lists v.look ≡ true) ⊎ (SameButItems P kids below × LikesSame P v kids below)

  -- how the lists among some laid children stand is the same, however these are asked
  abbrev ListsAlike : Forest LayoutNode → Forest LayoutNode → Type 0
  ListsAlike kids below = (asks : List (Option Ask)) (ats places : List Offset) → lists_in P.lists (laid_trees P asks ats kids) ≡ lists_in P.lists (laid_trees P asks places below)

  over_asks : (v : LayoutNode) (ask : Ask) (kids below : Forest LayoutNode) → SameButItems P kids below → LikesSame P v kids below
      → asks_at P v ask kids (objects P kids) ≡ asks_at P v ask below (objects P below)
  over_asks v ask kids below same likes = λ at. asks_by P (member v) v.scroll ask (likes ask at) (items_told P kids below same at) (answers kids below same at)

  over_made : (v : LayoutNode) (ask : Ask) (kids below : Forest LayoutNode) → SameButItems P kids below → LikesSame P v kids below
      → made_at P v ask kids (objects P kids) ≡ made_at P v ask below (objects P below)
  over_made v ask kids below same likes = λ at. made_by P (member v) v.scroll ask (likes ask at) (items_told P kids below same at) (answers kids below same at)

  pub node_lists : (v : LayoutNode) (ask : Ask) (kids below : Forest LayoutNode) → Alikes v kids below → (SameButItems P kids below → ListsAlike kids below)
      → lists_of P.lists (laid_node P v ask kids) ≡ lists_of P.lists (laid_node P v ask below)
  node_lists v ask kids below (inl list) further =
      list_alone (P.lists v.look) v.number (made_at P v ask kids (objects P kids)).facts (made_at P v ask below (objects P below)).facts
      (lists_in P.lists (laid_trees P (asks_at P v ask kids (objects P kids)) (made_at P v ask kids (objects P kids)).places kids))
      (lists_in P.lists (laid_trees P (asks_at P v ask below (objects P below)) (made_at P v ask below (objects P below)).places below)) list
      (law.lists (member v) v.scroll ask (P.liked v.look ask (members kids)) (P.liked v.look ask (members below)) (tellings kids) (tellings below) (objects P kids) (objects P below) list)
  node_lists v ask kids below (inr other) further =
      let made = over_made v ask kids below other.0 other.1 in
      let asks = over_asks v ask kids below other.0 other.1 in
      let first = made_at P v ask kids (objects P kids) in
      let second = made_at P v ask below (objects P below) in
      ap (λ (xs : List (ℕ × Frame)). list_frame (P.lists v.look) v.number first.facts xs) (further other.0 (asks_at P v ask kids (objects P kids)) first.places second.places)
      ∙ (λ at. list_frame (P.lists v.look) v.number (made at).facts (lists_in P.lists (laid_trees P (asks at) second.places below)))

  first_lists : (o : Option Ask) (at place : Offset) (v : LayoutNode) (kids below : Forest LayoutNode) (ls ms : Laids) → Alikes v kids below → (SameButItems P kids below → ListsAlike kids below)
      → lists_in P.lists ls ≡ lists_in P.lists ms
      → lists_in P.lists (laid_first o (λ ask. laid_node P v ask kids) at ls) ≡ lists_in P.lists (laid_first o (λ ask. laid_node P v ask below) place ms)
  first_lists None at place v kids below ls ms alike further same = same
  first_lists (Some ask) at place v kids below ls ms alike further same = λ i. node_lists v ask kids below alike further i ++ same i

  pub all_lists : (f g : Forest LayoutNode) → SameButItems P f g → ListsAlike f g
  unfolding laid_trees
  all_lists none none same asks ats places = refl
  all_lists none (tree k w below rest) same asks ats places = absurd same
  all_lists (tree h v kids more) none same asks ats places = absurd same
  all_lists (tree h v kids more) (tree k w below rest) same asks ats places =
      first_lists (ask_of asks) (place_of ats) (place_of places) v kids below (laid_trees P (later asks) (past (ask_of asks) ats) more) (laid_trees P (later asks) (past (ask_of asks) places) rest)
      same.1 (all_lists kids below) (all_lists more rest same.2 (later asks) (past (ask_of asks) ats) (past (ask_of asks) places))
      ∙ ap (λ (x : LayoutNode). lists_in P.lists (laid_first (ask_of asks) (λ ask. laid_node P x ask below) (place_of places) (laid_trees P (later asks) (past (ask_of asks) places) rest))) same.0

-- ---- no list has items

abbrev ListsBare : Forest LayoutNode → Type 0
ListsBare none = Unit {0}
ListsBare (tree h v kids rest) = (is_list v.look ≡ true → kids ≡ none) × ListsBare kids × ListsBare rest

mutual
  one_bare : (r : Render) (rest : Forest LayoutNode) → ListsBare rest → ListsBare (node_in (without_items r) rest)
  one_bare (render number look told scroll count children) rest bare =
      (by_list (is_list look), all_by (is_list look) (all_bare children), bare)
    where
      by_list : (b : Bool) → b ≡ true → nodes_in (if b then no_renders else all_without_items children) ≡ none
      by_list true e = refl
      by_list false e = absurd (false≢true e)

      all_by : (b : Bool) → ListsBare (nodes_in (all_without_items children)) → ListsBare (nodes_in (if b then no_renders else all_without_items children))
      all_by true bare = tt
      all_by false bare = bare

  all_bare : (rs : Renders) → ListsBare (nodes_in (all_without_items rs))
  all_bare no_renders = tt
  all_bare (more_renders r rs) = one_bare r (nodes_in (all_without_items rs)) (all_bare rs)

laid_none : (P : LayoutParts) (asks : List (Option Ask)) (places : List Offset) (f : Forest LayoutNode) → f ≡ none → laid_trees P asks places f ≡ no_laids
unfolding laid_trees
laid_none P asks places f e = ap (λ (g : Forest LayoutNode). laid_trees P asks places g) e

bare_node : (P : LayoutParts) (v : LayoutNode) (ask : Ask) (kids : Forest LayoutNode) → (is_list v.look ≡ true → kids ≡ none)
    → ((asks : List (Option Ask)) (places : List Offset) → HaveNoItems (laid_trees P asks places kids)) → HasNoItems (laid_node P v ask kids)
bare_node P v ask kids bare below =
    let made = made_at P v ask kids (objects P kids) in
    let asks = asks_at P v ask kids (objects P kids) in
    ((λ is. laid_none P asks made.places kids (bare is)), below asks made.places)

bare_first : (P : LayoutParts) (o : Option Ask) (at : Offset) (v : LayoutNode) (kids : Forest LayoutNode) (ls : Laids) → ((ask : Ask) → HasNoItems (laid_node P v ask kids)) → HaveNoItems ls
    → HaveNoItems (laid_first o (λ ask. laid_node P v ask kids) at ls)
bare_first P None at v kids ls one all = all
bare_first P (Some ask) at v kids ls one all = (one ask, all)

bare_trees : (P : LayoutParts) (f : Forest LayoutNode) → ListsBare f → (asks : List (Option Ask)) (places : List Offset) → HaveNoItems (laid_trees P asks places f)
unfolding laid_trees
bare_trees P none bare asks places = tt
bare_trees P (tree h v kids rest) bare asks places =
    bare_first P (ask_of asks) (place_of places) v kids (laid_trees P (later asks) (past (ask_of asks) places) rest) (λ ask. bare_node P v ask kids bare.0 (bare_trees P kids bare.1))
    (bare_trees P rest bare.2 (later asks) (past (ask_of asks) places))

-- ---- a whole tree

-- the laws of layout_walk
pub record FullLaws (s : Setting) : Type 0 where
  pub likes : (look : Look) (ask : Ask) (f : Forest LayoutNode) → liked_in s look ask (members f) ≡ liked_in s look ask (renders_in f)
  pub answers : (f g : Forest LayoutNode) → SameButItems (parts_of s) f g → objects (parts_of s) f ≡ objects (parts_of s) g
  pub full : (v : LayoutNode) (kids : Forest LayoutNode) (ask : Ask)
      → laid_node (parts_of s) v ask kids ≡ answer (object s (render v.number v.look v.told v.scroll v.count (renders_in kids))) ask

view_is : (s : Setting) → FullLaws s → (view : Size) (number : ℕ) (look : Look) (told : ParentData) (scroll count : ℕ) (rs : Renders)
    → laid_node (parts_of s) (unlaid number look told scroll count) (AsBox (tight view)) (nodes_in rs) ≡ lay_view s (render number look told scroll count rs) view
view_is s laws view number look told scroll count rs =
    laws.full (unlaid number look told scroll count) (nodes_in rs) (AsBox (tight view)) ∙ ap (λ (x : Renders). lay_view s (render number look told scroll count x) view) (all_back rs)

pub lists_lie : (s : Setting) → Lawful (parts_of s) → FullLaws s → (view : Size) (r : Render) → ListsUnasked false r
    → lists_of is_list (lay_view s (without_items r) view) ≡ lists_of is_list (lay_view s r view)
lists_lie s law laws view (render number look told scroll count children) unasked =
    let bare : Renders = if is_list look then no_renders else all_without_items children in
    let v = unlaid number look told scroll count in
    let more = false && not (is_viewport look) in
    let alike = kids_alike s laws.likes look number told scroll count children more (is_list look) refl unasked.1 (all_items s laws.likes (is_intrinsic look || more) children unasked.1) in
    sym (ap (λ (l : Laid). lists_of is_list l) (view_is s laws view number look told scroll count bare))
    ∙ (sym (node_lists (parts_of s) law laws.answers v (AsBox (tight view)) (nodes_in children) (nodes_in bare) alike (all_lists (parts_of s) law laws.answers (nodes_in children) (nodes_in bare)))
    ∙ ap (λ (l : Laid). lists_of is_list l) (view_is s laws view number look told scroll count children))

pub no_items : (s : Setting) → FullLaws s → (view : Size) (r : Render) → HasNoItems (lay_view s (without_items r) view)
no_items s laws view (render number look told scroll count children) =
    let bare : Renders = if is_list look then no_renders else all_without_items children in
    let v = unlaid number look told scroll count in
    let all : ListsBare (node_in (without_items (render number look told scroll count children)) none) = one_bare (render number look told scroll count children) none tt in
    subst HasNoItems (view_is s laws view number look told scroll count bare) (bare_node (parts_of s) v (AsBox (tight view)) (nodes_in bare) all.0 (bare_trees (parts_of s) (nodes_in bare) all.1))
