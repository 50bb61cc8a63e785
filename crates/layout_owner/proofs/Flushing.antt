-- What a flush leaves.
use Rattle.std.proofs.Common.{◌≡◌, ap, refl, sym, subst, ◌∙◌, ℕ, ◌+◌, ◌≤◌, Bool, true, false, ◌||◌, Option, Some, option_map, arith, cond, inl, inr}
use Rattle.std.proofs.lemmas.Bool.{cases_Bool}
use Rattle.fx_geom.specs.declared.shapes.Offset.{Offset}
use Rattle.fx_geom.specs.declared.shapes.Size.{Size}
use Rattle.fx_geom.specs.Bounds.{tight}
use Rattle.fx_geom.specs.Offset.{origin}
use Rattle.fx_handles.specs.declared.Handle.{Handle}
use Rattle.node_tree.specs.Forest.{Forest, In, count, weigh}
use Rattle.node_tree.specs.Forest.Forest.{none, tree}
use Rattle.node_tree.specs.Tree.{Tree, subtree_at}
use Rattle.plain_tree.specs.Laid.{Laid as LaidTree, laid, Laids, no_laids, more_laids}
use Rattle.plain_tree.specs.Render.{Render, render, Renders}
use Rattle.tree_marks.specs.Closed.{any_mark, IsLinked}
use Rattle.layout_form.specs.Fits.{CanAllBeLaidOut}
use Rattle.layout_form.specs.Layout.{lay_view}
use Rattle.layout_form.specs.Object.{Setting}
use Rattle.layout_form.specs.declared.asks.Ask.TheVariants.{AsBox}
use Rattle.render_tree.specs.Marks.{layout_marks}
use Rattle.render_tree.specs.Object.{RenderObject, object_look}
use Rattle.render_tree.specs.Plain.{offset_or, facts_of, laids_of, laid_of, renders_of, root_below, root_tree}
use Rattle.layout_walk.specs.Node.{LayoutNode, renders_in}
use Rattle.layout_walk.specs.Rule.{LayoutParts, Lawful}
use Rattle.layout_walk.specs.Full.{shown_trees}
use Rattle.layout_walk.specs.Here.{HereAll, Unmarked, AreQuiet, nobody_back}
use Rattle.layout_walk.specs.Flush.{ticks}
use Rattle.layout_walk.specs.Offsets.{ScrolledIf, AreScrolled}
use Rattle.layout_walk.specs.Rules.{parts_of}
use Rattle.layout_walk.specs.Walk.{LaysOut}
use Rattle.layout_walk.specs.Work.{due_count}
use Rattle.layout_walk.proofs.Counting.{ticks_due, none_due}
use Rattle.layout_walk.proofs.Offsets.{quiet_node, flush_scrolled}
use Rattle.layout_walk.proofs.Standing.{false_true}
use Rattle.layout_rules.specs.Nodes.{layout_node, layout_nodes, seen_at}
use Rattle.layout_rules.proofs.Allowed.{all_fit_same}
use Rattle.layout_owner.specs.Calm.{IsLaidCalm}
use Rattle.layout_owner.specs.Left.{LeftIf, AreLeft}
use Rattle.layout_owner.specs.Roots.{Good, top_render, in_window, rooted, view_asks, AskedFirst, IsAskedAs, IsPlaced}
use Rattle.layout_owner.proofs.Leaving.{flush_left}
use Rattle.layout_owner.proofs.Rooting.{SeenLaws, Found, placed, Laid}

-- ---- what is read off the nodes that a layout sees

none_tree : (h : Handle) (w : LayoutNode) (below : Forest LayoutNode) → none ≡ tree h w below none → ⊥
none_tree h w below e = cc

pub quiet_calm : (P : LayoutParts) (f : Forest RenderObject) → AreQuiet P nobody_back (layout_nodes f) → IsLaidCalm f
quiet_calm P none quiet = tt
quiet_calm P (tree h o below rest) quiet = (
  (λ shown. let q = quiet_node P (layout_node o) (AreQuiet P nobody_back (layout_nodes below)) (quiet.0 shown) in (q.0, quiet_calm P below q.1)),
  quiet_calm P rest quiet.1,
)

unmarked_none : (f : Forest RenderObject) → Unmarked (layout_nodes f) → any_mark layout_marks f ≡ false
unmarked_none none clear = refl
unmarked_none (tree h o below rest) clear =
    ap (λ (b : Bool). (b || o.layout_below) || any_mark layout_marks rest) clear.0
    ∙ ap (λ (b : Bool). b || any_mark layout_marks rest) clear.1
    ∙ unmarked_none rest clear.2

pub here_linked : (P : LayoutParts) (f : Forest RenderObject) → HereAll P (layout_nodes f) → IsLinked layout_marks f
here_linked P none all = tt
here_linked P (tree h o below rest) all = (linked, here_linked P below all.1, here_linked P rest all.2)
  where
    linked : false ≡ false → any_mark layout_marks below ≡ true → o.layout_below ≡ true
    linked todo marked = elim (cases_Bool o.layout_below) [
      | inl set ↦ set
      | inr clear ↦ absurd (false_true (sym (unmarked_none below (all.0.marked clear)) ∙ marked))
    ]

pub first_placed : (f : Forest RenderObject) (h : Handle) (w : LayoutNode) (below : Forest LayoutNode) → layout_nodes f ≡ tree h w below none
    → w.shown ≡ true → w.offset ≡ Some origin → IsPlaced f
first_placed none h w below e shown offset = absurd (none_tree h w below e)
first_placed (tree k o kids rest) h w below e shown offset =
    let value : layout_node o ≡ w = cc in
    (ap (λ (x : LayoutNode). x.shown) value ∙ shown, ap (λ (x : LayoutNode). x.offset) value ∙ offset)

same_laid : (a b : Offset) (x y : LaidTree) (ls ms : Laids) → more_laids a x ls ≡ more_laids b y ms → x ≡ y
same_laid a b x y ls ms e = cc

pub laid_first : (f : Forest RenderObject) (h : Handle) (w : LayoutNode) (below : Forest LayoutNode) (l : LaidTree) → layout_nodes f ≡ tree h w below none
    → w.shown ≡ true → laids_of f ≡ more_laids origin l no_laids → laid_of f ≡ Some l
laid_first none h w below l e shown is = absurd (none_tree h w below e)
laid_first (tree k o kids rest) h w below l e shown is =
    let value : layout_node o ≡ w = cc in
    let x = laid o.number (object_look o) (facts_of o) (laids_of kids) in
    let opened : laids_of (tree k o kids rest) ≡ more_laids (offset_or o.offset) x (laids_of rest) =
    ap (λ (b : Bool). cond {A = Laids} b (more_laids (offset_or o.offset) x (laids_of rest)) (laids_of rest)) (ap (λ (y : LayoutNode). y.shown) value ∙ shown) in
    ap (λ (y : LaidTree). Some y) (same_laid (offset_or o.offset) origin x l (laids_of rest) no_laids (sym opened ∙ is))

weigh_nodes : (w : Handle → ℕ) (f : Forest RenderObject) → weigh w (layout_nodes f) ≡ weigh w f
weigh_nodes w none = refl
weigh_nodes w (tree h o below rest) =
    ap (λ (n : ℕ). w h + n + weigh w (layout_nodes rest)) (weigh_nodes w below) ∙ ap (λ (n : ℕ). w h + weigh w below + n) (weigh_nodes w rest)

-- ---- a flush

module _ (laws : SeenLaws) (s : Setting) (law : Lawful (parts_of s)) (view : Size) (t0 t3 : Tree RenderObject) (h : Handle) (root : t0.root ≡ Some h)
    (found : Found s t0 h) (outer : Bool) (before after : ℕ) (done : Laid s t0 h found outer (tight view) t3 before after) where
  abbrev before_all : Forest LayoutNode
  before_all = tree h found.value found.kids none

  abbrev before_now : Forest LayoutNode
  before_now = tree h (placed found.value) found.kids none

  abbrev after_all : Forest LayoutNode
  after_all = tree h done.value done.kids none

  new_root : t3.root ≡ Some h
  new_root = done.turns.root ∙ root

  old_tree : root_tree t0 ≡ subtree_at t0 h
  old_tree = ap (λ (o : Option Handle). root_below t0 o) root

  new_tree : root_tree t3 ≡ subtree_at t3 h
  new_tree = ap (λ (o : Option Handle). root_below t3 o) new_root

  pub old_is : layout_nodes (root_tree t0) ≡ before_all
  old_is = ap (λ (f : Forest RenderObject). layout_nodes f) old_tree ∙ found.is

  pub new_is : layout_nodes (root_tree t3) ≡ after_all
  new_is = ap (λ (f : Forest RenderObject). layout_nodes f) new_tree ∙ done.is

  after_here : HereAll (parts_of s) after_all
  after_here = (done.lays.here, done.lays.all, tt)

  pub now_good : Good s (root_tree t3)
  now_good =
      let fits : CanAllBeLaidOut (renders_in after_all) =
      all_fit_same before_all after_all (refl, done.lays.member, done.lays.same, tt) (found.fits, tt) in
      record {
        here = subst (λ (f : Forest LayoutNode). HereAll (parts_of s) f) (sym new_is) after_here;
        fits = subst (λ (rs : Renders). CanAllBeLaidOut rs) (laws.renders (root_tree t3)) (subst (λ (f : Forest LayoutNode). CanAllBeLaidOut (renders_in f)) (sym new_is) fits);
      }

  pub now_placed : IsPlaced (root_tree t3)
  now_placed = first_placed (root_tree t3) h done.value done.kids new_is done.lays.shown done.lays.offset

  pub now_linked : IsLinked layout_marks (root_tree t3)
  now_linked = here_linked (parts_of s) (root_tree t3) now_good.here

  pub elsewhere : (k : Handle) → (In k (root_tree t0) → ⊥) → seen_at t3 k ≡ seen_at t0 k
  elsewhere k out = done.turns.others k (λ inside. out (here inside))
    where
      here : In k before_all → In k (root_tree t0)
      here inside = let same : count k (layout_nodes (root_tree t0)) ≡ count k before_all = ap (λ (f : Forest LayoutNode). count k f) old_is in
          let seen : count k (layout_nodes (root_tree t0)) ≡ count k (root_tree t0) = weigh_nodes _ (root_tree t0) in omega (arith, same, seen, inside)

  rooted_is : rooted (root_tree t0) ≡ before_now
  rooted_is = ap (λ (f : Forest LayoutNode). in_window f) old_is

  pub few_ticks : after ≤ before + ticks (parts_of s) outer (view_asks view) (rooted (root_tree t0))
  few_ticks = let same = ap (λ (f : Forest LayoutNode). ticks (parts_of s) outer (view_asks view) f) rooted_is in let few = done.ticks in omega (arith, same, few)

  pub few_due : IsAskedAs view (root_tree t0) → after ≤ before + due_count (rooted (root_tree t0))
  few_due known =
      let is_known : AskedFirst view before_all = subst (λ (f : Forest LayoutNode). AskedFirst view f) old_is known in
      let same : due_count (rooted (root_tree t0)) ≡ due_count before_now = ap (λ (f : Forest LayoutNode). due_count f) rooted_is in
      let less : ticks (parts_of s) outer (view_asks view) before_now ≤ due_count before_now =
      ticks_due (parts_of s) outer (view_asks view) before_now (record { shown = refl; asked = is_known }, tt) in
      let few = done.ticks in
      omega (arith, same, less, few)

-- ---- which holds nobody back

-- the law of layout_walk on what is shown
abbrev pub ShowsFull : Setting → Type 0
ShowsFull s = (view : Size) (h : Handle) (v : LayoutNode) (kids : Forest LayoutNode) (w : LayoutNode) (below : Forest LayoutNode)
    → LaysOut (parts_of s) nobody_back (AsBox (tight view)) v kids w below → v.shown ≡ true → v.offset ≡ Some origin
    → shown_trees (tree h w below none) ≡ more_laids origin (lay_view s (render v.number v.look v.told v.scroll v.count (renders_in kids)) view) no_laids

module _ (laws : SeenLaws) (trees : (f : Forest RenderObject) → shown_trees (layout_nodes f) ≡ laids_of f) (s : Setting) (law : Lawful (parts_of s)) (shows : ShowsFull s)
    (view : Size) (t0 t3 : Tree RenderObject) (h : Handle) (root : t0.root ≡ Some h)
    (found : Found s t0 h) (before after : ℕ) (done : Laid s t0 h found false (tight view) t3 before after) where
  abbrev after_flush : Forest LayoutNode
  after_flush = tree h done.value done.kids none

  found_is : layout_nodes (root_tree t0) ≡ tree h found.value found.kids none
  found_is = old_is laws s law view t0 t3 h root found false before after done

  left_is : layout_nodes (root_tree t3) ≡ after_flush
  left_is = new_is laws s law view t0 t3 h root found false before after done

  abbrev top : Render
  top = render found.value.number found.value.look found.value.told found.value.scroll found.value.count (renders_in found.kids)

  old_top : top_render (renders_of (root_tree t0)) ≡ Some top
  old_top =
      ap (λ (rs : Renders). top_render rs) (sym (laws.renders (root_tree t0))) ∙ ap (λ (f : Forest LayoutNode). top_render (renders_in f)) found_is

  shown_now : laids_of (root_tree t3) ≡ more_laids origin (lay_view s top view) no_laids
  shown_now =
      sym (trees (root_tree t3))
      ∙ ap (λ (f : Forest LayoutNode). shown_trees f) left_is
      ∙ shows view h (placed found.value) found.kids done.value done.kids done.lays refl refl

  pub now_laid : laid_of (root_tree t3) ≡ option_map (λ x. lay_view s x view) (top_render (renders_of (root_tree t0)))
  now_laid =
      laid_first (root_tree t3) h done.value done.kids (lay_view s top view) left_is done.lays.shown shown_now
      ∙ ap (λ (o : Option Render). option_map (λ x. lay_view s x view) o) (sym old_top)

  quiet_now : AreQuiet (parts_of s) nobody_back (layout_nodes (root_tree t3))
  quiet_now = subst (λ (f : Forest LayoutNode). AreQuiet (parts_of s) nobody_back f) (sym left_is) ((λ shown. done.lays.quiet), tt)

  pub now_calm : IsLaidCalm (root_tree t3)
  now_calm = quiet_calm (parts_of s) (root_tree t3) quiet_now

  pub now_done : due_count (layout_nodes (root_tree t3)) ≡ 0
  now_done = none_due (parts_of s) (layout_nodes (root_tree t3)) quiet_now

  pub now_scrolled : AreScrolled (layout_nodes (root_tree t0)) (layout_nodes (root_tree t3))
  now_scrolled =
      let all : AreScrolled (tree h (placed found.value) found.kids none) after_flush =
      flush_scrolled (parts_of s) law (AsBox (tight view)) origin h (placed found.value) found.kids done.value done.kids done.lays refl refl in
      let here = subst (λ (b : Bool). ScrolledIf b (placed found.value) found.kids done.value done.kids (AreScrolled found.kids done.kids)) done.lays.shown all.2 in
      let there : ScrolledIf done.value.shown found.value found.kids done.value done.kids (AreScrolled found.kids done.kids) =
      subst (λ (b : Bool). ScrolledIf b found.value found.kids done.value done.kids (AreScrolled found.kids done.kids)) (sym done.lays.shown) here in
      subst (λ (f : Forest LayoutNode). AreScrolled f (layout_nodes (root_tree t3))) (sym found_is)
      (subst (λ (f : Forest LayoutNode). AreScrolled (tree h found.value found.kids none) f) (sym left_is) (refl, done.lays.member, there, tt))

  pub now_left : AreLeft (layout_nodes (root_tree t0)) (layout_nodes (root_tree t3))
  now_left =
      let all : AreLeft (tree h (placed found.value) found.kids none) after_flush =
      flush_left (parts_of s) law (AsBox (tight view)) origin h (placed found.value) found.kids done.value done.kids done.lays refl refl in
      let here = subst (λ (b : Bool). LeftIf b (placed found.value) found.kids done.value done.kids (AreLeft found.kids done.kids)) done.lays.shown all.1 in
      let there : LeftIf done.value.shown found.value found.kids done.value done.kids (AreLeft found.kids done.kids) =
      subst (λ (b : Bool). LeftIf b found.value found.kids done.value done.kids (AreLeft found.kids done.kids)) (sym done.lays.shown) here in
      subst (λ (f : Forest LayoutNode). AreLeft f (layout_nodes (root_tree t3))) (sym found_is)
      (subst (λ (f : Forest LayoutNode). AreLeft (tree h found.value found.kids none) f) (sym left_is) (refl, there, tt))
