-- The root's tree in the forest that a tree is.
use Rattle.std.proofs.Common.{◌≡◌, ◌≢◌, ◌≤◌, Bool, true, false, not, ◌&&◌, ◌||◌, if◌then◌else◌, Option, Some, None, List, [], ◌∷◌, ◌++◌, refl, ap, sym, ◌∙◌, subst, arith}
use Rattle.std.specs.Option.{option_to_list}
use Rattle.fx_handles.specs.declared.Handle.{Handle}
use Rattle.fx_geom.specs.declared.shapes.Size.{Size}
use Rattle.delegates.specs.Table.{Plug}
use Rattle.fx_handles.specs.Handle.{same as same_handle}
use Rattle.node_tree.specs.Forest.{Forest, tops, count, In, IsDistinct, Stands, SameShape}
use Rattle.node_tree.specs.Forest.Forest.{none, tree}
use Rattle.node_tree.specs.Tree.{Tree, IsNode, node_at, parent_at, parent_of, Is, IsTree, subtree_at, StandsAt}
use Rattle.node_tree.proofs.TreeLemmas.{subtree_is}
use Rattle.node_tree.proofs.Walks.{weigh-shape}
use Rattle.tree_marks.specs.Marking.{Above, at_top, Marking, within, is_boundary as ends_marks}
use Rattle.tree_marks.specs.Marks.{has_listed, some_climbs, sweep}
use Rattle.render_tree.specs.Object.{RenderObject}
use Rattle.render_tree.specs.Marks.{paint_marks}
use Rattle.render_tree.specs.Marked.{SetsMarks}
use Rattle.render_tree.specs.Plain.{root_below, root_tree}
use Rattle.kept_layers.specs.KeptLayers.{IsMarked}
use Rattle.kept_layers.specs.Repainted.{IsRootRepainted, FlagsChanges, ListsChanges}
use Rattle.kept_layers.proofs.Sweeping.{root_repainted, marked_again}

first_of : Handle → List Handle → Handle
first_of z [] = z
first_of z (x ∷ xs) = x

no_top : (h : Handle) (hs : List Handle) → h ∷ hs ≢ []
no_top h hs e = cc

-- the first tree of a forest
alone : Forest RenderObject → Forest RenderObject
alone none = none
alone (tree h o below rest) = tree h o below none

tree_stands : (t : Tree RenderObject) (q : Option Handle) (h : Handle) (o : RenderObject) (kids rest : Forest RenderObject)
    → Stands (node_at t) q (tree h o kids rest) → IsDistinct (tree h o kids rest) → StandsAt t h (tree h o kids none)
tree_stands t q h o kids rest stands distinct =
    let up : q ≡ parent_at t h = sym (ap parent_of stands.0) in
    record {
      top = refl;
      stands = (stands.0 ∙ ap (λ (p : Option Handle). Some (record { parent = p; children = tops kids; value = o })) up, stands.1, tt);
      distinct = λ k. let few = distinct k in omega (arith, few);
    }

first_is : (t : Tree RenderObject) (r : Handle) (f : Forest RenderObject) → t.root ≡ Some r → Is t f → subtree_at t r ≡ alone f
unfolding alone first_of
first_is t r none e is = absurd (no_top r t.inactive (sym (ap (λ (x : Option Handle). option_to_list x ++ t.inactive) e) ∙ is.tops))
first_is t r (tree h o below rest) e is =
    let same_tops : r ∷ t.inactive ≡ h ∷ tops rest = sym (ap (λ (x : Option Handle). option_to_list x ++ t.inactive) e) ∙ is.tops in
    ap (subtree_at t) (ap (first_of r) same_tops) ∙ subtree_is t h (tree h o below none) (tree_stands t None h o below rest is.stands is.distinct)

alone_swept : (also : Bool) (hs : List Handle) (p : Above) (f : Forest RenderObject) → alone (sweep paint_marks also hs p f) ≡ sweep paint_marks also hs p (alone f)
unfolding alone
alone_swept also hs p none = refl
alone_swept also hs p (tree h o below rest) = refl

pub root_swept : (also : Bool) (hs : List Handle) (old new : Tree RenderObject) → IsTree old → SetsMarks paint_marks also hs old new
    → root_tree new ≡ sweep paint_marks also hs at_top (root_tree old)
root_swept also hs old new (f, is) sets = ap (root_below new) sets.root ∙ at_root old.root refl
  where
    at_root : (r : Option Handle) → old.root ≡ r → root_below new r ≡ sweep paint_marks also hs at_top (root_below old r)
    at_root None e = refl
    at_root (Some r) e =
        first_is new r (sweep paint_marks also hs at_top f) (sets.root ∙ e) (sets.plain f is) ∙ alone_swept also hs at_top f
        ∙ sym (ap (sweep paint_marks also hs at_top) (first_is old r f e is))

-- the root's tree is one tree, which stands
pub record RootIs (t : Tree RenderObject) (r : Handle) : Type 0 where
  pub value : RenderObject
  pub kids : Forest RenderObject
  pub is : root_tree t ≡ tree r value kids none
  pub stands : Stands (node_at t) None (tree r value kids none)

pub root_is : (t : Tree RenderObject) → IsTree t → (r : Handle) → t.root ≡ Some r → RootIs t r
unfolding alone first_of
root_is t (f, is) r e = at_forest f is (ap (root_below t) e ∙ first_is t r f e is)
  where
    at_forest : (g : Forest RenderObject) → Is t g → root_tree t ≡ alone g → RootIs t r
    at_forest none is_none same = absurd (no_top r t.inactive (sym (ap (λ (x : Option Handle). option_to_list x ++ t.inactive) e) ∙ is_none.tops))
    at_forest (tree h o below rest) is_tree same =
        let same_tops : r ∷ t.inactive ≡ h ∷ tops rest = sym (ap (λ (x : Option Handle). option_to_list x ++ t.inactive) e) ∙ is_tree.tops in
        let here : h ≡ r = sym (ap (first_of r) same_tops) in
        record {
          value = o;
          kids = below;
          is = same ∙ ap (λ x. tree x o below none) here;
          stands = subst (λ x. Stands (node_at t) None (tree x o below none)) here (is_tree.stands.0, is_tree.stands.1, tt);
        }

pub root_stands : (t : Tree RenderObject) → IsTree t → Stands (node_at t) None (root_tree t)
root_stands t is = at_root t.root refl
  where
    at_root : (r : Option Handle) → t.root ≡ r → Stands (node_at t) None (root_tree t)
    at_root None e = subst (Stands (node_at t) None) (sym (ap (root_below t) e)) tt
    at_root (Some r) e = let root = root_is t is r e in subst (Stands (node_at t) None) (sym root.is) root.stands

-- where nothing is inactive, all nodes are in the root's tree
pub all_inside : (t : Tree RenderObject) → IsTree t → t.inactive ≡ [] → (h : Handle) → IsNode t h → In h (root_tree t)
unfolding alone
all_inside t (f, is) quiet h live = at_root t.root refl
  where
    at_forest : (r : Handle) → t.root ≡ Some r → (g : Forest RenderObject) → Is t g → In h (alone g)
    at_forest r e none is_none = absurd (no_top r t.inactive (sym (ap (λ (x : Option Handle). option_to_list x ++ t.inactive) e) ∙ is_none.tops))
    at_forest r e (tree k o below none) is_tree = is_tree.whole h live
    at_forest r e (tree k o below (tree j v b more)) is_tree =
        absurd (let both : r ∷ [] ≡ k ∷ j ∷ tops more = sym (ap (λ (x : Option Handle). option_to_list x ++ t.inactive) e ∙ ap (λ xs. r ∷ xs) quiet) ∙ is_tree.tops in cc)

    nothing : (g : Forest RenderObject) → t.root ≡ None → Is t g → In h g → ⊥
    nothing none e is_none inside = omega (arith, inside)
    nothing (tree k o below rest) e is_tree inside = absurd (let both : [] ≡ k ∷ tops rest = sym (ap (λ (x : Option Handle). option_to_list x ++ t.inactive) e ∙ quiet) ∙ is_tree.tops in cc)

    at_root : (r : Option Handle) → t.root ≡ r → In h (root_tree t)
    at_root None e = absurd (nothing f e is (is.whole h live))
    at_root (Some r) e = subst (In h) (sym (ap (root_below t) e ∙ first_is t r f e is)) (at_forest r e f is)

-- ---- trees of one shape

alone_shape : (f g : Forest RenderObject) → SameShape f g → SameShape (alone f) (alone g)
unfolding alone
alone_shape none none shape = tt
alone_shape none (tree k w below rest) shape = absurd shape
alone_shape (tree h v kids more) none shape = absurd shape
alone_shape (tree h v kids more) (tree k w below rest) shape = (shape.0, shape.1, tt)

pub inside_shape : (old new : Tree RenderObject) (f g : Forest RenderObject) → Is old f → Is new g → new.root ≡ old.root → SameShape f g
    → (h : Handle) → In h (root_tree new) → In h (root_tree old)
inside_shape old new f g is_old is_new same_root shape h = at_root old.root refl
  where
    at_root : (r : Option Handle) → old.root ≡ r → In h (root_tree new) → In h (root_tree old)
    at_root None e inside = absurd (let none_there : count h (root_tree new) ≡ 0 = ap (λ x. count h (root_below new x)) (same_root ∙ e) in omega (arith, inside, none_there))
    at_root (Some r) e inside =
        let now : root_tree new ≡ alone g = ap (root_below new) (same_root ∙ e) ∙ first_is new r g (same_root ∙ e) is_new in
        let was : root_tree old ≡ alone f = ap (root_below old) e ∙ first_is old r f e is_old in
        let same : count h (alone f) ≡ count h (alone g) = weigh-shape (λ k. if same_handle k h then 1 else 0) (alone f) (alone g) (alone_shape f g shape) in
        let now_count = ap (count h) now in
        let was_count = ap (count h) was in
        omega (arith, inside, now_count, was_count, same)

pub shape_swept : (m : Marking RenderObject) (also : Bool) (hs : List Handle) (p : Above) (f : Forest RenderObject) → SameShape f (sweep m also hs p f)
shape_swept m also hs p none = tt
shape_swept m also hs p (tree h o below rest) = (refl, shape_swept m also hs (within m p o) below, shape_swept m also hs p rest)

-- no marks are set for no node
pub nothing_swept : (also : Bool) (p : Above) (f : Forest RenderObject) → sweep paint_marks also [] p f ≡ f
nothing_swept also p f = go f p
  where
    or_no : (b : Bool) → (b || false) ≡ b
    or_no true = refl
    or_no false = refl

    no_also : (b : Bool) → (b && false) ≡ false
    no_also true = refl
    no_also false = refl

    none_listed : (f : Forest RenderObject) → has_listed [] f ≡ false
    none_listed none = refl
    none_listed (tree h o below rest) = λ i. none_listed below i || none_listed rest i

    none_climbs : (p : Above) (f : Forest RenderObject) → some_climbs paint_marks [] p f ≡ false
    none_climbs p none = refl
    none_climbs p (tree h o below rest) = λ i. (none_climbs (within paint_marks p o) below i && not (ends_marks paint_marks p o)) || none_climbs p rest i

    go : (f : Forest RenderObject) (p : Above) → sweep paint_marks also [] p f ≡ f
    go none p = refl
    go (tree h o below rest) p =
        let flag : (o.needs_paint || (some_climbs paint_marks [] (within paint_marks p o) below && paint_marks.takes p.top o)) ≡ o.needs_paint =
        ap (λ b. o.needs_paint || (b && paint_marks.takes p.top o)) (none_climbs (within paint_marks p o) below) ∙ or_no o.needs_paint in
        let mark : (o.paint_below || (has_listed [] below || (also && false))) ≡ o.paint_below =
        (λ i. o.paint_below || (none_listed below i || no_also also i)) ∙ or_no o.paint_below in
        λ i. tree h (record o { needs_paint = flag i; paint_below = mark i }) (go below (within paint_marks p o) i) (go rest p i)

pub no_marks : (also : Bool) (t : Tree RenderObject) → SetsMarks paint_marks also [] t t
no_marks also t = record {
  plain = λ f is. subst (Is t) (sym (nothing_swept also at_top f)) is;
  only = λ k n at_t. (false, false, at_t ∙ (λ i. Some (record n { value = record n.value { needs_paint = sym (or_no n.value.needs_paint) i; paint_below = sym (or_no n.value.paint_below) i } })));
  absent = λ k gone. gone;
  root = refl;
  inactive = refl;
  handles = record { generations = λ i. refl; spent = λ k e. e; used = refl; retired = refl; generation_sum = refl; inserted = refl };
}
  where
    or_no : (b : Bool) → (b || false) ≡ b
    or_no true = refl
    or_no false = refl

-- ---- changes that were listed, and their marks

count_swept : (also : Bool) (hs : List Handle) (p : Above) (h : Handle) (f : Forest RenderObject) → count h (sweep paint_marks also hs p f) ≡ count h f
count_swept also hs p h none = refl
count_swept also hs p h (tree k o below rest) =
    let mine = count_swept also hs (within paint_marks p o) h below in
    let others = count_swept also hs p h rest in
    omega (arith, mine, others)

pub repaints : (cell : Size) (before after : List Plug) (also : Bool) (hs : List Handle) (old mid new : Tree RenderObject) → IsTree old → IsTree mid
    → ListsChanges cell before after also hs old mid → SetsMarks paint_marks also hs mid new → IsMarked (root_tree old) → FlagsChanges cell before after old new
repaints cell before after also hs old mid new is_old is_mid lists sets marked =
    record {
      inside = λ h is. lists.inside h (subst (λ n. 1 ≤ n) (ap (count h) same ∙ count_swept also hs at_top h (root_tree mid)) is);
      groups = subst (IsRootRepainted cell before after (node_at old) old.root) (sym same) (at_root mid.root refl);
      marks = subst IsMarked (sym same)
          (marked_again cell before after also hs old mid lists.nodes is_old (root_tree old) (root_stands old is_old) marked at_top None (root_tree mid) (root_stands mid is_mid) lists.inside);
    }
  where
    same : root_tree new ≡ sweep paint_marks also hs at_top (root_tree mid)
    same = root_swept also hs mid new is_mid sets

    at_root : (r : Option Handle) → mid.root ≡ r → IsRootRepainted cell before after (node_at old) old.root (sweep paint_marks also hs at_top (root_tree mid))
    at_root None e = subst (λ f. IsRootRepainted cell before after (node_at old) old.root (sweep paint_marks also hs at_top f)) (sym (ap (root_below mid) e)) tt
    at_root (Some r) e =
        let root = root_is mid is_mid r e in
        subst (λ f. IsRootRepainted cell before after (node_at old) old.root (sweep paint_marks also hs at_top f)) (sym root.is)
        (root_repainted cell before after also hs old mid lists.nodes is_old None r root.value root.kids root.stands (lists.root r e))
