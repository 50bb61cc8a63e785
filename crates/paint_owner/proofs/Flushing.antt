-- What a flush leaves, from what its steps leave.
use Rattle.std.proofs.Common.{◌≡◌, ℕ, zero, suc, ◌+◌, Bool, true, false, not, ◌&&◌, ◌||◌, if◌then◌else◌, Option, Some, None, option_map, List, [], ◌∷◌, ◌++◌, length, refl, ap, sym, ◌∙◌, subst, arith, true≢false}
use Rattle.std.proofs.lemmas.Grind.{common_steps}
use Rattle.std.specs.Option.{option_to_list}
use Rattle.fx_handles.specs.declared.Handle.{Handle}
use Rattle.fx_geom.specs.declared.shapes.Offset.{Offset}
use Rattle.fx_geom.specs.declared.shapes.Size.{Size}
use Rattle.fx_geom.specs.Offset.{origin}
use Rattle.delegates.specs.Table.{Plug}
use Rattle.handle_shelf.specs.Shelf.{kept_at}
use Rattle.node_tree.specs.Forest.{TreeNode, Forest, tops, In, count, IsDistinct, Stands, below, map_values}
use Rattle.node_tree.specs.Forest.Forest.{none, tree}
use Rattle.node_tree.specs.Tree.{Tree, node_at, parent_at, IsNode, Is, subtree_at, StandsAt, Holds}
use Rattle.node_tree.specs.Children.{MapsValues}
use Rattle.node_tree.proofs.Children.{mapped_is}
use Rattle.node_tree.proofs.TreeLemmas.{subtree_is}
use Rattle.screen_form.specs.Painted.{has_child, layer_of}
use Rattle.tree_marks.specs.Closed.{any_flag, any_mark}
use Rattle.render_tree.specs.Marks.{paint_marks}
use Rattle.render_tree.specs.Object.{RenderObject}
use Rattle.render_tree.specs.Plain.{laid_of, laids_of, root_below, root_tree}
use Rattle.render_tree.specs.Readings.{needs_paint_of, paint_below_of}
use Rattle.render_tree.specs.Tree.{object_at}
use Rattle.kept_layers.specs.Done.{AgreesAt, IsTold, IsDone}
use Rattle.kept_layers.specs.GroupPart.{GroupPart}
use Rattle.kept_layers.specs.Group.{is_boundary, opens, goes_in, own_parts, group_role, parts_below, group_parts, group_count}
use Rattle.kept_layers.specs.KeptLayers.{KeptLayers, IsRight, IsMarked, IsCalm, filled, or_nil}
use Rattle.kept_layers.specs.Steps.{Told, is_nil, stale, redo_all, painted_count, counted, IsCounted, is_listed, calm_listed}
use Rattle.kept_layers.specs.Top.{root_parts}
use Rattle.kept_layers.proofs.Agreeing.{IsRight-done}
use Rattle.kept_layers.proofs.Calming.{fresh_after}
use Rattle.kept_layers.proofs.Counting.{stale_cost}
use Rattle.kept_layers.proofs.Filling.{root_filled}
use Rattle.kept_layers.proofs.Listing.{absent}
use Rattle.kept_layers.proofs.Redoing.{run_other, stale_others, own_slots, live_run}
use Rattle.paint_owner.specs.PaintOwner.{PaintOwner, kept_of, frame_layer, KeepsRoot, IsRootFresh, IsKept}
use Rattle.paint_owner.specs.Settled.{is_entered, settled, first_settled, IsRootShown, IsPaintedCalm, Settles}
use Rattle.paint_owner.specs.Finding.{gathered, has_flag, is_quiet, flagged, quiet, unmarked_listed, told, cost, root_flag, root_count}
use Rattle.paint_owner.proofs.Clearing.{IsCleared, maps_at, maps_subtree, nothing_cleared, cleared_then}
use Rattle.paint_owner.proofs.Gathered.{tree_stands, cleared, cleared_is, none_cleared, not_listed, gathered_in, quiet_calm}
use Rattle.paint_owner.proofs.Settled.{either, or_false, IsFresh-settled, IsMarked-settled, parts_settled, laids_settled, painted_calm, calm_stale, settled_is}

-- ---- the nodes of a forest that stands

module _ (cell : Size) (delegates : List Plug) (t : Tree RenderObject) where
  -- what stands below a node, and its value
  own_tree : (q : Option Handle) (h : Handle) (o : RenderObject) (kids rest : Forest RenderObject) → Stands (node_at t) q (tree h o kids rest) → IsDistinct (tree h o kids rest)
      → subtree_at t h ≡ tree h o kids none
  own_tree q h o kids rest stands distinct = subtree_is t h (tree h o kids none) (tree_stands t q h o kids rest stands distinct)

  own_value : (q : Option Handle) (h : Handle) (o : RenderObject) (kids rest : Forest RenderObject) → Stands (node_at t) q (tree h o kids rest) → object_at t h ≡ Some o
  own_value q h o kids rest stands = ap (option_map (λ (n : TreeNode RenderObject). n.value)) stands.0

  few_below : (h : Handle) (o : RenderObject) (kids rest : Forest RenderObject) → IsDistinct (tree h o kids rest) → IsDistinct kids
  few_below h o kids rest distinct k = let few = distinct k in omega (arith, few)

  few_rest : (h : Handle) (o : RenderObject) (kids rest : Forest RenderObject) → IsDistinct (tree h o kids rest) → IsDistinct rest
  few_rest h o kids rest distinct k = let few = distinct k in omega (arith, few)

  -- the tree tells of each boundary what it is
  pub tells : (q : Option Handle) (f : Forest RenderObject) → Stands (node_at t) q f → IsDistinct f → IsTold cell delegates (told cell delegates t) f
  tells q none stands distinct = tt
  tells q (tree h o kids rest) stands distinct = (
    (λ is. λ i. record {
      flag = needs_paint_of (own_value q h o kids rest stands i);
      group = group_parts cell delegates (below (own_tree q h o kids rest stands distinct i)) origin;
    }),
    tells (Some h) kids stands.1 (few_below h o kids rest distinct),
    tells q rest stands.2 (few_rest h o kids rest distinct),
  )

  -- and costs so much
  pub costs : (q : Option Handle) (f : Forest RenderObject) → Stands (node_at t) q f → IsDistinct f → IsCounted (cost t) f
  costs q none stands distinct = tt
  costs q (tree h o kids rest) stands distinct = (
    (λ is. λ i. if needs_paint_of (own_value q h o kids rest stands i) then suc (group_count (below (own_tree q h o kids rest stands distinct i))) else 0),
    costs (Some h) kids stands.1 (few_below h o kids rest distinct),
    costs q rest stands.2 (few_rest h o kids rest distinct),
  )

-- ---- the stale boundaries

-- they stand in the forest
pub stale_in : (k : Handle) (f : Forest RenderObject) → is_listed k (stale f) ≡ true → In k f
stale_in k f e = by_count (count k f) refl
  where
    by_count : (n : ℕ) → count k f ≡ n → In k f
    by_count zero c = absurd (true≢false (sym e ∙ absent k f c))
    by_count (suc n) c = omega (arith, c)

-- and hold
pub stale_hold : (t : Tree RenderObject) (r : Handle) → ((k : Handle) → IsNode t k → Holds t k) → ((k : Handle) → In k (subtree_at t r) → IsNode t k) → (hs : List Handle) → hs ≡ stale (subtree_at t r)
    → (k : Handle) → is_listed k hs ≡ true → Holds t k
stale_hold t r hold live hs is k e = hold k (live k (stale_in k (subtree_at t r) (sym (ap (is_listed k) is) ∙ e)))

-- what is kept of other live nodes stays
pub stay_beside : (t : Tree RenderObject) (tellings : Handle → Told) (s : KeptLayers) (f : Forest RenderObject) (k : Handle) → ((j : Handle) → In j f → IsNode t j) → IsNode t k → (In k f → ⊥)
    → AgreesAt s (redo_all tellings (stale f) s) k
stay_beside t tellings s f k live lk out =
    run_other (IsNode t) (own_slots t) tellings k (stale f) s lk (stale_others (IsNode t) (own_slots t) k f live (none_of (count k f) refl))
  where
    none_of : (n : ℕ) → count k f ≡ n → count k f ≡ 0
    none_of zero c = c
    none_of (suc n) c = absurd (out (omega (arith, c)))

-- ---- the root

module _ (cell : Size) (delegates : List Plug) where
  -- it keeps its own parts, and the layer of the frame as these give it
  pub root_kept : (f : Forest RenderObject) (old new : PaintOwner) (tellings : Handle → Told) → IsRootFresh cell delegates old f → IsRootShown f
      → new.top ≡ (if root_flag f then Some (root_parts cell delegates f) else old.top)
      → new.root ≡ (if root_flag f || not (is_nil (stale f)) then Some (frame_layer (filled (kept_at new.wholes) (or_nil new.top))) else old.root)
      → kept_of new ≡ redo_all tellings (stale f) (kept_of old) → KeepsRoot cell delegates new f
  root_kept none old new tellings fresh shown top root kept = absurd shown
  root_kept (tree h o kids rest) old new tellings fresh shown top root kept = by_flag o.needs_paint (stale (tree h o kids rest)) refl refl
    where
      f : Forest RenderObject
      f = tree h o kids rest

      parts : List GroupPart
      parts = root_parts cell delegates f

      flag_root : (o.needs_paint || not (is_nil (stale f))) ≡ true → new.top ≡ Some parts → KeepsRoot cell delegates new f
      flag_root e is = record {
        top = is;
        root = root ∙ ap (λ b. if b then Some (frame_layer (filled (kept_at new.wholes) (or_nil new.top))) else old.root) e
            ∙ ap (λ ps. Some (frame_layer (filled (kept_at new.wholes) (or_nil ps)))) is;
      }

      by_flag : (b : Bool) (hs : List Handle) → o.needs_paint ≡ b → stale f ≡ hs → KeepsRoot cell delegates new f
      by_flag true hs e es = flag_root (ap (λ b. b || not (is_nil (stale f))) e) (top ∙ ap (λ b. if b then Some parts else old.top) e)
      by_flag false (k ∷ ks) e es =
          flag_root (λ i. e i || not (is_nil (es i))) (top ∙ ap (λ b. if b then Some parts else old.top) e ∙ (fresh e).top)
      by_flag false [] e es =
          let same_wholes : kept_at old.wholes ≡ kept_at new.wholes = ap (λ (s : KeptLayers). s.wholes) (sym (kept ∙ ap (λ hs. redo_all tellings hs (kept_of old)) es)) in
          record {
            top = top ∙ ap (λ b. if b then Some parts else old.top) e ∙ (fresh e).top;
            root = root ∙ (λ i. if e i || not (is_nil (es i)) then Some (frame_layer (filled (kept_at new.wholes) (or_nil new.top))) else old.root)
                ∙ (fresh e).root ∙ ap (λ w. Some (frame_layer (filled w parts))) same_wholes;
          }

  -- that layer is the one of a full painting
  pub root_is : (f : Forest RenderObject) (o : PaintOwner) → IsRootShown f → KeepsRoot cell delegates o f → IsRight cell delegates (kept_of o) f
      → o.root ≡ option_map (layer_of cell delegates) (laid_of f)
  root_is none o shown keeps right = absurd shown
  root_is (tree h v kids rest) o shown keeps right =
      keeps.root ∙ ap (λ es. Some (frame_layer es)) (root_filled cell delegates (kept_of o) h v kids (right.0, tt) shown)

  -- flags and marks aren't painted
  part_of_root : Handle → RenderObject → Bool → (Offset → List GroupPart) → List GroupPart
  part_of_root h o has inside = own_parts cell delegates h o origin ++ parts_below (group_role o has origin) origin inside

  root_parts_settled : (f : Forest RenderObject) → root_parts cell delegates (settled f) ≡ root_parts cell delegates f
  unfolding part_of_root
  root_parts_settled none = refl
  root_parts_settled (tree h o kids rest) =
      let inner : Forest RenderObject = if is_entered o then settled kids else kids in
      let has : has_child (laids_of inner) ≡ has_child (laids_of kids) = ap has_child (either laids_of (is_entered o) (settled kids) kids (laids_settled kids)) in
      let inside : (r : Offset) → group_parts cell delegates inner r ≡ group_parts cell delegates kids r =
      λ r. either (λ g. group_parts cell delegates g r) (is_entered o) (settled kids) kids (parts_settled cell delegates kids r) in
      ap (λ v. root_parts cell delegates (tree h v inner (settled rest))) (settled_is (settled kids) o)
      ∙ (λ i. part_of_root h o (has i) (λ r. inside r i))

  pub fresh_root : (f : Forest RenderObject) (o : PaintOwner) → KeepsRoot cell delegates o f → IsRootFresh cell delegates o (settled f)
  fresh_root none o keeps = tt
  fresh_root (tree h v kids rest) o keeps = λ calm. record {
    top = keeps.top ∙ ap (λ ps. Some ps) (sym (root_parts_settled (tree h v kids rest)));
    root = keeps.root ∙ ap (λ ps. Some (frame_layer (filled (kept_at o.wholes) ps))) (sym (root_parts_settled (tree h v kids rest)));
  }

-- the root's own parts cost what its group costs
pub root_costs : (f : Forest RenderObject) (r : Handle) → tops f ≡ r ∷ [] → IsRootShown f → root_count f ≡ group_count f
root_costs none r top shown = absurd shown
root_costs (tree h o kids none) r top shown = by_kind (is_boundary o) ∙ ap (λ s. (if s && not (is_boundary o) then suc (if opens o then group_count kids else 0) else 0) + 0) (sym shown)
  where
    by_kind : (b : Bool) → (if b then 0 else suc (if opens o then group_count kids else 0)) ≡ (if true && not b then suc (if opens o then group_count kids else 0) else 0) + 0
    by_kind true = refl
    by_kind false = omega arith
root_costs (tree h o kids (tree k v more rest)) r top shown = absurd (let e : length (h ∷ k ∷ tops rest) ≡ length (r ∷ []) = ap length top in let more : length (h ∷ k ∷ tops rest) ≡ length (tops rest) + 2 = grind (arith, common_steps) in let one : length (r ∷ []) ≡ 1 = refl in omega arith)

-- ---- the tree

map_twice : (f g : Handle → RenderObject → RenderObject) (x : Forest RenderObject) → map_values (λ k o. f k (g k o)) x ≡ map_values f (map_values g x)
map_twice f g none = refl
map_twice f g (tree h o kids rest) = λ i. tree h (f h (g h o)) (map_twice f g kids i) (map_twice f g rest i)

-- what is taken away where these are the lists
abbrev pub all_cleared : List Handle → List Handle → Handle → RenderObject → RenderObject
all_cleared flags marks k o = unmarked_listed marks k (calm_listed flags k o)

cleared_all : (flags marks : List Handle) (f : Forest RenderObject) → map_values (all_cleared flags marks) f ≡ cleared flags marks f
cleared_all flags marks f = map_twice (unmarked_listed marks) (calm_listed flags) f

own_lists : (f : Forest RenderObject) → IsDistinct f → map_values (all_cleared (flagged f) (quiet f)) f ≡ settled f
own_lists f distinct = cleared_all (flagged f) (quiet f) f ∙ cleared_is (flagged f) (quiet f) f distinct (λ k is. refl) (λ k is. refl)

-- nodes beside the first tree
not_gathered : (picks : RenderObject → Forest RenderObject → Bool) (k h : Handle) (o : RenderObject) (kids rest : Forest RenderObject) → IsDistinct (tree h o kids rest) → In k rest
    → is_listed k (gathered picks (tree h o kids none)) ≡ false
not_gathered picks k h o kids rest distinct is =
    let few = distinct k in
    not_listed picks k (tree h o kids none) (omega (arith, few, is))

first_is : (h : Handle) (o : RenderObject) (kids rest : Forest RenderObject) → IsDistinct (tree h o kids rest)
    → map_values (all_cleared (flagged (tree h o kids none)) (quiet (tree h o kids none))) (tree h o kids rest) ≡ first_settled (tree h o kids rest)
first_is h o kids rest distinct =
    let first : Forest RenderObject = tree h o kids none in
    let g : Handle → RenderObject → RenderObject = all_cleared (flagged first) (quiet first) in
    let mine : map_values g first ≡ settled first = own_lists first (λ k. let few = distinct k in omega (arith, few)) in
    let others : map_values g rest ≡ rest =
    cleared_all (flagged first) (quiet first) rest
    ∙ none_cleared (flagged first) (quiet first) rest (λ k is. not_gathered has_flag k h o kids rest distinct is) (λ k is. not_gathered is_quiet k h o kids rest distinct is) in
    (λ i. with_rest (mine i) (others i))
  where
    with_rest : Forest RenderObject → Forest RenderObject → Forest RenderObject
    with_rest none rest = none
    with_rest (tree h o kids more) rest = tree h o kids rest

module _ (t t2 : Tree RenderObject) (r : Handle) (is_root : t.root ≡ Some r) (holds : Holds t r)
    (cleared : IsCleared (all_cleared (flagged (subtree_at t r)) (quiet (subtree_at t r))) t t2) where
  abbrev g : Handle → RenderObject → RenderObject
  g = all_cleared (flagged (subtree_at t r)) (quiet (subtree_at t r))

  pub new_subtree : subtree_at t2 r ≡ settled (subtree_at t r)
  new_subtree = maps_subtree g t t2 r cleared.values holds ∙ own_lists (subtree_at t r) holds.distinct

  pub new_root : root_tree t2 ≡ settled (root_tree t)
  new_root =
      ap (root_below t2) (cleared.root ∙ is_root) ∙ new_subtree ∙ sym (ap (λ x. settled (root_below t x)) is_root)

  plain_is : (f : Forest RenderObject) → Is t f → map_values g f ≡ first_settled f
  plain_is none is = refl
  plain_is (tree h o kids rest) is =
      let same_tops : r ∷ t.inactive ≡ h ∷ tops rest = sym (ap (λ (x : Option Handle). option_to_list x ++ t.inactive) is_root) ∙ is.tops in
      let here : r ≡ h = ap (first_of r) same_tops in
      let mine : subtree_at t r ≡ tree h o kids none = ap (subtree_at t) here ∙ subtree_is t h (tree h o kids none) (tree_stands t None h o kids rest is.stands is.distinct) in
      ap (λ x. map_values (all_cleared (flagged x) (quiet x)) (tree h o kids rest)) mine ∙ first_is h o kids rest is.distinct
    where
      first_of : Handle → List Handle → Handle
      first_of z [] = z
      first_of z (x ∷ xs) = x

  pub settles : Settles t t2
  settles = record {
    plain = λ f is. subst (Is t2) (plain_is f is) (mapped_is g t t2 f is cleared.values (λ i. option_to_list (cleared.root i) ++ cleared.inactive i));
    root = cleared.root;
    inactive = cleared.inactive;
    handles = cleared.handles;
  }

-- ---- all together

-- what the steps of a flush leave, where the root's tree is f
pub record Flushes (cell : Size) (delegates : List Plug) (t t2 : Tree RenderObject) (old new : PaintOwner) (before after : ℕ) (f : Forest RenderObject) : Type 0 where
  pub kept : kept_of new ≡ redo_all (told cell delegates t) (stale f) (kept_of old)
  pub top : new.top ≡ (if root_flag f then Some (root_parts cell delegates f) else old.top)
  pub root : new.root ≡ (if root_flag f || not (is_nil (stale f)) then Some (frame_layer (filled (kept_at new.wholes) (or_nil new.top))) else old.root)
  pub tree : IsCleared (all_cleared (flagged f) (quiet f)) t t2
  pub paints : after ≡ before + counted (cost t) (stale f) + (if root_flag f then root_count f else 0)

module _ (cell : Size) (delegates : List Plug) (t t2 : Tree RenderObject) (r : Handle) (is_root : t.root ≡ Some r) (holds : Holds t r) (live : (k : Handle) → In k (subtree_at t r) → IsNode t k)
    (old new : PaintOwner) (before after : ℕ) (shown : IsRootShown (root_tree t)) (keeps : IsKept cell delegates old (root_tree t))
    (steps : Flushes cell delegates t t2 old new before after (subtree_at t r)) where
  abbrev f : Forest RenderObject
  f = subtree_at t r

  root_tree_is : root_tree t ≡ f
  root_tree_is = ap (root_below t) is_root

  shown_f : IsRootShown f
  shown_f = subst IsRootShown root_tree_is shown

  keeps_f : IsKept cell delegates old f
  keeps_f = subst (IsKept cell delegates old) root_tree_is keeps

  done : IsDone cell delegates (kept_of old) (kept_of new) f
  done =
      subst (λ s. IsDone cell delegates (kept_of old) s f) (sym steps.kept)
      (live_run cell delegates t (told cell delegates t) f (kept_of old) (tells cell delegates t (parent_at t r) f holds.stands holds.distinct) keeps_f.boundaries live holds.distinct)

  keeps_root : KeepsRoot cell delegates new f
  keeps_root = root_kept cell delegates f old new (told cell delegates t) keeps_f.root shown_f steps.top steps.root steps.kept

  pub flush_layer : new.root ≡ option_map (layer_of cell delegates) (laid_of (root_tree t))
  flush_layer =
      root_is cell delegates f new shown_f keeps_root (IsRight-done cell delegates (kept_of old) (kept_of new) f done)
      ∙ sym (ap (λ x. option_map (layer_of cell delegates) (laid_of x)) root_tree_is)

  new_tree : root_tree t2 ≡ settled f
  new_tree = new_root t t2 r is_root holds steps.tree ∙ ap settled root_tree_is

  pub flush_kept : IsKept cell delegates new (root_tree t2)
  flush_kept = subst (IsKept cell delegates new) (sym new_tree) (record {
    boundaries = IsFresh-settled cell delegates (kept_of new) f keeps_f.marks (fresh_after cell delegates (kept_of old) (kept_of new) f keeps_f.boundaries done);
    root = fresh_root cell delegates f new keeps_root;
    marks = IsMarked-settled f keeps_f.marks;
  })

  -- so it is where the cells are as large
  pub flush_kept_at : (other : Size) → other ≡ cell → IsKept other delegates new (root_tree t2)
  flush_kept_at other same = subst (λ x. IsKept x delegates new (root_tree t2)) (sym same) flush_kept

  pub flush_calm : IsPaintedCalm (root_tree t2)
  flush_calm = subst IsPaintedCalm (sym new_tree) (painted_calm f keeps_f.marks)

  pub flush_beside : (k : Handle) → IsNode t k → (In k (root_tree t) → ⊥) → AgreesAt (kept_of old) (kept_of new) k
  flush_beside k lk out =
      subst (λ s. AgreesAt (kept_of old) s k) (sym steps.kept)
      (stay_beside t (told cell delegates t) (kept_of old) f k live lk (λ is. out (subst (In k) (sym root_tree_is) is)))

  pub flush_settles : Settles t t2
  flush_settles = settles t t2 r is_root holds steps.tree

  pub flush_paints : after ≡ before + painted_count (root_flag (root_tree t)) (root_tree t)
  flush_paints =
      let all = stale_cost (cost t) (root_flag f) f (costs cell delegates t (parent_at t r) f holds.stands holds.distinct) in
      let own : (if root_flag f then root_count f else 0) ≡ (if root_flag f then group_count f else 0) = ap (λ n. if root_flag f then n else 0) (root_costs f r holds.top shown_f) in
      omega (arith, steps.paints, all, own, ap (λ x. painted_count (root_flag x) x) root_tree_is)

-- ---- where nothing is marked

-- nothing is stale or flagged there
pub record IsStill (f : Forest RenderObject) : Type 0 where
  pub stale : stale f ≡ []
  pub flag : root_flag f ≡ false
  pub flagged : flagged f ≡ []
  pub quiet : quiet f ≡ []

pub still : (t : Tree RenderObject) (r : Handle) (o : RenderObject) → subtree_at t r ≡ tree r o (below (subtree_at t r)) none → o.needs_paint ≡ false → o.paint_below ≡ false
    → IsMarked (subtree_at t r) → IsStill (subtree_at t r)
still t r o opened flag mark marked =
    let kids : Forest RenderObject = below (subtree_at t r) in
    let calm : IsCalm kids = (subst IsMarked opened marked).0 mark in
    subst IsStill (sym opened) (record {
      stale = calm_stale (tree r o kids none) (flag, calm, tt);
      flag = flag;
      flagged = (λ i. (if goes_in o && mark i then flagged kids else []) ++ (if o.shown && flag i then r ∷ [] else []) ++ []) ∙ none_of (goes_in o) o.shown;
      quiet = (λ i. (if goes_in o && mark i then quiet kids else []) ++ (if (goes_in o && mark i) && not (any_mark paint_marks (settled kids)) then r ∷ [] else []) ++ []) ∙ no_quiet (goes_in o) (any_mark paint_marks (settled kids));
    })
  where
    none_of : (g s : Bool) → (if g && false then flagged (below (subtree_at t r)) else []) ++ (if s && false then r ∷ [] else []) ++ [] ≡ []
    none_of true true = refl
    none_of true false = refl
    none_of false true = refl
    none_of false false = refl

    no_quiet : (g m : Bool) → (if g && false then quiet (below (subtree_at t r)) else []) ++ (if (g && false) && not m then r ∷ [] else []) ++ [] ≡ []
    no_quiet true m = refl
    no_quiet false m = refl

pub flushes_still : (cell : Size) (delegates : List Plug) (t : Tree RenderObject) (o : PaintOwner) (n : ℕ) (f : Forest RenderObject) → IsStill f → Flushes cell delegates t t o o n n f
flushes_still cell delegates t o n f still = record {
  kept = ap (λ hs. redo_all (told cell delegates t) hs (kept_of o)) (sym still.stale);
  top = ap (λ b. if b then Some (root_parts cell delegates f) else o.top) (sym still.flag);
  root = λ i. if sym still.flag i || not (is_nil (sym still.stale i)) then Some (frame_layer (filled (kept_at o.wholes) (or_nil o.top))) else o.root;
  tree = subst (λ hs. IsCleared (all_cleared hs (quiet f)) t t) (sym still.flagged) (subst (λ hs. IsCleared (all_cleared [] hs) t t) (sym still.quiet) (nothing_cleared t));
  paints = let a = ap (λ hs. counted (cost t) hs) still.stale in let b = ap (λ b. if b then root_count f else 0) still.flag in omega (arith, a, b);
}

-- ---- a node that holds

-- there is a value
pub held : (t : Tree RenderObject) (r : Handle) (s : Forest RenderObject) → StandsAt t r s → (o : RenderObject) × (object_at t r ≡ Some o)
held t r none st =
    absurd (let e = ap length st.top in let a : length {A = Handle} [] ≡ 0 = refl in let b : length {A = Handle} (r ∷ []) ≡ 1 = refl in omega arith)
held t r (tree h o kids rest) st =
    let here : h ≡ r = ap (first_handle r) st.top in
    (o, ap (object_at t) (sym here) ∙ ap (option_map (λ (n : TreeNode RenderObject). n.value)) st.stands.0)
  where
    first_handle : Handle → List Handle → Handle
    first_handle z [] = z
    first_handle z (x ∷ xs) = x

-- where the root has neither flag nor mark
pub quiet_steps : (cell : Size) (delegates : List Plug) (t : Tree RenderObject) (r : Handle) → t.root ≡ Some r → Holds t r
    → ((o : RenderObject) → object_at t r ≡ Some o → subtree_at t r ≡ tree r o (below (subtree_at t r)) none)
    → (needs_paint_of (object_at t r) || paint_below_of (object_at t r)) ≡ false → IsMarked (root_tree t) → (p : PaintOwner) (n : ℕ)
    → Flushes cell delegates t t p p n n (subtree_at t r)
quiet_steps cell delegates t r is_root holds opened due marked p n =
    let o = held t r (subtree_at t r) holds in
    let marks = or_false (needs_paint_of (object_at t r)) (paint_below_of (object_at t r)) due in
    flushes_still cell delegates t p n (subtree_at t r)
    (still t r o.0 (opened o.0 o.1) (sym (ap needs_paint_of o.1) ∙ marks.0) (sym (ap paint_below_of o.1) ∙ marks.1) (subst IsMarked (ap (root_below t) is_root) marked))

-- ---- marks that are taken away after the flags

pub holds_mapped : (g : Handle → RenderObject → RenderObject) (old new : Tree RenderObject) (h : Handle) → MapsValues g old new → Holds old h → Holds new h
holds_mapped g old new h maps holds = subst (StandsAt new h) (sym (maps_subtree g old new h maps holds)) (maps_at g old new h maps holds)

module _ (t t1 : Tree RenderObject) (r : Handle) (holds : Holds t r) (hold : (k : Handle) → IsNode t k → Holds t k) (live : (k : Handle) → In k (subtree_at t r) → IsNode t k)
    (flags marks : List Handle) (is_flags : flags ≡ flagged (subtree_at t r)) (is_marks : marks ≡ quiet (subtree_at t r)) (maps : MapsValues (calm_listed flags) t t1) where
  quiet_holds : (k : Handle) → is_listed k marks ≡ true → Holds t k
  quiet_holds k e = hold k (live k (gathered_in is_quiet k (subtree_at t r) (sym (ap (is_listed k) is_marks) ∙ e)))

  pub marks_hold : (k : Handle) → is_listed k marks ≡ true → Holds t1 k
  marks_hold k e = holds_mapped (calm_listed flags) t t1 k maps (quiet_holds k e)

  pub marks_calm : IsMarked (subtree_at t r) → (k : Handle) → is_listed k marks ≡ true → any_flag paint_marks (below (subtree_at t1 k)) ≡ false
  marks_calm marked k e =
      ap (λ s. any_flag paint_marks (below s)) (maps_subtree (calm_listed flags) t t1 k maps (quiet_holds k e))
      ∙ quiet_calm t (subtree_is t) flags marks (parent_at t r) (subtree_at t r) holds.stands holds.distinct marked (λ j is. ap (is_listed j) is_flags) (λ j is. ap (is_listed j) is_marks) k
      (sym (ap (is_listed k) is_marks) ∙ e)

pub both_cleared : (t t1 t2 : Tree RenderObject) (flags marks fl qu : List Handle) → flags ≡ fl → marks ≡ qu → IsCleared (calm_listed flags) t t1 → IsCleared (unmarked_listed marks) t1 t2
    → IsCleared (all_cleared fl qu) t t2
both_cleared t t1 t2 flags marks fl qu is_flags is_marks first second =
    subst (λ hs. IsCleared (all_cleared hs qu) t t2) is_flags (subst (λ hs. IsCleared (all_cleared flags hs) t t2) is_marks (cleared_then (unmarked_listed marks) (calm_listed flags) t t1 t2 first second))

-- ---- while it works it counts as spent

abbrev pub spent_is : Bool → PaintOwner → PaintOwner
spent_is b o = record o { spent = b }

pub spend : (cell : Size) (delegates : List Plug) (t t2 : Tree RenderObject) (o n : PaintOwner) (before after : ℕ) (f : Forest RenderObject)
    → Flushes cell delegates t t2 (spent_is true o) n before after f → Flushes cell delegates t t2 o (spent_is false n) before after f
spend cell delegates t t2 o n before after f s = record { kept = s.kept; top = s.top; root = s.root; tree = s.tree; paints = s.paints }
