-- Lemmas on a node's children as places in the forest below it, on forests one after another, and on what edits keep.
use Rattle.std.proofs.Common.{◌≡◌, ℕ, zero, suc, ◌+◌, ◌<◌, ◌≤◌, cond, List, [], ◌∷◌, ◌++◌, length, get_or, drop, Option, Some, None, option_map, refl, sym, ap, ◌∙◌, subst, arith}
use Rattle.std.proofs.lemmas.List.{append_assoc}
use Rattle.fx_handles.specs.declared.Handle.{Handle}
use Rattle.fx_handles.specs.Handle.{same, Among}
use Rattle.fx_handles.specs.HandleLaws.{times-cons, times_here}
use Rattle.fx_handles.specs.ArenaLaws.{some_of}
use Rattle.node_tree.specs.Forest.{TreeNode, Forest, tops, weigh, In, IsDistinct, append, below, skip, first_trees, map_values, Stands, SameShape}
use Rattle.node_tree.specs.Forest.Forest.{none, tree}
use Rattle.node_tree.specs.Tree.{Tree, node_at, IsNode, parent_of, children_of, parent_at, children_at, value_at, tops_at, Is, subtree_at, StandsAt, Holds}
use Rattle.node_tree.specs.Children.{Nth, Keeps, MapsValues}
use Rattle.node_tree.specs.Edits.{Adds}
use Rattle.node_tree.specs.Plan.{PlanEntry, entries}
use Rattle.node_tree.proofs.ForestLemmas.{same_Some, count_here, Stands-same, node_in}
use Rattle.node_tree.proofs.TreeLemmas.{is_node, mapped_node, subtree_is}

-- a handle at a place of a list stands in it
pub among_at : (cs : List Handle) (i : ℕ) (z : Handle) → i < length cs → Among (get_or cs i z) cs
among_at [] i z within = absurd (omega arith)
among_at (c ∷ cs) zero z within = omega (arith, times_here c cs)
among_at (c ∷ cs) (suc i) z within = omega (arith, times-cons (get_or cs i z) c cs, among_at cs i z (omega arith))

module _ {T : Type 0} where
  -- trees one after another
  pub append-none : (f : Forest T) → append f none ≡ f
  append-none none = refl
  append-none (tree h v kids rest) = ap (λ g. tree h v kids g) (append-none rest)

  pub append-append : (f g k : Forest T) → append (append f g) k ≡ append f (append g k)
  append-append none g k = refl
  append-append (tree h v kids rest) g k = ap (λ x. tree h v kids x) (append-append rest g k)

  pub entries-append : (p : Option Handle) (f g : Forest T) → entries p (append f g) ≡ entries p f ++ entries p g
  entries-append p none g = refl
  entries-append p (tree h v kids rest) g =
      let entry : PlanEntry T = record { at = h; parent = p; children = tops kids; update = v } in
      ap (λ es. entries (Some h) kids ++ entry ∷ es) (entries-append p rest g) ∙ sym (append_assoc (entries (Some h) kids) (entry ∷ entries p rest) (entries p g))

  -- the first trees and the others
  pub first-skip : (i : ℕ) (f : Forest T) → append (first_trees i f) (skip i f) ≡ f
  first-skip zero f = refl
  first-skip (suc i) none = refl
  first-skip (suc i) (tree h v kids rest) = ap (λ g. tree h v kids g) (first-skip i rest)

  pub tops-skip : (i : ℕ) (f : Forest T) → tops (skip i f) ≡ drop i (tops f)
  tops-skip zero f = refl
  tops-skip (suc i) none = refl
  tops-skip (suc i) (tree h v kids rest) = tops-skip i rest

  pub skip_all : (i : ℕ) (f : Forest T) → length (tops f) ≤ i → skip i f ≡ none
  skip_all zero none past = refl
  skip_all zero (tree h v kids rest) past = absurd (omega arith)
  skip_all (suc i) none past = refl
  skip_all (suc i) (tree h v kids rest) past = skip_all i rest (omega arith)

  -- a node's tree, and what is below it
  pub opened : (t : Tree T) (h : Handle) (v : T) → Holds t h → value_at t h ≡ Some v → subtree_at t h ≡ tree h v (below (subtree_at t h)) none
  opened t h v holds is = by_forest (subtree_at t h) holds.top holds.stands
    where
      by_forest : (s : Forest T) → tops s ≡ h ∷ [] → Stands (node_at t) (parent_at t h) s → s ≡ tree h v (below s) none
      by_forest none top stands = absurd (cc)
      by_forest (tree k w kids none) top stands =
          let here : k ≡ h = first_of_one top in
          let value : w ≡ v = same_Some (sym (ap (option_map (λ (n : TreeNode T). n.value)) (ap (node_at t) (sym here) ∙ stands.0)) ∙ is) in
          ap (λ x. tree x w kids none) here ∙ ap (λ x. tree h x kids none) value
        where
          first_of_one : {x y : Handle} → x ∷ [] ≡ y ∷ [] → x ≡ y
          first_of_one e = cc
      by_forest (tree k w kids (tree x y b r)) top stands = absurd (cc)

  pub below-stands : (t : Tree T) (h : Handle) → Holds t h → Stands (node_at t) (Some h) (below (subtree_at t h)) × (tops (below (subtree_at t h)) ≡ children_at t h) × IsDistinct (below (subtree_at t h))
  below-stands t h holds = by_forest (subtree_at t h) holds.top holds.stands holds.distinct
    where
      by_forest : (s : Forest T) → tops s ≡ h ∷ [] → Stands (node_at t) (parent_at t h) s → IsDistinct s → Stands (node_at t) (Some h) (below s) × (tops (below s) ≡ children_at t h) × IsDistinct (below s)
      by_forest none top stands distinct = absurd (cc)
      by_forest (tree k w kids rest) top stands distinct =
          let here : k ≡ h = first_of_list top in (
            let P : Handle → Type 0 = λ x. Stands (node_at t) (Some x) kids in subst P here stands.1,
            sym (ap children_of (ap (node_at t) (sym here) ∙ stands.0)),
            λ x. omega (arith, distinct x),
          )
        where
          first_of_list : {x y : Handle} {xs ys : List Handle} → x ∷ xs ≡ y ∷ ys → x ≡ y
          first_of_list e = cc

  -- a tree of a forest that stands is its node's
  pub nth : (t : Tree T) (p : Option Handle) (f : Forest T) (i : ℕ) (z : Handle) → Stands (node_at t) p f → IsDistinct f → i < length (tops f) → Nth t f i (get_or (tops f) i z)
  nth t p none i z stands distinct within = absurd (omega arith)
  nth t p (tree h v kids rest) zero z stands distinct within =
      let parent : parent_at t h ≡ p = ap parent_of stands.0 in
      let here : StandsAt t h (tree h v kids none) = record { top = refl; stands = rw parent (stands.0, stands.1, tt); distinct = λ x. omega (arith, distinct x) } in
      let is = subtree_is t h (tree h v kids none) here in
      record {
        value = v;
        kids = kids;
        skips = refl;
        value_is = ap (option_map (λ (n : TreeNode T). n.value)) stands.0;
        subtree = is;
        holds = rw is here;
      }
  nth t p (tree h v kids rest) (suc i) z stands distinct within =
      let later = nth t p rest i z stands.2 (λ x. omega (arith, distinct x)) (omega arith) in
      let after : suc i + 1 ≡ suc (i + 1) = omega arith in
      record {
        value = later.value;
        kids = later.kids;
        skips = later.skips ∙ ap (λ g. tree (get_or (tops rest) i z) later.value later.kids g) (sym (ap (λ j. skip j (tree h v kids rest)) after));
        value_is = later.value_is;
        subtree = later.subtree;
        holds = later.holds;
      }

  pub nth_child : (t : Tree T) (h : Handle) (i : ℕ) (z : Handle) → Holds t h → i < length (children_at t h) → Nth t (below (subtree_at t h)) i (get_or (children_at t h) i z)
  nth_child t h i z holds within =
      let parts = below-stands t h holds in
      rw parts.1 at (nth t (Some h) (below (subtree_at t h)) i z parts.0 parts.2 (rw parts.1 within))

  -- what was there stays
  pub keeps-keeps : (a b c : Tree T) → Keeps a b → Keeps b c → Keeps a c
  keeps-keeps a b c first second = λ k live. second k (rw (first k live) live) ∙ first k live

  pub value-keeps : (old new : Tree T) (k : Handle) (v : T) → Keeps old new → value_at old k ≡ Some v → value_at new k ≡ Some v
  value-keeps old new k v keeps is =
      ap (option_map (λ (n : TreeNode T). n.value)) (keeps k (mapped_node (λ (n : TreeNode T). n.value) (node_at old k) (is_node (value_at old k) v is))) ∙ is

  pub all-live : (t : Tree T) (p : Option Handle) (f : Forest T) (k : Handle) → Stands (node_at t) p f → In k f → IsNode t k
  all-live t p f k stands inside = let node = node_in (node_at t) p f k stands inside in is_node (node_at t k) node.0 node.1

  pub stands-keeps : (old new : Tree T) (p : Option Handle) (f : Forest T) → Keeps old new → Stands (node_at old) p f → Stands (node_at new) p f
  stands-keeps old new p f keeps stands = Stands-same (node_at old) (node_at new) p f stands (λ k inside. keeps k (all-live old p f k stands inside))

  pub subtree-keeps : (old new : Tree T) (h : Handle) → Keeps old new → IsNode old h → Holds old h → (subtree_at new h ≡ subtree_at old h) × Holds new h
  subtree-keeps old new h keeps live holds =
      let parent : parent_at new h ≡ parent_at old h = ap parent_of (keeps h live) in
      let there : StandsAt new h (subtree_at old h) = record { top = holds.top; stands = rw parent (stands-keeps old new (parent_at old h) (subtree_at old h) keeps holds.stands); distinct = holds.distinct } in
      let is = subtree_is new h (subtree_at old h) there in
      (is, rw is there)

  -- a loose node leaves all others as they were
  pub loose-keeps : (old new : Tree T) (h : Handle) (v : T) (i : ℕ) → Adds old.nodes new.nodes None i h v → Keeps old new
  loose-keeps old new h v i adds = λ k live. adds.others k (λ e. absurd (let dead : node_at old k ≡ None = ap (node_at old) e ∙ adds.was_absent in let found = some_of (node_at old k) live in cc)) ∙ unchanged (node_at old k)
    where
      unchanged : (o : Option (TreeNode T)) → option_map (λ n. n) o ≡ o
      unchanged None = refl
      unchanged (Some n) = refl

module _ {T U : Type 0} (g : Handle → T → U) where
  -- values that are changed
  pub tops-map : (f : Forest T) → tops (map_values g f) ≡ tops f
  tops-map none = refl
  tops-map (tree h v kids rest) = ap (λ hs. h ∷ hs) (tops-map rest)

  pub weigh-map : (w : Handle → ℕ) (f : Forest T) → weigh w (map_values g f) ≡ weigh w f
  weigh-map w none = refl
  weigh-map w (tree h v kids rest) = omega (arith, weigh-map w kids, weigh-map w rest)

  pub map-append : (f k : Forest T) → map_values g (append f k) ≡ append (map_values g f) (map_values g k)
  map-append none k = refl
  map-append (tree h v kids rest) k = ap (λ x. tree h (g h v) (map_values g kids) x) (map-append rest k)

  pub shape-map : (f : Forest T) → SameShape f (map_values g f)
  shape-map none = tt
  shape-map (tree h v kids rest) = (refl, shape-map kids, shape-map rest)

  pub map-skip : (i : ℕ) (f : Forest T) → map_values g (skip i f) ≡ skip i (map_values g f)
  map-skip zero f = refl
  map-skip (suc i) none = refl
  map-skip (suc i) (tree h v kids rest) = map-skip i rest

module _ {T : Type 0} (g : Handle → T → T) where
  pub Stands-map : (old new : Handle → Option (TreeNode T)) (p : Option Handle) (f : Forest T) → Stands old p f → ((k : Handle) → In k f → new k ≡ option_map (λ (n : TreeNode T). record n { value = g k n.value }) (old k)) → Stands new p (map_values g f)
  Stands-map old new p none stands mapped = tt
  Stands-map old new p (tree h v kids rest) stands mapped = (
    rw (tops-map g kids) (mapped h (count_here h v kids rest) ∙ ap (option_map (λ (n : TreeNode T). record n { value = g h n.value })) stands.0),
    Stands-map old new (Some h) kids stands.1 (λ k inside. mapped k (omega arith)),
    Stands-map old new p rest stands.2 (λ k inside. mapped k (omega arith)),
  )

  pub mapped_is : (old new : Tree T) (f : Forest T) → Is old f → MapsValues g old new → tops_at new ≡ tops_at old → Is new (map_values g f)
  mapped_is old new f is maps same_tops =
      record {
        tops = same_tops ∙ is.tops ∙ sym (tops-map g f);
        stands = Stands-map (node_at old) (node_at new) None f is.stands (λ k inside. maps k);
        distinct = λ x. omega (arith, weigh-map g (λ y. cond {A = ℕ} (same y x) 1 0) f, is.distinct x);
        whole = λ k live. omega (arith, weigh-map g (λ y. cond {A = ℕ} (same y k) 1 0) f, is.whole k (mapped_node (λ (n : TreeNode T). record n { value = g k n.value }) (node_at old k) (rw (maps k) at live)));
      }
