-- Marks that are taken away handle by handle.
use Rattle.std.proofs.Common.{◌≡◌, ◌<◌, ℕ, zero, suc, ◌+◌, Bool, true, false, ◌||◌, cond, if◌then◌else◌, Option, Some, None, option_map, List, [], ◌∷◌, ◌++◌, length, get_or, take, refl, ap, sym, ◌∙◌, arith}
use Rattle.std.proofs.lemmas.Grind.{common_steps}
use Rattle.std.proofs.lemmas.List.{take_more}
use Rattle.fx_handles.specs.declared.Handle.{Handle}
use Rattle.fx_handles.specs.Handle.{same}
use Rattle.fx_handles.specs.HandleLaws.{same_self, same-true}
use Rattle.node_tree.specs.Forest.{TreeNode, map_values, below}
use Rattle.node_tree.specs.Tree.{Tree, node_at, parent_at, parent_of, subtree_at, StandsAt, Holds}
use Rattle.node_tree.specs.Children.{MapsValues}
use Rattle.node_tree.specs.Edits.{KeepsHandles}
use Rattle.node_tree.proofs.Children.{tops-map, weigh-map, Stands-map}
use Rattle.node_tree.proofs.EditLemmas.{keeps_self, keeps_then}
use Rattle.node_tree.proofs.TreeLemmas.{subtree_is}
use Rattle.render_tree.specs.Edits.{Changes, painted_now, painted_below}
use Rattle.render_tree.specs.Object.{RenderObject}
use Rattle.tree_marks.specs.Closed.{any_flag}
use Rattle.render_tree.specs.Marks.{paint_marks}
use Rattle.kept_layers.specs.Steps.{is_listed, calm_listed}
use Rattle.kept_layers.proofs.Listing.{is_listed-append}
use Rattle.paint_owner.specs.Finding.{unmarked_listed}
use Rattle.paint_owner.proofs.Gathered.{flags_stay_below}

-- values are changed, and nothing else
pub record IsCleared (g : Handle → RenderObject → RenderObject) (old new : Tree RenderObject) : Type 0 where
  pub values : MapsValues g old new
  pub root : new.root ≡ old.root
  pub inactive : new.inactive ≡ old.inactive
  pub handles : KeepsHandles old.nodes new.nodes

abbrev NodeOf : Type 0
NodeOf = TreeNode RenderObject

-- ---- any change of values

same_node : (o : Option NodeOf) → o ≡ option_map (λ (n : NodeOf). record n { value = n.value }) o
same_node None = refl
same_node (Some n) = refl

twice : (f g : RenderObject → RenderObject) (o : Option NodeOf)
    → option_map (λ (n : NodeOf). record n { value = f n.value }) (option_map (λ (n : NodeOf). record n { value = g n.value }) o) ≡ option_map (λ (n : NodeOf). record n { value = f (g n.value) }) o
twice f g None = refl
twice f g (Some n) = refl

otherwise : (f g : RenderObject → RenderObject) → ((o : RenderObject) → f o ≡ g o) → (o : Option NodeOf)
    → option_map (λ (n : NodeOf). record n { value = f n.value }) o ≡ option_map (λ (n : NodeOf). record n { value = g n.value }) o
otherwise f g same None = refl
otherwise f g same (Some n) = λ i. Some (record n { value = same n.value i })

-- the subtree of a node, in which values were changed
pub maps_at : (g : Handle → RenderObject → RenderObject) (old new : Tree RenderObject) (h : Handle) → MapsValues g old new → Holds old h
    → StandsAt new h (map_values g (subtree_at old h))
maps_at g old new h maps holds =
    let up : parent_at old h ≡ parent_at new h = by_node (node_at old h) ∙ sym (ap parent_of (maps h)) in
    record {
      top = tops-map g (subtree_at old h) ∙ holds.top;
      stands = rw (← up) (Stands-map g (node_at old) (node_at new) (parent_at old h) (subtree_at old h) holds.stands (λ k inside. maps k));
      distinct = λ k. let few = holds.distinct k in omega (arith, few, weigh-map g (λ y. cond {A = ℕ} (same y k) 1 0) (subtree_at old h));
    }
  where
    by_node : (o : Option NodeOf) → parent_of o ≡ parent_of (option_map (λ (n : NodeOf). record n { value = g h n.value }) o)
    by_node None = refl
    by_node (Some n) = refl

pub maps_subtree : (g : Handle → RenderObject → RenderObject) (old new : Tree RenderObject) (h : Handle) → MapsValues g old new → Holds old h
    → subtree_at new h ≡ map_values g (subtree_at old h)
maps_subtree g old new h maps holds = subtree_is new h (map_values g (subtree_at old h)) (maps_at g old new h maps holds)

pub cleared_then : (f g : Handle → RenderObject → RenderObject) (a b c : Tree RenderObject) → IsCleared g a b → IsCleared f b c → IsCleared (λ k o. f k (g k o)) a c
cleared_then f g a b c first second = record {
  values = λ k. second.values k ∙ ap (option_map (λ (n : NodeOf). record n { value = f k n.value })) (first.values k) ∙ twice (f k) (g k) (node_at a k);
  root = second.root ∙ first.root;
  inactive = second.inactive ∙ first.inactive;
  handles = keeps_then a.nodes b.nodes c.nodes first.handles second.handles;
}

pub cleared_same : (f g : Handle → RenderObject → RenderObject) (a b : Tree RenderObject) → ((k : Handle) (o : RenderObject) → f k o ≡ g k o) → IsCleared f a b → IsCleared g a b
cleared_same f g a b same is = record {
  values = λ k. is.values k ∙ otherwise (f k) (g k) (same k) (node_at a k);
  root = is.root;
  inactive = is.inactive;
  handles = is.handles;
}

pub nothing_cleared : (t : Tree RenderObject) → IsCleared (λ k o. o) t t
nothing_cleared t = record { values = λ k. same_node (node_at t k); root = refl; inactive = refl; handles = keeps_self t.nodes }

-- ---- one change, at each handle of a list

module _ (c : RenderObject → RenderObject) (once_more : (o : RenderObject) → c (c o) ≡ c o) where
  abbrev at_listed : List Handle → Handle → RenderObject → RenderObject
  at_listed hs k o = if is_listed k hs then c o else o

  -- at one handle
  at_one : (old new : Tree RenderObject) (h : Handle) → Changes old new h c → IsCleared (λ k o. if same k h then c o else o) old new
  at_one old new h changes = by_node (node_at old h) refl
    where
      unchanged : (k : Handle) → node_at old h ≡ None → (b : Bool) → same k h ≡ b → node_at old k ≡ option_map (λ (n : NodeOf). record n { value = if b then c n.value else n.value }) (node_at old k)
      unchanged k e true is =
          let dead : node_at old k ≡ None = ap (node_at old) (same-true k h is) ∙ e in
          rw dead refl
      unchanged k e false is = same_node (node_at old k)

      written : (n : NodeOf) → node_at old h ≡ Some n → (k : Handle) (b : Bool) → same k h ≡ b
          → option_map (λ (m : NodeOf). if b then record m { value = c n.value } else m) (node_at old k) ≡ option_map (λ (m : NodeOf). record m { value = if b then c m.value else m.value }) (node_at old k)
      written n e k true is =
          let here : node_at old k ≡ Some n = ap (node_at old) (same-true k h is) ∙ e in
          rw here refl
      written n e k false is = kept (node_at old k)
        where
          kept : (o : Option NodeOf) → option_map (λ (m : NodeOf). m) o ≡ option_map (λ (m : NodeOf). record m { value = m.value }) o
          kept None = refl
          kept (Some m) = refl

      by_node : (o : Option NodeOf) → node_at old h ≡ o → IsCleared (λ k o. if same k h then c o else o) old new
      by_node None e =
          let is : new ≡ old = changes.dead (ap (option_map (λ (n : NodeOf). n.value)) e) in
          record {
            values = λ k. ap (λ (t : Tree RenderObject). node_at t k) is ∙ unchanged k e (same k h) refl;
            root = ap (λ (t : Tree RenderObject). t.root) is;
            inactive = ap (λ (t : Tree RenderObject). t.inactive) is;
            handles = rw is (keeps_self old.nodes);
          }
      by_node (Some n) e =
          let w = changes.live n.value (ap (option_map (λ (m : NodeOf). m.value)) e) in
          record {
            values = λ k. w.writes.nodes k ∙ written n e k (same k h) refl;
            root = w.root;
            inactive = w.inactive;
            handles = w.writes.handles;
          }

  nothing_listed : (t : Tree RenderObject) → IsCleared (at_listed []) t t
  nothing_listed t = record { values = λ k. same_node (node_at t k); root = refl; inactive = refl; handles = keeps_self t.nodes }

  one_listed : (hs : List Handle) (h k : Handle) (o : RenderObject) → (if same k h then c (at_listed hs k o) else at_listed hs k o) ≡ at_listed (hs ++ h ∷ []) k o
  one_listed hs h k o = by_both (is_listed k hs) (same k h) ∙ ap (λ b. if b then c o else o) (sym (is_listed-append k hs (h ∷ [])))
    where
      by_both : (a b : Bool) → (if b then c (if a then c o else o) else (if a then c o else o)) ≡ (if a || (b || false) then c o else o)
      by_both true true = once_more o
      by_both true false = refl
      by_both false true = refl
      by_both false false = refl

  one_more : (t mid new : Tree RenderObject) (hs : List Handle) (h : Handle) → IsCleared (at_listed hs) t mid → Changes mid new h c → IsCleared (at_listed (hs ++ h ∷ [])) t new
  one_more t mid new hs h so_far changes =
      cleared_same (λ k o. if same k h then c (at_listed hs k o) else at_listed hs k o) (at_listed (hs ++ h ∷ [])) t new (one_listed hs h)
      (cleared_then (λ k o. if same k h then c o else o) (at_listed hs) t mid new so_far (at_one mid new h changes))

-- ---- flags, and marks

pub no_flags : (t : Tree RenderObject) → IsCleared (calm_listed []) t t
no_flags t = nothing_listed painted_now (λ o. refl) t

pub flag_more : (t mid new : Tree RenderObject) (hs : List Handle) (i : ℕ) (z : Handle) → i < length hs → IsCleared (calm_listed (take i hs)) t mid
    → Changes mid new (get_or hs i z) painted_now → IsCleared (calm_listed (take (i + 1) hs)) t new
flag_more t mid new hs i z within so_far changes =
    rw (take_more hs i z within) (one_more painted_now (λ o. refl) t mid new (take i hs) (get_or hs i z) so_far changes)

pub no_marks : (t : Tree RenderObject) → IsCleared (unmarked_listed []) t t
no_marks t = nothing_listed painted_below (λ o. refl) t

pub mark_more : (t mid new : Tree RenderObject) (hs : List Handle) (i : ℕ) (z : Handle) → i < length hs → IsCleared (unmarked_listed (take i hs)) t mid
    → Changes mid new (get_or hs i z) painted_below → IsCleared (unmarked_listed (take (i + 1) hs)) t new
mark_more t mid new hs i z within so_far changes =
    rw (take_more hs i z within) (one_more painted_below (λ o. refl) t mid new (take i hs) (get_or hs i z) so_far changes)

-- one of a list is listed
pub listed_at : (hs : List Handle) (i : ℕ) (z : Handle) → i < length hs → is_listed (get_or hs i z) hs ≡ true
listed_at [] i z within = absurd (let none : length {A = Handle} [] ≡ 0 = refl in omega arith)
listed_at (h ∷ hs) zero z within = ap (λ b. b || is_listed h hs) (same_self h)
listed_at (h ∷ hs) (suc i) z within =
    let more : length (h ∷ hs) ≡ length hs + 1 = grind (arith, common_steps) in
    ap (λ b. same (get_or hs i z) h || b) (listed_at hs i z (omega arith)) ∙ or_true (same (get_or hs i z) h)
  where
    or_true : (b : Bool) → (b || true) ≡ true
    or_true true = refl
    or_true false = refl

-- where no flag was below a node, none is there while marks are taken away
pub still_calm : (t mid : Tree RenderObject) (hs : List Handle) (h : Handle) → IsCleared (unmarked_listed hs) t mid → Holds t h
    → any_flag paint_marks (below (subtree_at t h)) ≡ false → any_flag paint_marks (below (subtree_at mid h)) ≡ false
still_calm t mid hs h so_far holds calm =
    ap (λ s. any_flag paint_marks (below s)) (maps_subtree (unmarked_listed hs) t mid h so_far.values holds)
    ∙ flags_stay_below hs (subtree_at t h) ∙ calm
