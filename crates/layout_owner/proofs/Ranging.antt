-- Live ranges that are stored handle by handle.
use Rattle.std.proofs.Common.{◌≡◌, ◌<◌, ℕ, ◌+◌, Bool, true, false, ◌||◌, cond, if◌then◌else◌, Option, Some, None, option_map, List, [], ◌∷◌, ◌++◌, length, get_or, take, refl, ap, sym, ◌∙◌, subst}
use Rattle.std.proofs.lemmas.List.{take_more}
use Rattle.fx_handles.specs.declared.Handle.{Handle}
use Rattle.fx_handles.specs.Handle.{same}
use Rattle.fx_handles.specs.HandleLaws.{same-true}
use Rattle.node_tree.specs.Forest.{TreeNode, Forest, Stands, with_value_at, set_value}
use Rattle.node_tree.specs.Forest.Forest.{none, tree}
use Rattle.node_tree.specs.Tree.{Tree, Is, node_at, value_at}
use Rattle.node_tree.proofs.EditLemmas.{keeps_self, keeps_then}
use Rattle.node_tree.proofs.ForestLemmas.{same_Some}
use Rattle.sliver_layout.specs.declared.protocol.Window.{Window}
use Rattle.render_tree.specs.Edits.{Changes, Writes, with_live}
use Rattle.plain_tree.specs.declared.laid.Frame.{Frame}
use Rattle.plain_tree.specs.RenderRole.{render_role_of}
use Rattle.widget_model.specs.Look.{Look, sliver_lazy}
use Rattle.render_tree.specs.Object.{RenderObject, object_look, sliver_in, lists, is_lazy}
use Rattle.render_tree.specs.Plain.{lazy_children}
use Rattle.layout_walk.specs.Rules.{lazy_extent}
use Rattle.render_tree.specs.Tree.{object_at}
use Rattle.layout_owner.specs.Ranges.{is_among, range_in, range_of, or_live, ranged_one, ranged, OnlyValues}

none_some : {X : Type 0} (x : X) → None ≡ Some x → ⊥
none_some x e = cc

or_assoc : (a b c : Bool) → (a || (b || c)) ≡ ((a || b) || c)
or_assoc true b c = refl
or_assoc false b c = refl

pub among-append : (k : Handle) (xs ys : List Handle) → is_among k (xs ++ ys) ≡ (is_among k xs || is_among k ys)
among-append k [] ys = refl
among-append k (x ∷ xs) ys = ap (λ b. same k x || b) (among-append k xs ys) ∙ or_assoc (same k x) (is_among k xs) (is_among k ys)

abbrev NodeOf : Type 0
NodeOf = TreeNode RenderObject

-- ---- any change of values

same_node : (o : Option NodeOf) → o ≡ option_map (λ (n : NodeOf). record n { value = n.value }) o
same_node None = refl
same_node (Some n) = refl

twice : (f g : RenderObject → RenderObject) (o : Option NodeOf)
    → option_map (λ (n : NodeOf). record n { value = f n.value }) (option_map (λ (n : NodeOf). record n { value = g n.value }) o) ≡ option_map (λ (n : NodeOf). record n { value = f (g n.value) }) o
twice f g None = refl
twice f g (Some n) = refl

otherwise : (f g : RenderObject → RenderObject) → ((o : RenderObject) → f o ≡ g o) → (o : Option NodeOf)
    → option_map (λ (n : NodeOf). record n { value = f n.value }) o ≡ option_map (λ (n : NodeOf). record n { value = g n.value }) o
otherwise f g same None = refl
otherwise f g same (Some n) = λ i. Some (record n { value = same n.value i })

pub values_then : (f g : Handle → RenderObject → RenderObject) (a b c : Tree RenderObject) → OnlyValues g a b → OnlyValues f b c → OnlyValues (λ k o. f k (g k o)) a c
values_then f g a b c first second = record {
  values = λ k. second.values k ∙ ap (option_map (λ (n : NodeOf). record n { value = f k n.value })) (first.values k) ∙ twice (f k) (g k) (node_at a k);
  root = second.root ∙ first.root;
  inactive = second.inactive ∙ first.inactive;
  handles = keeps_then a.nodes b.nodes c.nodes first.handles second.handles;
}

pub values_same : (f g : Handle → RenderObject → RenderObject) (a b : Tree RenderObject) → ((k : Handle) (o : RenderObject) → f k o ≡ g k o) → OnlyValues f a b → OnlyValues g a b
values_same f g a b same is = record {
  values = λ k. is.values k ∙ otherwise (f k) (g k) (same k) (node_at a k);
  root = is.root;
  inactive = is.inactive;
  handles = is.handles;
}

pub nothing_written : (t : Tree RenderObject) → OnlyValues (λ k o. o) t t
nothing_written t = record { values = λ k. same_node (node_at t k); root = refl; inactive = refl; handles = keeps_self t.nodes }

-- ---- one change, at each handle of a list

module _ (c : RenderObject → RenderObject) (once_more : (o : RenderObject) → c (c o) ≡ c o) where
  abbrev at_listed : List Handle → Handle → RenderObject → RenderObject
  at_listed hs k o = if is_among k hs then c o else o

  -- at one handle
  at_one : (old new : Tree RenderObject) (h : Handle) → Changes old new h c → OnlyValues (λ k o. if same k h then c o else o) old new
  at_one old new h changes = by_node (node_at old h) refl
    where
      unchanged : (k : Handle) → node_at old h ≡ None → (b : Bool) → same k h ≡ b → node_at old k ≡ option_map (λ (n : NodeOf). record n { value = if b then c n.value else n.value }) (node_at old k)
      unchanged k e true is =
          let dead : node_at old k ≡ None = ap (node_at old) (same-true k h is) ∙ e in
          rw dead refl
      unchanged k e false is = same_node (node_at old k)

      written : (n : NodeOf) → node_at old h ≡ Some n → (k : Handle) (b : Bool) → same k h ≡ b
          → option_map (λ (m : NodeOf). if b then record m { value = c n.value } else m) (node_at old k) ≡ option_map (λ (m : NodeOf). record m { value = if b then c m.value else m.value }) (node_at old k)
      written n e k true is =
          let here : node_at old k ≡ Some n = ap (node_at old) (same-true k h is) ∙ e in
          rw here refl
      written n e k false is = kept (node_at old k)
        where
          kept : (o : Option NodeOf) → option_map (λ (m : NodeOf). m) o ≡ option_map (λ (m : NodeOf). record m { value = m.value }) o
          kept None = refl
          kept (Some m) = refl

      by_node : (o : Option NodeOf) → node_at old h ≡ o → OnlyValues (λ k o. if same k h then c o else o) old new
      by_node None e =
          let is : new ≡ old = changes.dead (ap (option_map (λ (n : NodeOf). n.value)) e) in
          record {
            values = λ k. ap (λ (t : Tree RenderObject). node_at t k) is ∙ unchanged k e (same k h) refl;
            root = ap (λ (t : Tree RenderObject). t.root) is;
            inactive = ap (λ (t : Tree RenderObject). t.inactive) is;
            handles = rw is (keeps_self old.nodes);
          }
      by_node (Some n) e =
          let w = changes.live n.value (ap (option_map (λ (m : NodeOf). m.value)) e) in
          record {
            values = λ k. w.writes.nodes k ∙ written n e k (same k h) refl;
            root = w.root;
            inactive = w.inactive;
            handles = w.writes.handles;
          }

  nothing_listed : (t : Tree RenderObject) → OnlyValues (at_listed []) t t
  nothing_listed t = record { values = λ k. same_node (node_at t k); root = refl; inactive = refl; handles = keeps_self t.nodes }

  one_listed : (hs : List Handle) (h k : Handle) (o : RenderObject) → (if same k h then c (at_listed hs k o) else at_listed hs k o) ≡ at_listed (hs ++ h ∷ []) k o
  one_listed hs h k o = by_both (is_among k hs) (same k h) ∙ ap (λ b. if b then c o else o) (sym (among-append k hs (h ∷ [])))
    where
      by_both : (a b : Bool) → (if b then c (if a then c o else o) else (if a then c o else o)) ≡ (if a || (b || false) then c o else o)
      by_both true true = once_more o
      by_both true false = refl
      by_both false true = refl
      by_both false false = refl

  one_more : (t mid new : Tree RenderObject) (hs : List Handle) (h : Handle) → OnlyValues (at_listed hs) t mid → Changes mid new h c → OnlyValues (at_listed (hs ++ h ∷ [])) t new
  one_more t mid new hs h so_far changes =
      values_same (λ k o. if same k h then c (at_listed hs k o) else at_listed hs k o) (at_listed (hs ++ h ∷ [])) t new (one_listed hs h)
      (values_then (λ k o. if same k h then c o else o) (at_listed hs) t mid new so_far (at_one mid new h changes))

-- ---- live ranges

live_out : (widen : ℕ) (r : Option Window) (o : RenderObject) → range_of widen (or_live r o) ≡ range_of widen o
live_out widen None o = refl
live_out widen (Some w) o = refl

or_twice : (r : Option Window) (o : RenderObject) → or_live r (or_live r o) ≡ or_live r o
or_twice None o = refl
or_twice (Some w) o = refl

once_more : (widen : ℕ) (o : RenderObject) → ranged_one widen (ranged_one widen o) ≡ ranged_one widen o
once_more widen o = ap (λ (r : Option Window). or_live r (ranged_one widen o)) (live_out widen (range_of widen o) o) ∙ or_twice (range_of widen o) o

pub no_ranges : (widen : ℕ) (t : Tree RenderObject) → OnlyValues (ranged widen []) t t
no_ranges widen t = nothing_listed (ranged_one widen) (once_more widen) t

pub range_more : (widen : ℕ) (t mid new : Tree RenderObject) (hs : List Handle) (i : ℕ) (z : Handle) → i < length hs → OnlyValues (ranged widen (take i hs)) t mid
    → Changes mid new (get_or hs i z) (ranged_one widen) → OnlyValues (ranged widen (take (i + 1) hs)) t new
range_more widen t mid new hs i z within so_far changes =
    rw (take_more hs i z within) (one_more (ranged_one widen) (once_more widen) t mid new (take i hs) (get_or hs i z) so_far changes)

-- ---- one node

set_same : (at : Handle → Option (TreeNode RenderObject)) (p : Option Handle) (h : Handle) (o : RenderObject) (f : Forest RenderObject) → Stands at p f
    → option_map (λ (n : NodeOf). n.value) (at h) ≡ Some o → set_value h o f ≡ f
set_same at p h o none stands is = refl
set_same at p h o (tree k v below rest) stands is =
    ap (λ (x : RenderObject). tree k x (set_value h o below) (set_value h o rest)) (by (same k h) refl)
    ∙ ap (λ (g : Forest RenderObject). tree k v g (set_value h o rest)) (set_same at (Some k) h o below stands.1 is)
    ∙ ap (λ (g : Forest RenderObject). tree k v below g) (set_same at p h o rest stands.2 is)
  where
    by : (b : Bool) → same k h ≡ b → (if same k h then o else v) ≡ v
    by true e =
        ap (λ (b : Bool). cond {A = RenderObject} b o v) e
        ∙ same_Some (sym is ∙ ap (λ (j : Handle). option_map (λ (n : NodeOf). n.value) (at j)) (sym (same-true k h e)) ∙ ap (λ (n : Option NodeOf). option_map (λ (m : NodeOf). m.value) n) stands.0)
    by false e = ap (λ (b : Bool). cond {A = RenderObject} b o v) e

kept : (h k : Handle) (o : RenderObject) (n : Option NodeOf) → (same k h ≡ true → option_map (λ (x : NodeOf). x.value) n ≡ Some o) → n ≡ option_map (with_value_at h o k) n
kept h k o None is = refl
kept h k o (Some n) is = by (same k h) refl
  where
    by : (b : Bool) → same k h ≡ b → Some n ≡ option_map (with_value_at h o k) (Some n)
    by true at =
        ap (λ (v : RenderObject). Some (record n { value = v })) (same_Some (is at))
        ∙ ap (λ (b : Bool). Some (cond {A = NodeOf} b (record n { value = o }) n)) (sym at)
    by false at = ap (λ (b : Bool). Some (cond {A = NodeOf} b (record n { value = o }) n)) (sym at)

writes_self : (t : Tree RenderObject) (h : Handle) (o : RenderObject) → object_at t h ≡ Some o → Writes t t h o
writes_self t h o is = record {
  writes = record { nodes = λ k. kept h k o (node_at t k) (λ e. subst (λ (j : Handle). value_at t j ≡ Some o) (sym (same-true k h e)) is); handles = keeps_self t.nodes };
  root = refl;
  inactive = refl;
  plain = λ f stands. subst (λ (g : Forest RenderObject). Is t g) (sym (set_same (node_at t) None h o f stands.stands is)) stands;
}

-- a lazy list gets its range
pub range_set : (widen : ℕ) (old new : Tree RenderObject) (h : Handle) (w : Window) → ((o : RenderObject) → object_at old h ≡ Some o → Some w ≡ range_of widen o)
    → ((o : RenderObject) → object_at old h ≡ Some o → is_lazy o ≡ true → Writes old new h (with_live (Some w) o)) → (object_at old h ≡ None → new ≡ old)
    → Changes old new h (ranged_one widen)
range_set widen old new h w range lazy absent = record {
  live = λ o is. subst (λ (r : Option Window). Writes old new h (or_live r o)) (range o is) (lazy o is (some_list (object_look o) (lazy_children o) widen o.frame w (sym (range o is))));
  dead = absent;
}
  where
    some_list : (look : Look) (count widen : ℕ) (frame : Option Frame) (w : Window)
        → option_map (λ extent. range_in (sliver_in frame) extent count widen) (lazy_extent look) ≡ Some w → lists (render_role_of look) ≡ true
    some_list (sliver_lazy extent) count widen frame w e = refl
    some_list _ count widen frame w e = absurd (none_some w e)

-- and any other node none
pub range_none : (widen : ℕ) (t : Tree RenderObject) (h : Handle) → ((o : RenderObject) → object_at t h ≡ Some o → None ≡ range_of widen o) → Changes t t h (ranged_one widen)
range_none widen t h range = record {
  live = λ o is. subst (λ (r : Option Window). Writes t t h (or_live r o)) (range o is) (writes_self t h o is);
  dead = λ is. refl;
}
