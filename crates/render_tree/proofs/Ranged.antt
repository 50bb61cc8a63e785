-- Trees of which live ranges alone are taken away.
use Rattle.std.proofs.Common.{◌≡◌, ℕ, zero, suc, Bool, true, false, ◌||◌, cond, nat_lt, ◌+◌, ◌<◌, ◌≤◌, List, [], ◌∷◌, ◌++◌, length, take, get_or, Option, Some, None, IsSome, option_map, refl, sym, ap, ◌∙◌, subst, inl, inr, lt-ltb, option_and_then, arith}
use Rattle.std.specs.Option.{option_to_list}
use Rattle.std.proofs.lemmas.List.{take_all, take_more}
use Rattle.std.proofs.lemmas.List.Folds.{list_any-append}
use Rattle.fx_handles.specs.declared.Handle.{Handle}
use Rattle.fx_handles.specs.Handle.{same}
use Rattle.fx_handles.specs.HandleLaws.{same-true, same-eq, same-ne, cases_same}
use Rattle.fx_handles.specs.Arena.{used_count}
use Rattle.node_tree.specs.Forest.{TreeNode, Forest, tops, weigh, size, count, Stands, plain, plain_node}
use Rattle.node_tree.specs.Forest.Forest.{none, tree}
use Rattle.node_tree.specs.Tree.{Tree, IsNode, IsTree, node_at, children_of, children_at, tops_at, Is, subtree_at}
use Rattle.node_tree.specs.Edits.{KeepsHandles}
use Rattle.render_tree.specs.Object.{RenderObject, object_look}
use Rattle.render_tree.specs.Tree.{object_at}
use Rattle.render_tree.specs.Edits.{with_live, Changes}
use Rattle.handle_groups.specs.Groups.{Groups}
use Rattle.layout_form.specs.Layout.{delegate_of}
use Rattle.render_tree.specs.Users.{AreUsers, is_in, is_at_or_below}
use Rattle.render_tree.specs.Ranges.{cleared_if, cleared, Clears}
use Rattle.render_tree.proofs.Used.{used_same}
use Rattle.render_tree.proofs.Dropped.{Walks, in-node, in-tops, or-none, value_of_node}

pub cleared_value : (b : Bool) (n : TreeNode RenderObject) → (cleared_if b n).value ≡ cond b (with_live None n.value) n.value
cleared_value true n = refl
cleared_value false n = refl

pub cleared_children : (b : Bool) (n : TreeNode RenderObject) → (cleared_if b n).children ≡ n.children
cleared_children true n = refl
cleared_children false n = refl

cleared_parent : (b : Bool) (n : TreeNode RenderObject) → (cleared_if b n).parent ≡ n.parent
cleared_parent true n = refl
cleared_parent false n = refl

-- ranges that are taken away by one test and then by another are taken away by either
cleared_twice : (a b : Bool) (n : TreeNode RenderObject) → cleared_if b (cleared_if a n) ≡ cleared_if (a || b) n
cleared_twice true true n = refl
cleared_twice true false n = refl
cleared_twice false true n = refl
cleared_twice false false n = refl

mapped_twice : (a b : Bool) (o : Option (TreeNode RenderObject)) → option_map (cleared_if b) (option_map (cleared_if a) o) ≡ option_map (cleared_if (a || b)) o
mapped_twice a b None = refl
mapped_twice a b (Some n) = ap Some (cleared_twice a b n)

mapped_none : (o : Option (TreeNode RenderObject)) → option_map (cleared_if false) o ≡ o
mapped_none None = refl
mapped_none (Some n) = refl

keeps_both : (old mid new : Tree RenderObject) → KeepsHandles old.nodes mid.nodes → KeepsHandles mid.nodes new.nodes → KeepsHandles old.nodes new.nodes
keeps_both old mid new a b = record {
  generations = λ i. b.generations i ∙ a.generations i;
  spent = λ k spent. b.spent k (a.spent k spent);
  used = b.used ∙ a.used;
  retired = b.retired ∙ a.retired;
  generation_sum = b.generation_sum ∙ a.generation_sum;
  inserted = b.inserted ∙ a.inserted;
}

keeps_none : (t : Tree RenderObject) → KeepsHandles t.nodes t.nodes
keeps_none t = record {
  generations = λ i. refl;
  spent = λ k spent. spent;
  used = refl;
  retired = refl;
  generation_sum = refl;
  inserted = refl;
}

pub clears_none : (t : Tree RenderObject) (p : Handle → Bool) → ((k : Handle) → p k ≡ false) → Clears t t p
clears_none t p unset = record {
  nodes = λ k. sym (ap (λ b. option_map (cleared_if b) (node_at t k)) (unset k) ∙ mapped_none (node_at t k));
  root = refl;
  inactive = refl;
  handles = keeps_none t;
}

pub clears_both : (old mid new : Tree RenderObject) (p q r : Handle → Bool) → Clears old mid p → Clears mid new q → ((k : Handle) → r k ≡ (p k || q k)) → Clears old new r
clears_both old mid new p q r a b is = record {
  nodes = λ k. b.nodes k ∙ ap (option_map (cleared_if (q k))) (a.nodes k) ∙ mapped_twice (p k) (q k) (node_at old k) ∙ ap (λ x. option_map (cleared_if x) (node_at old k)) (sym (is k));
  root = b.root ∙ a.root;
  inactive = b.inactive ∙ a.inactive;
  handles = keeps_both old mid new a.handles b.handles;
}

pub clears_same : (old new : Tree RenderObject) (p r : Handle → Bool) → Clears old new p → ((k : Handle) → r k ≡ p k) → Clears old new r
clears_same old new p r a is = record {
  nodes = λ k. a.nodes k ∙ ap (λ x. option_map (cleared_if x) (node_at old k)) (sym (is k));
  root = a.root;
  inactive = a.inactive;
  handles = a.handles;
}

children_kept : (b : Bool) (o m : Option (TreeNode RenderObject)) → m ≡ option_map (cleared_if b) o → children_of m ≡ children_of o
children_kept b None m e = ap children_of e
children_kept b (Some n) m e = ap children_of e ∙ cleared_children b n

pub clears_children : (old new : Tree RenderObject) (p : Handle → Bool) (h : Handle) → Clears old new p → children_at new h ≡ children_at old h
clears_children old new p h a = children_kept (p h) (node_at old h) (node_at new h) (a.nodes h)

live_kept : (b : Bool) (o m : Option (TreeNode RenderObject)) → m ≡ option_map (cleared_if b) o → IsSome o → IsSome m
live_kept b None m e some = absurd (cc)
live_kept b (Some n) m e some = subst IsSome (sym e) refl

live_before : (b : Bool) (o m : Option (TreeNode RenderObject)) → m ≡ option_map (cleared_if b) o → IsSome m → IsSome o
live_before b None m e some = absurd (let none = subst IsSome e some in cc)
live_before b (Some n) m e some = refl

pub clears_live : (old new : Tree RenderObject) (p : Handle → Bool) (h : Handle) → Clears old new p → IsNode old h → IsNode new h
clears_live old new p h a = live_kept (p h) (node_at old h) (node_at new h) (a.nodes h)

-- forests without live ranges
pub tops-cleared : (p : Handle → Bool) (f : Forest RenderObject) → tops (cleared p f) ≡ tops f
tops-cleared p none = refl
tops-cleared p (tree h e kids rest) = ap (λ hs. h ∷ hs) (tops-cleared p rest)

pub weigh-cleared : (w : Handle → ℕ) (p : Handle → Bool) (f : Forest RenderObject) → weigh w (cleared p f) ≡ weigh w f
weigh-cleared w p none = refl
weigh-cleared w p (tree h e kids rest) = omega (arith, weigh-cleared w p kids, weigh-cleared w p rest)

pub Stands-cleared : (old new : Tree RenderObject) (p : Handle → Bool) (q : Option Handle) (f : Forest RenderObject) → Clears old new p → Stands (node_at old) q f → Stands (node_at new) q (cleared p f)
Stands-cleared old new p q none a stands = tt
Stands-cleared old new p q (tree h e kids rest) a stands = (
  here (p h) (a.nodes h ∙ ap (option_map (cleared_if (p h))) stands.0),
  Stands-cleared old new p (Some h) kids a stands.1,
  Stands-cleared old new p q rest a stands.2,
)
  where
    here : (b : Bool) → node_at new h ≡ option_map (cleared_if b) (Some (record { parent = q; children = tops kids; value = e }))
        → node_at new h ≡ Some (record { parent = q; children = tops (cleared p kids); value = cond b (with_live None e) e })
    here true is = is ∙ ap (λ hs. Some (record { parent = q; children = hs; value = with_live None e })) (sym (tops-cleared p kids))
    here false is = is ∙ ap (λ hs. Some (record { parent = q; children = hs; value = e })) (sym (tops-cleared p kids))

pub Is-cleared : (old new : Tree RenderObject) (p : Handle → Bool) (f : Forest RenderObject) → Clears old new p → Is old f → Is new (cleared p f)
Is-cleared old new p f a is = record {
  tops = by_tops ∙ is.tops ∙ sym (tops-cleared p f);
  stands = Stands-cleared old new p None f a is.stands;
  distinct = λ h. omega (arith, weigh-cleared (λ k. cond {A = ℕ} (same k h) 1 0) p f, is.distinct h);
  whole = λ h live. omega (arith, weigh-cleared (λ k. cond {A = ℕ} (same k h) 1 0) p f, is.whole h (live_before (p h) (node_at old h) (node_at new h) (a.nodes h) live));
}
  where
    by_tops : tops_at new ≡ tops_at old
    by_tops = let root = a.root in let inactive = a.inactive in cc

-- what stands below handles, in so many steps, in a store whose live ranges are taken away
pub plain-cleared : (at after : Handle → Option (TreeNode RenderObject)) (p : Handle → Bool) → ((k : Handle) → after k ≡ option_map (cleared_if (p k)) (at k))
    → (n : ℕ) (hs : List Handle) → plain n after hs ≡ cleared p (plain n at hs)
unfolding plain
plain-cleared at after p same_but zero hs = refl
plain-cleared at after p same_but (suc n) [] = refl
plain-cleared at after p same_but (suc n) (h ∷ hs) =
    ap (λ o. plain_node h o (plain n after) hs) (same_but h) ∙ by_node (at h) (λ ks. plain-cleared at after p same_but n ks)
  where
    by_flag : (b : Bool) → p h ≡ b → (m : TreeNode RenderObject) → ((ks : List Handle) → plain n after ks ≡ cleared p (plain n at ks))
        → plain_node h (Some (cleared_if b m)) (plain n after) hs ≡ cleared p (tree h m.value (plain n at m.children) (plain n at hs))
    by_flag true set m below =
        let kids = below m.children in let later = below hs in
        let first : with_live None m.value ≡ cond (p h) (with_live None m.value) m.value = ap (λ b. cond b (with_live None m.value) m.value) (sym set) in
        cc
    by_flag false unset m below =
        let kids = below m.children in let later = below hs in
        let first : m.value ≡ cond (p h) (with_live None m.value) m.value = ap (λ b. cond b (with_live None m.value) m.value) (sym unset) in
        cc

    by_node : (o : Option (TreeNode RenderObject)) → ((ks : List Handle) → plain n after ks ≡ cleared p (plain n at ks))
        → plain_node h (option_map (cleared_if (p h)) o) (plain n after) hs ≡ cleared p (plain_node h o (plain n at) hs)
    by_node None below = refl
    by_node (Some m) below = by_flag (p h) refl m below

pub subtree-cleared : (old new : Tree RenderObject) (p : Handle → Bool) (h : Handle) → Clears old new p → subtree_at new h ≡ cleared p (subtree_at old h)
subtree-cleared old new p h a =
    ap (λ n. plain n (node_at new) (h ∷ [])) a.handles.used ∙ plain-cleared (node_at old) (node_at new) p a.nodes (used_count old.nodes) (h ∷ [])

pub size-clears : (old new : Tree RenderObject) (p : Handle → Bool) (h : Handle) → Clears old new p → size (subtree_at new h) ≡ size (subtree_at old h)
size-clears old new p h a = ap size (subtree-cleared old new p h a) ∙ weigh-cleared (λ _. 1) p (subtree_at old h)

-- one range
same_turned : (h k : Handle) → same h k ≡ same k h
same_turned h k = elim (cases_same h k) [
  | inl e ↦ same-eq h k e ∙ sym (same-eq k h (sym e))
  | inr apart ↦ same-ne h k apart ∙ sym (same-ne k h (λ e. apart (sym e)))
]

no_node : (o : Option (TreeNode RenderObject)) → option_map (λ (n : TreeNode RenderObject). n.value) o ≡ None → o ≡ None
no_node None e = refl
no_node (Some n) e = absurd (cc)

node_cleared : (b : Bool) (o : Option (TreeNode RenderObject)) (e : RenderObject) → (b ≡ true → option_map (λ (n : TreeNode RenderObject). n.value) o ≡ Some e)
    → option_map (λ (n : TreeNode RenderObject). cond b (record n { value = with_live None e }) n) o ≡ option_map (cleared_if b) o
node_cleared b None e is = refl
node_cleared true (Some n) e is = let one : Some n.value ≡ Some e = is refl in let is_e : e ≡ n.value = (cc) in ap (λ v. Some (record n { value = with_live None v })) is_e
node_cleared false (Some n) e is = refl

pub clear_set : (old new : Tree RenderObject) (h : Handle) → Changes old new h (with_live None) → Clears old new (same h)
clear_set old new h changes = by_object (object_at old h) refl
  where
    by_object : (o : Option RenderObject) → object_at old h ≡ o → Clears old new (same h)
    by_object None at =
        let unchanged = changes.dead at in
        subst (λ (t : Tree RenderObject). Clears old t (same h)) (sym unchanged)
        (record {
          nodes = λ k. sym (ap (λ b. option_map (cleared_if b) (node_at old k)) (same_turned h k) ∙ nothing k);
          root = refl;
          inactive = refl;
          handles = keeps_none old;
        })
      where
        nothing : (k : Handle) → option_map (cleared_if (same k h)) (node_at old k) ≡ node_at old k
        nothing k = elim (cases_same k h) [
          | inl e ↦
              let gone : node_at old k ≡ None = ap (node_at old) e ∙ no_node (node_at old h) at in
              ap (option_map (cleared_if (same k h))) gone ∙ sym gone
          | inr apart ↦ ap (λ b. option_map (cleared_if b) (node_at old k)) (same-ne k h apart) ∙ mapped_none (node_at old k)
        ]
    by_object (Some e) at =
        let writes = changes.live e at in
        record {
          nodes = λ k.
              writes.writes.nodes k
              ∙ node_cleared (same k h) (node_at old k) e (λ equal. ap (object_at old) (same-true k h equal) ∙ at)
              ∙ ap (λ b. option_map (cleared_if b) (node_at old k)) (sym (same_turned h k));
          root = writes.root;
          inactive = writes.inactive;
          handles = writes.writes.handles;
        }

-- who stands where is as before
pub in-cleared : (old new : Tree RenderObject) (p : Handle → Bool) (h k : Handle) → Clears old new p → is_in k (subtree_at new h) ≡ is_in k (subtree_at old h)
in-cleared old new p h k a = ap (nat_lt 0) (ap (count k) (subtree-cleared old new p h a) ∙ weigh-cleared (λ c. cond {A = ℕ} (same c k) 1 0) p (subtree_at old h))

-- the next node of a list
pub clears-next : (old now new : Tree RenderObject) (i : ℕ) (cs : List Handle) (c nowhere : Handle) → i < length cs → c ≡ get_or cs i nowhere
    → Clears old now (is_at_or_below old (take i cs)) → Clears now new (λ k. is_in k (subtree_at now c)) → Clears old new (is_at_or_below old (take (i + 1) cs))
clears-next old now new i cs c nowhere within is first second =
    clears_both old now new (is_at_or_below old (take i cs)) (λ k. is_in k (subtree_at now c)) (is_at_or_below old (take (i + 1) cs)) first second (λ k.
    ap (λ l. is_at_or_below old l k) (take_more cs i nowhere within ∙ ap (λ x. take i cs ++ x ∷ []) (sym is))
    ∙ list_any-append (λ h. is_in k (subtree_at old h)) (take i cs) (c ∷ [])
    ∙ ap (λ b. is_at_or_below old (take i cs) k || b) (or-none (is_in k (subtree_at old c)) ∙ sym (in-cleared old now (is_at_or_below old (take i cs)) c k first)))

-- all of a list
pub clears-all : (old new : Tree RenderObject) (i : ℕ) (cs : List Handle) → length cs ≤ i → Clears old new (is_at_or_below old (take i cs)) → Clears old new (is_at_or_below old cs)
clears-all old new i cs all a = clears_same old new (is_at_or_below old (take i cs)) (is_at_or_below old cs) a (λ k. ap (λ hs. is_at_or_below old hs k) (sym (take_all i cs all)))

-- a node, and then what is below it
pub clears-node : Walks → (old now new : Tree RenderObject) (h : Handle) → IsTree old → IsNode old h → Clears old now (same h)
    → Clears now new (is_at_or_below now (children_at now h)) → Clears old new (λ k. is_in k (subtree_at old h))
clears-node walks old now new h is live first second =
    let there = value_of_node (node_at old h) live in
    clears_both old now new (same h) (is_at_or_below now (children_at now h)) (λ k. is_in k (subtree_at old h)) first second (λ k.
    in-node walks old h there.0 is live there.1 k
    ∙ ap (λ b. same h k || b) (sym (ap (λ hs. is_at_or_below now hs k) (clears_children old now (same h) h first) ∙ same_below (children_at old h) k)))
  where
    same_below : (hs : List Handle) (k : Handle) → is_at_or_below now hs k ≡ is_at_or_below old hs k
    same_below [] k = refl
    same_below (c ∷ cs) k = λ i. in-cleared old now (same h) c k first i || same_below cs k i

-- the root's tree, and then the inactive ones: then no node is left that has a range
pub clears-whole : Walks → (old now new : Tree RenderObject) → IsTree old → Clears old now (is_at_or_below old (option_to_list old.root))
    → Clears now new (is_at_or_below now now.inactive) → Clears old new (λ _. true)
clears-whole walks old now new is first second =
    let f = is.0 in
    let a : Handle → Bool = is_at_or_below old (option_to_list old.root) in
    let b : Handle → Bool = is_at_or_below now now.inactive in
    clears_live-only old new (λ k. a k || b k) (clears_both old now new a b (λ k. a k || b k) first second (λ k. refl)) (λ k live.
    ap (λ x. a k || x) (ap (λ hs. is_at_or_below now hs k) first.inactive ∙ same_each old now a first old.inactive k)
    ∙ sym (list_any-append (λ h. is_in k (subtree_at old h)) (option_to_list old.root) old.inactive)
    ∙ ap (λ hs. is_at_or_below old hs k) is.1.tops
    ∙ sym (in-tops walks old None f is.1.stands is.1.distinct k)
    ∙ lt-ltb 0 (count k f) (is.1.whole k live))
  where
    same_each : (old now : Tree RenderObject) (p : Handle → Bool) → Clears old now p → (hs : List Handle) (k : Handle) → is_at_or_below now hs k ≡ is_at_or_below old hs k
    same_each old now p a [] k = refl
    same_each old now p a (c ∷ cs) k = λ i. in-cleared old now p c k a i || same_each old now p a cs k i

    by_node : (r : Bool) (o m : Option (TreeNode RenderObject)) → m ≡ option_map (cleared_if r) o → (IsSome o → r ≡ true) → m ≡ option_map (cleared_if true) o
    by_node r None m e all = e
    by_node r (Some n) m e all = e ∙ ap (λ b. Some (cleared_if b n)) (all refl)

    clears_live-only : (old new : Tree RenderObject) (r : Handle → Bool) → Clears old new r → ((k : Handle) → IsNode old k → r k ≡ true) → Clears old new (λ _. true)
    clears_live-only old new r a all = record {
      nodes = λ k. by_node (r k) (node_at old k) (node_at new k) (a.nodes k) (all k);
      root = a.root;
      inactive = a.inactive;
      handles = a.handles;
    }

-- the users of delegates are as before
clears_delegate : (b : Bool) (o m : Option (TreeNode RenderObject)) → m ≡ option_map (cleared_if b) o
    → option_and_then (λ e. delegate_of (object_look e)) (option_map (λ (n : TreeNode RenderObject). n.value) m) ≡ option_and_then (λ e. delegate_of (object_look e)) (option_map (λ (n : TreeNode RenderObject). n.value) o)
clears_delegate b None m e = ap (λ x. option_and_then (λ e. delegate_of (object_look e)) (option_map (λ (n : TreeNode RenderObject). n.value) x)) e
clears_delegate true (Some n) m e = ap (λ x. option_and_then (λ e. delegate_of (object_look e)) (option_map (λ (n : TreeNode RenderObject). n.value) x)) e
clears_delegate false (Some n) m e = ap (λ x. option_and_then (λ e. delegate_of (object_look e)) (option_map (λ (n : TreeNode RenderObject). n.value) x)) e

pub clears_users : (g : Groups) (old new : Tree RenderObject) (p : Handle → Bool) → AreUsers g old → Clears old new p → AreUsers g new
clears_users g old new p are a = used_same g old new are (λ k. clears_delegate (p k) (node_at old k) (node_at new k) (a.nodes k))
