-- Trees whose flags alone change.
use Rattle.std.proofs.Common.{◌≡◌, ℕ, zero, suc, Bool, true, false, ◌&&◌, ◌||◌, cond, List, [], ◌∷◌, Option, Some, None, IsSome, option_map, refl, sym, ap, ◌∙◌, subst, inl, inr, arith}
use Rattle.fx_handles.specs.declared.Handle.{Handle}
use Rattle.fx_handles.specs.Handle.{same}
use Rattle.fx_handles.specs.HandleLaws.{same-true, same-eq, same-ne, cases_same}
use Rattle.fx_handles.specs.Arena.{used_count}
use Rattle.node_tree.specs.Forest.{TreeNode, Forest, tops, weigh, size, Stands, plain, plain_node}
use Rattle.node_tree.specs.Forest.Forest.{none, tree}
use Rattle.node_tree.specs.Tree.{Tree, IsNode, node_at, children_of, children_at, tops_at, Is, subtree_at}
use Rattle.node_tree.specs.Edits.{KeepsHandles}
use Rattle.element_tree.specs.Element.{Element, element_at}
use Rattle.element_tree.specs.Edits.{with_flag, Changes}
use Rattle.element_tree.specs.Nodes.{nodes_of}
use Rattle.inherited.specs.Readers.{flagged_if, flagged, Flags}

pub flagged_value : (b : Bool) (n : TreeNode Element) → (flagged_if b n).value ≡ cond b (with_flag true n.value) n.value
flagged_value true n = refl
flagged_value false n = refl

pub flagged_children : (b : Bool) (n : TreeNode Element) → (flagged_if b n).children ≡ n.children
flagged_children true n = refl
flagged_children false n = refl

flagged_parent : (b : Bool) (n : TreeNode Element) → (flagged_if b n).parent ≡ n.parent
flagged_parent true n = refl
flagged_parent false n = refl

-- flags that are set by one test and then by another are set by either
flagged_twice : (a b : Bool) (n : TreeNode Element) → flagged_if b (flagged_if a n) ≡ flagged_if (a || b) n
flagged_twice true true n = refl
flagged_twice true false n = refl
flagged_twice false true n = refl
flagged_twice false false n = refl

mapped_twice : (a b : Bool) (o : Option (TreeNode Element)) → option_map (flagged_if b) (option_map (flagged_if a) o) ≡ option_map (flagged_if (a || b)) o
mapped_twice a b None = refl
mapped_twice a b (Some n) = ap Some (flagged_twice a b n)

mapped_none : (o : Option (TreeNode Element)) → option_map (flagged_if false) o ≡ o
mapped_none None = refl
mapped_none (Some n) = refl

keeps_both : (old mid new : Tree Element) → KeepsHandles old.nodes mid.nodes → KeepsHandles mid.nodes new.nodes → KeepsHandles old.nodes new.nodes
keeps_both old mid new a b = record {
  generations = λ i. b.generations i ∙ a.generations i;
  spent = λ k spent. b.spent k (a.spent k spent);
  used = b.used ∙ a.used;
  retired = b.retired ∙ a.retired;
  generation_sum = b.generation_sum ∙ a.generation_sum;
  inserted = b.inserted ∙ a.inserted;
}

keeps_none : (t : Tree Element) → KeepsHandles t.nodes t.nodes
keeps_none t = record {
  generations = λ i. refl;
  spent = λ k spent. spent;
  used = refl;
  retired = refl;
  generation_sum = refl;
  inserted = refl;
}

pub flags_none : (t : Tree Element) (p : Handle → Bool) → ((k : Handle) → p k ≡ false) → Flags t t p
flags_none t p unset = record {
  nodes = λ k. sym (ap (λ b. option_map (flagged_if b) (node_at t k)) (unset k) ∙ mapped_none (node_at t k));
  root = refl;
  inactive = refl;
  handles = keeps_none t;
}

pub flags_both : (old mid new : Tree Element) (p q r : Handle → Bool) → Flags old mid p → Flags mid new q → ((k : Handle) → r k ≡ (p k || q k)) → Flags old new r
flags_both old mid new p q r a b is = record {
  nodes = λ k. b.nodes k ∙ ap (option_map (flagged_if (q k))) (a.nodes k) ∙ mapped_twice (p k) (q k) (node_at old k) ∙ ap (λ x. option_map (flagged_if x) (node_at old k)) (sym (is k));
  root = b.root ∙ a.root;
  inactive = b.inactive ∙ a.inactive;
  handles = keeps_both old mid new a.handles b.handles;
}

pub flags_same : (old new : Tree Element) (p r : Handle → Bool) → Flags old new p → ((k : Handle) → r k ≡ p k) → Flags old new r
flags_same old new p r a is = record {
  nodes = λ k. a.nodes k ∙ ap (λ x. option_map (flagged_if x) (node_at old k)) (sym (is k));
  root = a.root;
  inactive = a.inactive;
  handles = a.handles;
}

children_kept : (b : Bool) (o m : Option (TreeNode Element)) → m ≡ option_map (flagged_if b) o → children_of m ≡ children_of o
children_kept b None m e = ap children_of e
children_kept b (Some n) m e = ap children_of e ∙ flagged_children b n

pub flags_children : (old new : Tree Element) (p : Handle → Bool) (h : Handle) → Flags old new p → children_at new h ≡ children_at old h
flags_children old new p h a = children_kept (p h) (node_at old h) (node_at new h) (a.nodes h)

live_kept : (b : Bool) (o m : Option (TreeNode Element)) → m ≡ option_map (flagged_if b) o → IsSome o → IsSome m
live_kept b None m e some = absurd (cc)
live_kept b (Some n) m e some = subst IsSome (sym e) refl

live_before : (b : Bool) (o m : Option (TreeNode Element)) → m ≡ option_map (flagged_if b) o → IsSome m → IsSome o
live_before b None m e some = absurd (let none = subst IsSome e some in cc)
live_before b (Some n) m e some = refl

pub flags_live : (old new : Tree Element) (p : Handle → Bool) (h : Handle) → Flags old new p → IsNode old h → IsNode new h
flags_live old new p h a = live_kept (p h) (node_at old h) (node_at new h) (a.nodes h)

-- forests with flags
pub tops-flagged : (p : Handle → Bool) (f : Forest Element) → tops (flagged p f) ≡ tops f
tops-flagged p none = refl
tops-flagged p (tree h e kids rest) = ap (λ hs. h ∷ hs) (tops-flagged p rest)

pub weigh-flagged : (w : Handle → ℕ) (p : Handle → Bool) (f : Forest Element) → weigh w (flagged p f) ≡ weigh w f
weigh-flagged w p none = refl
weigh-flagged w p (tree h e kids rest) = omega (arith, weigh-flagged w p kids, weigh-flagged w p rest)

pub nodes-flagged : (scrolled : ℕ → ℕ) (p : Handle → Bool) (f : Forest Element) → nodes_of scrolled (flagged p f) ≡ nodes_of scrolled f
nodes-flagged scrolled p none = refl
nodes-flagged scrolled p (tree h e kids rest) = by_flag (p h) (nodes-flagged scrolled p kids) (nodes-flagged scrolled p rest)
  where
    by_flag : (b : Bool) → nodes_of scrolled (flagged p kids) ≡ nodes_of scrolled kids → nodes_of scrolled (flagged p rest) ≡ nodes_of scrolled rest
        → nodes_of scrolled (tree h (cond b (with_flag true e) e) (flagged p kids) (flagged p rest)) ≡ nodes_of scrolled (tree h e kids rest)
    by_flag true below later = cc
    by_flag false below later = cc

pub Stands-flagged : (old new : Tree Element) (p : Handle → Bool) (q : Option Handle) (f : Forest Element) → Flags old new p → Stands (node_at old) q f → Stands (node_at new) q (flagged p f)
Stands-flagged old new p q none a stands = tt
Stands-flagged old new p q (tree h e kids rest) a stands = (
  here (p h) (a.nodes h ∙ ap (option_map (flagged_if (p h))) stands.0),
  Stands-flagged old new p (Some h) kids a stands.1,
  Stands-flagged old new p q rest a stands.2,
)
  where
    here : (b : Bool) → node_at new h ≡ option_map (flagged_if b) (Some (record { parent = q; children = tops kids; value = e }))
        → node_at new h ≡ Some (record { parent = q; children = tops (flagged p kids); value = cond b (with_flag true e) e })
    here true is = is ∙ ap (λ hs. Some (record { parent = q; children = hs; value = with_flag true e })) (sym (tops-flagged p kids))
    here false is = is ∙ ap (λ hs. Some (record { parent = q; children = hs; value = e })) (sym (tops-flagged p kids))

pub Is-flagged : (old new : Tree Element) (p : Handle → Bool) (f : Forest Element) → Flags old new p → Is old f → Is new (flagged p f)
Is-flagged old new p f a is = record {
  tops = by_tops ∙ is.tops ∙ sym (tops-flagged p f);
  stands = Stands-flagged old new p None f a is.stands;
  distinct = λ h. omega (arith, weigh-flagged (λ k. cond {A = ℕ} (same k h) 1 0) p f, is.distinct h);
  whole = λ h live. omega (arith, weigh-flagged (λ k. cond {A = ℕ} (same k h) 1 0) p f, is.whole h (live_before (p h) (node_at old h) (node_at new h) (a.nodes h) live));
}
  where
    by_tops : tops_at new ≡ tops_at old
    by_tops = let root = a.root in let inactive = a.inactive in cc

-- what stands below handles, in so many steps, in a store whose flags are set
pub plain-flagged : (at after : Handle → Option (TreeNode Element)) (p : Handle → Bool) → ((k : Handle) → after k ≡ option_map (flagged_if (p k)) (at k))
    → (n : ℕ) (hs : List Handle) → plain n after hs ≡ flagged p (plain n at hs)
unfolding plain
plain-flagged at after p same_but zero hs = refl
plain-flagged at after p same_but (suc n) [] = refl
plain-flagged at after p same_but (suc n) (h ∷ hs) =
    ap (λ o. plain_node h o (plain n after) hs) (same_but h) ∙ by_node (at h) (λ ks. plain-flagged at after p same_but n ks)
  where
    by_flag : (b : Bool) → p h ≡ b → (m : TreeNode Element) → ((ks : List Handle) → plain n after ks ≡ flagged p (plain n at ks))
        → plain_node h (Some (flagged_if b m)) (plain n after) hs ≡ flagged p (tree h m.value (plain n at m.children) (plain n at hs))
    by_flag true set m below =
        let kids = below m.children in let later = below hs in
        let first : with_flag true m.value ≡ cond (p h) (with_flag true m.value) m.value = ap (λ b. cond b (with_flag true m.value) m.value) (sym set) in
        cc
    by_flag false unset m below =
        let kids = below m.children in let later = below hs in
        let first : m.value ≡ cond (p h) (with_flag true m.value) m.value = ap (λ b. cond b (with_flag true m.value) m.value) (sym unset) in
        cc

    by_node : (o : Option (TreeNode Element)) → ((ks : List Handle) → plain n after ks ≡ flagged p (plain n at ks))
        → plain_node h (option_map (flagged_if (p h)) o) (plain n after) hs ≡ flagged p (plain_node h o (plain n at) hs)
    by_node None below = refl
    by_node (Some m) below = by_flag (p h) refl m below

pub subtree-flagged : (old new : Tree Element) (p : Handle → Bool) (h : Handle) → Flags old new p → subtree_at new h ≡ flagged p (subtree_at old h)
subtree-flagged old new p h a =
    ap (λ n. plain n (node_at new) (h ∷ [])) a.handles.used ∙ plain-flagged (node_at old) (node_at new) p a.nodes (used_count old.nodes) (h ∷ [])

pub size-flags : (old new : Tree Element) (p : Handle → Bool) (h : Handle) → Flags old new p → size (subtree_at new h) ≡ size (subtree_at old h)
size-flags old new p h a = ap size (subtree-flagged old new p h a) ∙ weigh-flagged (λ _. 1) p (subtree_at old h)

-- one flag
same_turned : (h k : Handle) → same h k ≡ same k h
same_turned h k = elim (cases_same h k) [
  | inl e ↦ same-eq h k e ∙ sym (same-eq k h (sym e))
  | inr apart ↦ same-ne h k apart ∙ sym (same-ne k h (λ e. apart (sym e)))
]

no_node : (o : Option (TreeNode Element)) → option_map (λ (n : TreeNode Element). n.value) o ≡ None → o ≡ None
no_node None e = refl
no_node (Some n) e = absurd (cc)

node_flagged : (b : Bool) (o : Option (TreeNode Element)) (e : Element) → (b ≡ true → option_map (λ (n : TreeNode Element). n.value) o ≡ Some e)
    → option_map (λ (n : TreeNode Element). cond b (record n { value = with_flag true e }) n) o ≡ option_map (flagged_if b) o
node_flagged b None e is = refl
node_flagged true (Some n) e is = let one : Some n.value ≡ Some e = is refl in let is_e : e ≡ n.value = (cc) in ap (λ v. Some (record n { value = with_flag true v })) is_e
node_flagged false (Some n) e is = refl

pub flag_set : (old new : Tree Element) (h : Handle) (on : Bool) → on ≡ true → Changes old new h (with_flag true) → Flags old new (λ k. same h k && on)
flag_set old new h on is_on changes = by_element (element_at old h) refl
  where
    test : (k : Handle) → (same h k && on) ≡ same k h
    test k = ap (λ b. same h k && b) is_on ∙ and_true (same h k) ∙ same_turned h k
      where
        and_true : (b : Bool) → (b && true) ≡ b
        and_true true = refl
        and_true false = refl

    by_element : (o : Option Element) → element_at old h ≡ o → Flags old new (λ k. same h k && on)
    by_element None at =
        let unchanged = changes.dead at in
        subst (λ (t : Tree Element). Flags old t (λ k. same h k && on)) (sym unchanged)
        (record {
          nodes = λ k. sym (ap (λ b. option_map (flagged_if b) (node_at old k)) (test k) ∙ nothing k);
          root = refl;
          inactive = refl;
          handles = keeps_none old;
        })
      where
        nothing : (k : Handle) → option_map (flagged_if (same k h)) (node_at old k) ≡ node_at old k
        nothing k = elim (cases_same k h) [
          | inl e ↦
              let gone : node_at old k ≡ None = ap (node_at old) e ∙ no_node (node_at old h) at in
              ap (option_map (flagged_if (same k h))) gone ∙ sym gone
          | inr apart ↦ ap (λ b. option_map (flagged_if b) (node_at old k)) (same-ne k h apart) ∙ mapped_none (node_at old k)
        ]
    by_element (Some e) at =
        let writes = changes.live e at in
        record {
          nodes = λ k.
              writes.writes.nodes k
              ∙ node_flagged (same k h) (node_at old k) e (λ equal. ap (element_at old) (same-true k h equal) ∙ at)
              ∙ ap (λ b. option_map (flagged_if b) (node_at old k)) (sym (test k));
          root = writes.root;
          inactive = writes.inactive;
          handles = writes.writes.handles;
        }

pub flag_left : (t : Tree Element) (h : Handle) (on : Bool) → on ≡ false → Flags t t (λ k. same h k && on)
flag_left t h on is_off = flags_none t (λ k. same h k && on) (λ k. ap (λ b. same h k && b) is_off ∙ and_false (same h k))
  where
    and_false : (b : Bool) → (b && false) ≡ false
    and_false true = refl
    and_false false = refl
