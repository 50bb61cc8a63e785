-- Nodes that are made, and the index of their numbers.
use Rattle.std.proofs.Common.{◌≡◌, ◌≢◌, ℕ, ◌+◌, ◌≤◌, Bool, false, cond, eqb, List, [], ◌∷◌, ◌++◌, Option, Some, None, IsSome, Result, Ok, Err, OnOk, option_map, refl, sym, ap, ◌∙◌, subst, inl, inr, take, get_or, length, ◌<◌, is_some, zero, suc, arith}
use Rattle.std.proofs.lemmas.Bool.{cases_eq, eq-eqb, ne_eqb}
use Rattle.std.proofs.lemmas.List.{take_more}
use Rattle.std.specs.BTreeMap.{BTreeMap, get}
use Rattle.std.specs.Ordering.{nat_cmp}
use Rattle.fx_handles.specs.declared.Handle.{Handle}
use Rattle.fx_handles.specs.HandleLaws.{cases_same}
use Rattle.node_tree.specs.Children.{Keeps}
use Rattle.node_tree.specs.Forest.{TreeNode}
use Rattle.node_tree.specs.Tree.{Tree, IsNode, node_at}
use Rattle.widget_model.specs.Plain.{PlainWidget}
use Rattle.plain_tree.specs.Render.{Render, render, Renders, no_renders, more_renders, renders_of, count_of, counts_of}
use Rattle.render_tree.specs.Object.{RenderObject}
use Rattle.render_tree.specs.Edits.{InsertedLoose, new_object}
use Rattle.render_sync.specs.Numbering.{number_at, NumbersDiffer, IsNumbering}
use Rattle.render_sync.specs.Renders.{EachNumber, AllNumbers}
use Rattle.render_sync.specs.Synced.{IsFresh, Grows}

same_some : {X : Type 0} (a b : X) → Some a ≡ Some b → a ≡ b
same_some a b e = cc

-- ---- a tree that gets new nodes

is_node : {T : Type 0} (t : Tree T) (k : Handle) (n : TreeNode T) → node_at t k ≡ Some n → IsNode t k
is_node t k n e = subst IsSome (sym e) refl

pub grows_none : (t : Tree RenderObject) → Grows t t
grows_none t = record {
  keeps = λ k live. refl;
  fresh = λ k n was is. absurd (let both = sym was ∙ is in cc);
  root = refl;
}

module _ (a b c : Tree RenderObject) (first : Grows a b) (then : Grows b c) where
  both_fresh : (k : Handle) (n : TreeNode RenderObject) → (o : Option (TreeNode RenderObject)) → node_at b k ≡ o → node_at a k ≡ None → node_at c k ≡ Some n → IsFresh n
  both_fresh k n None at was is = then.fresh k n at is
  both_fresh k n (Some m) at was is =
      let same : Some m ≡ Some n = sym at ∙ sym (then.keeps k (is_node b k m at)) ∙ is in
      subst IsFresh (same_some m n same) (first.fresh k m was at)

  pub grows_more : Grows a c
  grows_more = record {
    keeps = λ k live.
        let here = first.keeps k live in
        then.keeps k (subst IsSome (sym here) live) ∙ here;
    fresh = λ k n was is. both_fresh k n (node_at b k) refl was is;
    root = then.root ∙ first.root;
  }

module _ (old new : Tree RenderObject) (h : Handle) (number : ℕ) (w : PlainWidget) (inserted : InsertedLoose old new h (new_object number w)) where
  fresh_at : (k : Handle) (n : TreeNode RenderObject) → node_at old k ≡ None → node_at new k ≡ Some n → IsFresh n
  fresh_at k n was is = elim (cases_same k h) [
    | inl here ↦
        let one : Some (record { parent = None; children = []; value = new_object number w }) ≡ Some n = sym inserted.adds.found ∙ ap (node_at new) (sym here) ∙ is in
        (number, w, sym (same_some _ n one))
    | inr other ↦ absurd (let both = sym is ∙ inserted.adds.others k other ∙ ap (option_map _) was in cc)
  ]

  pub grows_loose : Keeps old new → Grows old new
  grows_loose keeps = record { keeps = keeps; fresh = fresh_at; root = inserted.root }

-- ---- the index

number_here : (o : Option RenderObject) (e : RenderObject) → o ≡ Some e → option_map (λ x. x.number) o ≡ Some e.number
number_here o e at = ap (option_map (λ x. x.number)) at

pub numbers_differ : (numbers : BTreeMap ℕ Handle) (t : Tree RenderObject) → IsNumbering numbers t → NumbersDiffer t
numbers_differ numbers t is n h k at_h at_k = same_some h k (sym (is.to_index n h at_h) ∙ is.to_index n k at_k)

-- a number is in the index, where a node has it
pub numbered_node : (numbers : BTreeMap ℕ Handle) (t : Tree RenderObject) (n : ℕ) → IsNumbering numbers t → IsSome (get nat_cmp numbers n) → (h : Handle) × (number_at t h ≡ Some n)
numbered_node numbers t n is there = by_handle (get nat_cmp numbers n) refl there
  where
    by_handle : (o : Option Handle) → get nat_cmp numbers n ≡ o → IsSome o → (h : Handle) × (number_at t h ≡ Some n)
    by_handle None e there = cc
    by_handle (Some h) e there = (h, is.to_node n h e)

live_number : (o : Option (TreeNode RenderObject)) (n : ℕ) → option_map (λ (x : RenderObject). x.number) (option_map (λ (x : TreeNode RenderObject). x.value) o) ≡ Some n → IsSome o
live_number None n e = cc
live_number (Some x) n e = refl

pub numbered_live : (t : Tree RenderObject) (h : Handle) (n : ℕ) → number_at t h ≡ Some n → IsNode t h
numbered_live t h n e = live_number (node_at t h) n e

-- a number stays in the index
pub stays_numbered : (numbers after : BTreeMap ℕ Handle) (old new : Tree RenderObject) → IsNumbering numbers old → IsNumbering after new → Keeps old new
    → (n : ℕ) → IsSome (get nat_cmp numbers n) → IsSome (get nat_cmp after n)
stays_numbered numbers after old new was is keeps n there =
    let found = numbered_node numbers old n was there in
    let kept = keeps found.0 (numbered_live old found.0 n found.1) in
    let now : number_at new found.0 ≡ Some n = ap (λ (o : Option (TreeNode RenderObject)). option_map (λ (x : RenderObject). x.number) (option_map (λ (x : TreeNode RenderObject). x.value) o)) kept ∙ found.1 in
    subst IsSome (sym (is.to_index n found.0 now)) refl

module _ (numbers after : BTreeMap ℕ Handle) (old new : Tree RenderObject) (h : Handle) (number : ℕ) (w : PlainWidget)
    (is : IsNumbering numbers old) (inserted : InsertedLoose old new h (new_object number w)) (free : get nat_cmp numbers number ≡ None)
    (index : (n : ℕ) → get nat_cmp after n ≡ cond (eqb number n) (Some h) (get nat_cmp numbers n)) (keeps : Keeps old new) where
  its_number : number_at new h ≡ Some number
  its_number = ap (λ (o : Option (TreeNode RenderObject)). option_map (λ (x : RenderObject). x.number) (option_map (λ (x : TreeNode RenderObject). x.value) o)) inserted.adds.found

  other_number : (k : Handle) → k ≢ h → number_at new k ≡ number_at old k
  other_number k other =
      ap (λ (o : Option (TreeNode RenderObject)). option_map (λ (x : RenderObject). x.number) (option_map (λ (x : TreeNode RenderObject). x.value) o)) (inserted.adds.others k other)
      ∙ same_values (node_at old k)
    where
      same_values : (o : Option (TreeNode RenderObject)) → option_map (λ (x : RenderObject). x.number) (option_map (λ (x : TreeNode RenderObject). x.value) (option_map (λ x. x) o))
          ≡ option_map (λ (x : RenderObject). x.number) (option_map (λ (x : TreeNode RenderObject). x.value) o)
      same_values None = refl
      same_values (Some x) = refl

  pub numbering_loose : IsNumbering after new
  numbering_loose = record {
    to_node = λ n k there. elim (cases_eq number n) [
      | inl here ↦
          let one : Some h ≡ Some k = ap (λ b. cond b (Some h) (get nat_cmp numbers n)) (sym (eq-eqb number n here)) ∙ sym (index n) ∙ there in
          ap (number_at new) (sym (same_some h k one)) ∙ its_number ∙ ap Some here
      | inr apart ↦
          let was : get nat_cmp numbers n ≡ Some k = ap (λ b. cond b (Some h) (get nat_cmp numbers n)) (sym (ne_eqb number n apart)) ∙ sym (index n) ∙ there in
          let before = is.to_node n k was in
          ap (λ (o : Option (TreeNode RenderObject)). option_map (λ (x : RenderObject). x.number) (option_map (λ (x : TreeNode RenderObject). x.value) o)) (keeps k (numbered_live old k n before)) ∙ before
    ];
    to_index = λ n k there. elim (cases_same k h) [
      | inl is_h ↦
          let has : Some number ≡ Some n = sym its_number ∙ ap (number_at new) (sym is_h) ∙ there in
          index n ∙ ap (λ b. cond b (Some h) (get nat_cmp numbers n)) (eq-eqb number n (same_some number n has)) ∙ ap Some (sym is_h)
      | inr other ↦
          let before : number_at old k ≡ Some n = sym (other_number k other) ∙ there in
          let named = is.to_index n k before in
          let apart : number ≢ n = λ e. absurd (let both = sym free ∙ ap (get nat_cmp numbers) e ∙ named in cc) in
          index n ∙ ap (λ b. cond b (Some h) (get nat_cmp numbers n)) (ne_eqb number n apart) ∙ named
    ];
  }

-- ---- numbers of lists of render nodes

mutual
  pub numbers_mapped : (P Q : ℕ → Type 0) → ((n : ℕ) → P n → Q n) → (r : Render) → EachNumber P r → EachNumber Q r
  numbers_mapped P Q f (render number look told scroll count children) h = (f number h.0, all_mapped P Q f children h.1)

  pub all_mapped : (P Q : ℕ → Type 0) → ((n : ℕ) → P n → Q n) → (rs : Renders) → AllNumbers P rs → AllNumbers Q rs
  all_mapped P Q f no_renders h = tt
  all_mapped P Q f (more_renders r rs) h = (numbers_mapped P Q f r h.0, all_mapped P Q f rs h.1)

pub all_after : (P : ℕ → Type 0) (rs qs : List Render) → AllNumbers P (renders_of rs) → AllNumbers P (renders_of qs) → AllNumbers P (renders_of (rs ++ qs))
all_after P [] qs h k = k
all_after P (r ∷ rs) qs h k = (h.0, all_after P rs qs h.1 k)

pub counts_after : (rs qs : List Render) → counts_of (renders_of (rs ++ qs)) ≡ counts_of (renders_of rs) + counts_of (renders_of qs)
counts_after [] qs = omega arith
counts_after (r ∷ rs) qs = let rest = counts_after rs qs in omega arith

pub counts_taken : (k : ℕ) (rs : List Render) → counts_of (renders_of (take k rs)) ≤ counts_of (renders_of rs)
counts_taken zero rs = omega arith
counts_taken (suc k) [] = omega arith
counts_taken (suc k) (r ∷ rs) = let rest = counts_taken k rs in omega arith

pub none_of : {A : Type 0} (o : Option A) (b : Bool) → b ≡ is_some o → b ≡ false → o ≡ None
none_of None b e f = refl
none_of (Some x) b e f = absurd (let both = sym e ∙ f in cc)

-- one more of a list
pub one_taken : (i : ℕ) (rs : List Render) (r : Render) → i < length rs → r ≡ get_or rs i r → take (i + 1) rs ≡ take i rs ++ r ∷ []
one_taken i rs r low at = take_more rs i r low ∙ ap (λ x. take i rs ++ x ∷ []) (sym at)

-- room for one more
pub room_more : (used most i : ℕ) (now : ℕ) (rs : List Render) (r : Render) → take (i + 1) rs ≡ take i rs ++ r ∷ [] → now ≤ used + counts_of (renders_of (take i rs))
    → used + counts_of (renders_of rs) ≤ most → now + count_of r ≤ most
room_more used most i now rs r taken so_far whole =
    let parts = ap (λ l. counts_of (renders_of l)) taken ∙ counts_after (take i rs) (r ∷ []) in
    let few = counts_taken (i + 1) rs in
    omega arith

pub room_after : (used i now then : ℕ) (rs : List Render) (r : Render) → take (i + 1) rs ≡ take i rs ++ r ∷ [] → now ≤ used + counts_of (renders_of (take i rs))
    → then ≤ now + count_of r → then ≤ used + counts_of (renders_of (take (i + 1) rs))
room_after used i now then rs r taken so_far more =
    let parts = ap (λ l. counts_of (renders_of l)) taken ∙ counts_after (take i rs) (r ∷ []) in
    omega arith

-- the numbers of one more
pub numbers_after : (P Q : ℕ → Type 0) (i : ℕ) (rs : List Render) (r : Render) → take (i + 1) rs ≡ take i rs ++ r ∷ [] → ((n : ℕ) → P n → Q n) → AllNumbers P (renders_of (take i rs)) → EachNumber Q r
    → AllNumbers Q (renders_of (take (i + 1) rs))
numbers_after P Q i rs r taken stay so_far one =
    subst (λ l. AllNumbers Q (renders_of l)) (sym taken) (all_after Q (take i rs) (r ∷ []) (all_mapped P Q stay (renders_of (take i rs)) so_far) (one, tt))

pub ok_three : {X E A B C D : Type 0} (r : Result X E) → OnOk r A → OnOk r B → OnOk r C → (A → B → C → D) → OnOk r D
ok_three (Ok x) a b c f = f a b c
ok_three (Err e) a b c f = tt

pub count_of_one : (i : ℕ) (rs : List Render) (r : Render) → take (i + 1) rs ≡ take i rs ++ r ∷ [] → count_of r ≤ counts_of (renders_of rs)
count_of_one i rs r taken =
    let parts = ap (λ l. counts_of (renders_of l)) taken ∙ counts_after (take i rs) (r ∷ []) in
    let few = counts_taken (i + 1) rs in
    omega arith
