-- Plans name no handle twice, since each handle stands for one number.
use Rattle.std.proofs.Common.{◌≡◌, ℕ, zero, suc, ◌+◌, ◌≤◌, eqb, Bool, true, false, cond, Option, Some, None, IsSome, option_map, List, [], ◌∷◌, ◌++◌, refl, sym, ap, ◌∙◌, subst, arith}
use Rattle.std.specs.Cmp.{unsigned_Decides}
use Rattle.std.specs.List.{All}
use Rattle.std.proofs.lemmas.List.Elements.{All-append}
use Rattle.std.proofs.lemmas.Bool.{ne_eqb}
use borrow.Author.Tests.{eqb-true}
use Rattle.fx_handles.specs.declared.Handle.{Handle}
use Rattle.fx_handles.specs.Handle.{same}
use Rattle.fx_handles.specs.HandleLaws.{same-true}
use Rattle.node_tree.specs.Forest.{Forest, count, append, In, IsDistinct, tops}
use Rattle.node_tree.specs.Forest.Forest.{none, tree}
use Rattle.node_tree.specs.Plan.{PlanEntry, entries, IsUpdated}
use Rattle.plain_tree.specs.At.{numbers_in}
use Rattle.plain_tree.specs.Laws.{DiffersFrom, AllDiffer}
use Rattle.plain_tree.specs.PlainNode.{nodes_of as listed}
use Rattle.plain_tree.specs.declared.render.ParentData.{ParentData}
use Rattle.plain_tree.specs.declared.role.RenderRole.{RenderRole}
use Rattle.plain_tree.specs.Projection.{told_by, told_at}
use Rattle.plain_tree.specs.RenderRole.{vanishes}
use Rattle.element_tree.specs.Element.{Element}
use Rattle.element_tree.specs.Fields.{CanFollow}
use Rattle.element_tree.specs.Nodes.{nodes_of}
use Rattle.element_tree.specs.Renewal.{Renewal, renewed}
use Rattle.render_tree.specs.Object.{RenderObject}
use Rattle.render_tree.specs.Redraw.{Redraw}
use Rattle.build_walk.specs.Renewing.{renewal_of, renewals, GoesOn, AllGoOn, role_of, redraw_of, drawn_at, drawn, IsDrawn, Unless, AreDrawn}

-- ---- how often a number stands in a list

often : ℕ → List ℕ → ℕ
often n [] = 0
often n (x ∷ xs) = cond {A = ℕ} (eqb x n) 1 0 + often n xs

often_append : (n : ℕ) (xs ys : List ℕ) → often n (xs ++ ys) ≡ often n xs + often n ys
unfolding often
often_append n [] ys = omega arith
often_append n (x ∷ xs) ys = let e = often_append n xs ys in omega arith

absent : (x : ℕ) (xs : List ℕ) → DiffersFrom x xs → often x xs ≡ 0
unfolding often
absent x [] d = refl
absent x (y ∷ xs) d =
    let here : cond {A = ℕ} (eqb y x) 1 0 ≡ 0 = ap (λ b. cond {A = ℕ} b 1 0) (ne_eqb y x (λ e. d.0 (sym e))) in
    let rest = absent x xs d.1 in
    omega arith

once_when : (b : Bool) (m : ℕ) → (b ≡ true → m ≡ 0) → m ≤ 1 → cond {A = ℕ} b 1 0 + m ≤ 1
once_when true m h le = let e = h refl in omega arith
once_when false m h le = omega arith

once : (n : ℕ) (xs : List ℕ) → AllDiffer xs → often n xs ≤ 1
unfolding often
once n [] d = omega arith
once n (x ∷ xs) d =
    once_when (eqb x n) (often n xs) (λ e. subst (λ m. often m xs ≡ 0) (eqb-true x n e) (absent x xs d.0)) (once n xs d.1)

-- ---- how often a handle stands in a forest

count_append : {T : Type 0} (k : Handle) (f g : Forest T) → count k (append f g) ≡ count k f + count k g
count_append k none g = omega arith
count_append k (tree h v below rest) g = let e = count_append k rest g in omega arith

count_mapped : (k : Handle) (f : Forest Element) → count k (renewals f) ≡ count k f
count_mapped k none = refl
count_mapped k (tree h e kids rest) = let a = count_mapped k kids in let b = count_mapped k rest in omega arith

pub tops_mapped : (f : Forest Element) → tops (renewals f) ≡ tops f
tops_mapped none = refl
tops_mapped (tree h e kids rest) = ap (λ l. h ∷ l) (tops_mapped rest)

-- a handle counts where the number does
less_when : (b c : Bool) → (b ≡ true → c ≡ true) → cond {A = ℕ} b 1 0 ≤ cond {A = ℕ} c 1 0
less_when true c h = let e : cond {A = ℕ} c 1 0 ≡ 1 = ap (λ b. cond {A = ℕ} b 1 0) (h refl) in omega arith
less_when false true h = omega arith
less_when false false h = omega arith

some_number : (a b : Option ℕ) (m n : ℕ) → a ≡ b → a ≡ Some m → b ≡ Some n → eqb m n ≡ true
some_number a b m n e p q = let same : m ≡ n = cc in (unsigned_Decides m n).1 same

abbrev number_in : Option Element → Option ℕ
number_in o = option_map (λ (e : Element). e.number) o

abbrev object_number : Option RenderObject → Option ℕ
object_number o = option_map (λ (x : RenderObject). x.number) o

numbers_split : (scrolled : ℕ → ℕ) (h : Handle) (e : Element) (kids rest : Forest Element) (n : ℕ)
    → often n (numbers_in (listed (nodes_of scrolled (tree h e kids rest)))) ≡ cond {A = ℕ} (eqb e.number n) 1 0 + (often n (numbers_in (listed (nodes_of scrolled kids))) + often n (numbers_in (listed (nodes_of scrolled rest))))
unfolding often
numbers_split scrolled h e kids rest n =
    let joined = often_append n (numbers_in (listed (nodes_of scrolled kids))) (numbers_in (listed (nodes_of scrolled rest))) in
    omega arith

module _ (scrolled : ℕ → ℕ) where
  abbrev pub numbers : Forest Element → List ℕ
  numbers f = numbers_in (listed (nodes_of scrolled f))

  module _ (at : Handle → Option Element) where
    counted : (k : Handle) (n : ℕ) (f : Forest Element) → number_in (at k) ≡ Some n → AllGoOn at f → count k f ≤ often n (numbers f)
    counted k n none stored go = omega arith
    counted k n (tree h e kids rest) stored go =
        let here : cond {A = ℕ} (same h k) 1 0 ≤ cond {A = ℕ} (eqb e.number n) 1 0 =
        less_when (same h k) (eqb e.number n) (λ s. some_number (number_in (at h)) (number_in (at k)) e.number n (ap (λ x. number_in (at x)) (same-true h k s))
        (ap number_in go.0.stored ∙ ap (λ x. Some x) go.0.number) stored) in
        let a = counted k n kids stored go.1 in
        let b = counted k n rest stored go.2 in
        let c = numbers_split scrolled h e kids rest n in
        omega arith

    not_counted : (k : Handle) (f : Forest Element) → at k ≡ None → AllGoOn at f → count k f ≡ 0
    not_counted k none gone go = refl
    not_counted k (tree h e kids rest) gone go =
        let here : cond {A = ℕ} (same h k) 1 0 ≤ cond {A = ℕ} false 1 0 = less_when (same h k) false (λ s. let x = ap at (same-true h k s) in let y = go.0.stored in cc) in
        let a = not_counted k kids gone go.1 in
        let b = not_counted k rest gone go.2 in
        omega arith

    by_stored : (k : Handle) (o : Option Element) (f : Forest Element) → at k ≡ o → AllDiffer (numbers f) → AllGoOn at f → count k f ≤ 1
    by_stored k None f is d go = let e = not_counted k f is go in omega arith
    by_stored k (Some e) f is d go =
        let a = counted k e.number f (ap number_in is) go in
        let b = once e.number (numbers f) d in
        omega arith

    pub elements_distinct : (f : Forest Element) → AllDiffer (numbers f) → AllGoOn at f → IsDistinct (renewals f)
    elements_distinct f d go = λ k. let e = count_mapped k f in let b = by_stored k (at k) f refl d go in omega arith

    live_when : (k : Handle) (o : Option Element) (f : Forest Element) → at k ≡ o → 1 ≤ count k f → AllGoOn at f → IsSome o
    live_when k None f is low go = let e = not_counted k f is go in absurd (omega arith)
    live_when k (Some e) f is low go = refl

    pub elements_live : (f : Forest Element) (k : Handle) → In k (renewals f) → AllGoOn at f → IsSome (at k)
    elements_live f k low go = live_when k (at k) f refl (let e = count_mapped k f in omega arith) go

    this_renewed : (h : Handle) (e : Element) → GoesOn at h e → option_map (renewed (renewal_of e)) (at h) ≡ Some e
    this_renewed h e go =
        ap (option_map (renewed (renewal_of e))) go.stored
        ∙ (λ i. Some (record { number = go.number i; widget = e.widget; fields = go.fields i; index = e.index; dirty = sym go.clean i; output = e.output; render = e.render }))

    -- what the plan leaves are these elements
    pub elements_updated : (f : Forest Element) → AllGoOn at f → IsUpdated renewed at (renewals f) f
    elements_updated none go = tt
    elements_updated (tree h e kids rest) go = (refl, this_renewed h e go.0, elements_updated kids go.1, elements_updated rest go.2)

    -- each entry's widget may follow the one that is there
    all_cons : {A : Type 0} (P : A → Type 0) (x : A) (xs : List A) → P x → All P xs → All P (x ∷ xs)
    all_cons P x xs h t zero d low = h
    all_cons P x xs h t (suc k) d low = t k d (omega arith)

    same_element : (a b : Element) → Some a ≡ Some b → a ≡ b
    same_element a b e = cc

    abbrev Follows : PlanEntry Renewal → Type 0
    Follows x = (e : Element) → at x.at ≡ Some e → CanFollow e.widget x.update.widget

    pub elements_follow : (p : Option Handle) (f : Forest Element) → AllGoOn at f → All Follows (entries p (renewals f))
    elements_follow p none go = λ k d low. absurd (omega arith)
    elements_follow p (tree h e kids rest) go =
        All-append Follows (entries (Some h) (renewals kids)) _ (elements_follow (Some h) kids go.1)
        (all_cons Follows _ (entries p (renewals rest))
        (λ x is. subst (λ (y : Element). CanFollow y.widget e.widget) (same_element go.0.was x (sym go.0.stored ∙ is)) go.0.follows)
        (elements_follow p rest go.2))

  module _ (at : Handle → Option RenderObject) where
    -- ---- render nodes

    drawn_when : (b : Bool) (P : Type 0) (k : Handle) (m : ℕ) (through own : Forest Redraw) → count k through ≤ m → (P → count k own ≤ m) → Unless b P → count k (cond b through own) ≤ m
    drawn_when true P k m through own h g u = h
    drawn_when false P k m through own h g u = g u

    at_handle : (k : Handle) (n scroll : ℕ) (e : Element) (u : Redraw) (below : Forest Redraw) (m : ℕ) → object_number (at k) ≡ Some n → IsDrawn at scroll e → count k below ≤ m
        → count k (drawn_at e.render u below) ≤ cond {A = ℕ} (eqb e.number n) 1 0 + m
    at_handle k n scroll e u below m stored d le =
        let here : cond {A = ℕ} (same d.handle k) 1 0 ≤ cond {A = ℕ} (eqb e.number n) 1 0 =
        less_when (same d.handle k) (eqb e.number n) (λ s. some_number (object_number (at d.handle)) (object_number (at k)) e.number n (ap (λ x. object_number (at x)) (same-true d.handle k s))
        (ap object_number d.stored ∙ ap (λ x. Some x) d.number) stored) in
        let is : count k (drawn_at e.render u below) ≡ count k (tree d.handle u below none) = ap (λ o. count k (drawn_at o u below)) d.named in
        omega arith

    drawn_counted : (k : Handle) (n : ℕ) (above : RenderRole) (told : Option ParentData) (f : Forest Element) → object_number (at k) ≡ Some n → AreDrawn at scrolled f → count k (drawn above told f) ≤ often n (numbers f)
    drawn_counted k n above told none stored d = omega arith
    drawn_counted k n above told (tree h e kids rest) stored d =
        let parent_data = told_at above told e.index in
        let through = drawn above (Some (told_by above (role_of e) parent_data)) kids in
        let own = drawn_at e.render (redraw_of e parent_data) (drawn (role_of e) None kids) in
        let a : count k through ≤ often n (numbers kids) = drawn_counted k n above (Some (told_by above (role_of e) parent_data)) kids stored d.1 in
        let b : count k (drawn (role_of e) None kids) ≤ often n (numbers kids) = drawn_counted k n (role_of e) None kids stored d.1 in
        let m = cond {A = ℕ} (eqb e.number n) 1 0 + often n (numbers kids) in
        let here : count k (cond (vanishes (role_of e)) through own) ≤ m =
        drawn_when (vanishes (role_of e)) (IsDrawn at (scrolled e.number) e) k m through own (omega arith)
        (λ p. at_handle k n (scrolled e.number) e (redraw_of e parent_data) (drawn (role_of e) None kids) (often n (numbers kids)) stored p b) d.0 in
        let c = drawn_counted k n above told rest stored d.2 in
        let s = numbers_split scrolled h e kids rest n in
        let j = count_append k (cond (vanishes (role_of e)) through own) (drawn above told rest) in
        omega arith

    none_at : (k : Handle) (scroll : ℕ) (e : Element) (u : Redraw) (below : Forest Redraw) → at k ≡ None → IsDrawn at scroll e → count k below ≡ 0 → count k (drawn_at e.render u below) ≤ 0
    none_at k scroll e u below gone d z =
        let here : cond {A = ℕ} (same d.handle k) 1 0 ≤ cond {A = ℕ} false 1 0 = less_when (same d.handle k) false (λ s. let x = ap at (same-true d.handle k s) in let y = d.stored in cc) in
        let is : count k (drawn_at e.render u below) ≡ count k (tree d.handle u below none) = ap (λ o. count k (drawn_at o u below)) d.named in
        omega arith

    not_drawn : (k : Handle) (above : RenderRole) (told : Option ParentData) (f : Forest Element) → at k ≡ None → AreDrawn at scrolled f → count k (drawn above told f) ≡ 0
    not_drawn k above told none gone d = refl
    not_drawn k above told (tree h e kids rest) gone d =
        let parent_data = told_at above told e.index in
        let through = drawn above (Some (told_by above (role_of e) parent_data)) kids in
        let own = drawn_at e.render (redraw_of e parent_data) (drawn (role_of e) None kids) in
        let a : count k through ≡ 0 = not_drawn k above (Some (told_by above (role_of e) parent_data)) kids gone d.1 in
        let b : count k (drawn (role_of e) None kids) ≡ 0 = not_drawn k (role_of e) None kids gone d.1 in
        let here : count k (cond (vanishes (role_of e)) through own) ≤ 0 =
        drawn_when (vanishes (role_of e)) (IsDrawn at (scrolled e.number) e) k 0 through own (omega arith)
        (λ p. none_at k (scrolled e.number) e (redraw_of e parent_data) (drawn (role_of e) None kids) gone p b) d.0 in
        let c = not_drawn k above told rest gone d.2 in
        let j = count_append k (cond (vanishes (role_of e)) through own) (drawn above told rest) in
        omega arith

    by_object : (k : Handle) (o : Option RenderObject) (above : RenderRole) (told : Option ParentData) (f : Forest Element) → at k ≡ o → AllDiffer (numbers f) → AreDrawn at scrolled f → count k (drawn above told f) ≤ 1
    by_object k None above told f is d go = let e = not_drawn k above told f is go in omega arith
    by_object k (Some o) above told f is d go =
        let a = drawn_counted k o.number above told f (ap object_number is) go in
        let b = once o.number (numbers f) d in
        omega arith

    pub drawn_distinct : (above : RenderRole) (told : Option ParentData) (f : Forest Element) → AllDiffer (numbers f) → AreDrawn at scrolled f → IsDistinct (drawn above told f)
    drawn_distinct above told f d go = λ k. by_object k (at k) above told f refl d go

    drawn_live_when : (k : Handle) (o : Option RenderObject) (above : RenderRole) (told : Option ParentData) (f : Forest Element) → at k ≡ o → 1 ≤ count k (drawn above told f) → AreDrawn at scrolled f → IsSome o
    drawn_live_when k None above told f is low go = let e = not_drawn k above told f is go in absurd (omega arith)
    drawn_live_when k (Some o) above told f is low go = refl

    pub drawn_live : (above : RenderRole) (told : Option ParentData) (f : Forest Element) (k : Handle) → In k (drawn above told f) → AreDrawn at scrolled f → IsSome (at k)
    drawn_live above told f k low go = drawn_live_when k (at k) above told f refl low go

-- ---- for the law

pub ends : (xs : List Handle) → xs ++ [] ≡ xs
ends [] = refl
ends (x ∷ xs) = ap (λ l. x ∷ l) (ends xs)

pub some_mapped : {A B : Type 0} (f : A → B) (o : Option A) → IsSome (option_map f o) → IsSome o
some_mapped f None h = cc
some_mapped f (Some a) h = refl
