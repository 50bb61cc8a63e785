-- One way through the forest sets the marks of a whole list, since marks don't change how far others reach.
use Rattle.std.proofs.Common.{◌≡◌, Bool, true, false, not, ◌&&◌, ◌||◌, List, [], ◌∷◌, refl, sym, ap, ◌∙◌, subst}
use Rattle.fx_handles.specs.declared.Handle.{Handle}
use Rattle.fx_handles.specs.Handle.{same}
use Rattle.node_tree.specs.Forest.{Forest}
use Rattle.node_tree.specs.Forest.Forest.{none, tree}
use Rattle.tree_marks.specs.Marking.{Above, Marking, IsMarking, within, is_boundary}
use Rattle.tree_marks.specs.Marks.{listed, has_node, has_listed, climbs, mark, mark_all, some_climbs, sweep}

-- ---- on tests

pub or_and : (x y t : Bool) → ((x && t) || (y && t)) ≡ ((x || y) && t)
or_and true true true = refl
or_and true true false = refl
or_and true false true = refl
or_and true false false = refl
or_and false y t = refl

-- (a or b) or (c or d), taken the other way
pub or_swap : (a b c d : Bool) → ((a || b) || (c || d)) ≡ ((a || c) || (b || d))
or_swap true b c d = refl
or_swap false true true d = refl
or_swap false true false d = refl
or_swap false false c d = refl

pub or_three : (a b c d e g : Bool) → ((a || (b || c)) || (d || (e || g))) ≡ ((a || d) || ((b || e) || (c || g)))
or_three a b c d e g = or_swap a (b || c) d (e || g) ∙ ap (λ t. (a || d) || t) (or_swap b c e g)

pub and_or : (x y t : Bool) → ((t && x) || (t && y)) ≡ (t && (x || y))
and_or x y true = refl
and_or x y false = refl

pub three : {A B C D : Type 0} (g : A → B → C → D) {a x : A} {b y : B} {c z : C} → a ≡ x → b ≡ y → c ≡ z → g a b c ≡ g x y z
three g {a = a} {x = x} {b = b} {y = y} {c = c} {z = z} e f h = ap (λ t. g t b c) e ∙ (ap (λ t. g x t c) f ∙ ap (λ t. g x y t) h)

module _ {V : Type 0} (m : Marking V) (ok : IsMarking m) where
  -- ---- marks don't change how far others reach

  pub within-marked : (p : Above) (f b : Bool) (v : V) → within m p (m.marked f b v) ≡ within m p v
  within-marked p f b v =
      let place : Bool → Bool → Above = λ h a. record { top = false; hidden = h; asked = p.asked || a } in
      ap (λ h. place h (m.asks (m.marked f b v))) (ok.hides f b v) ∙ ap (λ a. place (m.hides v) a) (ok.asks f b v)

  pub boundary-marked : (p : Above) (f b : Bool) (v : V) → is_boundary m p (m.marked f b v) ≡ is_boundary m p v
  boundary-marked p f b v = ap (λ e. not p.asked && e) (ok.ends p.top p.hidden f b v)

  -- what is so below a node is so below the marked one
  pub below-marked : (P : Above → Type 0) (p : Above) (f b : Bool) (v : V) → P (within m p v) → P (within m p (m.marked f b v))
  below-marked P p f b v x = subst P (sym (within-marked p f b v)) x

  pub climbs-mark : (cs : List Handle) (also : Bool) (p : Above) (c : Handle) (f : Forest V) → some_climbs m cs p (mark m also p c f) ≡ some_climbs m cs p f
  climbs-mark cs also p c none = refl
  climbs-mark cs also p c (tree k v kids rest) =
      let q : Above = within m p v in
      let flag : Bool = (same k c || climbs m q c kids) && m.takes p.top v in
      let below : Bool = has_node c kids || (also && same k c) in
      three
      (λ a b r. ((listed k cs || a) && not b) || r)
      (ap (λ x. some_climbs m cs x (mark m also q c kids)) (within-marked p flag below v) ∙ climbs-mark cs also q c kids)
      (boundary-marked p flag below v)
      (climbs-mark cs also p c rest)

  pub listed-mark : (cs : List Handle) (also : Bool) (p : Above) (c : Handle) (f : Forest V) → has_listed cs (mark m also p c f) ≡ has_listed cs f
  listed-mark cs also p c none = refl
  listed-mark cs also p c (tree k v kids rest) =
      ap (λ t. listed k cs || (t || has_listed cs (mark m also p c rest))) (listed-mark cs also (within m p v) c kids)
      ∙ ap (λ t. listed k cs || (has_listed cs kids || t)) (listed-mark cs also p c rest)

  -- ---- the first of a list, and the others

  pub climbs-cons : (c : Handle) (cs : List Handle) (p : Above) (f : Forest V) → (climbs m p c f || some_climbs m cs p f) ≡ some_climbs m (c ∷ cs) p f
  climbs-cons c cs p none = refl
  climbs-cons c cs p (tree k v kids rest) =
      let q : Above = within m p v in
      let t : Bool = not (is_boundary m p v) in
      or_swap ((same k c || climbs m q c kids) && t) (climbs m p c rest) ((listed k cs || some_climbs m cs q kids) && t) (some_climbs m cs p rest)
      ∙ (ap (λ x. x || (climbs m p c rest || some_climbs m cs p rest)) (or_and (same k c || climbs m q c kids) (listed k cs || some_climbs m cs q kids) t)
      ∙ (ap (λ x. (x && t) || (climbs m p c rest || some_climbs m cs p rest)) (or_swap (same k c) (climbs m q c kids) (listed k cs) (some_climbs m cs q kids))
      ∙ (ap (λ x. (((same k c || listed k cs) || x) && t) || (climbs m p c rest || some_climbs m cs p rest)) (climbs-cons c cs q kids)
      ∙ ap (λ x. (((same k c || listed k cs) || some_climbs m (c ∷ cs) q kids) && t) || x) (climbs-cons c cs p rest))))

  pub listed-cons : (c : Handle) (cs : List Handle) (f : Forest V) → (has_node c f || has_listed cs f) ≡ has_listed (c ∷ cs) f
  listed-cons c cs none = refl
  listed-cons c cs (tree k v kids rest) =
      or_three (same k c) (has_node c kids) (has_node c rest) (listed k cs) (has_listed cs kids) (has_listed cs rest)
      ∙ (ap (λ x. (same k c || listed k cs) || (x || (has_node c rest || has_listed cs rest))) (listed-cons c cs kids)
      ∙ ap (λ x. (same k c || listed k cs) || (has_listed (c ∷ cs) kids || x)) (listed-cons c cs rest))

  -- ---- no marks

  pub climbs-nil : (p : Above) (f : Forest V) → some_climbs m [] p f ≡ false
  climbs-nil p none = refl
  climbs-nil p (tree k v kids rest) =
      ap (λ x. (x && not (is_boundary m p v)) || some_climbs m [] p rest) (climbs-nil (within m p v) kids) ∙ climbs-nil p rest

  pub listed-nil : (f : Forest V) → has_listed [] f ≡ false
  listed-nil none = refl
  listed-nil (tree k v kids rest) = ap (λ x. x || has_listed [] rest) (listed-nil kids) ∙ listed-nil rest

  pub sweep-nil : (also : Bool) (p : Above) (f : Forest V) → sweep m also [] p f ≡ f
  sweep-nil also p none = refl
  sweep-nil also p (tree k v kids rest) =
      let q : Above = within m p v in
      let old_rest : Forest V = sweep m also [] p rest in
      ap (λ x. tree k (m.marked (x && m.takes p.top v) (has_listed [] kids || (also && false)) v) (sweep m also [] q kids) old_rest) (climbs-nil q kids)
      ∙ (ap (λ x. tree k (m.marked false (x || (also && false)) v) (sweep m also [] q kids) old_rest) (listed-nil kids)
      ∙ (ap (λ x. tree k (m.marked false x v) (sweep m also [] q kids) old_rest) (and-false also)
      ∙ (ap (λ w. tree k w (sweep m also [] q kids) old_rest) (ok.nothing v)
      ∙ (ap (λ g. tree k v g old_rest) (sweep-nil also q kids) ∙ ap (λ g. tree k v kids g) (sweep-nil also p rest)))))
    where
      and-false : (b : Bool) → (b && false) ≡ false
      and-false true = refl
      and-false false = refl

  -- the marks of one node, and then those of a list
  pub sweep-mark : (also : Bool) (c : Handle) (cs : List Handle) (p : Above) (f : Forest V) → sweep m also cs p (mark m also p c f) ≡ sweep m also (c ∷ cs) p f
  sweep-mark also c cs p none = refl
  sweep-mark also c cs p (tree k v kids rest) =
      let q : Above = within m p v in
      let t : Bool = m.takes p.top v in
      let one : Bool = same k c || climbs m q c kids in
      let flag : Bool = one && t in
      let below : Bool = has_node c kids || (also && same k c) in
      let w : V = m.marked flag below v in
      let inner : Forest V = mark m also q c kids in
      let more : Bool = has_listed cs kids || (also && listed k cs) in
      let outer : Bool = listed k cs || some_climbs m cs q kids in
      let place = within-marked p flag below v in
      let flag_is : ((listed k cs || some_climbs m cs (within m p w) inner) && m.takes p.top w) ≡ (outer && t) =
      ap (λ x. (listed k cs || some_climbs m cs x inner) && m.takes p.top w) place
      ∙ (ap (λ x. (listed k cs || x) && m.takes p.top w) (climbs-mark cs also q c kids)
      ∙ ap (λ x. outer && x) (ok.takes p.top flag below v)) in
      let below_is : (has_listed cs inner || (also && listed k cs)) ≡ more = ap (λ x. x || (also && listed k cs)) (listed-mark cs also q c kids) in
      let both_flags : (flag || (outer && t)) ≡ (((same k c || listed k cs) || some_climbs m (c ∷ cs) q kids) && t) =
      or_and one outer t
      ∙ (ap (λ x. x && t) (or_swap (same k c) (climbs m q c kids) (listed k cs) (some_climbs m cs q kids))
      ∙ ap (λ x. ((same k c || listed k cs) || x) && t) (climbs-cons c cs q kids)) in
      let both_below : (below || more) ≡ (has_listed (c ∷ cs) kids || (also && (same k c || listed k cs))) =
      or_swap (has_node c kids) (also && same k c) (has_listed cs kids) (also && listed k cs)
      ∙ (ap (λ x. x || ((also && same k c) || (also && listed k cs))) (listed-cons c cs kids)
      ∙ ap (λ x. has_listed (c ∷ cs) kids || x) (and_or (same k c) (listed k cs) also)) in
      three
      (λ u a b. tree k u a b)
      (ap (λ x. m.marked x (has_listed cs inner || (also && listed k cs)) w) flag_is
      ∙ (ap (λ x. m.marked (outer && t) x w) below_is
      ∙ (ok.twice (outer && t) more flag below v
      ∙ (ap (λ x. m.marked x (below || more) v) both_flags
      ∙ ap (λ x. m.marked (((same k c || listed k cs) || some_climbs m (c ∷ cs) q kids) && t) x v) both_below))))
      (ap (λ x. sweep m also cs x inner) place ∙ sweep-mark also c cs q kids)
      (sweep-mark also c cs p rest)

  pub mark_all-sweep : (also : Bool) (cs : List Handle) (p : Above) (f : Forest V) → mark_all m also p cs f ≡ sweep m also cs p f
  mark_all-sweep also [] p f = sym (sweep-nil also p f)
  mark_all-sweep also (c ∷ cs) p f = mark_all-sweep also cs p (mark m also p c f) ∙ sweep-mark also c cs p f
