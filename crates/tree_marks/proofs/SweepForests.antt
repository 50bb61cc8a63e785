-- What one way through a forest sets at each handle.
use Rattle.std.proofs.Common.{◌≡◌, ◌≢◌, ℕ, ◌+◌, ◌≤◌, Bool, true, false, cond, not, ◌&&◌, ◌||◌, List, [], ◌∷◌, ◌++◌, refl, sym, ap, ◌∙◌, arith}
use Rattle.fx_handles.specs.declared.Handle.{Handle}
use Rattle.fx_handles.specs.Handle.{same}
use Rattle.fx_handles.specs.HandleLaws.{same-eq, same-ne, same_self}
use Rattle.node_tree.specs.Forest.{Forest, count, In, IsDistinct, map_values}
use Rattle.node_tree.specs.Forest.Forest.{none, tree}
use Rattle.tree_marks.specs.Marking.{Above, Marking, IsMarking, within, is_boundary}
use Rattle.tree_marks.specs.Marks.{listed, has_listed, some_climbs, sweep}
use Rattle.tree_marks.specs.Sweep.{has_named, named_climbs, marked_at, swept, each_swept}
use Rattle.tree_marks.proofs.Sweeps.{three, within-marked, boundary-marked}

-- changes that agree on the handles of a forest
pub map-on : {V : Type 0} (g h : Handle → V → V) (f : Forest V) → ((k : Handle) (v : V) → In k f → g k v ≡ h k v) → map_values g f ≡ map_values h f
map-on g h none agree = refl
map-on g h (tree k v kids rest) agree =
    three
    (λ x a b. tree k x a b)
    (agree k v (here k (cond-self k)))
    (map-on g h kids (λ c x inside. agree c x (omega (arith, inside))))
    (map-on g h rest (λ c x inside. agree c x (omega (arith, inside))))
  where
    cond-self : (k : Handle) → cond {A = ℕ} (same k k) 1 0 ≡ 1
    cond-self k = ap (λ b. cond {A = ℕ} b 1 0) (same_self k)

    here : (k : Handle) → cond {A = ℕ} (same k k) 1 0 ≡ 1 → 1 ≤ cond {A = ℕ} (same k k) 1 0 + count k kids + count k rest
    here k one = omega (arith, one)

pub has-mapped : {V : Type 0} (g : Handle → V → V) (q : Handle → Bool) (f : Forest V) → has_named q (map_values g f) ≡ has_named q f
has-mapped g q none = refl
has-mapped g q (tree k v kids rest) =
    ap (λ t. q k || (t || has_named q (map_values g rest))) (has-mapped g q kids) ∙ ap (λ t. q k || (has_named q kids || t)) (has-mapped g q rest)

-- a test that agrees with a list
pub has-agree : {V : Type 0} (q : Handle → Bool) (cs : List Handle) (f : Forest V) → ((k : Handle) → In k f → q k ≡ listed k cs) → has_named q f ≡ has_listed cs f
has-agree q cs none agree = refl
has-agree q cs (tree k v kids rest) agree =
    let one : cond {A = ℕ} (same k k) 1 0 ≡ 1 = ap (λ b. cond {A = ℕ} b 1 0) (same_self k) in
    three
    (λ a b c. a || (b || c))
    (agree k (omega (arith, one)))
    (has-agree q cs kids (λ c inside. agree c (omega (arith, inside))))
    (has-agree q cs rest (λ c inside. agree c (omega (arith, inside))))

module _ {V : Type 0} (m : Marking V) where
  pub climbs-agree : (q : Handle → Bool) (cs : List Handle) (p : Above) (f : Forest V) → ((k : Handle) → In k f → q k ≡ listed k cs) → named_climbs m q p f ≡ some_climbs m cs p f
  climbs-agree q cs p none agree = refl
  climbs-agree q cs p (tree k v kids rest) agree =
      let one : cond {A = ℕ} (same k k) 1 0 ≡ 1 = ap (λ b. cond {A = ℕ} b 1 0) (same_self k) in
      three
      (λ a b c. ((a || b) && not (is_boundary m p v)) || c)
      (agree k (omega (arith, one)))
      (climbs-agree q cs (within m p v) kids (λ c inside. agree c (omega (arith, inside))))
      (climbs-agree q cs p rest (λ c inside. agree c (omega (arith, inside))))

  -- what stands elsewhere isn't swept
  pub elsewhere : (h : Handle) (flag below : Bool) (k : Handle) (v : V) → k ≢ h → marked_at m h flag below k v ≡ v
  elsewhere h flag below k v apart = ap (λ c. cond c (m.marked flag below v) v) (same-ne k h apart)

  pub here-marked : (h : Handle) (flag below : Bool) (v : V) → marked_at m h flag below h v ≡ m.marked flag below v
  here-marked h flag below v = ap (λ c. cond c (m.marked flag below v) v) (same_self h)

  pub swept-out : (also : Bool) (q : Handle → Bool) (p : Above) (f : Forest V) (k : Handle) (v : V) → count k f ≡ 0 → swept m also q p f k v ≡ v
  swept-out also q p none k v out = refl
  swept-out also q p (tree h w kids rest) k v out =
      let flag : Bool = (q h || named_climbs m q (within m p w) kids) && m.takes p.top w in
      let below : Bool = has_named q kids || (also && q h) in
      swept-out also q p rest k (marked_at m h flag below k (swept m also q (within m p w) kids k v)) (omega (arith, out))
      ∙ elsewhere h flag below k (swept m also q (within m p w) kids k v) (λ e. absurd (omega (arith, out, ap (λ b. cond {A = ℕ} b 1 0) (same-eq h k (sym e)))))
      ∙ swept-out also q (within m p w) kids k v (omega (arith, out))

  pub each_swept-append : (also : Bool) (q : Handle → Bool) (p : Above) (at : Handle → Forest V) (xs ys : List Handle) (k : Handle) (v : V)
      → each_swept m also q p at (xs ++ ys) k v ≡ each_swept m also q p at ys k (each_swept m also q p at xs k v)
  each_swept-append also q p at [] ys k v = refl
  each_swept-append also q p at (x ∷ xs) ys k v = each_swept-append also q p at xs ys k (swept m also q p (at x) k v)

  module _ (ok : IsMarking m) where
    -- changes that set marks alone
    abbrev pub IsMarks : (Handle → V → V) → Type 0
    IsMarks g = (k : Handle) (v : V) → (f : Bool) × (b : Bool) × (g k v ≡ m.marked f b v)

    pub marks-none : (k : Handle) (v : V) → (f : Bool) × (b : Bool) × (v ≡ m.marked f b v)
    marks-none k v = (false, false, sym (ok.nothing v))

    pub marks-both : (g h : Handle → V → V) → IsMarks g → IsMarks h → IsMarks (λ k v. h k (g k v))
    marks-both g h x y k v =
        let a = x k v in
        let b = y k (m.marked a.0 a.1 v) in
        (a.0 || b.0, a.1 || b.1, ap (h k) a.2 ∙ (b.2 ∙ ok.twice b.0 b.1 a.0 a.1 v))

    marks-if : (c f b : Bool) (v : V) → (x : Bool) × (y : Bool) × (cond c (m.marked f b v) v ≡ m.marked x y v)
    marks-if true f b v = (f, b, refl)
    marks-if false f b v = (false, false, sym (ok.nothing v))

    pub marks-at : (h : Handle) (f b : Bool) → IsMarks (marked_at m h f b)
    marks-at h f b k v = marks-if (same k h) f b v

    pub swept-marks : (also : Bool) (q : Handle → Bool) (p : Above) (f : Forest V) → IsMarks (swept m also q p f)
    swept-marks also q p none k v = marks-none k v
    swept-marks also q p (tree h w kids rest) k v =
        let flag : Bool = (q h || named_climbs m q (within m p w) kids) && m.takes p.top w in
        let below : Bool = has_named q kids || (also && q h) in
        let inner : Handle → V → V = swept m also q (within m p w) kids in
        marks-both (λ c x. marked_at m h flag below c (inner c x)) (swept m also q p rest)
        (marks-both inner (marked_at m h flag below) (swept-marks also q (within m p w) kids) (marks-at h flag below))
        (swept-marks also q p rest) k v

    pub each_swept-marks : (also : Bool) (q : Handle → Bool) (p : Above) (at : Handle → Forest V) (hs : List Handle) → IsMarks (each_swept m also q p at hs)
    each_swept-marks also q p at [] k v = marks-none k v
    each_swept-marks also q p at (h ∷ hs) k v =
        marks-both (swept m also q p (at h)) (each_swept m also q p at hs) (swept-marks also q p (at h)) (each_swept-marks also q p at hs) k v

    -- marks change nothing of what is read
    pub climbs-mapped : (g : Handle → V → V) → IsMarks g → (q : Handle → Bool) (p : Above) (f : Forest V) → named_climbs m q p (map_values g f) ≡ named_climbs m q p f
    climbs-mapped g marks q p none = refl
    climbs-mapped g marks q p (tree k v kids rest) =
        let x = marks k v in
        let place : within m p (g k v) ≡ within m p v = ap (within m p) x.2 ∙ within-marked m ok p x.0 x.1 v in
        let ends : is_boundary m p (g k v) ≡ is_boundary m p v = ap (is_boundary m p) x.2 ∙ boundary-marked m ok p x.0 x.1 v in
        three
        (λ a b r. ((q k || a) && not b) || r)
        (ap (λ y. named_climbs m q y (map_values g kids)) place ∙ climbs-mapped g marks q (within m p v) kids)
        ends
        (climbs-mapped g marks q p rest)

    pub takes-marks : (g : Handle → V → V) → IsMarks g → (top : Bool) (k : Handle) (v : V) → m.takes top (g k v) ≡ m.takes top v
    takes-marks g marks top k v = let x = marks k v in ap (m.takes top) x.2 ∙ ok.takes top x.0 x.1 v

    pub swept-mapped : (g : Handle → V → V) → IsMarks g → (also : Bool) (q : Handle → Bool) (p : Above) (f : Forest V) (k : Handle) (v : V)
        → swept m also q p (map_values g f) k v ≡ swept m also q p f k v
    swept-mapped g marks also q p none k v = refl
    swept-mapped g marks also q p (tree h w kids rest) k v =
        let x = marks h w in
        let a : Above = within m p w in
        let place : within m p (g h w) ≡ a = ap (within m p) x.2 ∙ within-marked m ok p x.0 x.1 w in
        let flag : ((q h || named_climbs m q (within m p (g h w)) (map_values g kids)) && m.takes p.top (g h w)) ≡ ((q h || named_climbs m q a kids) && m.takes p.top w) =
        ap (λ y. (q h || named_climbs m q y (map_values g kids)) && m.takes p.top (g h w)) place
        ∙ (ap (λ y. (q h || y) && m.takes p.top (g h w)) (climbs-mapped g marks q a kids)
        ∙ ap (λ y. (q h || named_climbs m q a kids) && y) (takes-marks g marks p.top h w)) in
        let below : (has_named q (map_values g kids) || (also && q h)) ≡ (has_named q kids || (also && q h)) = ap (λ y. y || (also && q h)) (has-mapped g q kids) in
        let inner : swept m also q (within m p (g h w)) (map_values g kids) k v ≡ swept m also q a kids k v =
        ap (λ y. swept m also q y (map_values g kids) k v) place ∙ swept-mapped g marks also q a kids k v in
        swept-mapped g marks also q p rest k
        (marked_at m h ((q h || named_climbs m q (within m p (g h w)) (map_values g kids)) && m.takes p.top (g h w)) (has_named q (map_values g kids) || (also && q h)) k
        (swept m also q (within m p (g h w)) (map_values g kids) k v))
        ∙ ap (swept m also q p rest k) (three (λ y z u. marked_at m h y z k u) flag below inner)

  -- where the test agrees with a list, it is the one way through the forest
  pub swept-forest : (also : Bool) (q : Handle → Bool) (cs : List Handle) (p : Above) (f : Forest V) → IsDistinct f → ((k : Handle) → In k f → q k ≡ listed k cs)
      → map_values (swept m also q p f) f ≡ sweep m also cs p f
  swept-forest also q cs p none distinct agree = refl
  swept-forest also q cs p (tree h w kids rest) distinct agree =
      let a : Above = within m p w in
      let flag : Bool = (q h || named_climbs m q a kids) && m.takes p.top w in
      let below : Bool = has_named q kids || (also && q h) in
      let one : cond {A = ℕ} (same h h) 1 0 ≡ 1 = ap (λ b. cond {A = ℕ} b 1 0) (same_self h) in
      let whole = distinct h in
      let named : q h ≡ listed h cs = agree h (omega (arith, one)) in
      let in_kids : (k : Handle) → In k kids → q k ≡ listed k cs = λ k inside. agree k (omega (arith, inside)) in
      let in_rest : (k : Handle) → In k rest → q k ≡ listed k cs = λ k inside. agree k (omega (arith, inside)) in
      three
      (λ x b r. tree h x b r)
      (swept-out also q p rest h (marked_at m h flag below h (swept m also q a kids h w)) (omega (arith, one, whole))
      ∙ here-marked h flag below (swept m also q a kids h w)
      ∙ ap (m.marked flag below) (swept-out also q a kids h w (omega (arith, one, whole)))
      ∙ three (λ x y z. m.marked ((x || y) && m.takes p.top w) z w) named (climbs-agree q cs a kids in_kids)
      (ap (λ y. y || (also && q h)) (has-agree q cs kids in_kids) ∙ ap (λ y. has_listed cs kids || (also && y)) named))
      (map-on (swept m also q p (tree h w kids rest)) (swept m also q a kids) kids
      (λ k v inside.
      swept-out also q p rest k (marked_at m h flag below k (swept m also q a kids k v)) (let d = distinct k in omega (arith, d, inside))
      ∙ elsewhere h flag below k (swept m also q a kids k v) (λ e. absurd (let d = distinct k in omega (arith, d, inside, ap (λ b. cond {A = ℕ} b 1 0) (same-eq h k (sym e))))))
      ∙ swept-forest also q cs a kids (λ k. let d = distinct k in omega (arith, d)) in_kids)
      (map-on (swept m also q p (tree h w kids rest)) (swept m also q p rest) rest
      (λ k v inside.
      ap (swept m also q p rest k)
      (elsewhere h flag below k (swept m also q a kids k v) (λ e. absurd (let d = distinct k in omega (arith, d, inside, ap (λ b. cond {A = ℕ} b 1 0) (same-eq h k (sym e)))))
      ∙ swept-out also q a kids k v (let d = distinct k in omega (arith, d, inside))))
      ∙ swept-forest also q cs p rest (λ k. let d = distinct k in omega (arith, d)) in_rest)
