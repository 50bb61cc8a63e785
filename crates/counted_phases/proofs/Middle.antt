-- What looks as before at both ends of a frame in two phases looked so in between.
use Rattle.std.proofs.Common.{◌≡◌, Bool, true, false, not, ◌&&◌, ◌||◌, ◌⊎◌, Option, Some, None, option_map, List, [], ◌∷◌, ◌++◌, refl, sym, ap, ◌∙◌, subst, inl, inr, Decides, arith}
use Rattle.std.proofs.lemmas.Bool.{cases_Bool, and_from, and_parts, or_from, or_parts, or_left, or_right, false≢true}
use Rattle.delegates.specs.Table.{Plug}
use Rattle.fx_handles.specs.declared.Handle.{Handle}
use Rattle.fx_handles.specs.Handle.{same, Among}
use Rattle.fx_handles.specs.HandleLaws.{same-true, same_self}
use Rattle.node_tree.specs.Forest.{TreeNode, Forest, Stands, map_values}
use Rattle.node_tree.specs.Forest.Forest.{none, tree}
use Rattle.node_tree.specs.Tree.{Tree, IsTree, node_at, children_at}
use Rattle.node_tree.proofs.TreeEdits.{child_live}
use Rattle.widget_model.specs.Look.{Look}
use Rattle.plain_tree.specs.Laid.{Laid}
use Rattle.tree_marks.specs.Marks.{listed, has_listed}
use Rattle.tree_marks.proofs.Closing.{either}
use Rattle.work_sets.specs.Before.{Before}
use Rattle.work_sets.specs.Members.{is_same_look}
use Rattle.layout_rules.specs.Painting.{KeepsRest, LooksSame, PaintedOwn, PaintedPlace, own_in, place_in}
use Rattle.layout_rules.specs.Reads.{state_at}
use Rattle.render_tree.specs.Object.{RenderObject}
use Rattle.render_tree.specs.Tree.{object_at}
use Rattle.counted_work.specs.Shows.{PluggedAsBefore, LookOtherwise}
use Rattle.counted_work.proofs.Relaid.{same_lists}
use Rattle.counted_work.proofs.Repaint.{StayQuiet}
use Rattle.counted_phases.specs.Paints.{BuiltInPhases, IsEither, AreStill}
use Rattle.counted_phases.proofs.AsOne.{StoredSeen, stored_at, stored_none, stored_new, stored_one, stored_once, brought_stored, same_stored, same_shape, as_one, laid_once, flagged_so, lists_one, shape_of}
use Rattle.counted_phases.proofs.Climbing.{listed_among, listed_either, first_or_later, live_object}
use Rattle.counted_phases.proofs.Stages.{none_some, relaid_from}

-- ---- lists of handles that are there

abbrev pub is_there : {X : Type 0} → Option X → Bool
is_there None = false
is_there (Some x) = true

abbrev pub add_if : Bool → Handle → List Handle → List Handle
add_if true h hs = h ∷ hs
add_if false h hs = hs

abbrev pub only_there : (Handle → Bool) → List Handle → List Handle
only_there p [] = []
only_there p (h ∷ hs) = add_if (p h) h (only_there p hs)

listed_if : (b : Bool) (k h : Handle) (hs : List Handle) → listed k (add_if b h hs) ≡ true → ((same k h ≡ true) × (b ≡ true)) ⊎ (listed k hs ≡ true)
listed_if true k h hs e = elim (either (same k h) (listed k hs) e) [
  | inl a ↦ inl (a, refl)
  | inr b ↦ inr b
]
listed_if false k h hs e = inr e

there_listed : (p : Handle → Bool) (k : Handle) (hs : List Handle) → listed k (only_there p hs) ≡ true → (listed k hs ≡ true) × (p k ≡ true)
there_listed p k [] e = absurd (false≢true e)
there_listed p k (h ∷ hs) e = elim (listed_if (p h) k h (only_there p hs) e) [
  | inl a ↦ (or_left (same k h) (listed k hs) a.0, ap p (same-true k h a.0) ∙ a.1)
  | inr b ↦ let d = there_listed p k hs b in (or_right (same k h) (listed k hs) d.0, d.1)
]

if_listed : (b : Bool) (k h : Handle) (hs : List Handle) → ((same k h ≡ true) → b ≡ true) → (same k h ≡ true) ⊎ (listed k hs ≡ true) → listed k (add_if b h hs) ≡ true
if_listed true k h hs go (inl a) = or_left (same k h) (listed k hs) a
if_listed true k h hs go (inr b) = or_right (same k h) (listed k hs) b
if_listed false k h hs go (inl a) = absurd (false≢true (go a))
if_listed false k h hs go (inr b) = b

pub listed_there : (p : Handle → Bool) (k : Handle) (hs : List Handle) → p k ≡ true → listed k hs ≡ true → listed k (only_there p hs) ≡ true
listed_there p k [] e l = absurd (false≢true l)
listed_there p k (h ∷ hs) e l =
    if_listed (p h) k h (only_there p hs) (λ s. ap p (sym (same-true k h s)) ∙ e) (elim (either (same k h) (listed k hs) l) [
      | inl a ↦ inl a
      | inr b ↦ inr (listed_there p k hs e b)
    ])

among_listed : (k : Handle) (hs : List Handle) → Among k hs → listed k hs ≡ true
among_listed k [] among = absurd (omega arith)
among_listed k (h ∷ hs) among = elim (first_or_later k h hs among) [
  | inl e ↦ or_left (same k h) (listed k hs) (ap (same k) (sym e) ∙ same_self k)
  | inr l ↦ or_right (same k h) (listed k hs) (among_listed k hs l)
]

not_listed_there : (p : Handle → Bool) (k : Handle) (hs : List Handle) → listed k hs ≡ false → listed k (only_there p hs) ≡ false
not_listed_there p k hs e = elim (cases_Bool (listed k (only_there p hs))) [
  | inl a ↦ absurd (false≢true (sym e ∙ (there_listed p k hs a).0))
  | inr b ↦ b
]

not_listed_both : (k : Handle) (hs ks : List Handle) → listed k hs ≡ false → listed k ks ≡ false → listed k (hs ++ ks) ≡ false
not_listed_both k [] ks e f = f
not_listed_both k (h ∷ hs) ks e f = let parts = or_parts (same k h) (listed k hs) e in or_from (same k h) (listed k (hs ++ ks)) parts.0 (not_listed_both k hs ks parts.1 f)

-- none of these is in a forest, whatever its values
none_there : (g : Handle → RenderObject → RenderObject) (p : Handle → Bool) (hs ks : List Handle) (f : Forest RenderObject) → has_listed hs f ≡ false → has_listed ks f ≡ false → has_listed (only_there p (hs ++ ks)) (map_values g f) ≡ false
none_there g p hs ks none e d = refl
none_there g p hs ks (tree k w under rest) e d =
    let one = or_parts (listed k hs) (has_listed hs under || has_listed hs rest) e in
    let two = or_parts (has_listed hs under) (has_listed hs rest) one.1 in
    let three = or_parts (listed k ks) (has_listed ks under || has_listed ks rest) d in
    let four = or_parts (has_listed ks under) (has_listed ks rest) three.1 in
    or_from (listed k (only_there p (hs ++ ks))) (has_listed (only_there p (hs ++ ks)) (map_values g under) || has_listed (only_there p (hs ++ ks)) (map_values g rest))
    (not_listed_there p k (hs ++ ks) (not_listed_both k hs ks one.0 three.0))
    (or_from (has_listed (only_there p (hs ++ ks)) (map_values g under)) (has_listed (only_there p (hs ++ ks)) (map_values g rest)) (none_there g p hs ks under two.0 four.0) (none_there g p hs ks rest two.1 four.1))

-- two lists of handles are one
abbrev handles_same : List Handle → List Handle → Bool
handles_same [] [] = true
handles_same [] (k ∷ ks) = false
handles_same (h ∷ hs) [] = false
handles_same (h ∷ hs) (k ∷ ks) = same h k && handles_same hs ks

handles_equal : (hs ks : List Handle) → handles_same hs ks ≡ true → hs ≡ ks
handles_equal [] [] e = refl
handles_equal [] (k ∷ ks) e = absurd (false≢true e)
handles_equal (h ∷ hs) [] e = absurd (false≢true e)
handles_equal (h ∷ hs) (k ∷ ks) e =
    let parts = and_parts (same h k) (handles_same hs ks) e in
    let head = same-true h k parts.0 in
    let later = handles_equal hs ks parts.1 in λ i. head i ∷ later i

handles_self : (hs : List Handle) → handles_same hs hs ≡ true
handles_self [] = refl
handles_self (h ∷ hs) = and_from (same h h) (handles_same hs hs) (same_self h) (handles_self hs)

-- listed ones are there or not
pub listed_split : (p : Handle → Bool) (k : Handle) (hs : List Handle) → listed k hs ≡ true → (listed k (only_there (λ j. not (p j)) hs) ≡ true) ⊎ (listed k (only_there p hs) ≡ true)
listed_split p k hs l = elim (cases_Bool (p k)) [
  | inl e ↦ inr (listed_there p k hs e l)
  | inr e ↦ inl (listed_there (λ j. not (p j)) k hs (ap not e) l)
]

-- ---- a part that is one of two that are the same

one_of : {A : Type 0} (x a z : A) → IsEither x a z → z ≡ a → x ≡ a
one_of x a z (inl e) same = e
one_of x a z (inr e) same = e ∙ same

module _ (old brought laid : Tree RenderObject) (b : BuiltInPhases old brought laid) (keeps : KeepsRest brought laid) where
  abbrev one : Tree RenderObject
  one = as_one old brought laid b keeps

  abbrev once : Tree RenderObject
  once = laid_once old brought laid b keeps

  -- what is left in between of the two that it may be
  abbrev EitherOwn : Handle → Type 0
  EitherOwn k = IsEither (state_at b.ranged k).frame (state_at b.mid k).frame (state_at laid k).frame × IsEither (state_at b.ranged k).plugged (state_at b.mid k).plugged (state_at laid k).plugged

  abbrev EitherPlace : Handle → Type 0
  EitherPlace k = IsEither (state_at b.ranged k).offset (state_at b.mid k).offset (state_at laid k).offset × IsEither (state_at b.ranged k).shown (state_at b.mid k).shown (state_at laid k).shown

  own_between : (k : Handle) (m w : RenderObject) → object_at b.mid k ≡ Some m → object_at brought k ≡ Some w → EitherOwn k → own_in (state_at laid k) ≡ own_in (state_at one k) → own_in (state_at b.ranged k) ≡ own_in (state_at b.mid k)
  own_between k m w at_m at_w ends e =
      let same_own : own_in (state_at laid k) ≡ own_in (state_at b.mid k) = e ∙ ap (λ (s : StoredSeen). s.own) (stored_one old brought laid b keeps k m w at_m at_w) in
      let frame = one_of (state_at b.ranged k).frame (state_at b.mid k).frame (state_at laid k).frame ends.0 (ap (λ (p : PaintedOwn). p.frame) same_own) in
      let plugged = one_of (state_at b.ranged k).plugged (state_at b.mid k).plugged (state_at laid k).plugged ends.1 (ap (λ (p : PaintedOwn). p.plugged) same_own) in
      λ i. record { frame = frame i; plugged = plugged i }

  place_between : (k : Handle) (m w : RenderObject) → object_at b.mid k ≡ Some m → object_at brought k ≡ Some w → EitherPlace k → place_in (state_at laid k) ≡ place_in (state_at one k) → place_in (state_at b.ranged k) ≡ place_in (state_at b.mid k)
  place_between k m w at_m at_w ends e =
      let same_place : place_in (state_at laid k) ≡ place_in (state_at b.mid k) = e ∙ ap (λ (s : StoredSeen). s.place) (stored_one old brought laid b keeps k m w at_m at_w) in
      let offset = one_of (state_at b.ranged k).offset (state_at b.mid k).offset (state_at laid k).offset ends.0 (ap (λ (p : PaintedPlace). p.offset) same_place) in
      let shown = one_of (state_at b.ranged k).shown (state_at b.mid k).shown (state_at laid k).shown ends.1 (ap (λ (p : PaintedPlace). p.shown) same_place) in
      λ i. record { offset = offset i; shown = shown i }

  -- where nothing was between the phases, nothing is left
  gone_between : (k : Handle) → object_at b.mid k ≡ None → stored_at b.ranged k ≡ stored_at b.mid k
  gone_between k gone = stored_none b.ranged k (ranged_gone (node_at b.mid k) (node_at b.ranged k) refl refl gone) ∙ sym (stored_none b.mid k gone)
    where
      ranged_gone : (x y : Option (TreeNode RenderObject)) → node_at b.mid k ≡ x → node_at b.ranged k ≡ y → object_at b.mid k ≡ None → object_at b.ranged k ≡ None
      ranged_gone x None e f o = ap (option_map (λ (n : TreeNode RenderObject). n.value)) f
      ranged_gone None (Some r) e f o = none_some (shape_of r) (sym (ap (option_map shape_of) e) ∙ (sym (same_shape old brought laid b keeps k) ∙ ap (option_map shape_of) f))
      ranged_gone (Some m) (Some r) e f o = none_some m.value (sym o ∙ ap (option_map (λ (n : TreeNode RenderObject). n.value)) e)

  -- of a node that is there now
  between_own : (k : Handle) (w : RenderObject) → object_at brought k ≡ Some w → EitherOwn k → own_in (state_at laid k) ≡ own_in (state_at one k) → own_in (state_at b.ranged k) ≡ own_in (state_at b.mid k)
  between_own k w at ends e = by_mid (object_at b.mid k) refl
    where
      by_mid : (x : Option RenderObject) → object_at b.mid k ≡ x → own_in (state_at b.ranged k) ≡ own_in (state_at b.mid k)
      by_mid None f = ap (λ (s : StoredSeen). s.own) (gone_between k f)
      by_mid (Some m) f = own_between k m w f at ends e

  between_place : (k : Handle) (w : RenderObject) → object_at brought k ≡ Some w → EitherPlace k → place_in (state_at laid k) ≡ place_in (state_at one k) → place_in (state_at b.ranged k) ≡ place_in (state_at b.mid k)
  between_place k w at ends e = by_mid (object_at b.mid k) refl
    where
      by_mid : (x : Option RenderObject) → object_at b.mid k ≡ x → place_in (state_at b.ranged k) ≡ place_in (state_at b.mid k)
      by_mid None f = ap (λ (s : StoredSeen). s.place) (gone_between k f)
      by_mid (Some m) f = place_between k m w f at ends e

  brought_own : (k : Handle) (w : RenderObject) → object_at brought k ≡ Some w → EitherOwn k → own_in (state_at laid k) ≡ own_in (state_at one k) → own_in (state_at brought k) ≡ own_in (state_at one k)
  brought_own k w at ends e = by_mid (object_at b.mid k) refl
    where
      by_mid : (x : Option RenderObject) → object_at b.mid k ≡ x → own_in (state_at brought k) ≡ own_in (state_at one k)
      by_mid None f = ap (λ (s : StoredSeen). s.own) (sym (stored_new old brought laid b keeps k f))
      by_mid (Some m) f =
          ap (λ (s : StoredSeen). s.own) (brought_stored old brought laid b keeps k m w f at)
          ∙ (own_between k m w f at ends e ∙ ap (λ (s : StoredSeen). s.own) (sym (stored_one old brought laid b keeps k m w f at)))

  brought_place : (k : Handle) (w : RenderObject) → object_at brought k ≡ Some w → EitherPlace k → place_in (state_at laid k) ≡ place_in (state_at one k) → place_in (state_at brought k) ≡ place_in (state_at one k)
  brought_place k w at ends e = by_mid (object_at b.mid k) refl
    where
      by_mid : (x : Option RenderObject) → object_at b.mid k ≡ x → place_in (state_at brought k) ≡ place_in (state_at one k)
      by_mid None f = ap (λ (s : StoredSeen). s.place) (sym (stored_new old brought laid b keeps k f))
      by_mid (Some m) f =
          ap (λ (s : StoredSeen). s.place) (brought_stored old brought laid b keeps k m w f at)
          ∙ (place_between k m w f at ends e ∙ ap (λ (s : StoredSeen). s.place) (sym (stored_one old brought laid b keeps k m w f at)))

  -- ---- what looks otherwise in between looks otherwise at the end, where its children are those that it had

  once_own : (k : Handle) → own_in (state_at once k) ≡ own_in (state_at laid k)
  once_own k = ap (λ (s : StoredSeen). s.own) (stored_once old brought laid b keeps k)

  once_place : (k : Handle) → place_in (state_at once k) ≡ place_in (state_at laid k)
  once_place k = ap (λ (s : StoredSeen). s.place) (stored_once old brought laid b keeps k)

  brought_here : (k : Handle) (w : RenderObject) → object_at laid k ≡ Some w → (v : RenderObject) × (object_at brought k ≡ Some v)
  brought_here k w at = let v = relaid_from brought laid keeps k w at in (v.0, v.1)

  one_list : (k : Handle) → children_at one k ≡ children_at laid k
  one_list k = lists_one old brought laid b keeps k ∙ same_lists brought laid keeps k

  -- a node that was there, with its children
  pub record IsStaying (k : Handle) : Type 0 where
    pub was : RenderObject
    pub was_at : object_at old k ≡ Some was
    pub now : RenderObject
    pub now_at : object_at laid k ≡ Some now
    pub list : children_at old k ≡ children_at laid k

  abbrev pub stays : Handle → Bool
  stays k = is_there (object_at old k) && (is_there (object_at laid k) && handles_same (children_at old k) (children_at laid k))

  there_is : (x : Option RenderObject) → is_there x ≡ true → (w : RenderObject) × (x ≡ Some w)
  there_is None e = absurd (false≢true e)
  there_is (Some w) e = (w, refl)

  is_staying : (k : Handle) → stays k ≡ true → IsStaying k
  is_staying k e =
      let one_part = and_parts (is_there (object_at old k)) (is_there (object_at laid k) && handles_same (children_at old k) (children_at laid k)) e in
      let two = and_parts (is_there (object_at laid k)) (handles_same (children_at old k) (children_at laid k)) one_part.1 in
      let o = there_is (object_at old k) one_part.0 in
      let w = there_is (object_at laid k) two.0 in
      record { was = o.0; was_at = o.1; now = w.0; now_at = w.1; list = handles_equal (children_at old k) (children_at laid k) two.1 }

  -- of all that a layout marks, what stays, and what doesn't
  abbrev pub looking : List Handle → List Handle
  looking changed = only_there stays (b.changed ++ changed)

  abbrev pub moving : List Handle → List Handle
  moving changed = only_there (λ k. not (stays k)) (b.changed ++ changed)

  pub moving_moves : (changed : List Handle) (k : Handle) (o w : RenderObject) → object_at old k ≡ Some o → object_at laid k ≡ Some w → children_at old k ≡ children_at laid k → listed k (moving changed) ≡ true → ⊥
  moving_moves changed k o w at_o at_w list l =
      let d = there_listed (λ j. not (stays j)) k (b.changed ++ changed) l in
      let staying : stays k ≡ true =
      and_from (is_there (object_at old k)) (is_there (object_at laid k) && handles_same (children_at old k) (children_at laid k)) (ap is_there at_o)
      (and_from (is_there (object_at laid k)) (handles_same (children_at old k) (children_at laid k)) (ap is_there at_w)
      (ap (handles_same (children_at old k)) (sym list) ∙ handles_self (children_at old k))) in
      false≢true (sym (ap not staying) ∙ d.1)

  same_between : IsTree laid → (k : Handle) → IsStaying k → LooksSame one once k → LooksSame b.mid b.run k
  same_between is_laid k st same =
      let v = brought_here k st.now st.now_at in
      record {
        own = ap (λ (s : StoredSeen). s.own) (sym (same_stored old brought laid b keeps k)) ∙ between_own k v.0 v.1 (b.ends.own k st.was st.now st.was_at st.now_at st.list) (sym (once_own k) ∙ same.own);
        places = λ c among.
            let now : Among c (children_at laid k) = subst (Among c) (b.between.lists k st.was st.now st.was_at st.now_at st.list ∙ st.list) among in
            let here = child_here k c now in
            ap (λ (s : StoredSeen). s.place) (sym (same_stored old brought laid b keeps c))
            ∙ between_place c here.0 here.1 (b.ends.places k st.was st.now st.was_at st.now_at st.list c now) (sym (once_place c) ∙ same.places c (subst (Among c) (sym (one_list k)) now));
      }
    where
      child_here : (k c : Handle) → Among c (children_at laid k) → (v : RenderObject) × (object_at brought c ≡ Some v)
      child_here k c among = let w = live_object laid c (child_live laid is_laid.0 k c is_laid.1 among) in brought_here c w.0 w.1

  same_after : IsTree laid → (k : Handle) → IsStaying k → LooksSame one once k → LooksSame brought laid k
  same_after is_laid k st same =
      let v = brought_here k st.now st.now_at in
      record {
        own = sym (once_own k) ∙ (same.own ∙ sym (brought_own k v.0 v.1 (b.ends.own k st.was st.now st.was_at st.now_at st.list) (sym (once_own k) ∙ same.own)));
        places = λ c among.
            let now : Among c (children_at laid k) = subst (Among c) (same_lists brought laid keeps k) among in
            let w = live_object laid c (child_live laid is_laid.0 k c is_laid.1 now) in
            let here = brought_here c w.0 w.1 in
            let place = same.places c (subst (Among c) (sym (lists_one old brought laid b keeps k)) among) in
            sym (once_place c) ∙ (place ∙ sym (brought_place c here.0 here.1 (b.ends.places k st.was st.now st.was_at st.now_at st.list c now) (sym (once_place c) ∙ place)));
      }

  pub all_otherwise : IsTree laid → (changed : List Handle) → LookOtherwise brought laid changed → LookOtherwise one once (looking changed)
  all_otherwise is_laid changed otherwise k among same =
      let d = there_listed stays k (b.changed ++ changed) (among_listed k (looking changed) among) in
      let st = is_staying k d.1 in
      elim (listed_either k b.changed changed d.0) [
        | inl a ↦ b.otherwise k (listed_among k b.changed a) (same_between is_laid k st same)
        | inr a ↦ otherwise k (listed_among k changed a) (same_after is_laid k st same)
      ]

  -- ---- out of the window

  module _ (before : Before) (last now_laid : Laid) (look_same : (x y : Look) → Decides (is_same_look x y) (x ≡ y)) (then now : List Plug) (plugs : PluggedAsBefore before.touched then now) (changed : List Handle) where
    still_offset : (k : Handle) (w : RenderObject) → object_at laid k ≡ Some w → (state_at b.ranged k).offset ≡ (state_at b.mid k).offset → (place_in (state_at laid k)).offset ≡ (place_in (state_at brought k)).offset
        → (place_in (state_at once k)).offset ≡ (place_in (state_at one k)).offset
    still_offset k w at still after = ap (λ (p : PaintedPlace). p.offset) (once_place k) ∙ (after ∙ by_mid (object_at b.mid k) refl)
      where
        by_mid : (x : Option RenderObject) → object_at b.mid k ≡ x → (place_in (state_at brought k)).offset ≡ (place_in (state_at one k)).offset
        by_mid None f = ap (λ (s : StoredSeen). s.place.offset) (sym (stored_new old brought laid b keeps k f))
        by_mid (Some m) f =
            let v = brought_here k w at in
            ap (λ (s : StoredSeen). s.place.offset) (brought_stored old brought laid b keeps k m v.0 f v.1) ∙ (still ∙ ap (λ (s : StoredSeen). s.place.offset) (sym (stored_one old brought laid b keeps k m v.0 f v.1)))

    pub quiet_once : (q : Option Handle) (g : Forest RenderObject) → Stands (node_at laid) q g → AreStill b.mid b.ranged b.changed g → StayQuiet before last now_laid look_same then now plugs old brought laid changed g
        → StayQuiet before last now_laid look_same then now plugs old one once (looking changed) (map_values (flagged_so old brought laid b keeps) g)
    quiet_once q none s still quiet = tt
    quiet_once q (tree k w under rest) s still quiet = (
      (λ shown. quiet_once (Some k) under s.1 (still.0 shown) (quiet.0 shown)),
      (λ unseen.
          let a = still.1 unseen in
          let c = quiet.1 unseen in (
            still_offset k w (ap (option_map (λ (n : TreeNode RenderObject). n.value)) s.0) a.0 c.0,
            none_there (flagged_so old brought laid b keeps) stays b.changed changed (tree k w under none) a.1 c.1,
          )),
      quiet_once q rest s.2 still.2 quiet.2,
    )
