-- What an outer flush leaves of each outer node is, part by part, what was there before it, or what the frame ends with.
use Rattle.std.proofs.Common.{◌≡◌, ap, refl, sym, subst, ◌∙◌, inl, inr, ◌⊎◌, ℕ, Bool, true, false, cond, Option, Some, None, IsSome, option_map, List}
use Rattle.std.proofs.lemmas.Bool.{false≢true, true≢false}
use Rattle.fx_geom.specs.declared.boxes.Bounds.{Bounds}
use Rattle.fx_geom.specs.declared.shapes.Offset.{Offset}
use Rattle.delegates.specs.Table.{Plug}
use Rattle.fx_handles.specs.declared.Handle.{Handle}
use Rattle.node_tree.specs.Forest.{Forest}
use Rattle.node_tree.specs.Forest.Forest.{none, tree}
use Rattle.widget_model.specs.Look.{Look}
use Rattle.plain_tree.specs.declared.laid.Facts.{Facts}
use Rattle.plain_tree.specs.declared.laid.Frame.{Frame}
use Rattle.plain_tree.specs.Laid.{Laid, laid, Laids, no_laids, more_laids}
use Rattle.layout_form.specs.declared.asks.Ask.TheVariants.{AsBox}
use Rattle.layout_form.specs.Layout.{delegate_of, is_plugged}
use Rattle.layout_rules.specs.Nodes.{layout_node, layout_nodes}
use Rattle.layout_walk.specs.Node.{LayoutNode, asked, ask_in}
use Rattle.layout_walk.specs.Rules.{is_list}
use Rattle.layout_walk.specs.Walk.{IsLeft}
use Rattle.render_tree.specs.Object.{RenderObject, object_look}
use Rattle.render_tree.specs.Plain.{facts_of, frame_or, offset_or, laids_of}
use Rattle.counted_work.specs.Shows.{IsPutSo, ArePutSo}
use Rattle.counted_phases.specs.Outer.{UnlessList, ListOr}
use Rattle.counted_phases.specs.OuterLaid.{outer_facts, outer_laids}
use Rattle.counted_phases.specs.Paints.{IsEither}
use Rattle.counted_phases.proofs.SeenLeft.{AllLeft, IsBoxLeft, SeenLeft, AreSeenLeft}

-- ---- three forests with the same outer nodes

-- two forests have the same outer nodes
abbrev pub SameOuter : Forest RenderObject → Forest RenderObject → Type 0
SameOuter none none = Unit {0}
SameOuter none (tree j x under others) = ⊥
SameOuter (tree k w below rest) none = ⊥
SameOuter (tree k w below rest) (tree j x under others) =
    (k ≡ j) × (object_look w ≡ object_look x) × (w.number ≡ x.number) × UnlessList (is_list (object_look w)) (SameOuter below under) × SameOuter rest others

-- before a flush, after it, and at the end
pub record IsEnding (v w x : RenderObject) : Type 0 where
  pub frame : IsEither w.frame v.frame x.frame
  pub plugged : IsEither w.plugged v.plugged x.plugged
  pub offset : IsEither w.offset v.offset x.offset
  pub shown : IsEither w.shown v.shown x.shown
  pub still : x.shown ≡ false → record (layout_node w) { shown = false } ≡ record (layout_node v) { shown = false }

-- none of these trees is in the window
abbrev pub NoneShown : Forest RenderObject → Type 0
NoneShown none = Unit {0}
NoneShown (tree j x under rest) = (x.shown ≡ false) × NoneShown rest

-- the items of a list stay as they are, or nobody asks them, neither then nor at the end
abbrev pub ItemsEnd : Forest RenderObject → Forest RenderObject → Forest RenderObject → Type 0
ItemsEnd kids below under = (layout_nodes below ≡ layout_nodes kids) ⊎ (AllLeft (layout_nodes kids) (layout_nodes below) × NoneShown under)

abbrev pub AreEnding : Forest RenderObject → Forest RenderObject → Forest RenderObject → Type 0
AreEnding none none none = Unit {0}
AreEnding none none (tree j x under others) = ⊥
AreEnding none (tree k w below rest) l = ⊥
AreEnding (tree h v kids more) none l = ⊥
AreEnding (tree h v kids more) (tree k w below rest) none = ⊥
AreEnding (tree h v kids more) (tree k w below rest) (tree j x under others) =
    (h ≡ k) × (k ≡ j) × IsEnding v w x
    × (x.shown ≡ false → layout_nodes below ≡ layout_nodes kids)
    × ListOr (is_list (object_look w)) (ItemsEnd kids below under) (AreEnding kids below under) × AreEnding more rest others

-- ---- what is seen of a laid tree

laids_parts : (a b : Offset) (n m : ℕ) (look mate : Look) (f g : Facts) (cs ds ls ms : Laids) → more_laids a (laid n look f cs) ls ≡ more_laids b (laid m mate g ds) ms → (a ≡ b) × (n ≡ m) × (f ≡ g) × (cs ≡ ds) × (ls ≡ ms)
laids_parts a b n m look mate f g cs ds ls ms e = (cc, cc, cc, cc, cc)

no_laid : (a : Offset) (l : Laid) (ls : Laids) → no_laids ≡ more_laids a l ls → ⊥
no_laid a l ls e = cc

-- no tree has this number
abbrev pub NoTop : ℕ → Forest RenderObject → Type 0
NoTop n none = Unit {0}
NoTop n (tree j x under rest) = (n ≡ x.number → ⊥) × NoTop n rest

-- of no node another one right beside it has the number
abbrev pub TopsApart : Forest RenderObject → Type 0
TopsApart none = Unit {0}
TopsApart (tree j x under rest) = NoTop x.number rest × TopsApart under × TopsApart rest

no_head : (n : ℕ) (a : Offset) (look : Look) (f : Facts) (cs ls : Laids) (l : Forest RenderObject) → NoTop n l → outer_laids (laids_of l) ≡ more_laids a (laid n look f cs) ls → ⊥
no_head n a look f cs ls none apart e = no_laid a (laid n look f cs) ls e
no_head n a look f cs ls (tree j x under rest) apart e = by_shown x.shown e (λ p. no_head n a look f cs ls rest apart.1 p)
  where
    by_shown : (b : Bool) → outer_laids (cond {A = Laids} b (more_laids (offset_or x.offset) (laid x.number (object_look x) (facts_of x) (laids_of under)) (laids_of rest)) (laids_of rest)) ≡ more_laids a (laid n look f cs) ls
        → (outer_laids (laids_of rest) ≡ more_laids a (laid n look f cs) ls → ⊥) → ⊥
    by_shown true p go =
        apart.0 (sym (laids_parts (offset_or x.offset) a x.number n (object_look x) look (outer_facts (is_list (object_look x)) (facts_of x)) f
        (cond {A = Laids} (is_list (object_look x)) no_laids (outer_laids (laids_of under))) cs (outer_laids (laids_of rest)) ls p).1)
    by_shown false p go = go p

-- the numbers of trees that are the same outer ones
no_top : (n : ℕ) (g l : Forest RenderObject) → SameOuter g l → NoTop n l → NoTop n g
no_top n none none same apart = tt
no_top n none (tree j x under others) same apart = absurd same
no_top n (tree k w below rest) none same apart = absurd same
no_top n (tree k w below rest) (tree j x under others) same apart = ((λ e. apart.0 (e ∙ same.2)), no_top n rest others same.4 apart.1)

-- ---- parts of nodes

some_frame : (o : Option Frame) → IsSome o → o ≡ Some (frame_or o)
some_frame None e = absurd (cc)
some_frame (Some f) e = refl

some_offset : (o : Option Offset) → IsSome o → o ≡ Some (offset_or o)
some_offset None e = absurd (cc)
some_offset (Some x) e = refl

facts_frame : (b c : Bool) (f g : Facts) → b ≡ c → outer_facts b f ≡ outer_facts c g → f.frame ≡ g.frame
facts_frame true true f g same e = ap (λ (x : Facts). x.frame) e
facts_frame true false f g same e = absurd (true≢false same)
facts_frame false true f g same e = absurd (false≢true same)
facts_frame false false f g same e = ap (λ (x : Facts). x.frame) e

facts_plugged : (b c : Bool) (f g : Facts) → b ≡ c → b ≡ false → outer_facts b f ≡ outer_facts c g → f.plugged ≡ g.plugged
facts_plugged true c f g same other e = absurd (true≢false other)
facts_plugged false true f g same other e = absurd (false≢true same)
facts_plugged false false f g same other e = ap (λ (x : Facts). x.plugged) e

children_same : (b c : Bool) (cs ds : Laids) → b ≡ c → b ≡ false → cond {A = Laids} b no_laids cs ≡ cond {A = Laids} c no_laids ds → cs ≡ ds
children_same true c cs ds same other e = absurd (true≢false other)
children_same false true cs ds same other e = absurd (false≢true same)
children_same false false cs ds same other e = e

tree_parts : (h k : Handle) (v w : RenderObject) (kids below more rest : Forest RenderObject) → tree k (layout_node w) (layout_nodes below) (layout_nodes rest) ≡ tree h (layout_node v) (layout_nodes kids) (layout_nodes more)
    → (k ≡ h) × (layout_node w ≡ layout_node v) × (layout_nodes below ≡ layout_nodes kids) × (layout_nodes rest ≡ layout_nodes more)
tree_parts h k v w kids below more rest e = (cc, cc, cc, cc)

no_tree : (k : Handle) (w : LayoutNode) (below rest : Forest LayoutNode) → tree k w below rest ≡ none → ⊥
no_tree k w below rest e = cc

-- where nothing is changed
still_ending : (f g l : Forest RenderObject) → layout_nodes g ≡ layout_nodes f → SameOuter g l → AreEnding f g l
still_ending none none none e same = tt
still_ending none none (tree j x under others) e same = absurd same
still_ending none (tree k w below rest) l e same = absurd (no_tree k (layout_node w) (layout_nodes below) (layout_nodes rest) e)
still_ending (tree h v kids more) none l e same = absurd (no_tree h (layout_node v) (layout_nodes kids) (layout_nodes more) (sym e))
still_ending (tree h v kids more) (tree k w below rest) none e same = absurd same
still_ending (tree h v kids more) (tree k w below rest) (tree j x under others) e same =
    let parts = tree_parts h k v w kids below more rest e in (
      sym parts.0,
      same.0,
      record {
        frame = inl (ap (λ (y : LayoutNode). y.frame) parts.1);
        plugged = inl (ap (λ (y : LayoutNode). y.plugged) parts.1);
        offset = inl (ap (λ (y : LayoutNode). y.offset) parts.1);
        shown = inl (ap (λ (y : LayoutNode). y.shown) parts.1);
        still = λ unseen. ap (λ (y : LayoutNode). record y { shown = false }) parts.1;
      },
      (λ unseen. parts.2),
      by_list (is_list (object_look w)) same.3 parts.2 (λ s. still_ending kids below under parts.2 s),
      still_ending more rest others parts.3 same.4,
    )
  where
    by_list : (b : Bool) → UnlessList b (SameOuter below under) → layout_nodes below ≡ layout_nodes kids → (SameOuter below under → AreEnding kids below under) → ListOr b (ItemsEnd kids below under) (AreEnding kids below under)
    by_list true s p go = inl p
    by_list false s p go = go s

-- ---- the whole

module _ (plugs : List Plug) where
  -- a node remembers what it did, or whether its delegate is plugged now
  abbrev pub ArePlugged : Forest RenderObject → Forest RenderObject → Type 0
  ArePlugged none none = Unit {0}
  ArePlugged none (tree k w below rest) = ⊥
  ArePlugged (tree h v kids more) none = ⊥
  ArePlugged (tree h v kids more) (tree k w below rest) = IsEither w.plugged v.plugged (is_plugged plugs (delegate_of (object_look w))) × ArePlugged kids below × ArePlugged more rest

  -- a list that was laid out as a box has nothing in the window below it
  abbrev pub BoxesEmpty : Forest RenderObject → Type 0
  BoxesEmpty none = Unit {0}
  BoxesEmpty (tree j x under rest) =
      (x.shown ≡ true → (is_list (object_look x) ≡ true → (b : Bounds) → asked (layout_node x) ≡ Some (AsBox b) → NoneShown under) × BoxesEmpty under) × BoxesEmpty rest

  plugged_end : (w v x : RenderObject) → object_look w ≡ object_look x → IsPutSo plugs x → IsEither w.plugged v.plugged (is_plugged plugs (delegate_of (object_look w))) → IsEither w.plugged v.plugged x.plugged
  plugged_end w v x look put (inl e) = inl e
  plugged_end w v x look put (inr e) = inr (e ∙ (ap (λ (l : Look). is_plugged plugs (delegate_of l)) look ∙ sym put.plugged))

  -- both are in the window
  abbrev Left : Bool → RenderObject → Forest RenderObject → RenderObject → Forest RenderObject → Type 0
  Left list v kids w below = SeenLeft true list (layout_node v) (layout_nodes kids) (layout_node w) (layout_nodes below) (AreSeenLeft (layout_nodes kids) (layout_nodes below))

  framed : (list : Bool) (v w : RenderObject) (kids below : Forest RenderObject) → Left list v kids w below → IsSome w.frame × IsSome w.offset
  framed true v w kids below left = (left.0, left.1)
  framed false v w kids below left = (left.0, left.1)

  frame_end : (v w x : RenderObject) → object_look w ≡ object_look x → IsSome w.frame → IsPutSo plugs x → outer_facts (is_list (object_look w)) (facts_of w) ≡ outer_facts (is_list (object_look x)) (facts_of x) → w.frame ≡ x.frame
  frame_end v w x look is put e =
      some_frame w.frame is ∙ (ap (λ f. Some f) (facts_frame (is_list (object_look w)) (is_list (object_look x)) (facts_of w) (facts_of x) (ap is_list look) e) ∙ sym (some_frame x.frame put.framed))

  items_end : (list : Bool) (v w x : RenderObject) (kids below under : Forest RenderObject) → is_list (object_look w) ≡ list → object_look w ≡ object_look x → w.frame ≡ x.frame → Left list v kids w below
      → (is_list (object_look x) ≡ true → (b : Bounds) → asked (layout_node x) ≡ Some (AsBox b) → NoneShown under) → (list ≡ false → AreSeenLeft (layout_nodes kids) (layout_nodes below) → AreEnding kids below under)
      → ListOr list (ItemsEnd kids below under) (AreEnding kids below under)
  items_end true v w x kids below under is look frame left empty go = by_left left.2
    where
      by_left : (layout_nodes below ≡ layout_nodes kids) ⊎ IsBoxLeft (layout_node w) (layout_nodes kids) (layout_nodes below) → ItemsEnd kids below under
      by_left (inl e) = inl e
      by_left (inr box) = inr (box.left, empty (sym (ap is_list look) ∙ is) box.bounds (ap (option_map ask_in) (sym frame) ∙ box.asked))
  items_end false v w x kids below under is look frame left empty go = go refl left.2

  module _ (h k j : Handle) (v w x : RenderObject) (kids below under more rest others : Forest RenderObject) (left : AreSeenLeft (layout_nodes (tree h v kids more)) (layout_nodes (tree k w below rest)))
      (same : SameOuter (tree k w below rest) (tree j x under others)) (put : ArePutSo plugs (tree j x under others)) (empty : BoxesEmpty (tree j x under others))
      (plugged : IsEither w.plugged v.plugged (is_plugged plugs (delegate_of (object_look w)))) (apart : NoTop x.number others)
      (kids_end : AreSeenLeft (layout_nodes kids) (layout_nodes below) → SameOuter below under → outer_laids (laids_of below) ≡ outer_laids (laids_of under) → ArePutSo plugs under → BoxesEmpty under → AreEnding kids below under)
      (rest_end : outer_laids (laids_of rest) ≡ outer_laids (laids_of others) → AreEnding more rest others) where
    abbrev Here : Type 0
    Here = AreEnding (tree h v kids more) (tree k w below rest) (tree j x under others)

    abbrev Seen : Bool → RenderObject → Forest RenderObject → Forest RenderObject → Laids
    Seen b o inner later = outer_laids (cond {A = Laids} b (more_laids (offset_or o.offset) (laid o.number (object_look o) (facts_of o) (laids_of inner)) (laids_of later)) (laids_of later))

    list_same : is_list (object_look w) ≡ is_list (object_look x)
    list_same = ap is_list same.1

    both_shown : w.shown ≡ true → x.shown ≡ true → Seen true w below rest ≡ Seen true x under others → Left (is_list (object_look w)) v kids w below → Here
    both_shown ws xs p here =
        let parts =
        laids_parts (offset_or w.offset) (offset_or x.offset) w.number x.number (object_look w) (object_look x) (outer_facts (is_list (object_look w)) (facts_of w)) (outer_facts (is_list (object_look x)) (facts_of x))
        (cond {A = Laids} (is_list (object_look w)) no_laids (outer_laids (laids_of below))) (cond {A = Laids} (is_list (object_look x)) no_laids (outer_laids (laids_of under)))
        (outer_laids (laids_of rest)) (outer_laids (laids_of others)) p in
        let some = framed (is_list (object_look w)) v w kids below here in
        let put_x = put.0 xs in
        let frame : w.frame ≡ x.frame = frame_end v w x same.1 some.0 put_x.0 parts.2 in
        let offset : w.offset ≡ x.offset = some_offset w.offset some.1 ∙ (ap (λ o. Some o) parts.0 ∙ sym (some_offset x.offset put_x.0.placed)) in (
          left.0,
          same.0,
          record {
            frame = inr frame;
            plugged = plugged_end w v x same.1 put_x.0 plugged;
            offset = inr offset;
            shown = inr (ws ∙ sym xs);
            still = λ unseen. absurd (true≢false (sym xs ∙ unseen));
          },
          (λ unseen. absurd (true≢false (sym xs ∙ unseen))),
          items_end (is_list (object_look w)) v w x kids below under refl same.1 frame here (empty.0 xs).0
              (λ other inner. kids_end inner (subst (λ b. UnlessList b (SameOuter below under)) other same.3)
              (children_same (is_list (object_look w)) (is_list (object_look x)) (outer_laids (laids_of below)) (outer_laids (laids_of under)) list_same other parts.3) put_x.1 (empty.0 xs).1),
          rest_end parts.4,
        )

    none_shown : w.shown ≡ false → x.shown ≡ false → outer_laids (laids_of rest) ≡ outer_laids (laids_of others) → IsLeft (layout_node v) (layout_nodes kids) (layout_node w) (layout_nodes below) → Here
    none_shown ws xs p here = (
      left.0,
      same.0,
      record {
        frame = inl (ap (λ (y : LayoutNode). y.frame) here.value);
        plugged = inl (ap (λ (y : LayoutNode). y.plugged) here.value);
        offset = inl (ap (λ (y : LayoutNode). y.offset) here.value);
        shown = inr (ws ∙ sym xs);
        still = λ unseen. here.value;
      },
      (λ unseen. here.inside),
      by_list (is_list (object_look w)) same.3,
      rest_end p,
    )
      where
        by_list : (b : Bool) → UnlessList b (SameOuter below under) → ListOr b (ItemsEnd kids below under) (AreEnding kids below under)
        by_list true s = inl here.inside
        by_list false s = still_ending kids below under here.inside s

    by_shown : (a b : Bool) → w.shown ≡ a → x.shown ≡ b → Seen a w below rest ≡ Seen b x under others
        → SeenLeft a (is_list (object_look w)) (layout_node v) (layout_nodes kids) (layout_node w) (layout_nodes below) (AreSeenLeft (layout_nodes kids) (layout_nodes below)) → Here
    by_shown true true ws xs p here = both_shown ws xs p here
    by_shown false false ws xs p here = none_shown ws xs p here
    by_shown true false ws xs p here =
        absurd (no_head w.number (offset_or w.offset) (object_look w) (outer_facts (is_list (object_look w)) (facts_of w)) (cond {A = Laids} (is_list (object_look w)) no_laids (outer_laids (laids_of below)))
        (outer_laids (laids_of rest)) others (subst (λ n. NoTop n others) (sym same.2) apart) (sym p))
    by_shown false true ws xs p here =
        absurd (no_head x.number (offset_or x.offset) (object_look x) (outer_facts (is_list (object_look x)) (facts_of x)) (cond {A = Laids} (is_list (object_look x)) no_laids (outer_laids (laids_of under)))
        (outer_laids (laids_of others)) rest (no_top x.number rest others same.4 apart) p)

  pub ends : (f g l : Forest RenderObject) → AreSeenLeft (layout_nodes f) (layout_nodes g) → SameOuter g l → outer_laids (laids_of g) ≡ outer_laids (laids_of l) → ArePutSo plugs l → BoxesEmpty l → ArePlugged f g → TopsApart l → AreEnding f g l
  ends none none none left same seen put empty plugged apart = tt
  ends none none (tree j x under others) left same seen put empty plugged apart = absurd same
  ends none (tree k w below rest) l left same seen put empty plugged apart = absurd left
  ends (tree h v kids more) none l left same seen put empty plugged apart = absurd left
  ends (tree h v kids more) (tree k w below rest) none left same seen put empty plugged apart = absurd same
  ends (tree h v kids more) (tree k w below rest) (tree j x under others) left same seen put empty plugged apart =
      by_shown h k j v w x kids below under more rest others left same put empty plugged.0 apart.0
      (λ a s p u m. ends kids below under a s p u m plugged.1 apart.1)
      (λ p. ends more rest others left.2 same.4 p put.1 empty.1 plugged.2 apart.2)
      w.shown x.shown refl refl seen left.1
