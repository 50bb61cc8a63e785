-- What a run over the stale boundaries leaves.
use Rattle.std.proofs.Common.{◌≡◌, ◌==◌, Bool, true, false, not, ◌&&◌, ◌||◌, cond, if◌then◌else◌, Option, Some, None, List, [], ◌∷◌, ◌++◌, refl, ap, sym, ◌∙◌, arith, subst, true≢false}
use Rattle.std.proofs.lemmas.Bool.{ne_eqb}
use Rattle.fx_handles.specs.declared.Handle.{Handle}
use Rattle.fx_handles.specs.Handle.{same}
use Rattle.fx_handles.specs.HandleLaws.{same_self, same-false}
use Rattle.fx_handles.specs.ArenaLaws.{live-same_slot}
use Rattle.handle_shelf.specs.Shelf.{with_kept}
use Rattle.fx_geom.specs.declared.shapes.Size.{Size}
use Rattle.fx_geom.specs.Offset.{origin}
use Rattle.delegates.specs.Table.{Plug}
use Rattle.node_tree.specs.Forest.{Forest, In, count, IsDistinct}
use Rattle.node_tree.specs.Forest.Forest.{none, tree}
use Rattle.node_tree.specs.Tree.{Tree, IsNode}
use Rattle.node_tree.proofs.ForestLemmas.{count_here}
use Rattle.render_tree.specs.Object.{RenderObject}
use Rattle.kept_layers.specs.GroupPart.{GroupPart}
use Rattle.kept_layers.specs.Group.{group_parts, is_boundary, goes_in, opens}
use Rattle.kept_layers.specs.KeptLayers.{KeptLayers, KeepsGroup, IsFresh, IsRight, filled, or_nil}
use Rattle.kept_layers.specs.Steps.{Told, is_nil, is_stale, stale, redo, redo_all}
use Rattle.kept_layers.specs.Done.{AgreesAt, Agrees, IsTold, IsPainted, IsDone}
use Rattle.kept_layers.proofs.Filling.{filled-is, boundary_opens}
use Rattle.kept_layers.proofs.Agreeing.{in_below, in_rest, not_here, distinct_below, distinct_rest, none_below, none_after, top_of_rest, top_of_below, top_below, top_after, AgreesAt-trans, IsFresh-same, IsPainted-same, IsDone-same, IsDone-base, IsRight-done}

-- ---- what a value that is put leaves

with_other : {V : Type 0} (h k : Handle) (value : V) (kept : Handle → Option V) → same k h ≡ false → (k.index == h.index) ≡ false → with_kept h value kept k ≡ kept k
with_other {V} h k value kept other apart =
    ap (λ b. cond {A = Option V} b (Some value) (cond {A = Option V} (k.index == h.index) None (kept k))) other
    ∙ ap (λ b. cond {A = Option V} b None (kept k)) apart

pub with_own : {V : Type 0} (h : Handle) (value : V) (kept : Handle → Option V) → with_kept h value kept h ≡ Some value
with_own {V} h value kept = ap (λ b. cond {A = Option V} b (Some value) (cond {A = Option V} (h.index == h.index) None (kept h))) (same_self h)

parts_other : (flag : Bool) (h k : Handle) (group : List GroupPart) (kept : Handle → Option (List GroupPart)) → with_kept h group kept k ≡ kept k
    → (if flag then with_kept h group kept else kept) k ≡ kept k
parts_other true h k group kept e = e
parts_other false h k group kept e = refl

-- ---- handles of slots of their own: live ones

module _ (L : Handle → Type 0) (slot : (h k : Handle) → L h → L k → same k h ≡ false → (k.index == h.index) ≡ false) where
  -- each handle of the list is such a one, and another than k
  abbrev pub AreOthers : Handle → List Handle → Type 0
  AreOthers k [] = Unit {0}
  AreOthers k (h ∷ hs) = L h × ((same k h ≡ false) × AreOthers k hs)

  AreOthers-append : (k : Handle) (xs ys : List Handle) → AreOthers k xs → AreOthers k ys → AreOthers k (xs ++ ys)
  AreOthers-append k [] ys a b = b
  AreOthers-append k (x ∷ xs) ys a b = (a.0, (a.1.0, AreOthers-append k xs ys a.1.1 b))

  redo_other : (told : Handle → Told) (h k : Handle) (s : KeptLayers) → L h → L k → same k h ≡ false → AgreesAt s (redo told h s) k
  redo_other told h k s lh lk other =
      let apart = slot h k lh lk other in
      record {
        parts = sym (parts_other (told h).flag h k (told h).group s.parts (with_other h k (told h).group s.parts other apart));
        whole = sym (with_other h k _ s.wholes other apart);
      }

  pub run_other : (told : Handle → Told) (k : Handle) (hs : List Handle) (s : KeptLayers) → L k → AreOthers k hs → AgreesAt s (redo_all told hs s) k
  run_other told k [] s lk others = record { parts = refl; whole = refl }
  run_other told k (h ∷ hs) s lk others =
      AgreesAt-trans s (redo told h s) (redo_all told hs (redo told h s)) k (redo_other told h k s others.0 lk others.1.0)
      (run_other told k hs (redo told h s) lk others.1.1)

  -- the stale boundaries of a forest in which k doesn't stand
  abbrev pub Are : Forest RenderObject → Type 0
  Are f = (k : Handle) → In k f → L k

  others_if : (k : Handle) (b : Bool) (xs : List Handle) → AreOthers k xs → AreOthers k (if b then xs else [])
  others_if k true xs a = a
  others_if k false xs a = tt

  pub stale_others : (k : Handle) (f : Forest RenderObject) → Are f → count k f ≡ 0 → AreOthers k (stale f)
  stale_others k none are gone = tt
  stale_others k (tree h o below rest) are gone =
      let inner : List Handle = if goes_in o then stale below else [] in
      let own : List Handle = if is_stale o inner then h ∷ [] else [] in
      let other = not_here k h o below rest gone in
      AreOthers-append k (inner ++ own) (stale rest)
      (AreOthers-append k inner own
      (others_if k (goes_in o) (stale below) (stale_others k below (λ j is. are j (in_below j h o below rest is)) (omega (arith, gone))))
      (others_if k (is_stale o inner) (h ∷ []) (are h (count_here h o below rest), (other, tt))))
      (stale_others k rest (λ j is. are j (in_rest j h o below rest is)) (omega (arith, gone)))

  pub redo_all-append : (told : Handle → Told) (xs ys : List Handle) (s : KeptLayers) → redo_all told (xs ++ ys) s ≡ redo_all told ys (redo_all told xs s)
  redo_all-append told [] ys s = refl
  redo_all-append told (x ∷ xs) ys s = redo_all-append told xs ys (redo told x s)

  module _ (cell : Size) (delegates : List Plug) where
    -- a boundary that was done again
    redone : (told : Handle → Told) (h : Handle) (below : Forest RenderObject) (s : KeptLayers) (flag : Bool)
        → told h ≡ record { flag = flag; group = group_parts cell delegates below origin }
        → (flag ≡ false → s.parts h ≡ Some (group_parts cell delegates below origin)) → IsRight cell delegates s below
        → IsPainted cell delegates (redo told h s) h below
    redone told h below s flag is kept right =
        let group : List GroupPart = group_parts cell delegates below origin in
        let parts : (redo told h s).parts h ≡ Some group = by_flag (told h) flag is kept in
        record {
          parts = parts;
          whole = with_own h (filled s.wholes (or_nil ((redo told h s).parts h))) s.wholes
              ∙ ap (λ ps. Some (filled s.wholes (or_nil ps))) parts ∙ ap (λ es. Some es) (filled-is cell delegates s below origin right);
        }
      where
        by_flag : (t : Told) (flag : Bool) → t ≡ record { flag = flag; group = group_parts cell delegates below origin }
            → (flag ≡ false → s.parts h ≡ Some (group_parts cell delegates below origin))
            → (if t.flag then with_kept h t.group s.parts else s.parts) h ≡ Some (group_parts cell delegates below origin)
        by_flag t true is kept =
            ap (λ (u : Told). (if u.flag then with_kept h u.group s.parts else s.parts) h) is ∙ with_own h (group_parts cell delegates below origin) s.parts
        by_flag t false is kept =
            ap (λ (u : Told). (if u.flag then with_kept h u.group s.parts else s.parts) h) is ∙ kept refl

    -- a boundary that wasn't, since nothing was flagged in it
    left_alone : (s : KeptLayers) (h : Handle) (below : Forest RenderObject) → KeepsGroup cell delegates s h below → IsRight cell delegates s below → IsPainted cell delegates s h below
    left_alone s h below keeps right = record {
      parts = keeps.parts;
      whole = keeps.whole ∙ ap (λ es. Some es) (filled-is cell delegates s below origin right);
    }

    -- where a node isn't gone into, nothing stale is found there, and it isn't stale itself
    not_stale : (o : RenderObject) (inner : List Handle) → goes_in o ≡ false → is_stale o inner ≡ false
    not_stale o inner not_in = by_boundary (is_boundary o) refl
      where
        shut : (shown seen boundary flag : Bool) → (boundary ≡ true → seen ≡ true) → (shown && seen) ≡ false → (shown && (boundary && flag)) ≡ false
        shut false seen boundary flag sees e = refl
        shut true seen false flag sees e = refl
        shut true seen true flag sees e = absurd (true≢false (sym (sees refl) ∙ e))

        by_boundary : (b : Bool) → is_boundary o ≡ b → is_stale o inner ≡ false
        by_boundary b e = shut o.shown (opens o) (is_boundary o) (o.needs_paint || not (is_nil inner)) (boundary_opens o) not_in

    -- a shown boundary that isn't stale has no flag, and nothing stale below it
    quiet : (shown boundary flag nil : Bool) → (shown && (boundary && (flag || not nil))) ≡ false → shown ≡ true → boundary ≡ true → (flag ≡ false) × (nil ≡ true)
    quiet true true true nil e s b = absurd (true≢false e)
    quiet true true false true e s b = (refl, refl)
    quiet true true false false e s b = absurd (true≢false e)
    quiet true false flag nil e s b = absurd (true≢false (sym b))
    quiet false boundary flag nil e s b = absurd (true≢false (sym s))

    nil_is : (hs : List Handle) → is_nil hs ≡ true → hs ≡ []
    nil_is [] e = refl
    nil_is (h ∷ hs) e = absurd (true≢false (sym e))

    and_left : (a b : Bool) → (a && b) ≡ true → a ≡ true
    and_left true b e = refl
    and_left false b e = e

    -- what the steps at one node leave
    pub node_done : (told : Handle → Told) (h : Handle) (o : RenderObject) (below rest : Forest RenderObject) (s : KeptLayers)
        → let inner = if goes_in o then stale below else [] in
        let s1 = redo_all told inner s in
        let s2 = redo_all told (if is_stale o inner then h ∷ [] else []) s1 in
        IsTold cell delegates told (tree h o below rest) → IsFresh cell delegates s (tree h o below rest) → goes_in o ≡ true
        → IsDone cell delegates s s1 below → AgreesAt s s1 h → is_boundary o ≡ true → IsPainted cell delegates s2 h below
    node_done told h o below rest s tells fresh goes inside same_here is = by_stale (is_stale o inner) refl
      where
        inner : List Handle
        inner = if goes_in o then stale below else []

        s1 : KeptLayers
        s1 = redo_all told inner s

        by_stale : (b : Bool) → is_stale o inner ≡ b → IsPainted cell delegates (redo_all told (if b then h ∷ [] else []) s1) h below
        by_stale true e =
            redone told h below s1 o.needs_paint (tells.0 is) (λ calm. sym same_here.parts ∙ (fresh.0 is calm).parts) (IsRight-done cell delegates s s1 below inside)
        by_stale false e =
            let facts = quiet o.shown (is_boundary o) o.needs_paint (is_nil inner) e (and_left o.shown (opens o) goes) is in
            let same_state : s ≡ s1 = sym (ap (λ hs. redo_all told hs s) (nil_is inner facts.1)) in
            subst (λ r. IsPainted cell delegates r h below) same_state
            (left_alone s h below (fresh.0 is facts.0) (subst (λ r. IsRight cell delegates r below) (sym same_state) (IsRight-done cell delegates s s1 below inside)))

    agrees_eq : (s t : KeptLayers) (k : Handle) → s ≡ t → AgreesAt s t k
    agrees_eq s t k e = record { parts = ap (λ (r : KeptLayers). r.parts k) e; whole = ap (λ (r : KeptLayers). r.wholes k) e }

    pub run_done : (told : Handle → Told) (f : Forest RenderObject) (s : KeptLayers) → IsTold cell delegates told f → IsFresh cell delegates s f → Are f → IsDistinct f
        → IsDone cell delegates s (redo_all told (stale f) s) f
    run_done told none s tells fresh are distinct = tt
    run_done told (tree h o below rest) s tells fresh are distinct =
        let inner : List Handle = if goes_in o then stale below else [] in
        let own : List Handle = if is_stale o inner then h ∷ [] else [] in
        let s1 : KeptLayers = redo_all told inner s in
        let s2 : KeptLayers = redo_all told own s1 in
        let s3 : KeptLayers = redo_all told (stale rest) s2 in
        let final : redo_all told (inner ++ own ++ stale rest) s ≡ s3 =
        redo_all-append told (inner ++ own) (stale rest) s ∙ ap (λ r. redo_all told (stale rest) r) (redo_all-append told inner own s) in
        let are_below : Are below = λ k is. are k (in_below k h o below rest is) in
        let are_rest : Are rest = λ k is. are k (in_rest k h o below rest is) in
        let lives : L h = are h (count_here h o below rest) in
        let first : (k : Handle) → L k → count k below ≡ 0 → AgreesAt s s1 k =
        λ k lk gone. run_other told k inner s lk (others_if k (goes_in o) (stale below) (stale_others k below are_below gone)) in
        let second : (k : Handle) → L k → same k h ≡ false → AgreesAt s1 s2 k =
        λ k lk other. run_other told k own s1 lk (others_if k (is_stale o inner) (h ∷ []) (lives, (other, tt))) in
        let third : (k : Handle) → L k → count k rest ≡ 0 → AgreesAt s2 s3 k =
        λ k lk gone. run_other told k (stale rest) s2 lk (stale_others k rest are_rest gone) in
        let before_rest : Agrees s s2 rest =
        λ k is. AgreesAt-trans s s1 s2 k (first k (are_rest k is) (none_below k h o below rest distinct is)) (second k (are_rest k is) (top_of_rest k h o below rest distinct is)) in
        let after_below : Agrees s1 s3 below =
        λ k is. AgreesAt-trans s1 s2 s3 k (second k (are_below k is) (top_of_below k h o below rest distinct is)) (third k (are_below k is) (none_after k h o below rest distinct is)) in
        let here : AgreesAt s s1 h = first h lives (top_below h o below rest distinct) in
        let after_here : AgreesAt s2 s3 h = third h lives (top_after h o below rest distinct) in
        subst (λ r. IsDone cell delegates s r (tree h o below rest)) (sym final) (
          (λ goes.
              let inside : IsDone cell delegates s s1 below =
              subst (λ b. IsDone cell delegates s (redo_all told (if b then stale below else []) s) below) (sym goes)
              (run_done told below s tells.1 fresh.1 are_below (distinct_below h o below rest distinct)) in (
                (λ is. IsPainted-same cell delegates s2 s3 h below after_here (node_done told h o below rest s tells fresh goes inside here is)),
                IsDone-same cell delegates s s1 s3 below after_below inside,
              )),
          (λ not_in.
              let unmoved : s ≡ s1 = sym (ap (λ b. redo_all told (if b then stale below else []) s) not_in) in
              let unmade : s1 ≡ s2 = sym (ap (λ b. redo_all told (if b then h ∷ [] else []) s1) (not_stale o inner not_in)) in (
                AgreesAt-trans s s2 s3 h (agrees_eq s s2 h (unmoved ∙ unmade)) after_here,
                λ k is. AgreesAt-trans s s1 s3 k (agrees_eq s s1 k unmoved) (after_below k is),
              )),
          IsDone-base cell delegates s s2 s3 rest before_rest
              (run_done told rest s2 tells.2 (IsFresh-same cell delegates s s2 rest before_rest fresh.2) are_rest (distinct_rest h o below rest distinct)),
        )

-- live handles have slots of their own
pub own_slots : (t : Tree RenderObject) (h k : Handle) → IsNode t h → IsNode t k → same k h ≡ false → (k.index == h.index) ≡ false
own_slots t h k lh lk other = ne_eqb k.index h.index (λ here. same-false k h other (live-same_slot t.nodes h k lh lk here))

pub live_run : (cell : Size) (delegates : List Plug) (t : Tree RenderObject) (told : Handle → Told) (f : Forest RenderObject) (s : KeptLayers)
    → IsTold cell delegates told f → IsFresh cell delegates s f → ((k : Handle) → In k f → IsNode t k) → IsDistinct f
    → IsDone cell delegates s (redo_all told (stale f) s) f
live_run cell delegates t told f s tells fresh live distinct = run_done (IsNode t) (own_slots t) cell delegates told f s tells fresh live distinct
