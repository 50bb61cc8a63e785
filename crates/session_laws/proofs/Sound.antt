-- Each change that a line makes leaves a sound state.
use Rattle.std.proofs.Common.{◌≡◌, ℕ, ◌==◌, ◌<◌, ◌≤◌, ℤ, false, Option, Some, None, IfSome, option_map, Ok, List, [], ◌∷◌, ◌++◌, length, map, slice_set, inl, inr, refl, sym, ap, subst, ◌∙◌, arith}
use Rattle.fx_expr.specs.declared.handlers.Handler.{Handler}
use Rattle.fx_expr.specs.declared.values.Ty.{Ty}
use Rattle.fx_expr.specs.declared.values.Value.{Value}
use Rattle.fx_expr.specs.Sets.{FitFields, fields_after}
use Rattle.fx_expr.specs.Value.{type_of}
use Rattle.fx_expr.proofs.SetLaws.{fields_after-typed}
use Rattle.fx_geom.specs.declared.boxes.Bounds.{Bounds}
use Rattle.fx_geom.specs.Bounds.{tight}
use Rattle.expr_check.specs.Names.{place_of}
use Rattle.delegates.specs.Table.{Plug}
use Rattle.gesture_arena.specs.declared.gesture.Gesture.{Gesture}
use Rattle.widget_model.specs.declared.decl.Decl.{Decl}
use Rattle.widget_model.specs.Plain.{PlainWidget, look_of, widgets_of}
use Rattle.widget_model.specs.Typed.{Declarations, IsTypedWidget}
use Rattle.program_form.specs.Template.{PlainTemplate}
use Rattle.program_check.specs.Body.{PlainBody}
use Rattle.program_check.specs.Checked.{PlainChecked}
use Rattle.program_check.specs.ProgramCheck.{checked_widget}
use Rattle.program_check.specs.TypedChecked.{IsTypedChecked, IsTypedRoot}
use Rattle.template_build.specs.HandlersIn.{HandlersMeet, AllHandlersMeet, SetsNothing}
use Rattle.template_build.specs.Program.{declarations_of, root_output, props_alone, scene_in}
use Rattle.widget_model.specs.Typed.{box}
use Rattle.template_build.proofs.CallLemmas.{root_fine, one_typed, root_alone}
use Rattle.plain_tree.specs.At.{node_at, numbers_of, changed_at, having_fields, having_scroll}
use Rattle.plain_tree.specs.Laws.{render_numbers_of, render_numbers_in, laid_numbers_of, IsLeftOf, AllDiffer, VanishAlone}
use Rattle.plain_tree.specs.Offsets.{offset_at, scrolled_by}
use Rattle.plain_tree.specs.PlainNode.{PlainNode, widget_of, fields_of, number_of}
use Rattle.plain_tree.specs.Projection.{render_of}
use Rattle.plain_tree.specs.Render.{Render, renders_of}
use Rattle.plain_tree.specs.States.{State, holding, own_state}
use Rattle.plain_tree.proofs.Numbers.{all_left}
use Rattle.layout_form.specs.Laws.{Lays}
use Rattle.layout_form.specs.Layout.{object, lay_view}
use Rattle.layout_form.specs.Object.{Setting, setting_of}
use Rattle.build_form.specs.Entering.{Blueprint}
use Rattle.build_form.specs.FullBuild.{Screen, built, full_build}
use Rattle.build_form.specs.Laws.{WasThere, IsOldOrNew, HasSurvivors}
use Rattle.build_form.specs.Numbered.{IsNumbered}
use Rattle.build_form.specs.Owned.{HasHandler}
use Rattle.build_form.specs.Program.{blueprint_of}
use Rattle.build_form.specs.WellBuilt.{IsWellBuilt}
use Rattle.session_form.specs.Changing.{with_field, scrolled_to}
use Rattle.session_form.specs.FieldValue.{value_read}
use Rattle.session_form.specs.Framing.{screen_of, built_of, top_of, laid_of, shown_of, framed}
use Rattle.session_form.specs.Handlers.{node_in, handler_at, set_by}
use Rattle.session_form.specs.Program.{the_one, root_widget}
use Rattle.session_form.specs.State.{SessionState, Shown, first_state}
use Rattle.session_form.proofs.TreeLemmas.{heads}
use Rattle.session_form.proofs.SetLemmas.{number_found, built_found, set_typed, types_stored, AllHaveTypes}
use Rattle.frame_session.specs.StandsFor.{HandlersFit}
use Rattle.frame_session.proofs.FrameLemmas.{handlers_fit}
use Rattle.frame_session.proofs.LikeLemmas.{IsLike, heads_alike, like_fields, like_scroll, like_changed, like_scrolled, fit_alike, built_alike}
use Rattle.session_laws.proofs.OwnStates.{number_held}
use Rattle.session_laws.specs.Numbers.{TellApart, ShowsSome}
use Rattle.session_laws.specs.Sound.{IsSoundState}
use Rattle.session_laws.specs.Closed.{StaysChanged, StaysFramed}
use Rattle.session_laws.proofs.Lists.{listed, of_one, of_left, numbers_more, like_numbers, left_through, lays_left}

-- what the laws below say
pub record Known : Type 0 where
  pub fields : (f : PlainNode → List Value) (wanted next : ℕ) (n : PlainNode) → IsNumbered next n → IsNumbered next (changed_at (λ m. having_fields (f m) m) wanted n)
  pub scroll : (scroll wanted next : ℕ) (n : PlainNode) → IsNumbered next n → IsNumbered next (changed_at (having_scroll scroll) wanted n)
  pub offsets : (offset : ℕ → Option ℕ) (next : ℕ) (n : PlainNode) → IsNumbered next n → IsNumbered next (scrolled_by offset n)
  pub numbered : (b : Blueprint) (screen : Screen) (old : Option PlainNode) (next after : ℕ) (root : PlainWidget) (tree : PlainNode)
      → IfSome old (IsNumbered next) → full_build b screen old next root ≡ built tree after → IsNumbered after tree
  pub survive : (b : Blueprint) (screen : Screen) (old : Option PlainNode) (next after : ℕ) (root : PlainWidget) (tree : PlainNode)
      → IfSome old (IsNumbered next) → full_build b screen old next root ≡ built tree after → HasSurvivors old next after tree
  pub well : (c : PlainChecked) (screen : Screen) (old : Option PlainNode) (next after : ℕ) (root : PlainWidget) (tree : PlainNode)
      → IsTypedChecked c → IfSome old (IsWellBuilt (declarations_of c)) → IsTypedWidget (declarations_of c) root
      → full_build (blueprint_of c) screen old next root ≡ built tree after → IsWellBuilt (declarations_of c) tree
  pub fit : (c : PlainChecked) (screen : Screen) (old : Option PlainNode) (next after : ℕ) (root : PlainWidget) (tree : PlainNode)
      → IsTypedChecked c → full_build (blueprint_of c) screen old next root ≡ built tree after → IsWellBuilt (declarations_of c) tree
      → HandlersMeet SetsNothing root → AllDiffer (numbers_of tree)
      → (number : ℕ) (n owner : PlainNode) (h : Handler) → node_at number tree ≡ Some n → HasHandler h (look_of (widget_of n))
      → node_at h.owner tree ≡ Some owner → FitFields (map type_of (fields_of owner)) h.sets
  pub alone : (d : Declarations) (n : PlainNode) → IsWellBuilt d n → VanishAlone n
  pub one : (n : PlainNode) → VanishAlone n → length (render_of n) ≡ 1
  pub order : (n : PlainNode) → IsLeftOf (render_numbers_in (renders_of (render_of n))) (numbers_of n)
  pub lays : (s : Setting) (r : Render) (b : Bounds) → Lays r ((object s r).in_bounds b)
  pub typed_widgets : (c : PlainChecked) (t : PlainTemplate) (b : PlainBody) → checked_widget c t ≡ Ok b → IsTypedRoot c b
  pub root_handlers : (c : PlainChecked) (b : PlainBody) → IsTypedChecked c → IsTypedRoot c b → AllHandlersMeet SetsNothing (widgets_of (root_output c b))

-- ---- numbers

tell_left : (next : ℕ) (xs ys : List ℕ) → IsLeftOf xs ys → TellApart next ys → TellApart next xs
tell_left next xs ys left h = record {
  differ = all_left xs ys left h.differ;
  positive = of_left (λ n. 1 ≤ n) xs ys left h.positive;
  below = of_left (λ n. n < next) xs ys left h.below;
}

tell_like : (next : ℕ) (a b : PlainNode) → IsLike a b → TellApart next (numbers_of a) → TellApart next (numbers_of b)
tell_like next a b like h = subst (TellApart next) (sym (like_numbers a b like)) h

shows_like : (shown : Option Shown) (a b : PlainNode) → IsLike a b → ShowsSome (Some a) shown → ShowsSome (Some b) shown
shows_like None a b like h = tt
shows_like (Some l) a b like h = subst (IsLeftOf (laid_numbers_of l.laid)) (sym (like_numbers a b like)) h

-- the numbers of the tree that a build gives
was_positive : (old : Option PlainNode) (next k : ℕ) → IfSome old (λ t. TellApart next (numbers_of t)) → WasThere old k → 1 ≤ k
was_positive None next k h there = absurd there
was_positive (Some t) next k h there = of_one (λ n. 1 ≤ n) k t there h.positive

old_or_new : (old : Option PlainNode) (next k : ℕ) → 1 ≤ next → IfSome old (λ t. TellApart next (numbers_of t)) → IsOldOrNew old next k → 1 ≤ k
old_or_new old next k some h (inl there) = was_positive old next k h there
old_or_new old next k some h (inr high) = omega arith

tell_built : (old : Option PlainNode) (next after : ℕ) (tree : PlainNode) → 1 ≤ next → IfSome old (λ t. TellApart next (numbers_of t)) → HasSurvivors old next after tree
    → TellApart after (numbers_of tree)
tell_built old next after tree some h s = record {
  differ = s.differ;
  positive = listed (λ n. 1 ≤ n) tree (numbers_more (IsOldOrNew old next) (λ n. 1 ≤ n) (λ k. old_or_new old next k some h) tree s.known);
  below = listed (λ n. n < after) tree s.below;
}

-- the numbers of what is shown of it
left_alone : (xs : List ℕ) → IsLeftOf xs (xs ++ [])
left_alone [] = refl
left_alone (x ∷ xs) = inr (xs, refl, left_alone xs)

first_left : (rs : List Render) → length rs ≡ 1 → IsLeftOf (render_numbers_of (top_of rs)) (render_numbers_in (renders_of rs))
first_left [] e = cc
first_left (r ∷ []) e = left_alone (render_numbers_of r)
first_left (r ∷ (q ∷ rs)) e = absurd (omega (arith, e))

-- ---- what `set` and handlers do to the node that they find

pub built_in : (d : Declarations) (o : Option PlainNode) (w : ℕ) (m : PlainNode) → IfSome o (IsWellBuilt d) → node_in o w ≡ Some m → IsWellBuilt d m
built_in d None w m h e = cc
built_in d (Some t) w m h e = built_found d w t m h e

found_in : (o : Option PlainNode) (w : ℕ) (m : PlainNode) → node_in o w ≡ Some m → number_of m ≡ w
found_in None w m e = cc
found_in (Some t) w m e = number_found w t m e

some_is : (a b : PlainNode) → Some a ≡ Some b → a ≡ b
some_is a b e = cc

pub set_like : (s : SessionState) (number k : ℕ) (n : PlainNode) (d : Decl) (vs : List Value) (more : List State) (name bytes : List ℕ) (field : ℕ × Ty) (v : Value)
    → node_in s.tree number ≡ Some n → own_state n ≡ holding k d vs ∷ more → place_of d.fields name ≡ Some field → value_read field.1 bytes ≡ Some v
    → IsSoundState s → (m : PlainNode) → node_in s.tree k ≡ Some m → IsLike m (having_fields (slice_set (fields_of m) field.0 v) m)
set_like s number k n d vs more name bytes field v found is at reads h m e =
    let declared = declarations_of s.program in
    let same : number ≡ k = sym (found_in s.tree number n found) ∙ number_held n k d vs more is in
    let types : AllHaveTypes (holding k d vs ∷ more) (fields_of n) = subst (λ st. AllHaveTypes st (fields_of n)) is (types_stored declared n (built_in declared s.tree number n h.tree found)) in
    let fits = set_typed (holding k d vs ∷ []) (fields_of n) k d vs name bytes field.0 field.1 v types refl at reads in
    let this : n ≡ m = some_is n m (sym found ∙ ap (node_in s.tree) same ∙ e) in
    subst (λ x. IsLike x (having_fields (slice_set (fields_of x) field.0 v) x)) this (like_fields (slice_set (fields_of n) field.0 v) n fits.1)

pub handle_like : (s : SessionState) (number : ℕ) (g : Gesture) (h : Handler) (dx dy : ℤ) → handler_at s.tree number g ≡ Some h → IsSoundState s
    → (m : PlainNode) → node_in s.tree h.owner ≡ Some m → IsLike m (set_by h dx dy m)
handle_like s number g h dx dy has sound m e =
    like_fields (fields_after h.sets (fields_of m) dx dy) m (fields_after-typed h.sets (fields_of m) dx dy (sound.handlers number g h m has e))

pub changed_heads : (o : Option PlainNode) (f : PlainNode → PlainNode) (w : ℕ) → ((m : PlainNode) → node_in o w ≡ Some m → IsLike m (f m)) → (k : ℕ)
    → heads (node_in (option_map (changed_at f w) o) k) ≡ heads (node_in o k)
changed_heads None f w like k = refl
changed_heads (Some t) f w like k = heads_alike k t (changed_at f w t) (like_changed f w t like)

module _ (known : Known) where
  laid_left : (screen : Screen) (tree : PlainNode) → VanishAlone tree → IsLeftOf (laid_numbers_of (laid_of screen tree)) (numbers_of tree)
  unfolding laid_of
  laid_left screen tree alone =
      let s = setting_of screen.scale screen.delegates in
      let r = top_of (render_of tree) in
      let l = lay_view s r screen.view in
      let laid : IsLeftOf (laid_numbers_of l) (render_numbers_of r) = lays_left r l (known.lays s r (tight screen.view)) in
      let shown = left_through (laid_numbers_of l) (render_numbers_of r) (render_numbers_in (renders_of (render_of tree))) laid (first_left (render_of tree) (known.one tree alone)) in
      left_through (laid_numbers_of l) (render_numbers_in (renders_of (render_of tree))) (numbers_of tree) shown (known.order tree)

  tell_laid : (screen : Screen) (tree : PlainNode) (next : ℕ) → VanishAlone tree → TellApart next (numbers_of tree) → TellApart next (laid_numbers_of (laid_of screen tree))
  tell_laid screen tree next alone h = tell_left next (laid_numbers_of (laid_of screen tree)) (numbers_of tree) (laid_left screen tree alone) h

  -- ---- a change of the tree's fields or offsets

  record Kept (s : SessionState) (tree : Option PlainNode) : Type 0 where
    pub built : IfSome tree (IsWellBuilt (declarations_of s.program))
    pub fit : HandlersFit tree
    pub apart : IfSome tree (λ t. TellApart s.next (numbers_of t))
    pub placed : IfSome tree (IsNumbered s.next)
    pub shows : ShowsSome tree s.shown

  kept_by : (s : SessionState) (t : PlainNode) (f : PlainNode → PlainNode) (w : ℕ) → ((m : PlainNode) → node_at w t ≡ Some m → IsLike m (f m))
      → (IsNumbered s.next t → IsNumbered s.next (changed_at f w t)) → Kept s (Some t) → Kept s (Some (changed_at f w t))
  kept_by s t f w like numbered h =
      let l = like_changed f w t like in
      record {
        built = built_alike (declarations_of s.program) t (changed_at f w t) l h.built;
        fit = fit_alike t (changed_at f w t) l h.fit;
        apart = tell_like s.next t (changed_at f w t) l h.apart;
        placed = numbered h.placed;
        shows = shows_like s.shown t (changed_at f w t) l h.shows;
      }

  kept : (s : SessionState) (o : Option PlainNode) (f : PlainNode → PlainNode) (w : ℕ) → ((m : PlainNode) → node_in o w ≡ Some m → IsLike m (f m))
      → ((t : PlainNode) → IsNumbered s.next t → IsNumbered s.next (changed_at f w t)) → Kept s o → Kept s (option_map (changed_at f w) o)
  kept s None f w like numbered h = h
  kept s (Some t) f w like numbered h = kept_by s t f w like (numbered t) h

  kept_of : (s : SessionState) → IsSoundState s → Kept s s.tree
  kept_of s h = record { built = h.tree; fit = h.handlers; apart = h.numbers.tree; placed = h.numbers.placed; shows = h.numbers.shows }

  with_tree : (s : SessionState) (f : PlainNode → PlainNode) (w : ℕ) → ((m : PlainNode) → node_in s.tree w ≡ Some m → IsLike m (f m))
      → ((t : PlainNode) → IsNumbered s.next t → IsNumbered s.next (changed_at f w t)) → IsSoundState s → Kept s (option_map (changed_at f w) s.tree)
  with_tree s f w like numbered h = kept s s.tree f w like numbered (kept_of s h)

  sound_tree : (s : SessionState) (tree : Option PlainNode) (marks : List ℕ) → IsSoundState s → Kept s tree → IsSoundState (record s { tree = tree; marks = marks })
  sound_tree s tree marks h k = record {
    program = h.program;
    root = h.root;
    root_sets = h.root_sets;
    tree = k.built;
    handlers = k.fit;
    numbers = record { tree = k.apart; shown = h.numbers.shown; next = h.numbers.next; placed = k.placed; shows = k.shows };
  }

  -- ---- `set`, `scroll` and handlers

  sets : (s : SessionState) (number k : ℕ) (n : PlainNode) (d : Decl) (vs : List Value) (more : List State) (name bytes : List ℕ) (field : ℕ × Ty) (v : Value)
      → node_in s.tree number ≡ Some n → own_state n ≡ holding k d vs ∷ more → place_of d.fields name ≡ Some field → value_read field.1 bytes ≡ Some v
      → IsSoundState s → IsSoundState (with_field k field.0 v s)
  sets s number k n d vs more name bytes field v found is at reads h =
      let f : PlainNode → PlainNode = λ m. having_fields (slice_set (fields_of m) field.0 v) m in
      sound_tree s (option_map (changed_at f k) s.tree) (s.marks ++ k ∷ []) h
      (with_tree s f k (set_like s number k n d vs more name bytes field v found is at reads h) (λ t numbered. known.fields (λ m. slice_set (fields_of m) field.0 v) k s.next t numbered) h)

  handles : (s : SessionState) (number : ℕ) (g : Gesture) (h : Handler) (dx dy : ℤ) → handler_at s.tree number g ≡ Some h → (h.owner == 0) ≡ false
      → IsSoundState s → IsSoundState (record s { tree = option_map (changed_at (set_by h dx dy) h.owner) s.tree; marks = s.marks ++ h.owner ∷ [] })
  handles s number g h dx dy has test sound =
      sound_tree s (option_map (changed_at (set_by h dx dy) h.owner) s.tree) (s.marks ++ h.owner ∷ []) sound
      (with_tree s (set_by h dx dy) h.owner (handle_like s number g h dx dy has sound) (λ t numbered. known.fields (λ m. fields_after h.sets (fields_of m) dx dy) h.owner s.next t numbered) sound)

  scrolls : (s : SessionState) (k offset : ℕ) → IsSoundState s → IsSoundState (scrolled_to k offset s)
  scrolls s k offset h =
      let sound = sound_tree s (option_map (changed_at (having_scroll offset) k) s.tree) s.marks h
      (with_tree s (having_scroll offset) k (λ m e. like_scroll offset m) (λ t numbered. known.scroll offset k s.next t numbered) h) in
      record { program = sound.program; root = sound.root; root_sets = sound.root_sets; tree = sound.tree; handlers = sound.handlers; numbers = record { tree = sound.numbers.tree; shown = sound.numbers.shown; next = sound.numbers.next; placed = sound.numbers.placed; shows = sound.numbers.shows } }

  -- ---- roots

  the_one_is : (ws : List PlainWidget) (w : PlainWidget) → ws ≡ w ∷ [] → the_one ws ≡ w
  the_one_is ws w e = ap the_one e

  typed_root : (c : PlainChecked) (b : PlainBody) → IsTypedChecked c → IsTypedRoot c b → IsTypedWidget (declarations_of c) (root_widget c b)
  typed_root c b checked root =
      let alone = root_alone c b checked root in
      let there = scene_in c (props_alone []) [] 0 in
      subst (IsTypedWidget (declarations_of c)) (sym (the_one_is (root_output c b) alone.0 alone.1))
      (one_typed box there (root_output c b) alone.0 (root_fine c b checked root) alone.1 tt)

  setless_root : (c : PlainChecked) (b : PlainBody) → IsTypedChecked c → IsTypedRoot c b → HandlersMeet SetsNothing (root_widget c b)
  setless_root c b checked root =
      let alone = root_alone c b checked root in
      let Meet : List PlainWidget → Type 0 = λ ws. AllHandlersMeet SetsNothing (widgets_of ws) in
      let one : Meet (alone.0 ∷ []) = subst Meet alone.1 (known.root_handlers c b checked root) in
      subst (HandlersMeet SetsNothing) (sym (the_one_is (root_output c b) alone.0 alone.1)) one.0

  roots : (s : SessionState) (t : PlainTemplate) (b : PlainBody) → checked_widget s.program t ≡ Ok b → IsSoundState s → IsSoundState (record s { root = root_widget s.program b })
  roots s t b is h =
      let typed = known.typed_widgets s.program t b is in
      record {
        program = h.program;
        root = typed_root s.program b h.program typed;
        root_sets = setless_root s.program b h.program typed;
        tree = h.tree;
        handlers = h.handlers;
        numbers = record { tree = h.numbers.tree; shown = h.numbers.shown; next = h.numbers.next; placed = h.numbers.placed; shows = h.numbers.shows };
      }

  -- ---- a frame

  frames : (s : SessionState) (tree : PlainNode) (next : ℕ) → built_of s ≡ built tree next → IsSoundState s → IsSoundState (framed s tree next)
  frames s tree next is h =
      let c = s.program in
      let survivors = known.survive (blueprint_of c) (screen_of s) s.tree s.next next s.root tree h.numbers.placed is in
      let numbered = known.numbered (blueprint_of c) (screen_of s) s.tree s.next next s.root tree h.numbers.placed is in
      let well = known.well c (screen_of s) s.tree s.next next s.root tree h.program h.tree h.root is in
      let fit = handlers_fit tree (known.fit c (screen_of s) s.tree s.next next s.root tree h.program is well h.root_sets survivors.differ) in
      let l = laid_of (screen_of s) tree in
      let offsets : ℕ → Option ℕ = λ number. offset_at number l in
      let like = like_scrolled offsets tree in
      let now = scrolled_by offsets tree in
      let apart : TellApart next (numbers_of tree) = tell_built s.tree s.next next tree h.numbers.next h.numbers.tree survivors in
      let low = h.numbers.next in
      let grows = survivors.grows in
      record {
        program = h.program;
        root = h.root;
        root_sets = h.root_sets;
        tree = built_alike (declarations_of c) tree now like well;
        handlers = fit_alike tree now like fit;
        numbers = record {
          tree = tell_like next tree now like apart;
          shown = tell_laid (screen_of s) tree next (known.alone (declarations_of c) tree well) apart;
          next = omega arith;
          placed = known.offsets offsets next tree numbered;
          shows = shows_like (Some (shown_of (screen_of s) tree)) tree now like (laid_left (screen_of s) tree (known.alone (declarations_of c) tree well));
        };
      }

  -- ---- what no tree has to do with

  same : (s t : SessionState) → s.program ≡ t.program → s.root ≡ t.root → s.tree ≡ t.tree → s.next ≡ t.next → s.shown ≡ t.shown → IsSoundState s → IsSoundState t
  same s t program root tree next shown h = record {
    program = subst IsTypedChecked program h.program;
    root = subst (λ (x : PlainChecked × PlainWidget). IsTypedWidget (declarations_of x.0) x.1) (λ i. (program i, root i)) h.root;
    root_sets = subst (HandlersMeet SetsNothing) root h.root_sets;
    tree = subst (λ (x : PlainChecked × Option PlainNode). IfSome x.1 (IsWellBuilt (declarations_of x.0))) (λ i. (program i, tree i)) h.tree;
    handlers = subst HandlersFit tree h.handlers;
    numbers = record {
      tree = subst (λ (x : ℕ × Option PlainNode). IfSome x.1 (λ n. TellApart x.0 (numbers_of n))) (λ i. (next i, tree i)) h.numbers.tree;
      shown = subst (λ (x : ℕ × Option Shown). IfSome x.1 (λ n. TellApart x.0 (laid_numbers_of n.laid))) (λ i. (next i, shown i)) h.numbers.shown;
      next = subst (λ n. 1 ≤ n) next h.numbers.next;
      placed = subst (λ (x : ℕ × Option PlainNode). IfSome x.1 (IsNumbered x.0)) (λ i. (next i, tree i)) h.numbers.placed;
      shows = subst (λ (x : Option PlainNode × Option Shown). ShowsSome x.0 x.1) (λ i. (tree i, shown i)) h.numbers.shows;
    };
  }

  pub sound_framed : StaysFramed IsSoundState
  sound_framed = frames

  pub sound_changed : StaysChanged IsSoundState
  sound_changed = record {
    set = sets;
    scroll = scrolls;
    handle = handles;
    root = roots;
    resize = λ s view h. same s (record s { view = view }) refl refl refl refl refl h;
    plug = λ s ds name h. same s _ refl refl refl refl refl h;
    pointers = λ s ps h. same s (record s { pointers = ps }) refl refl refl refl refl h;
    time = λ s t h. same s (record s { time = t }) refl refl refl refl refl h;
  }

  pub sound_first : (c : PlainChecked) (ds : List Plug) → IsTypedChecked c → IsSoundState (first_state c ds)
  sound_first c ds checked = record {
    program = checked;
    root = typed_root c c.root checked checked.root;
    root_sets = setless_root c c.root checked checked.root;
    tree = tt;
    handlers = λ number g h owner has found. cc;
    numbers = record { tree = tt; shown = tt; next = omega arith; placed = tt; shows = tt };
  }
