-- Painted nodes in groups that ask, and the marks that keep them there.
use Rattle.std.proofs.Common.{◌≡◌, ℕ, ◌+◌, ◌≤◌, Bool, true, false, not, ◌&&◌, ◌||◌, List, [], ◌∷◌, ◌++◌, length, refl, subst, arith, inl, inr, if◌then◌else◌}
use Rattle.std.proofs.lemmas.Bool.{and_parts, or_left, or_right, false≢true}
use Rattle.std.proofs.lemmas.List.{length-append}
use Rattle.fx_handles.specs.declared.Handle.{Handle}
use Rattle.node_tree.specs.Forest.{Forest}
use Rattle.node_tree.specs.Forest.Forest.{none, tree}
use Rattle.plain_tree.specs.Render.{Render, render}
use Rattle.tree_marks.specs.Marks.{listed, some_climbs, sweep}
use Rattle.tree_marks.proofs.Closing.{either}
use Rattle.work_roles.specs.Place.{RegionPlace, at_root, below}
use Rattle.work_sets.specs.Paint.{Asks, group_asks, some_of_group_asks, is_in_group, groups_in, groups_below, groups_of}
use Rattle.kept_layers.specs.Group.{is_boundary, opens}
use Rattle.kept_layers.specs.Steps.{painted_count}
use Rattle.paint_owner.specs.Finding.{root_flag}
use Rattle.render_tree.specs.Marks.{paint_marks, ends_painting}
use Rattle.render_tree.specs.Object.{RenderObject, object_look}
use Rattle.render_tree.specs.Plain.{lazy_children, renders_of}
use Rattle.build_walk.specs.Changing.{render_over}
use Rattle.counted_work.specs.Painted.{paint_above, FlagsAsked, RootFlagsAsked, AreAsking}
use Rattle.counted_work.proofs.Painted.{same_renders, swept_paints}

module _ (asks : Asks) where
  -- ---- what is painted is in groups that ask

  own_count : (flag own opened : Bool) (number : ℕ) (q : RegionPlace) (kids : Forest RenderObject) → (flag ≡ true → own ≡ true)
      → (opened ≡ true → painted_count flag kids ≤ length (groups_below asks own q (renders_of kids)))
      → (if flag then 1 else 0) + (if opened then painted_count flag kids else 0) ≤ length ((if own then number ∷ [] else []) ++ groups_below asks own q (renders_of kids))
  own_count true true true number q kids more go = let a = go refl in omega (arith, a)
  own_count true true false number q kids more go = omega arith
  own_count true false opened number q kids more go = absurd (false≢true (more refl))
  own_count false true true number q kids more go = let a = go refl in omega (arith, a)
  own_count false true false number q kids more go = omega arith
  own_count false false true number q kids more go = let a = go refl in omega (arith, a)
  own_count false false false number q kids more go = omega arith

  node_count : (shown boundary flag above here own opened : Bool) (number : ℕ) (q : RegionPlace) (kids : Forest RenderObject)
      → (shown ≡ true → boundary ≡ true → flag ≡ true → own ≡ true) → (here ≡ true → above ≡ true)
      → (shown ≡ true → (b c : Bool) → (b ≡ true → c ≡ true) → opened ≡ true → painted_count b kids ≤ length (groups_below asks c q (renders_of kids)))
      → (if shown
      then (if boundary
      then (if flag then 1 else 0) + (if opened then painted_count flag kids else 0)
      else (if here then 1 else 0) + (if opened then painted_count here kids else 0))
      else 0)
      ≤ length ((if (if boundary then own else above) then number ∷ [] else []) ++ groups_below asks (if boundary then own else above) q (renders_of kids))
  node_count false boundary flag above here own opened number q kids asked more go = omega arith
  node_count true true flag above here own opened number q kids asked more go = own_count flag own opened number q kids (asked refl refl) (go refl flag own (asked refl refl))
  node_count true false flag above here own opened number q kids asked more go = own_count here above opened number q kids more (go refl here above more)

  pub painted_inside : (flagged above : Bool) (p : RegionPlace) (f : Forest RenderObject) → (flagged ≡ true → above ≡ true) → FlagsAsked asks p f → painted_count flagged f ≤ length (groups_below asks above p (renders_of f))
  painted_inside flagged above p none more flags = omega arith
  painted_inside flagged above p (tree h o kids rest) more flags =
      let r : Render = render_over o kids in
      let q : RegionPlace = below p (object_look o) in
      let here = node_count o.shown (is_boundary o) o.needs_paint above flagged (group_asks asks p r) (opens o) o.number q kids
      (λ shown. (flags.0 shown).0) more
      (λ shown b c less opened. painted_inside b c q kids less ((flags.0 shown).1 opened)) in
      let later = painted_inside flagged above p rest more flags.1 in
      let all = length-append (groups_in asks (is_in_group asks above p r) p r) (groups_below asks above p (renders_of rest)) in
      omega (arith, here, later, all)

  pub root_painted_inside : (h : Handle) (o : RenderObject) (kids : Forest RenderObject) → RootFlagsAsked asks (tree h o kids none) → painted_count (root_flag (tree h o kids none)) (tree h o kids none) ≤ length (groups_of asks (render_over o kids))
  root_painted_inside h o kids flags = by_kind o.shown (is_boundary o)
    where
      own : Bool
      own = group_asks asks at_root (render_over o kids)

      q : RegionPlace
      q = below at_root (object_look o)

      here : (if o.needs_paint then 1 else 0) + (if opens o then painted_count o.needs_paint kids else 0) ≤ length ((if own then o.number ∷ [] else []) ++ groups_below asks own q (renders_of kids))
      here = own_count o.needs_paint own (opens o) o.number q kids flags.0 (λ opened. painted_inside o.needs_paint own q kids flags.0 (flags.1 opened))

      by_kind : (shown boundary : Bool)
          → (if shown
          then (if boundary
          then (if o.needs_paint then 1 else 0) + (if opens o then painted_count o.needs_paint kids else 0)
          else (if o.needs_paint then 1 else 0) + (if opens o then painted_count o.needs_paint kids else 0))
          else 0)
          + 0
          ≤ length ((if own then o.number ∷ [] else []) ++ groups_below asks own q (renders_of kids))
      by_kind false boundary = omega arith
      by_kind true true = omega (arith, here)
      by_kind true false = omega (arith, here)

  -- ---- marks

  module _ (hs : List Handle) where
    pub ask_node : (p : RegionPlace) (h : Handle) (o : RenderObject) (kids : Forest RenderObject) → (listed h hs ≡ true → asks p (render_over o kids) ≡ true)
        → (some_climbs paint_marks hs (paint_above false) kids ≡ true → some_of_group_asks asks (below p (object_look o)) (renders_of kids) ≡ true)
        → (listed h hs || some_climbs paint_marks hs (paint_above false) kids) ≡ true → group_asks asks p (render_over o kids) ≡ true
    ask_node p h o kids here under e = elim (either (listed h hs) (some_climbs paint_marks hs (paint_above false) kids) e) [
      | inl a ↦ or_left (asks p (render_over o kids)) (some_of_group_asks asks (below p (object_look o)) (renders_of kids)) (here a)
      | inr a ↦ or_right (asks p (render_over o kids)) (some_of_group_asks asks (below p (object_look o)) (renders_of kids)) (under a)
    ]

    climb_asks : (start boundary group : Bool) → (start ≡ true → group ≡ true) → (start && not boundary) ≡ true → (not boundary && group) ≡ true
    climb_asks start true group go e = absurd (false≢true (and_parts start false e).1)
    climb_asks start false group go e = go (and_parts start true e).0

    pub climbs_ask : (p : RegionPlace) (f : Forest RenderObject) → AreAsking asks hs p f → some_climbs paint_marks hs (paint_above false) f ≡ true → some_of_group_asks asks p (renders_of f) ≡ true
    climbs_ask p none asking e = e
    climbs_ask p (tree h o kids rest) asking e =
        let start : Bool = listed h hs || some_climbs paint_marks hs (paint_above false) kids in
        elim (either (start && not (is_boundary o)) (some_climbs paint_marks hs (paint_above false) rest) e) [
          | inl a ↦ or_left (not (is_boundary o) && group_asks asks p (render_over o kids)) (some_of_group_asks asks p (renders_of rest))
              (climb_asks start (is_boundary o) (group_asks asks p (render_over o kids)) (ask_node p h o kids asking.0 (climbs_ask (below p (object_look o)) kids asking.1)) a)
          | inr a ↦ or_right (not (is_boundary o) && group_asks asks p (render_over o kids)) (some_of_group_asks asks p (renders_of rest)) (climbs_ask p rest asking.2 a)
        ]

    flag_asked : (flag start takes group : Bool) → (flag ≡ true → group ≡ true) → (start ≡ true → group ≡ true) → (flag || (start && takes)) ≡ true → group ≡ true
    flag_asked true start takes group before now e = before refl
    flag_asked false start takes group before now e = now (and_parts start takes e).0

    pub marks_asked : (also : Bool) (p : RegionPlace) (f : Forest RenderObject) → AreAsking asks hs p f → FlagsAsked asks p f → FlagsAsked asks p (sweep paint_marks also hs (paint_above false) f)
    marks_asked also p none asking flags = tt
    marks_asked also p (tree h o kids rest) asking flags =
        let q : RegionPlace = below p (object_look o) in
        let start : Bool = listed h hs || some_climbs paint_marks hs (paint_above false) kids in
        let group : start ≡ true → group_asks asks p (render_over o kids) ≡ true = ask_node p h o kids asking.0 (climbs_ask q kids asking.1) in
        let swept : Forest RenderObject = sweep paint_marks also hs (paint_above false) kids in (
          (λ shown. (
            (λ boundary flag. subst (λ rs. group_asks asks p (render o.number (object_look o) o.parent_data o.scroll (lazy_children o) rs) ≡ true) (same_renders kids swept (swept_paints also hs (paint_above false) kids))
                (flag_asked o.needs_paint start (ends_painting false (object_look o)) (group_asks asks p (render_over o kids)) ((flags.0 shown).0 boundary) group flag)),
            (λ opened. marks_asked also q kids asking.1 ((flags.0 shown).1 opened)),
          )),
          marks_asked also p rest asking.2 flags.1,
        )

    pub root_marks_asked : (also : Bool) (f : Forest RenderObject) → AreAsking asks hs at_root f → RootFlagsAsked asks f → RootFlagsAsked asks (sweep paint_marks also hs (paint_above true) f)
    root_marks_asked also none asking flags = tt
    root_marks_asked also (tree h o kids rest) asking flags =
        let q : RegionPlace = below at_root (object_look o) in
        let start : Bool = listed h hs || some_climbs paint_marks hs (paint_above false) kids in
        let group : start ≡ true → group_asks asks at_root (render_over o kids) ≡ true = ask_node at_root h o kids asking.0 (climbs_ask q kids asking.1) in
        let swept : Forest RenderObject = sweep paint_marks also hs (paint_above false) kids in (
          (λ flag. subst (λ rs. group_asks asks at_root (render o.number (object_look o) o.parent_data o.scroll (lazy_children o) rs) ≡ true) (same_renders kids swept (swept_paints also hs (paint_above false) kids))
              (flag_asked o.needs_paint start (ends_painting true (object_look o)) (group_asks asks at_root (render_over o kids)) flags.0 group flag)),
          (λ opened. marks_asked also q kids asking.1 (flags.1 opened)),
        )
