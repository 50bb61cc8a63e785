use Rattle.std.proofs.Common.{◌≡◌, true, ◌++◌, ◌∷◌, [], Some, refl, ap, sym, subst, ◌∙◌, option_map, map, ℕ, ◌*◌, ◌≤◌}
use Rattle.fx_expr.specs.Value.{type_of}
use Rattle.fx_handles.specs.declared.Handle.{Handle}
use Rattle.fx_handles.specs.ArenaLaws.{same_Some}
use Rattle.widget_model.specs.View.{shared}
use Rattle.element_tree.specs.Edits.{Writes}
use Rattle.element_tree.specs.Element.{number_at}
use Rattle.element_tree.specs.Fields.{with_fields}
use Rattle.plain_tree.specs.At.{changed_at, having_fields}
use Rattle.plain_tree.specs.PlainNode.{PlainNode, widget_of, fields_of}
use Rattle.session_form.specs.Handlers.{node_in}
use Rattle.build_owner.specs.Standing.{StandsFor as TreesStandFor}
use Rattle.frame_owner.specs.Rooms.{HasRoomAfter}
use Rattle.frame_owner.specs.Frame.{KeptFrame}
use Rattle.frame_owner.specs.Nodes.{is_alone}
use Rattle.frame_owner.specs.Standing.{IsKnownIn, FrameStandsFor}
use Rattle.frame_owner.proofs.Known.{settled_if, settled_only, only_itself, known_set, written}
use Rattle.frame_owner.proofs.Windows.{none_some}
use Rattle.frame_owner.proofs.Found.{element_with, none_found, same_node, some_none}
use Rattle.frame_owner.proofs.owner.FrameOwner.set_fields.Goals as goal

pub returns-in_default-clause-stands : goal.returns-in_default-clause-stands
returns-in_default-clause-stands c = λ p ds marks tree m change now there is types.
    let t = c.self.inside.elements.tree in
    let st = subst (FrameStandsFor p ds marks tree) (sym c.self.view_is) now in
    absurd (some_none m (sym there ∙ c.elements_are_nodes.ensures.missing p marks tree st.scrolled t c.self.inside.nodes.tree c.self.inside.keys c.args.number st.trees
    (none_found t c.args.number c.find.result c.in_default.is (λ h e. (c.find.ensures h).1 e))))

pub returns-clause-stands : goal.returns-clause-stands
returns-clause-stands c = λ p ds marks tree m change now there is types.
    let t = c.self.inside.elements.tree in
    let u = c.set_fields.new.self.tree in
    let r = c.self.inside.nodes.tree in
    let g = c.self.inside.keys in
    let st = subst (FrameStandsFor p ds marks tree) (sym c.self.view_is) now in
    let w = element_with t c.in-Some.h c.args.number ((c.find.ensures c.in-Some.h).0 c.in-Some.is) in
    let n = c.elements_are_nodes.ensures.found p marks tree st.scrolled t r g c.in-Some.h w.element st.trees c.number_laws.ensures.once w.is in
    let one : n.0 ≡ m = same_node n.0 m (sym (ap (node_in tree) (sym w.number_is) ∙ n.1) ∙ there) in
    let was : fields_of m ≡ w.element.fields = ap fields_of (sym one) ∙ n.3 in
    let to : c.args.fields.items ≡ change w.element.fields = is ∙ ap change was in
    let typed : map type_of c.args.fields.items ≡ map type_of w.element.fields = types ∙ ap (map type_of) was in
    let writes : Writes t u c.in-Some.h (with_fields (change w.element.fields) w.element) =
    subst (λ fs. Writes t u c.in-Some.h (with_fields fs w.element)) to (c.set_fields.ensures.set w.element w.is typed).1 in
    let trees = c.lines_leave_standing_trees.ensures.set p marks tree st.scrolled t u r g c.in-Some.h w.element change st.trees c.number_laws.ensures.once w.is (ap (map type_of) (sym to) ∙ typed) writes in
    record {
      scrolled = st.scrolled;
      trees = subst (λ (k : ℕ). TreesStandFor p (marks ++ k ∷ []) (option_map (changed_at (λ (x : PlainNode). having_fields (change (fields_of x)) x) k) tree) st.scrolled u r g) w.number_is trees;
      right = st.right;
      unasked = st.unasked;
      settled = settled_if c.is_alone.result c.self.inside.settled c.forget_unless.new.root (IsKnownIn p (marks ++ c.args.number ∷ []) (option_map (changed_at (λ (x : PlainNode). having_fields (change (fields_of x)) x) c.args.number) tree) u c.self.inside.keyless (Some c.in-Some.h))
          c.forget_unless.ensures.alone c.forget_unless.ensures.other
          (λ on. known_set c.lines_leave_marked_trees.ensures.set c.lines_leave_marked_trees.ensures.again p marks tree m c.args.number t u c.self.inside.keyless c.self.inside.marked c.in-Some.h w.element (with_fields (change w.element.fields) w.element) change there w.number_is w.is
          (written t u c.in-Some.h w.element (with_fields (change w.element.fields) w.element) w.is writes) refl (ap widget_of (sym one) ∙ n.2) (sym c.is_alone.ensures ∙ on) (option_map shared c.self.inside.settled) st.settled);
      still = st.still;
    }

pub returns-clause-missing : goal.returns-clause-missing
returns-clause-missing c = λ p ds marks tree now nothing.
    let t = c.self.inside.elements.tree in
    let st = subst (FrameStandsFor p ds marks tree) (sym c.self.view_is) now in
    let w = element_with t c.in-Some.h c.args.number ((c.find.ensures c.in-Some.h).0 c.in-Some.is) in
    let n = c.elements_are_nodes.ensures.found p marks tree st.scrolled t c.self.inside.nodes.tree c.self.inside.keys c.in-Some.h w.element st.trees c.number_laws.ensures.once w.is in
    absurd (some_none n.0 (sym (ap (node_in tree) (sym w.number_is) ∙ n.1) ∙ nothing))

pub returns-clause-room : goal.returns-clause-room
returns-clause-room c = λ p ds marks tree m frames now there types had.
    let t = c.self.inside.elements.tree in
    let r = c.self.inside.nodes.tree in
    let g = c.self.inside.keys in
    let st = subst (FrameStandsFor p ds marks tree) (sym c.self.view_is) now in
    let w = element_with t c.in-Some.h c.args.number ((c.find.ensures c.in-Some.h).0 c.in-Some.is) in
    let n = c.elements_are_nodes.ensures.found p marks tree st.scrolled t r g c.in-Some.h w.element st.trees c.number_laws.ensures.once w.is in
    let one : n.0 ≡ m = same_node n.0 m (sym (ap (node_in tree) (sym w.number_is) ∙ n.1) ∙ there) in
    let was : fields_of m ≡ w.element.fields = ap fields_of (sym one) ∙ n.3 in
    let handles = (c.set_fields.ensures.set w.element w.is (types ∙ ap (map type_of) was)).1.writes.handles in
    let room = subst (HasRoomAfter frames) (sym c.self.view_is) had in
    record {
      elements = subst (λ (k : ℕ). k ≤ 1048576) (sym handles.used) room.elements;
      renders = room.renders;
      made = subst (λ (k : ℕ). k ≤ frames * 1048576) (sym handles.inserted) room.made;
      made_drawn = room.made_drawn;
    }

pub returns-clause-settled : goal.returns-clause-settled
returns-clause-settled c =
    settled_only c.is_alone.result c.self.inside.settled c.forget_unless.new.root c.args.self.now.settled (ap (λ (x : KeptFrame). x.settled) c.self.view_is) c.forget_unless.ensures.alone c.forget_unless.ensures.other

pub returns-in_default-clause-settled : goal.returns-in_default-clause-settled
returns-in_default-clause-settled c = only_itself c.args.self.now.settled

pub returns-clause-kept : goal.returns-clause-kept
returns-clause-kept c = λ h number alone.
    let one : c.find.result ≡ Some h = (c.find.ensures h).1 (ap (λ (x : KeptFrame). number_at x.elements h) c.self.view_is ∙ number) in
    let here : h ≡ c.in-Some.h = same_Some (sym one ∙ c.in-Some.is) in
    let on : c.is_alone.result ≡ true =
    c.is_alone.ensures ∙ (ap (λ (k : Handle). is_alone c.self.inside.elements.tree c.self.inside.marked k) (sym here) ∙ (ap (λ (x : KeptFrame). is_alone x.elements x.marked h) c.self.view_is ∙ alone)) in (
      ap (option_map shared) (c.forget_unless.ensures.alone on) ∙ ap (λ (x : KeptFrame). x.settled) c.self.view_is,
      ap (λ (k : Handle). Some k) (sym here),
    )

pub returns-in_default-clause-kept : goal.returns-in_default-clause-kept
returns-in_default-clause-kept c = λ h number alone.
    absurd (none_some (sym c.in_default.is ∙ (c.find.ensures h).1 (ap (λ (x : KeptFrame). number_at x.elements h) c.self.view_is ∙ number)))
