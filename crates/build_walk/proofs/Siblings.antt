-- What one forest of elements says is said tree by tree, and stays so where elements and render nodes are added.
use Rattle.std.proofs.Common.{◌≡◌, ℕ, Bool, true, false, cond, Option, Some, None, List, [], ◌∷◌, ◌++◌, refl, sym, ap, ◌∙◌}
use Rattle.std.proofs.lemmas.List.{append_assoc}
use Rattle.fx_expr.specs.declared.values.Value.{Value}
use Rattle.fx_handles.specs.declared.Handle.{Handle}
use Rattle.node_tree.specs.Forest.{Forest, append}
use Rattle.node_tree.specs.Forest.Forest.{none, tree}
use Rattle.plain_tree.specs.declared.render.ParentData.{ParentData}
use Rattle.plain_tree.specs.declared.role.RenderRole.{RenderRole}
use Rattle.plain_tree.specs.PlainNode.{PlainNode, node, nodes_of as listed}
use Rattle.plain_tree.specs.Projection.{told_by, told_at}
use Rattle.plain_tree.specs.RenderRole.{vanishes}
use Rattle.element_tree.specs.Element.{Element}
use Rattle.element_tree.specs.Nodes.{nodes_of}
use Rattle.render_tree.specs.Object.{RenderObject}
use Rattle.build_walk.specs.Renewing.{renewal_of, renewals, AllGoOn, role_of, redraw_of, drawn_at, drawn, IsDrawn, Unless, AreDrawn}
use Rattle.build_walk.specs.Serving.{waiting_lists, all_waiting_lists}
use Rattle.build_walk.specs.Merging.{list_handles}

forest_assoc : {T : Type 0} (f g k : Forest T) → append (append f g) k ≡ append f (append g k)
forest_assoc none g k = refl
forest_assoc (tree h v kids rest) g k = ap (tree h v kids) (forest_assoc rest g k)

pub renewals_append : (f g : Forest Element) → renewals (append f g) ≡ append (renewals f) (renewals g)
renewals_append none g = refl
renewals_append (tree h e kids rest) g = ap (tree h (renewal_of e) (renewals kids)) (renewals_append rest g)

pub drawn_append : (above : RenderRole) (told : Option ParentData) (f g : Forest Element) → drawn above told (append f g) ≡ append (drawn above told f) (drawn above told g)
drawn_append above told none g = refl
drawn_append above told (tree h e kids rest) g =
    let own = cond (vanishes (role_of e)) (drawn above (Some (told_by above (role_of e) (told_at above told e.index))) kids)
    (drawn_at e.render (redraw_of e (told_at above told e.index)) (drawn (role_of e) None kids)) in
    ap (append own) (drawn_append above told rest g) ∙ sym (forest_assoc own (drawn above told rest) (drawn above told g))

pub nodes_append : (scrolled : ℕ → ℕ) (f g : Forest Element) → nodes_of scrolled (append f g) ≡ nodes_of scrolled f ++ nodes_of scrolled g
nodes_append scrolled none g = refl
nodes_append scrolled (tree h e kids rest) g = ap (λ l. node e.number e.widget e.fields (scrolled e.number) e.index (listed (nodes_of scrolled kids)) ∷ l) (nodes_append scrolled rest g)

pub lists_append : (left : ℕ) (values : List Value) (ms ns : List PlainNode)
    → all_waiting_lists left values (listed (ms ++ ns)) ≡ all_waiting_lists left values (listed ms) ++ all_waiting_lists left values (listed ns)
lists_append left values [] ns = refl
lists_append left values (m ∷ ms) ns =
    ap (λ l. waiting_lists left values m ++ l) (lists_append left values ms ns) ∙ sym (append_assoc (waiting_lists left values m) _ _)

pub handles_append : {T : Type 0} (lists : T → Bool) (f g : Forest T) → list_handles lists (append f g) ≡ list_handles lists f ++ list_handles lists g
handles_append lists none g = refl
handles_append lists (tree h v kids rest) g =
    let own = cond (lists v) (h ∷ []) (list_handles lists kids) in
    ap (λ l. own ++ l) (handles_append lists rest g) ∙ sym (append_assoc own _ _)

pub go_on_append : (at : Handle → Option Element) (f g : Forest Element) → AllGoOn at f → AllGoOn at g → AllGoOn at (append f g)
go_on_append at none g a b = b
go_on_append at (tree h e kids rest) g a b = (a.0, a.1, go_on_append at rest g a.2 b)

pub drawn_both : (at : Handle → Option RenderObject) (scrolled : ℕ → ℕ) (f g : Forest Element) → AreDrawn at scrolled f → AreDrawn at scrolled g → AreDrawn at scrolled (append f g)
drawn_both at scrolled none g a b = b
drawn_both at scrolled (tree h e kids rest) g a b = (a.0, a.1, drawn_both at scrolled rest g a.2 b)

-- ---- where more is stored

pub go_on_later : (old new : Handle → Option Element) → ((h : Handle) (e : Element) → old h ≡ Some e → new h ≡ Some e) → (f : Forest Element) → AllGoOn old f → AllGoOn new f
go_on_later old new keeps none a = tt
go_on_later old new keeps (tree h e kids rest) a = (
  record {
    was = a.0.was;
    stored = keeps h a.0.was a.0.stored;
    number = a.0.number;
    fields = a.0.fields;
    follows = a.0.follows;
    clean = a.0.clean;
  },
  go_on_later old new keeps kids a.1,
  go_on_later old new keeps rest a.2,
)

unless_later : (t : Bool) (P Q : Type 0) → (P → Q) → Unless t P → Unless t Q
unless_later true P Q f u = tt
unless_later false P Q f u = f u

pub drawn_later : (old new : Handle → Option RenderObject) (scrolled : ℕ → ℕ) → ((h : Handle) (o : RenderObject) → old h ≡ Some o → new h ≡ Some o) → (f : Forest Element)
    → AreDrawn old scrolled f → AreDrawn new scrolled f
drawn_later old new scrolled keeps none a = tt
drawn_later old new scrolled keeps (tree h e kids rest) a = (
  unless_later (vanishes (role_of e)) (IsDrawn old (scrolled e.number) e) (IsDrawn new (scrolled e.number) e)
      (λ (d : IsDrawn old (scrolled e.number) e). record {
        handle = d.handle;
        named = d.named;
        object = d.object;
        stored = keeps d.handle d.object d.stored;
        number = d.number;
        scrolled = d.scrolled;
      }) a.0,
  drawn_later old new scrolled keeps kids a.1,
  drawn_later old new scrolled keeps rest a.2,
)
