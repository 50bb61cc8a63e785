-- What a contract sees of a `FrameOwner`.
use Rattle.std.specs.Prelude.{ℕ, Bool, Option, refl}
use Rattle.std.specs.Coded.{Coded, code_by, coded×, coded_bool, coded_option}
use Rattle.fx_geom.specs.declared.shapes.Size.{Size}
use Rattle.fx_geom.specs.contracts.shapes.Size as size
use Rattle.fx_handles.specs.declared.Handle.{Handle}
use Rattle.node_tree.specs.Tree.{Tree, tree_code, handle_code}
use Rattle.widget_model.specs.Plain.{PlainWidget}
use Rattle.element_tree.specs.Element.{Element, element_code, coded_widget}
use Rattle.global_keys.specs.Holders.{Registry, registry_code}
use Rattle.screen_owner.specs.Screen.{KeptScreen, kept_screen_code}
use Rattle.build_owner.specs.Standing.{next_at}

-- the elements, who has which global key, and the screen: render nodes, the scale of their lengths, layers, and whether all is spent.
-- Beside them the root for which the tree is settled, where one is known: its build would build nothing and give the tree that stands, but
-- for the component that is marked, if one is; whether it is known that no widget of it has a global key; and the view in which what is shown
-- is what stands, where one is known
pub record KeptFrame : Type 0 where
  pub elements : Tree Element
  pub keys : Registry
  pub screen : KeptScreen
  pub settled : Option PlainWidget
  pub keyless : Bool
  pub marked : Option Handle
  pub still : Option Size

abbrev pub kept_frame_code : Coded KeptFrame
kept_frame_code =
    code_by
    (Tree Element × (Registry × (KeptScreen × (Option PlainWidget × (Bool × (Option Handle × Option Size))))))
    (coded× (tree_code element_code) (coded× registry_code (coded× kept_screen_code (coded× (coded_option coded_widget) (coded× coded_bool (coded× (coded_option handle_code) (coded_option (size.the_row).coded)))))))
    (λ x. (x.elements, (x.keys, (x.screen, (x.settled, (x.keyless, (x.marked, x.still)))))))
    (λ p. record {
      elements = p.0;
      keys = p.1.0;
      screen = p.1.1.0;
      settled = p.1.1.1.0;
      keyless = p.1.1.1.1.0;
      marked = p.1.1.1.1.1.0;
      still = p.1.1.1.1.1.1;
    })
    (λ _. refl)

-- the number that the next new node gets
abbrev pub next_in : KeptFrame → ℕ
next_in x = next_at x.elements
