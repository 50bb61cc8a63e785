-- The definitions at small registries, worked by hand.
use Rattle.std.proofs.Common.{◌≡◌, ℕ, true, false, Option, Some, None, List, [], ◌∷◌, pos, refl}
use Rattle.fx_handles.specs.declared.Handle.{Handle}
use Rattle.fx_handles.specs.Arena.{get}
use Rattle.fx_expr.specs.declared.values.Value.{Value}
use Rattle.fx_expr.specs.declared.values.Value.TheVariants as value
use Rattle.widget_keys.specs.declared.keys.Key.{Key}
use Rattle.widget_keys.specs.declared.keys.Key.TheVariants as key
use Rattle.widget_model.specs.Look.{clip_rect, component}
use Rattle.widget_model.specs.Plain.{PlainWidget, plain, no_widgets}
use Rattle.node_tree.specs.Forest.{TreeNode}
use Rattle.node_tree.specs.Tree.{Tree}
use Rattle.element_tree.specs.Element.{Element}
use Rattle.global_keys.specs.declared.registry.Holder.{Holder}
use Rattle.global_keys.specs.declared.registry.Claim.TheVariants.{Fresh, Taken, Repeated}
use Rattle.global_keys.specs.Holders.{Registry, recorded, holder_of}
use Rattle.global_keys.specs.Claims.{claim_of}
use Rattle.global_keys.specs.Named.{global_at}

abbrev at : ℕ → ℕ → Handle
at i g = record { index = i; generation = g }

abbrev seven : Value
seven = value.Int (pos 7)

abbrev component_of : ℕ → Key Value → PlainWidget
component_of n k = plain (component n [] (record { name = 67 ∷ []; fields = []; inherited = [] })) k no_widgets no_widgets

abbrev of : ℕ → PlainWidget → Element
of n w = record { number = n; widget = w; fields = []; index = 0; dirty = false; output = None; render = None }

abbrev stored : Option Handle → List Handle → Element → Option (Option (TreeNode Element))
stored p hs e = Some (Some (record { parent = p; children = hs; value = e }))

-- a clip over a component with the global key 7, whose slot was used once before, and over one with the local key 7
abbrev scene : Tree Element
scene = record {
  nodes = record {
    slots =
        stored None (at 1 1 ∷ at 2 0 ∷ []) (of 1 (plain clip_rect key.None no_widgets no_widgets))
        ∷ stored (Some (at 0 0)) [] (of 3 (component_of 0 (key.Global seven)))
        ∷ stored (Some (at 0 0)) [] (of 4 (component_of 0 (key.Local seven)))
        ∷ [];
    generations = 0 ∷ 1 ∷ 0 ∷ [];
  };
  root = Some (at 0 0);
  inactive = [];
}

abbrev held : Handle → Option Holder
held h = Some (record { node = h; met = false })

pub record Claims : Type 0 where
  pub nobody : claim_of scene None (component_of 0 (key.Global seven)) ≡ Fresh
  pub taken : claim_of scene (held (at 1 1)) (component_of 0 (key.Global seven)) ≡ Taken (at 1 1)
  pub other_type : claim_of scene (held (at 1 1)) (component_of 5 (key.Global seven)) ≡ Fresh
  pub dead : claim_of scene (held (at 1 0)) (component_of 0 (key.Global seven)) ≡ Fresh
  pub repeated : claim_of scene (Some (record { node = at 1 1; met = true })) (component_of 5 (key.Global seven)) ≡ Repeated

claims_worked : Claims
unfolding get
claims_worked = record { nobody = refl; taken = refl; other_type = refl; dead = refl; repeated = refl }

-- who has a global key, and what a registry records of it
abbrev keys : Registry
keys = record { entries = (value.Int (pos 5), record { node = at 9 0; met = true }) ∷ (seven, record { node = at 1 1; met = false }) ∷ []; spent = false }

pub record KeysHeld : Type 0 where
  pub global : global_at scene (at 1 1) ≡ Some seven
  pub spent : global_at scene (at 1 0) ≡ None
  pub local : global_at scene (at 2 0) ≡ None
  pub none : global_at scene (at 0 0) ≡ None
  pub has : recorded keys seven ≡ held (at 1 1)
  pub other : holder_of keys (value.Bool true) ≡ None

names_worked : KeysHeld
unfolding get
names_worked = record { global = refl; spent = refl; local = refl; none = refl; has = refl; other = refl }
