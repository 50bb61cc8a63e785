-- Which kinds stand in a widget, in a tree of nodes, and in what of it is laid out.
use Rattle.widget_model.specs.Look.{Look}
use Rattle.widget_model.specs.Plain.{PlainWidget, plain, Widgets, no_widgets, more}
use Rattle.plain_tree.specs.PlainNode.{PlainNode}
use Rattle.plain_tree.specs.Render.{Render, render, Renders, no_renders, more_renders}
use Rattle.build_form.specs.KeptStates.{EachIs}

-- each kind of a widget meets this: its own, and those of the contents of its slots and of its children
abbrev mutual
  pub LooksMeet : (Look → Type 0) → PlainWidget → Type 0
  LooksMeet P (plain look key slots children) = P look × AllLooksMeet P slots × AllLooksMeet P children

  pub AllLooksMeet : (Look → Type 0) → Widgets → Type 0
  AllLooksMeet P no_widgets = Unit {0}
  AllLooksMeet P (more w ws) = LooksMeet P w × AllLooksMeet P ws

-- each widget of a tree meets this
abbrev pub WidgetsMeet : (PlainWidget → Type 0) → PlainNode → Type 0
WidgetsMeet P n = EachIs (λ number widget fields scroll. P widget) n

-- each kind of render nodes meets this
abbrev mutual
  pub RenderLooksMeet : (Look → Type 0) → Render → Type 0
  RenderLooksMeet P (render number look parent_data scroll count children) = P look × AllRenderLooksMeet P children

  pub AllRenderLooksMeet : (Look → Type 0) → Renders → Type 0
  AllRenderLooksMeet P no_renders = Unit {0}
  AllRenderLooksMeet P (more_renders r rs) = RenderLooksMeet P r × AllRenderLooksMeet P rs
