-- A build that went on alone is that of what stood before.
use Rattle.std.proofs.Common.{◌≡◌, ℕ, ◌+◌, Option, Some, None, Result, Ok, Err, IfOk, IfErr, OnOk, OnErr, IfSome, List, sym, ap, subst, ◌∙◌, inl, inr, arith}
use Rattle.fx_geom.specs.declared.shapes.Size.{Size}
use Rattle.fx_handles.specs.Arena.{Arena}
use Rattle.node_tree.specs.Edits.{KeepsHandles}
use Rattle.delegates.specs.Table.{Plug}
use Rattle.widget_model.specs.Plain.{PlainWidget}
use Rattle.program_check.specs.Checked.{PlainChecked}
use Rattle.plain_tree.specs.PlainNode.{PlainNode}
use Rattle.layout_form.specs.Object.{setting_of}
use Rattle.build_form.specs.FullBuild.{Screen, first_tree, full_build}
use Rattle.build_form.specs.Program.{blueprint_of}
use Rattle.build_form.specs.ScreenView.{screen_on}
use Rattle.screen_owner.specs.Screen.{KeptScreen}
use Rattle.build_walk.specs.Standing.{all_builds}
use Rattle.work_sets.specs.Work.{made_first, render_root}
use Rattle.frame_owner.specs.Building.{BuildsFrame}
use Rattle.frame_owner.specs.Frame.{KeptFrame, next_in}
use Rattle.frame_owner.specs.Framed.{screen_for, built_after, builds_after}
use Rattle.frame_owner.specs.Rooms.{HasRoomAfter}
use Rattle.frame_owner.specs.Working.{BuildBrings, LaidForFault}

-- what is in an option
pub held_by : {A : Type 0} (o : Option A) (a : A) (P : A → Type 0) → o ≡ Some a → IfSome o P → P a
held_by {A} (Some b) a P is holds = subst P (same_some is) holds
  where
    same_some : Some b ≡ Some a → b ≡ a
    same_some e = cc
held_by {A} None a P is holds = absurd (none_some is)
  where
    none_some : None ≡ Some a → ⊥
    none_some e = cc

-- what holds anyhow does at an error
pub on_err : {A E : Type 0} (P : Type 0) (r : Result A E) → P → OnErr r P
on_err P (Ok a) h = tt
on_err P (Err e) h = h

-- two things hold of what is in one
pub some_both : {A : Type 0} (P Q : A → Type 0) (o : Option A) → IfSome o P → IfSome o Q → IfSome o (λ a. P a × Q a)
some_both P Q None p q = tt
some_both P Q (Some a) p q = (p, q)

-- what follows of what is answered, or of an error, is so
pub ok_then : {A E : Type 0} (P Q : A → Type 0) (r : Result A E) → ((a : A) → P a → Q a) → IfOk r P → IfOk r Q
ok_then P Q (Ok a) law h = law a h
ok_then P Q (Err e) law h = tt

pub ok_both : {A E : Type 0} (P Q : A → Type 0) (r : Result A E) → IfOk r P → IfOk r Q → IfOk r (λ a. P a × Q a)
ok_both P Q (Ok a) p q = (p, q)
ok_both P Q (Err e) p q = tt

pub err_then : {A E : Type 0} (P Q : E → Type 0) (r : Result A E) → ((e : E) → P e → Q e) → IfErr r P → IfErr r Q
err_then P Q (Ok a) law h = tt
err_then P Q (Err e) law h = law e h

pub on_ok_then : {A E : Type 0} (P Q : Type 0) (r : Result A E) → (P → Q) → OnOk r P → OnOk r Q
on_ok_then P Q (Ok a) law h = law h
on_ok_then P Q (Err e) law h = tt

-- handles stay over both of two steps
pub handles_on : {A : Type 0} {a b c : Arena A} → KeepsHandles a b → KeepsHandles b c → KeepsHandles a c
handles_on first then = record {
  generations = λ i. then.generations i ∙ first.generations i;
  spent = λ k was. then.spent k (first.spent k was);
  used = then.used ∙ first.used;
  retired = then.retired ∙ first.retired;
  generation_sum = then.generation_sum ∙ first.generation_sum;
  inserted = then.inserted ∙ first.inserted;
}

-- a frame more has as much room
pub room_more : (frames : ℕ) (x : KeptFrame) → HasRoomAfter frames x → HasRoomAfter (frames + 1) x
room_more frames x had =
    let made = had.made in
    let drawn = had.made_drawn in
    record { elements = had.elements; renders = had.renders; made = omega (arith, made); made_drawn = omega (arith, drawn) }

module _ (c : PlainChecked) (ds : List Plug) (view : Size) (tree : Option PlainNode) (w : PlainWidget) (x mid : KeptFrame) (screen : mid.screen ≡ x.screen) (next : next_in mid ≡ next_in x) where
  pub same_build : built_after c (screen_for mid ds view) mid tree w ≡ built_after c (screen_for x ds view) x tree w
  same_build =
      ap (λ (s : KeptScreen). full_build (blueprint_of c) (screen_on s.scale ds view) tree (next_in mid) w) screen
      ∙ ap (λ (k : ℕ). full_build (blueprint_of c) (screen_for x ds view) tree k w) next

  pub same_builds : (marks : List ℕ) → builds_after c (screen_for mid ds view) mid tree marks w ≡ builds_after c (screen_for x ds view) x tree marks w
  same_builds marks =
      ap (λ (s : KeptScreen). all_builds (blueprint_of c) (screen_on s.scale ds view) tree marks (next_in mid) w) screen
      ∙ ap (λ (k : ℕ). all_builds (blueprint_of c) (screen_for x ds view) tree marks k w) next

  pub builds_on : (y : KeptFrame) (layouts_before layouts_after : ℕ) → BuildsFrame c (screen_for mid ds view) tree w mid y layouts_before layouts_after
      → BuildsFrame c (screen_for x ds view) tree w x y layouts_before layouts_after
  builds_on y before later b = record {
    tree = b.tree;
    is = sym same_build ∙ b.is;
    stands = b.stands;
    brings = subst (λ (s : KeptScreen). BuildBrings (setting_of s.scale ds) view s.nodes y.screen.nodes (render_root b.tree) before later) screen b.brings;
  }

  pub laid_on : (layouts_before layouts_after : ℕ) → LaidForFault c (screen_for mid ds view) tree (next_in mid) w mid.screen.nodes layouts_before layouts_after
      → LaidForFault c (screen_for x ds view) tree (next_in x) w x.screen.nodes layouts_before layouts_after
  laid_on before later laid =
      subst (λ (k : ℕ). LaidForFault c (screen_for x ds view) tree k w x.screen.nodes before later) next
      (subst (λ (s : KeptScreen). LaidForFault c (screen_on s.scale ds view) tree (next_in mid) w s.nodes before later) screen laid)

-- and so is one from a tree that leads to the same
module _ (c : PlainChecked) (screen : Screen) (tree now : Option PlainNode) (w : PlainWidget) (x : KeptFrame) where
  pub builds_from : (y : KeptFrame) (layouts_before layouts_after : ℕ) → built_after c screen x tree w ≡ built_after c screen x now w → BuildsFrame c screen now w x y layouts_before layouts_after
      → BuildsFrame c screen tree w x y layouts_before layouts_after
  builds_from y before later full b = record { tree = b.tree; is = full ∙ b.is; stands = b.stands; brings = b.brings }

  pub laid_from : (layouts_before layouts_after : ℕ)
      → made_first (blueprint_of c) screen tree (first_tree (blueprint_of c) tree (next_in x) w) ≡ made_first (blueprint_of c) screen now (first_tree (blueprint_of c) now (next_in x) w)
      → LaidForFault c screen now (next_in x) w x.screen.nodes layouts_before layouts_after → LaidForFault c screen tree (next_in x) w x.screen.nodes layouts_before layouts_after
  laid_from before later first (inl none) = inl none
  laid_from before later first (inr lays) = inr (record { tree = lays.tree; small = lays.small; is = first ∙ lays.is; lists = lays.lists; outer = lays.outer })
