use Rattle.std.proofs.Common.{◌≡◌, Some, false, sym, subst, ◌∙◌}
use Rattle.fx_geom.specs.declared.boxes.Bounds.{Bounds}
use Rattle.fx_geom.specs.declared.scales.Scale.{Scale}
use Rattle.fx_geom.specs.Bounds.{tight}
use Rattle.delegates.specs.Table.{meant_in}
use Rattle.node_tree.specs.Tree.{Holds}
use Rattle.layout_form.specs.declared.asks.Ask.TheVariants.{AsBox}
use Rattle.layout_form.specs.Object.{setting_of}
use Rattle.layout_walk.specs.Rules.{parts_of}
use Rattle.layout_rules.specs.declared.duties.Duty.TheVariants.{Lay}
use Rattle.layout_rules.specs.Serving.{IsReadyFor, Serves}
use Rattle.layout_owner.proofs.Asking.{now_asked, now_bounds}
use Rattle.layout_owner.proofs.Flushing.{now_good, now_placed, now_linked, elsewhere, few_ticks, few_due, now_laid, now_calm, now_done, now_scrolled, now_left}
use Rattle.layout_owner.proofs.Rooting.{SeenLaws, found_root, live_root, live_stays, ready_root, laid_root}
use Rattle.layout_owner.proofs.Staying.{placing, placed_paints, placed_few}
use Rattle.layout_owner.proofs.owner.flush.Goals as goal

pub admit-requires : goal.admit-requires
admit-requires g c =
    live_root c.args.r.now.tree c.in-Some.root c.in-Some.ensures.holds

pub place-requires : goal.place-requires
place-requires g c =
    live_stays c.args.r.now.tree c.admit.new.r.tree c.in-Some.root c.in_ok-admit.ensures.stays (live_root c.args.r.now.tree c.in-Some.root c.in-Some.ensures.holds)

pub lay_one-requires : goal.lay_one-requires
lay_one-requires g c =
    let m = meant_in c.args.table.now (λ v. (g.dyn-1.0.entry v).1) in
    let s = setting_of c.args.r.now.scale m in
    let t0 = c.args.r.now.tree in
    let root = c.in-Some.root in
    let is_root : t0.root ≡ Some root = sym c.in-Some.ensures.value in
    let holds : Holds t0 root = c.in-Some.ensures.holds in
    let laws : SeenLaws = record { renders = c.layouts_see_render_nodes.ensures.renders; stands = c.layouts_see_render_nodes.ensures.stands } in
    let found = found_root laws s t0 root is_root holds (c.requires.good c.in_ok-admit.ensures.ready) in
    let stays = c.in_ok-admit.ensures.stays in
    let scale : c.place.new.r.scale ≡ c.args.r.now.scale = c.place.ensures.scale ∙ c.admit.ensures.scale in
    subst (λ (x : Scale). IsReadyFor (parts_of (setting_of x m)) c.place.new.r.tree root (Lay (AsBox c.tight.result))) (sym scale)
    (ready_root s t0 c.admit.new.r.tree c.place.new.r.tree root found stays c.place.ensures.places c.tight.result)

pub returns-clause-laid : goal.returns-clause-laid
returns-clause-laid g c =
    let m = meant_in c.args.table.now (λ v. (g.dyn-1.0.entry v).1) in
    let s = setting_of c.args.r.now.scale m in
    let t0 = c.args.r.now.tree in
    let root = c.in-Some.root in
    let is_root : t0.root ≡ Some root = sym c.in-Some.ensures.value in
    let holds : Holds t0 root = c.in-Some.ensures.holds in
    let laws : SeenLaws = record { renders = c.layouts_see_render_nodes.ensures.renders; stands = c.layouts_see_render_nodes.ensures.stands } in
    let found = found_root laws s t0 root is_root holds (c.requires.good c.in_ok-admit.ensures.ready) in
    let stays = c.in_ok-admit.ensures.stays in
    let scale : c.place.new.r.scale ≡ c.args.r.now.scale = c.place.ensures.scale ∙ c.admit.ensures.scale in
    let law = c.rules_are_lawful.ensures s in
    let view = c.args.view in
    let t2 = c.place.new.r.tree in
    let t3 = c.lay_one.new.r.tree in
    let served : Serves (parts_of s) false (Lay (AsBox (tight view))) t2 t3 root c.args.layouts.now c.lay_one.new.steps =
    subst (λ (b : Bounds). Serves (parts_of s) false (Lay (AsBox b)) t2 t3 root c.args.layouts.now c.lay_one.new.steps) c.tight.ensures.value
    (subst (λ (x : Scale). Serves (parts_of (setting_of x m)) false (Lay (AsBox c.tight.result)) t2 t3 root c.args.layouts.now c.lay_one.new.steps) scale c.in_ok-lay_one.ensures.served) in
    let done = laid_root s t0 c.admit.new.r.tree t2 root found stays c.place.ensures.places false (tight view) t3 c.args.layouts.now c.lay_one.new.steps c.root-2.ensures.tree served in
    now_laid laws c.layouts_see_render_nodes.ensures.laids s law (c.flushes_show_full_layout.ensures s) view t0 t3 root is_root found c.args.layouts.now c.lay_one.new.steps done

pub returns-clause-placed : goal.returns-clause-placed
returns-clause-placed g c =
    let m = meant_in c.args.table.now (λ v. (g.dyn-1.0.entry v).1) in
    let s = setting_of c.args.r.now.scale m in
    let t0 = c.args.r.now.tree in
    let root = c.in-Some.root in
    let is_root : t0.root ≡ Some root = sym c.in-Some.ensures.value in
    let holds : Holds t0 root = c.in-Some.ensures.holds in
    let laws : SeenLaws = record { renders = c.layouts_see_render_nodes.ensures.renders; stands = c.layouts_see_render_nodes.ensures.stands } in
    let found = found_root laws s t0 root is_root holds (c.requires.good c.in_ok-admit.ensures.ready) in
    let stays = c.in_ok-admit.ensures.stays in
    let scale : c.place.new.r.scale ≡ c.args.r.now.scale = c.place.ensures.scale ∙ c.admit.ensures.scale in
    let law = c.rules_are_lawful.ensures s in
    let view = c.args.view in
    let t2 = c.place.new.r.tree in
    let t3 = c.lay_one.new.r.tree in
    let served : Serves (parts_of s) false (Lay (AsBox (tight view))) t2 t3 root c.args.layouts.now c.lay_one.new.steps =
    subst (λ (b : Bounds). Serves (parts_of s) false (Lay (AsBox b)) t2 t3 root c.args.layouts.now c.lay_one.new.steps) c.tight.ensures.value
    (subst (λ (x : Scale). Serves (parts_of (setting_of x m)) false (Lay (AsBox c.tight.result)) t2 t3 root c.args.layouts.now c.lay_one.new.steps) scale c.in_ok-lay_one.ensures.served) in
    let done = laid_root s t0 c.admit.new.r.tree t2 root found stays c.place.ensures.places false (tight view) t3 c.args.layouts.now c.lay_one.new.steps c.root-2.ensures.tree served in
    now_placed laws s law view t0 t3 root is_root found false c.args.layouts.now c.lay_one.new.steps done

pub returns-clause-good : goal.returns-clause-good
returns-clause-good g c =
    let m = meant_in c.args.table.now (λ v. (g.dyn-1.0.entry v).1) in
    let s = setting_of c.args.r.now.scale m in
    let t0 = c.args.r.now.tree in
    let root = c.in-Some.root in
    let is_root : t0.root ≡ Some root = sym c.in-Some.ensures.value in
    let holds : Holds t0 root = c.in-Some.ensures.holds in
    let laws : SeenLaws = record { renders = c.layouts_see_render_nodes.ensures.renders; stands = c.layouts_see_render_nodes.ensures.stands } in
    let found = found_root laws s t0 root is_root holds (c.requires.good c.in_ok-admit.ensures.ready) in
    let stays = c.in_ok-admit.ensures.stays in
    let scale : c.place.new.r.scale ≡ c.args.r.now.scale = c.place.ensures.scale ∙ c.admit.ensures.scale in
    let law = c.rules_are_lawful.ensures s in
    let view = c.args.view in
    let t2 = c.place.new.r.tree in
    let t3 = c.lay_one.new.r.tree in
    let served : Serves (parts_of s) false (Lay (AsBox (tight view))) t2 t3 root c.args.layouts.now c.lay_one.new.steps =
    subst (λ (b : Bounds). Serves (parts_of s) false (Lay (AsBox b)) t2 t3 root c.args.layouts.now c.lay_one.new.steps) c.tight.ensures.value
    (subst (λ (x : Scale). Serves (parts_of (setting_of x m)) false (Lay (AsBox c.tight.result)) t2 t3 root c.args.layouts.now c.lay_one.new.steps) scale c.in_ok-lay_one.ensures.served) in
    let done = laid_root s t0 c.admit.new.r.tree t2 root found stays c.place.ensures.places false (tight view) t3 c.args.layouts.now c.lay_one.new.steps c.root-2.ensures.tree served in
    now_good laws s law view t0 t3 root is_root found false c.args.layouts.now c.lay_one.new.steps done

pub returns-clause-linked : goal.returns-clause-linked
returns-clause-linked g c =
    let m = meant_in c.args.table.now (λ v. (g.dyn-1.0.entry v).1) in
    let s = setting_of c.args.r.now.scale m in
    let t0 = c.args.r.now.tree in
    let root = c.in-Some.root in
    let is_root : t0.root ≡ Some root = sym c.in-Some.ensures.value in
    let holds : Holds t0 root = c.in-Some.ensures.holds in
    let laws : SeenLaws = record { renders = c.layouts_see_render_nodes.ensures.renders; stands = c.layouts_see_render_nodes.ensures.stands } in
    let found = found_root laws s t0 root is_root holds (c.requires.good c.in_ok-admit.ensures.ready) in
    let stays = c.in_ok-admit.ensures.stays in
    let scale : c.place.new.r.scale ≡ c.args.r.now.scale = c.place.ensures.scale ∙ c.admit.ensures.scale in
    let law = c.rules_are_lawful.ensures s in
    let view = c.args.view in
    let t2 = c.place.new.r.tree in
    let t3 = c.lay_one.new.r.tree in
    let served : Serves (parts_of s) false (Lay (AsBox (tight view))) t2 t3 root c.args.layouts.now c.lay_one.new.steps =
    subst (λ (b : Bounds). Serves (parts_of s) false (Lay (AsBox b)) t2 t3 root c.args.layouts.now c.lay_one.new.steps) c.tight.ensures.value
    (subst (λ (x : Scale). Serves (parts_of (setting_of x m)) false (Lay (AsBox c.tight.result)) t2 t3 root c.args.layouts.now c.lay_one.new.steps) scale c.in_ok-lay_one.ensures.served) in
    let done = laid_root s t0 c.admit.new.r.tree t2 root found stays c.place.ensures.places false (tight view) t3 c.args.layouts.now c.lay_one.new.steps c.root-2.ensures.tree served in
    now_linked laws s law view t0 t3 root is_root found false c.args.layouts.now c.lay_one.new.steps done

pub returns-clause-calm : goal.returns-clause-calm
returns-clause-calm g c =
    let m = meant_in c.args.table.now (λ v. (g.dyn-1.0.entry v).1) in
    let s = setting_of c.args.r.now.scale m in
    let t0 = c.args.r.now.tree in
    let root = c.in-Some.root in
    let is_root : t0.root ≡ Some root = sym c.in-Some.ensures.value in
    let holds : Holds t0 root = c.in-Some.ensures.holds in
    let laws : SeenLaws = record { renders = c.layouts_see_render_nodes.ensures.renders; stands = c.layouts_see_render_nodes.ensures.stands } in
    let found = found_root laws s t0 root is_root holds (c.requires.good c.in_ok-admit.ensures.ready) in
    let stays = c.in_ok-admit.ensures.stays in
    let scale : c.place.new.r.scale ≡ c.args.r.now.scale = c.place.ensures.scale ∙ c.admit.ensures.scale in
    let law = c.rules_are_lawful.ensures s in
    let view = c.args.view in
    let t2 = c.place.new.r.tree in
    let t3 = c.lay_one.new.r.tree in
    let served : Serves (parts_of s) false (Lay (AsBox (tight view))) t2 t3 root c.args.layouts.now c.lay_one.new.steps =
    subst (λ (b : Bounds). Serves (parts_of s) false (Lay (AsBox b)) t2 t3 root c.args.layouts.now c.lay_one.new.steps) c.tight.ensures.value
    (subst (λ (x : Scale). Serves (parts_of (setting_of x m)) false (Lay (AsBox c.tight.result)) t2 t3 root c.args.layouts.now c.lay_one.new.steps) scale c.in_ok-lay_one.ensures.served) in
    let done = laid_root s t0 c.admit.new.r.tree t2 root found stays c.place.ensures.places false (tight view) t3 c.args.layouts.now c.lay_one.new.steps c.root-2.ensures.tree served in
    now_calm laws c.layouts_see_render_nodes.ensures.laids s law (c.flushes_show_full_layout.ensures s) view t0 t3 root is_root found c.args.layouts.now c.lay_one.new.steps done

pub returns-clause-none_due : goal.returns-clause-none_due
returns-clause-none_due g c =
    let m = meant_in c.args.table.now (λ v. (g.dyn-1.0.entry v).1) in
    let s = setting_of c.args.r.now.scale m in
    let t0 = c.args.r.now.tree in
    let root = c.in-Some.root in
    let is_root : t0.root ≡ Some root = sym c.in-Some.ensures.value in
    let holds : Holds t0 root = c.in-Some.ensures.holds in
    let laws : SeenLaws = record { renders = c.layouts_see_render_nodes.ensures.renders; stands = c.layouts_see_render_nodes.ensures.stands } in
    let found = found_root laws s t0 root is_root holds (c.requires.good c.in_ok-admit.ensures.ready) in
    let stays = c.in_ok-admit.ensures.stays in
    let scale : c.place.new.r.scale ≡ c.args.r.now.scale = c.place.ensures.scale ∙ c.admit.ensures.scale in
    let law = c.rules_are_lawful.ensures s in
    let view = c.args.view in
    let t2 = c.place.new.r.tree in
    let t3 = c.lay_one.new.r.tree in
    let served : Serves (parts_of s) false (Lay (AsBox (tight view))) t2 t3 root c.args.layouts.now c.lay_one.new.steps =
    subst (λ (b : Bounds). Serves (parts_of s) false (Lay (AsBox b)) t2 t3 root c.args.layouts.now c.lay_one.new.steps) c.tight.ensures.value
    (subst (λ (x : Scale). Serves (parts_of (setting_of x m)) false (Lay (AsBox c.tight.result)) t2 t3 root c.args.layouts.now c.lay_one.new.steps) scale c.in_ok-lay_one.ensures.served) in
    let done = laid_root s t0 c.admit.new.r.tree t2 root found stays c.place.ensures.places false (tight view) t3 c.args.layouts.now c.lay_one.new.steps c.root-2.ensures.tree served in
    now_done laws c.layouts_see_render_nodes.ensures.laids s law (c.flushes_show_full_layout.ensures s) view t0 t3 root is_root found c.args.layouts.now c.lay_one.new.steps done

pub returns-clause-scrolled : goal.returns-clause-scrolled
returns-clause-scrolled g c =
    let m = meant_in c.args.table.now (λ v. (g.dyn-1.0.entry v).1) in
    let s = setting_of c.args.r.now.scale m in
    let t0 = c.args.r.now.tree in
    let root = c.in-Some.root in
    let is_root : t0.root ≡ Some root = sym c.in-Some.ensures.value in
    let holds : Holds t0 root = c.in-Some.ensures.holds in
    let laws : SeenLaws = record { renders = c.layouts_see_render_nodes.ensures.renders; stands = c.layouts_see_render_nodes.ensures.stands } in
    let found = found_root laws s t0 root is_root holds (c.requires.good c.in_ok-admit.ensures.ready) in
    let stays = c.in_ok-admit.ensures.stays in
    let scale : c.place.new.r.scale ≡ c.args.r.now.scale = c.place.ensures.scale ∙ c.admit.ensures.scale in
    let law = c.rules_are_lawful.ensures s in
    let view = c.args.view in
    let t2 = c.place.new.r.tree in
    let t3 = c.lay_one.new.r.tree in
    let served : Serves (parts_of s) false (Lay (AsBox (tight view))) t2 t3 root c.args.layouts.now c.lay_one.new.steps =
    subst (λ (b : Bounds). Serves (parts_of s) false (Lay (AsBox b)) t2 t3 root c.args.layouts.now c.lay_one.new.steps) c.tight.ensures.value
    (subst (λ (x : Scale). Serves (parts_of (setting_of x m)) false (Lay (AsBox c.tight.result)) t2 t3 root c.args.layouts.now c.lay_one.new.steps) scale c.in_ok-lay_one.ensures.served) in
    let done = laid_root s t0 c.admit.new.r.tree t2 root found stays c.place.ensures.places false (tight view) t3 c.args.layouts.now c.lay_one.new.steps c.root-2.ensures.tree served in
    now_scrolled laws c.layouts_see_render_nodes.ensures.laids s law (c.flushes_show_full_layout.ensures s) view t0 t3 root is_root found c.args.layouts.now c.lay_one.new.steps done

pub returns-clause-left : goal.returns-clause-left
returns-clause-left g c =
    let m = meant_in c.args.table.now (λ v. (g.dyn-1.0.entry v).1) in
    let s = setting_of c.args.r.now.scale m in
    let t0 = c.args.r.now.tree in
    let root = c.in-Some.root in
    let is_root : t0.root ≡ Some root = sym c.in-Some.ensures.value in
    let holds : Holds t0 root = c.in-Some.ensures.holds in
    let laws : SeenLaws = record { renders = c.layouts_see_render_nodes.ensures.renders; stands = c.layouts_see_render_nodes.ensures.stands } in
    let found = found_root laws s t0 root is_root holds (c.requires.good c.in_ok-admit.ensures.ready) in
    let stays = c.in_ok-admit.ensures.stays in
    let scale : c.place.new.r.scale ≡ c.args.r.now.scale = c.place.ensures.scale ∙ c.admit.ensures.scale in
    let law = c.rules_are_lawful.ensures s in
    let view = c.args.view in
    let t2 = c.place.new.r.tree in
    let t3 = c.lay_one.new.r.tree in
    let served : Serves (parts_of s) false (Lay (AsBox (tight view))) t2 t3 root c.args.layouts.now c.lay_one.new.steps =
    subst (λ (b : Bounds). Serves (parts_of s) false (Lay (AsBox b)) t2 t3 root c.args.layouts.now c.lay_one.new.steps) c.tight.ensures.value
    (subst (λ (x : Scale). Serves (parts_of (setting_of x m)) false (Lay (AsBox c.tight.result)) t2 t3 root c.args.layouts.now c.lay_one.new.steps) scale c.in_ok-lay_one.ensures.served) in
    let done = laid_root s t0 c.admit.new.r.tree t2 root found stays c.place.ensures.places false (tight view) t3 c.args.layouts.now c.lay_one.new.steps c.root-2.ensures.tree served in
    now_left laws c.layouts_see_render_nodes.ensures.laids s law (c.flushes_show_full_layout.ensures s) view t0 t3 root is_root found c.args.layouts.now c.lay_one.new.steps done

pub returns-clause-others : goal.returns-clause-others
returns-clause-others g c =
    let m = meant_in c.args.table.now (λ v. (g.dyn-1.0.entry v).1) in
    let s = setting_of c.args.r.now.scale m in
    let t0 = c.args.r.now.tree in
    let root = c.in-Some.root in
    let is_root : t0.root ≡ Some root = sym c.in-Some.ensures.value in
    let holds : Holds t0 root = c.in-Some.ensures.holds in
    let laws : SeenLaws = record { renders = c.layouts_see_render_nodes.ensures.renders; stands = c.layouts_see_render_nodes.ensures.stands } in
    let found = found_root laws s t0 root is_root holds (c.requires.good c.in_ok-admit.ensures.ready) in
    let stays = c.in_ok-admit.ensures.stays in
    let scale : c.place.new.r.scale ≡ c.args.r.now.scale = c.place.ensures.scale ∙ c.admit.ensures.scale in
    let law = c.rules_are_lawful.ensures s in
    let view = c.args.view in
    let t2 = c.place.new.r.tree in
    let t3 = c.lay_one.new.r.tree in
    let served : Serves (parts_of s) false (Lay (AsBox (tight view))) t2 t3 root c.args.layouts.now c.lay_one.new.steps =
    subst (λ (b : Bounds). Serves (parts_of s) false (Lay (AsBox b)) t2 t3 root c.args.layouts.now c.lay_one.new.steps) c.tight.ensures.value
    (subst (λ (x : Scale). Serves (parts_of (setting_of x m)) false (Lay (AsBox c.tight.result)) t2 t3 root c.args.layouts.now c.lay_one.new.steps) scale c.in_ok-lay_one.ensures.served) in
    let done = laid_root s t0 c.admit.new.r.tree t2 root found stays c.place.ensures.places false (tight view) t3 c.args.layouts.now c.lay_one.new.steps c.root-2.ensures.tree served in
    elsewhere laws s law view t0 t3 root is_root found false c.args.layouts.now c.lay_one.new.steps done

pub returns-clause-ticks : goal.returns-clause-ticks
returns-clause-ticks g c =
    let m = meant_in c.args.table.now (λ v. (g.dyn-1.0.entry v).1) in
    let s = setting_of c.args.r.now.scale m in
    let t0 = c.args.r.now.tree in
    let root = c.in-Some.root in
    let is_root : t0.root ≡ Some root = sym c.in-Some.ensures.value in
    let holds : Holds t0 root = c.in-Some.ensures.holds in
    let laws : SeenLaws = record { renders = c.layouts_see_render_nodes.ensures.renders; stands = c.layouts_see_render_nodes.ensures.stands } in
    let found = found_root laws s t0 root is_root holds (c.requires.good c.in_ok-admit.ensures.ready) in
    let stays = c.in_ok-admit.ensures.stays in
    let scale : c.place.new.r.scale ≡ c.args.r.now.scale = c.place.ensures.scale ∙ c.admit.ensures.scale in
    let law = c.rules_are_lawful.ensures s in
    let view = c.args.view in
    let t2 = c.place.new.r.tree in
    let t3 = c.lay_one.new.r.tree in
    let served : Serves (parts_of s) false (Lay (AsBox (tight view))) t2 t3 root c.args.layouts.now c.lay_one.new.steps =
    subst (λ (b : Bounds). Serves (parts_of s) false (Lay (AsBox b)) t2 t3 root c.args.layouts.now c.lay_one.new.steps) c.tight.ensures.value
    (subst (λ (x : Scale). Serves (parts_of (setting_of x m)) false (Lay (AsBox c.tight.result)) t2 t3 root c.args.layouts.now c.lay_one.new.steps) scale c.in_ok-lay_one.ensures.served) in
    let done = laid_root s t0 c.admit.new.r.tree t2 root found stays c.place.ensures.places false (tight view) t3 c.args.layouts.now c.lay_one.new.steps c.root-2.ensures.tree served in
    few_ticks laws s law view t0 t3 root is_root found false c.args.layouts.now c.lay_one.new.steps done

pub returns-clause-due : goal.returns-clause-due
returns-clause-due g c =
    let m = meant_in c.args.table.now (λ v. (g.dyn-1.0.entry v).1) in
    let s = setting_of c.args.r.now.scale m in
    let t0 = c.args.r.now.tree in
    let root = c.in-Some.root in
    let is_root : t0.root ≡ Some root = sym c.in-Some.ensures.value in
    let holds : Holds t0 root = c.in-Some.ensures.holds in
    let laws : SeenLaws = record { renders = c.layouts_see_render_nodes.ensures.renders; stands = c.layouts_see_render_nodes.ensures.stands } in
    let found = found_root laws s t0 root is_root holds (c.requires.good c.in_ok-admit.ensures.ready) in
    let stays = c.in_ok-admit.ensures.stays in
    let scale : c.place.new.r.scale ≡ c.args.r.now.scale = c.place.ensures.scale ∙ c.admit.ensures.scale in
    let law = c.rules_are_lawful.ensures s in
    let view = c.args.view in
    let t2 = c.place.new.r.tree in
    let t3 = c.lay_one.new.r.tree in
    let served : Serves (parts_of s) false (Lay (AsBox (tight view))) t2 t3 root c.args.layouts.now c.lay_one.new.steps =
    subst (λ (b : Bounds). Serves (parts_of s) false (Lay (AsBox b)) t2 t3 root c.args.layouts.now c.lay_one.new.steps) c.tight.ensures.value
    (subst (λ (x : Scale). Serves (parts_of (setting_of x m)) false (Lay (AsBox c.tight.result)) t2 t3 root c.args.layouts.now c.lay_one.new.steps) scale c.in_ok-lay_one.ensures.served) in
    let done = laid_root s t0 c.admit.new.r.tree t2 root found stays c.place.ensures.places false (tight view) t3 c.args.layouts.now c.lay_one.new.steps c.root-2.ensures.tree served in
    few_due laws s law view t0 t3 root is_root found false c.args.layouts.now c.lay_one.new.steps done

pub returns-clause-paints : goal.returns-clause-paints
returns-clause-paints g c =
    let t0 = c.args.r.now.tree in
    let t2 = c.place.new.r.tree in
    placed_paints t0 t2 c.lay_one.new.r.tree c.in-Some.root c.in-Some.ensures.tree (sym c.in-Some.ensures.value)
    (placing t0 c.admit.new.r.tree t2 c.in-Some.root c.in_ok-admit.ensures.stays c.place.ensures.places) c.in_ok-lay_one.ensures.paints

pub returns-clause-few : goal.returns-clause-few
returns-clause-few g c =
    let t0 = c.args.r.now.tree in
    let t2 = c.place.new.r.tree in
    placed_few t0 t2 c.lay_one.new.r.tree c.in-Some.root _ _ c.in-Some.ensures.tree (sym c.in-Some.ensures.value)
    (placing t0 c.admit.new.r.tree t2 c.in-Some.root c.in_ok-admit.ensures.stays c.place.ensures.places) c.in_ok-lay_one.ensures.few

pub returns-clause-asked : goal.returns-clause-asked
returns-clause-asked g c =
    let m = meant_in c.args.table.now (λ v. (g.dyn-1.0.entry v).1) in
    let s = setting_of c.args.r.now.scale m in
    let t0 = c.args.r.now.tree in
    let root = c.in-Some.root in
    let is_root : t0.root ≡ Some root = sym c.in-Some.ensures.value in
    let holds : Holds t0 root = c.in-Some.ensures.holds in
    let laws : SeenLaws = record { renders = c.layouts_see_render_nodes.ensures.renders; stands = c.layouts_see_render_nodes.ensures.stands } in
    let found = found_root laws s t0 root is_root holds (c.requires.good c.in_ok-admit.ensures.ready) in
    let stays = c.in_ok-admit.ensures.stays in
    let scale : c.place.new.r.scale ≡ c.args.r.now.scale = c.place.ensures.scale ∙ c.admit.ensures.scale in
    let law = c.rules_are_lawful.ensures s in
    let view = c.args.view in
    let t2 = c.place.new.r.tree in
    let t3 = c.lay_one.new.r.tree in
    let served : Serves (parts_of s) false (Lay (AsBox (tight view))) t2 t3 root c.args.layouts.now c.lay_one.new.steps =
    subst (λ (b : Bounds). Serves (parts_of s) false (Lay (AsBox b)) t2 t3 root c.args.layouts.now c.lay_one.new.steps) c.tight.ensures.value
    (subst (λ (x : Scale). Serves (parts_of (setting_of x m)) false (Lay (AsBox c.tight.result)) t2 t3 root c.args.layouts.now c.lay_one.new.steps) scale c.in_ok-lay_one.ensures.served) in
    let done = laid_root s t0 c.admit.new.r.tree t2 root found stays c.place.ensures.places false (tight view) t3 c.args.layouts.now c.lay_one.new.steps c.root-2.ensures.tree served in
    now_asked laws s law view t0 t3 root is_root found false c.args.layouts.now c.lay_one.new.steps done

pub returns-clause-bounds : goal.returns-clause-bounds
returns-clause-bounds g c =
    let m = meant_in c.args.table.now (λ v. (g.dyn-1.0.entry v).1) in
    let s = setting_of c.args.r.now.scale m in
    let t0 = c.args.r.now.tree in
    let root = c.in-Some.root in
    let is_root : t0.root ≡ Some root = sym c.in-Some.ensures.value in
    let holds : Holds t0 root = c.in-Some.ensures.holds in
    let laws : SeenLaws = record { renders = c.layouts_see_render_nodes.ensures.renders; stands = c.layouts_see_render_nodes.ensures.stands } in
    let found = found_root laws s t0 root is_root holds (c.requires.good c.in_ok-admit.ensures.ready) in
    let stays = c.in_ok-admit.ensures.stays in
    let scale : c.place.new.r.scale ≡ c.args.r.now.scale = c.place.ensures.scale ∙ c.admit.ensures.scale in
    let law = c.rules_are_lawful.ensures s in
    let view = c.args.view in
    let t2 = c.place.new.r.tree in
    let t3 = c.lay_one.new.r.tree in
    let served : Serves (parts_of s) false (Lay (AsBox (tight view))) t2 t3 root c.args.layouts.now c.lay_one.new.steps =
    subst (λ (b : Bounds). Serves (parts_of s) false (Lay (AsBox b)) t2 t3 root c.args.layouts.now c.lay_one.new.steps) c.tight.ensures.value
    (subst (λ (x : Scale). Serves (parts_of (setting_of x m)) false (Lay (AsBox c.tight.result)) t2 t3 root c.args.layouts.now c.lay_one.new.steps) scale c.in_ok-lay_one.ensures.served) in
    let done = laid_root s t0 c.admit.new.r.tree t2 root found stays c.place.ensures.places false (tight view) t3 c.args.layouts.now c.lay_one.new.steps c.root-2.ensures.tree served in
    now_bounds laws s law view t0 t3 root is_root found false c.args.layouts.now c.lay_one.new.steps done
