use Rattle.std.proofs.Common.{◌≡◌, Some, true, is_some, refl, sym, ap, subst, ◌∙◌, inl}
use Rattle.fx_geom.specs.declared.boxes.Bounds.{Bounds}
use Rattle.fx_geom.specs.declared.scales.Scale.{Scale}
use Rattle.fx_geom.specs.Bounds.{tight}
use Rattle.delegates.specs.Table.{meant_in}
use Rattle.node_tree.specs.Forest.Forest.{none, tree}
use Rattle.node_tree.specs.Tree.{Holds}
use Rattle.layout_form.specs.declared.asks.Ask.TheVariants.{AsBox}
use Rattle.layout_form.specs.Object.{setting_of}
use Rattle.render_tree.specs.Plain.{root_tree}
use Rattle.layout_walk.specs.Rules.{parts_of}
use Rattle.layout_rules.specs.declared.duties.Duty.TheVariants.{Lay}
use Rattle.layout_rules.specs.Flags.{FlagsRun}
use Rattle.layout_rules.specs.Plugs.{ArePlugged}
use Rattle.layout_rules.specs.Serving.{IsReadyFor, Serves}
use Rattle.layout_owner.specs.Outer.{AreRanged}
use Rattle.layout_owner.specs.Ranges.{lists_in_window, ranged, OnlyValues}
use Rattle.layout_rules.proofs.Below.{parts_self}
use Rattle.layout_rules.proofs.Plugged.{kind_plug, stood_plug, turned_plugs, plugs_again, keeps_plugs}
use Rattle.layout_owner.proofs.Asking.{now_asked, now_bounds}
use Rattle.layout_owner.proofs.Flushing.{new_is, old_is, now_good, now_placed, now_linked, elsewhere, few_ticks, few_due}
use Rattle.layout_owner.proofs.Outing.{bare, both, both_alone, live_turns, clears_bare, live_keeps, are_ranged, same_lists, laid_then, OuterLaws, now_lists, now_held, now_corrected}
use Rattle.layout_owner.proofs.Ranging.{values_then}
use Rattle.layout_owner.proofs.Rooting.{SeenLaws, placed_seen, placed_plugs, found_root, live_root, live_stays, ready_root, laid_root}
use Rattle.layout_owner.proofs.Sparing.{now_undue, now_root_asked}
use Rattle.layout_owner.proofs.Staying.{placing, placed_paints, placed_few}
use Rattle.layout_owner.proofs.outer.flush_outer.Goals as goal

pub admit-requires : goal.admit-requires
admit-requires g c =
    live_root c.args.r.now.tree c.in-Some.root c.in-Some.ensures.holds

pub place-requires : goal.place-requires
place-requires g c =
    live_stays c.args.r.now.tree c.admit.new.r.tree c.in-Some.root c.in_ok-admit.ensures.stays (live_root c.args.r.now.tree c.in-Some.root c.in-Some.ensures.holds)

pub lay_outer-requires : goal.lay_outer-requires
lay_outer-requires g c =
    let m = meant_in c.args.table.now (λ v. (g.dyn-1.0.entry v).1) in
    let s = setting_of c.args.r.now.scale m in
    let t0 = c.args.r.now.tree in
    let root = c.in-Some.root in
    let is_root : t0.root ≡ Some root = sym c.in-Some.ensures.value in
    let holds : Holds t0 root = c.in-Some.ensures.holds in
    let laws : SeenLaws = record { renders = c.layouts_see_render_nodes.ensures.renders; stands = c.layouts_see_render_nodes.ensures.stands } in
    let found = found_root laws s t0 root is_root holds (c.requires.good c.in_ok-admit.ensures.ready) in
    let stays = c.in_ok-admit.ensures.stays in
    let scale : c.place.new.r.scale ≡ c.args.r.now.scale = c.place.ensures.scale ∙ c.admit.ensures.scale in
    subst (λ (x : Scale). IsReadyFor (parts_of (setting_of x m)) c.place.new.r.tree root (Lay (AsBox c.tight.result))) (sym scale)
    (ready_root s t0 c.admit.new.r.tree c.place.new.r.tree root found stays c.place.ensures.places c.tight.result)

pub store_ranges-requires : goal.store_ranges-requires
store_ranges-requires g c =
    ap (λ o. is_some o) (c.clear_live.ensures.clears.root ∙ c.in_ok-lay_outer.ensures.served.turns.root
    ∙ (placing c.args.r.now.tree c.admit.new.r.tree c.place.new.r.tree c.in-Some.root c.in_ok-admit.ensures.stays c.place.ensures.places).keeps.root) ∙ c.requires.root

pub returns-clause-lists : goal.returns-clause-lists
returns-clause-lists g c =
    let m = meant_in c.args.table.now (λ v. (g.dyn-1.0.entry v).1) in
    let s = setting_of c.args.r.now.scale m in
    let t0 = c.args.r.now.tree in
    let root = c.in-Some.root in
    let is_root : t0.root ≡ Some root = sym c.in-Some.ensures.value in
    let holds : Holds t0 root = c.in-Some.ensures.holds in
    let laws : SeenLaws = record { renders = c.layouts_see_render_nodes.ensures.renders; stands = c.layouts_see_render_nodes.ensures.stands } in
    let found = found_root laws s t0 root is_root holds (c.requires.good c.in_ok-admit.ensures.ready) in
    let stays = c.in_ok-admit.ensures.stays in
    let scale : c.place.new.r.scale ≡ c.args.r.now.scale = c.place.ensures.scale ∙ c.admit.ensures.scale in
    let law = c.rules_are_lawful.ensures s in
    let view = c.args.view in
    let t2 = c.place.new.r.tree in
    let t3 = c.lay_outer.new.r.tree in
    let t4 = c.clear_live.new.self.tree in
    let t5 = c.store_ranges.new.r.tree in
    let before = c.args.layouts.now in
    let after = c.lay_outer.new.steps in
    let widen = c.clear_live.new.self.scale.widen in
    let hs = lists_in_window (root_tree t4) in
    let served : Serves (parts_of s) true (Lay (AsBox (tight view))) t2 t3 root before after =
    subst (λ (b : Bounds). Serves (parts_of s) true (Lay (AsBox b)) t2 t3 root before after) c.tight.ensures.value
    (subst (λ (x : Scale). Serves (parts_of (setting_of x m)) true (Lay (AsBox c.tight.result)) t2 t3 root before after) scale c.in_ok-lay_outer.ensures.served) in
    let laid = laid_root s t0 c.admit.new.r.tree t2 root found stays c.place.ensures.places true (tight view) t3 before after c.root-2.ensures.tree served in
    let cleared : OnlyValues bare t3 t4 = clears_bare t3 t4 c.clear_live.ensures.clears in
    let stored : OnlyValues (both widen hs) t3 t5 = values_then (ranged widen hs) bare t3 t4 t5 cleared c.in_ok-store_ranges.ensures.only in
    let bare_done = laid_then s t0 root found true (tight view) t3 t4 before after laid
    (live_turns bare t3 t4 root (tree root laid.value laid.kids none) laid.turns.stands (λ k o. refl) cleared) c.root-3.ensures.tree in
    let done = laid_then s t0 root found true (tight view) t3 t5 before after laid
    (live_turns (both widen hs) t3 t5 root (tree root laid.value laid.kids none) laid.turns.stands (both_alone widen hs) stored) c.root-4.ensures.tree in
    let outers : OuterLaws s = record { lists = c.outer_flushes_lay_out_lists.ensures (parts_of s) law; full = c.full_layout_is_of_render_nodes.ensures s } in
    now_lists laws c.layouts_see_render_nodes.ensures.laids s law outers view t0 t5 root is_root found before after done

pub returns-clause-ranges : goal.returns-clause-ranges
returns-clause-ranges g c =
    let m = meant_in c.args.table.now (λ v. (g.dyn-1.0.entry v).1) in
    let s = setting_of c.args.r.now.scale m in
    let t0 = c.args.r.now.tree in
    let root = c.in-Some.root in
    let is_root : t0.root ≡ Some root = sym c.in-Some.ensures.value in
    let holds : Holds t0 root = c.in-Some.ensures.holds in
    let laws : SeenLaws = record { renders = c.layouts_see_render_nodes.ensures.renders; stands = c.layouts_see_render_nodes.ensures.stands } in
    let found = found_root laws s t0 root is_root holds (c.requires.good c.in_ok-admit.ensures.ready) in
    let stays = c.in_ok-admit.ensures.stays in
    let scale : c.place.new.r.scale ≡ c.args.r.now.scale = c.place.ensures.scale ∙ c.admit.ensures.scale in
    let law = c.rules_are_lawful.ensures s in
    let view = c.args.view in
    let t2 = c.place.new.r.tree in
    let t3 = c.lay_outer.new.r.tree in
    let t4 = c.clear_live.new.self.tree in
    let t5 = c.store_ranges.new.r.tree in
    let before = c.args.layouts.now in
    let after = c.lay_outer.new.steps in
    let widen = c.clear_live.new.self.scale.widen in
    let hs = lists_in_window (root_tree t4) in
    let served : Serves (parts_of s) true (Lay (AsBox (tight view))) t2 t3 root before after =
    subst (λ (b : Bounds). Serves (parts_of s) true (Lay (AsBox b)) t2 t3 root before after) c.tight.ensures.value
    (subst (λ (x : Scale). Serves (parts_of (setting_of x m)) true (Lay (AsBox c.tight.result)) t2 t3 root before after) scale c.in_ok-lay_outer.ensures.served) in
    let laid = laid_root s t0 c.admit.new.r.tree t2 root found stays c.place.ensures.places true (tight view) t3 before after c.root-2.ensures.tree served in
    let cleared : OnlyValues bare t3 t4 = clears_bare t3 t4 c.clear_live.ensures.clears in
    let stored : OnlyValues (both widen hs) t3 t5 = values_then (ranged widen hs) bare t3 t4 t5 cleared c.in_ok-store_ranges.ensures.only in
    let bare_done = laid_then s t0 root found true (tight view) t3 t4 before after laid
    (live_turns bare t3 t4 root (tree root laid.value laid.kids none) laid.turns.stands (λ k o. refl) cleared) c.root-3.ensures.tree in
    let done = laid_then s t0 root found true (tight view) t3 t5 before after laid
    (live_turns (both widen hs) t3 t5 root (tree root laid.value laid.kids none) laid.turns.stands (both_alone widen hs) stored) c.root-4.ensures.tree in
    let lists = same_lists (root_tree t4) (root_tree t5)
    (new_is laws s law view t0 t4 root is_root found true before after bare_done ∙ sym (new_is laws s law view t0 t5 root is_root found true before after done)) in
    subst (λ (x : Scale). AreRanged x.widen t5) (c.clear_live.ensures.scale ∙ c.lay_outer.ensures.scale ∙ scale) (are_ranged widen hs t3 t5 stored lists)

pub returns-clause-placed : goal.returns-clause-placed
returns-clause-placed g c =
    let m = meant_in c.args.table.now (λ v. (g.dyn-1.0.entry v).1) in
    let s = setting_of c.args.r.now.scale m in
    let t0 = c.args.r.now.tree in
    let root = c.in-Some.root in
    let is_root : t0.root ≡ Some root = sym c.in-Some.ensures.value in
    let holds : Holds t0 root = c.in-Some.ensures.holds in
    let laws : SeenLaws = record { renders = c.layouts_see_render_nodes.ensures.renders; stands = c.layouts_see_render_nodes.ensures.stands } in
    let found = found_root laws s t0 root is_root holds (c.requires.good c.in_ok-admit.ensures.ready) in
    let stays = c.in_ok-admit.ensures.stays in
    let scale : c.place.new.r.scale ≡ c.args.r.now.scale = c.place.ensures.scale ∙ c.admit.ensures.scale in
    let law = c.rules_are_lawful.ensures s in
    let view = c.args.view in
    let t2 = c.place.new.r.tree in
    let t3 = c.lay_outer.new.r.tree in
    let t4 = c.clear_live.new.self.tree in
    let t5 = c.store_ranges.new.r.tree in
    let before = c.args.layouts.now in
    let after = c.lay_outer.new.steps in
    let widen = c.clear_live.new.self.scale.widen in
    let hs = lists_in_window (root_tree t4) in
    let served : Serves (parts_of s) true (Lay (AsBox (tight view))) t2 t3 root before after =
    subst (λ (b : Bounds). Serves (parts_of s) true (Lay (AsBox b)) t2 t3 root before after) c.tight.ensures.value
    (subst (λ (x : Scale). Serves (parts_of (setting_of x m)) true (Lay (AsBox c.tight.result)) t2 t3 root before after) scale c.in_ok-lay_outer.ensures.served) in
    let laid = laid_root s t0 c.admit.new.r.tree t2 root found stays c.place.ensures.places true (tight view) t3 before after c.root-2.ensures.tree served in
    let cleared : OnlyValues bare t3 t4 = clears_bare t3 t4 c.clear_live.ensures.clears in
    let stored : OnlyValues (both widen hs) t3 t5 = values_then (ranged widen hs) bare t3 t4 t5 cleared c.in_ok-store_ranges.ensures.only in
    let bare_done = laid_then s t0 root found true (tight view) t3 t4 before after laid
    (live_turns bare t3 t4 root (tree root laid.value laid.kids none) laid.turns.stands (λ k o. refl) cleared) c.root-3.ensures.tree in
    let done = laid_then s t0 root found true (tight view) t3 t5 before after laid
    (live_turns (both widen hs) t3 t5 root (tree root laid.value laid.kids none) laid.turns.stands (both_alone widen hs) stored) c.root-4.ensures.tree in
    now_placed laws s law view t0 t5 root is_root found true before after done

pub returns-clause-good : goal.returns-clause-good
returns-clause-good g c =
    let m = meant_in c.args.table.now (λ v. (g.dyn-1.0.entry v).1) in
    let s = setting_of c.args.r.now.scale m in
    let t0 = c.args.r.now.tree in
    let root = c.in-Some.root in
    let is_root : t0.root ≡ Some root = sym c.in-Some.ensures.value in
    let holds : Holds t0 root = c.in-Some.ensures.holds in
    let laws : SeenLaws = record { renders = c.layouts_see_render_nodes.ensures.renders; stands = c.layouts_see_render_nodes.ensures.stands } in
    let found = found_root laws s t0 root is_root holds (c.requires.good c.in_ok-admit.ensures.ready) in
    let stays = c.in_ok-admit.ensures.stays in
    let scale : c.place.new.r.scale ≡ c.args.r.now.scale = c.place.ensures.scale ∙ c.admit.ensures.scale in
    let law = c.rules_are_lawful.ensures s in
    let view = c.args.view in
    let t2 = c.place.new.r.tree in
    let t3 = c.lay_outer.new.r.tree in
    let t4 = c.clear_live.new.self.tree in
    let t5 = c.store_ranges.new.r.tree in
    let before = c.args.layouts.now in
    let after = c.lay_outer.new.steps in
    let widen = c.clear_live.new.self.scale.widen in
    let hs = lists_in_window (root_tree t4) in
    let served : Serves (parts_of s) true (Lay (AsBox (tight view))) t2 t3 root before after =
    subst (λ (b : Bounds). Serves (parts_of s) true (Lay (AsBox b)) t2 t3 root before after) c.tight.ensures.value
    (subst (λ (x : Scale). Serves (parts_of (setting_of x m)) true (Lay (AsBox c.tight.result)) t2 t3 root before after) scale c.in_ok-lay_outer.ensures.served) in
    let laid = laid_root s t0 c.admit.new.r.tree t2 root found stays c.place.ensures.places true (tight view) t3 before after c.root-2.ensures.tree served in
    let cleared : OnlyValues bare t3 t4 = clears_bare t3 t4 c.clear_live.ensures.clears in
    let stored : OnlyValues (both widen hs) t3 t5 = values_then (ranged widen hs) bare t3 t4 t5 cleared c.in_ok-store_ranges.ensures.only in
    let bare_done = laid_then s t0 root found true (tight view) t3 t4 before after laid
    (live_turns bare t3 t4 root (tree root laid.value laid.kids none) laid.turns.stands (λ k o. refl) cleared) c.root-3.ensures.tree in
    let done = laid_then s t0 root found true (tight view) t3 t5 before after laid
    (live_turns (both widen hs) t3 t5 root (tree root laid.value laid.kids none) laid.turns.stands (both_alone widen hs) stored) c.root-4.ensures.tree in
    now_good laws s law view t0 t5 root is_root found true before after done

pub returns-clause-linked : goal.returns-clause-linked
returns-clause-linked g c =
    let m = meant_in c.args.table.now (λ v. (g.dyn-1.0.entry v).1) in
    let s = setting_of c.args.r.now.scale m in
    let t0 = c.args.r.now.tree in
    let root = c.in-Some.root in
    let is_root : t0.root ≡ Some root = sym c.in-Some.ensures.value in
    let holds : Holds t0 root = c.in-Some.ensures.holds in
    let laws : SeenLaws = record { renders = c.layouts_see_render_nodes.ensures.renders; stands = c.layouts_see_render_nodes.ensures.stands } in
    let found = found_root laws s t0 root is_root holds (c.requires.good c.in_ok-admit.ensures.ready) in
    let stays = c.in_ok-admit.ensures.stays in
    let scale : c.place.new.r.scale ≡ c.args.r.now.scale = c.place.ensures.scale ∙ c.admit.ensures.scale in
    let law = c.rules_are_lawful.ensures s in
    let view = c.args.view in
    let t2 = c.place.new.r.tree in
    let t3 = c.lay_outer.new.r.tree in
    let t4 = c.clear_live.new.self.tree in
    let t5 = c.store_ranges.new.r.tree in
    let before = c.args.layouts.now in
    let after = c.lay_outer.new.steps in
    let widen = c.clear_live.new.self.scale.widen in
    let hs = lists_in_window (root_tree t4) in
    let served : Serves (parts_of s) true (Lay (AsBox (tight view))) t2 t3 root before after =
    subst (λ (b : Bounds). Serves (parts_of s) true (Lay (AsBox b)) t2 t3 root before after) c.tight.ensures.value
    (subst (λ (x : Scale). Serves (parts_of (setting_of x m)) true (Lay (AsBox c.tight.result)) t2 t3 root before after) scale c.in_ok-lay_outer.ensures.served) in
    let laid = laid_root s t0 c.admit.new.r.tree t2 root found stays c.place.ensures.places true (tight view) t3 before after c.root-2.ensures.tree served in
    let cleared : OnlyValues bare t3 t4 = clears_bare t3 t4 c.clear_live.ensures.clears in
    let stored : OnlyValues (both widen hs) t3 t5 = values_then (ranged widen hs) bare t3 t4 t5 cleared c.in_ok-store_ranges.ensures.only in
    let bare_done = laid_then s t0 root found true (tight view) t3 t4 before after laid
    (live_turns bare t3 t4 root (tree root laid.value laid.kids none) laid.turns.stands (λ k o. refl) cleared) c.root-3.ensures.tree in
    let done = laid_then s t0 root found true (tight view) t3 t5 before after laid
    (live_turns (both widen hs) t3 t5 root (tree root laid.value laid.kids none) laid.turns.stands (both_alone widen hs) stored) c.root-4.ensures.tree in
    now_linked laws s law view t0 t5 root is_root found true before after done

pub returns-clause-held : goal.returns-clause-held
returns-clause-held g c =
    let m = meant_in c.args.table.now (λ v. (g.dyn-1.0.entry v).1) in
    let s = setting_of c.args.r.now.scale m in
    let t0 = c.args.r.now.tree in
    let root = c.in-Some.root in
    let is_root : t0.root ≡ Some root = sym c.in-Some.ensures.value in
    let holds : Holds t0 root = c.in-Some.ensures.holds in
    let laws : SeenLaws = record { renders = c.layouts_see_render_nodes.ensures.renders; stands = c.layouts_see_render_nodes.ensures.stands } in
    let found = found_root laws s t0 root is_root holds (c.requires.good c.in_ok-admit.ensures.ready) in
    let stays = c.in_ok-admit.ensures.stays in
    let scale : c.place.new.r.scale ≡ c.args.r.now.scale = c.place.ensures.scale ∙ c.admit.ensures.scale in
    let law = c.rules_are_lawful.ensures s in
    let view = c.args.view in
    let t2 = c.place.new.r.tree in
    let t3 = c.lay_outer.new.r.tree in
    let t4 = c.clear_live.new.self.tree in
    let t5 = c.store_ranges.new.r.tree in
    let before = c.args.layouts.now in
    let after = c.lay_outer.new.steps in
    let widen = c.clear_live.new.self.scale.widen in
    let hs = lists_in_window (root_tree t4) in
    let served : Serves (parts_of s) true (Lay (AsBox (tight view))) t2 t3 root before after =
    subst (λ (b : Bounds). Serves (parts_of s) true (Lay (AsBox b)) t2 t3 root before after) c.tight.ensures.value
    (subst (λ (x : Scale). Serves (parts_of (setting_of x m)) true (Lay (AsBox c.tight.result)) t2 t3 root before after) scale c.in_ok-lay_outer.ensures.served) in
    let laid = laid_root s t0 c.admit.new.r.tree t2 root found stays c.place.ensures.places true (tight view) t3 before after c.root-2.ensures.tree served in
    let cleared : OnlyValues bare t3 t4 = clears_bare t3 t4 c.clear_live.ensures.clears in
    let stored : OnlyValues (both widen hs) t3 t5 = values_then (ranged widen hs) bare t3 t4 t5 cleared c.in_ok-store_ranges.ensures.only in
    let bare_done = laid_then s t0 root found true (tight view) t3 t4 before after laid
    (live_turns bare t3 t4 root (tree root laid.value laid.kids none) laid.turns.stands (λ k o. refl) cleared) c.root-3.ensures.tree in
    let done = laid_then s t0 root found true (tight view) t3 t5 before after laid
    (live_turns (both widen hs) t3 t5 root (tree root laid.value laid.kids none) laid.turns.stands (both_alone widen hs) stored) c.root-4.ensures.tree in
    let outers : OuterLaws s = record { lists = c.outer_flushes_lay_out_lists.ensures (parts_of s) law; full = c.full_layout_is_of_render_nodes.ensures s } in
    now_held laws c.layouts_see_render_nodes.ensures.laids s law outers view t0 t5 root is_root found before after done

pub returns-clause-corrected : goal.returns-clause-corrected
returns-clause-corrected g c =
    let m = meant_in c.args.table.now (λ v. (g.dyn-1.0.entry v).1) in
    let s = setting_of c.args.r.now.scale m in
    let t0 = c.args.r.now.tree in
    let root = c.in-Some.root in
    let is_root : t0.root ≡ Some root = sym c.in-Some.ensures.value in
    let holds : Holds t0 root = c.in-Some.ensures.holds in
    let laws : SeenLaws = record { renders = c.layouts_see_render_nodes.ensures.renders; stands = c.layouts_see_render_nodes.ensures.stands } in
    let found = found_root laws s t0 root is_root holds (c.requires.good c.in_ok-admit.ensures.ready) in
    let stays = c.in_ok-admit.ensures.stays in
    let scale : c.place.new.r.scale ≡ c.args.r.now.scale = c.place.ensures.scale ∙ c.admit.ensures.scale in
    let law = c.rules_are_lawful.ensures s in
    let view = c.args.view in
    let t2 = c.place.new.r.tree in
    let t3 = c.lay_outer.new.r.tree in
    let t4 = c.clear_live.new.self.tree in
    let t5 = c.store_ranges.new.r.tree in
    let before = c.args.layouts.now in
    let after = c.lay_outer.new.steps in
    let widen = c.clear_live.new.self.scale.widen in
    let hs = lists_in_window (root_tree t4) in
    let served : Serves (parts_of s) true (Lay (AsBox (tight view))) t2 t3 root before after =
    subst (λ (b : Bounds). Serves (parts_of s) true (Lay (AsBox b)) t2 t3 root before after) c.tight.ensures.value
    (subst (λ (x : Scale). Serves (parts_of (setting_of x m)) true (Lay (AsBox c.tight.result)) t2 t3 root before after) scale c.in_ok-lay_outer.ensures.served) in
    let laid = laid_root s t0 c.admit.new.r.tree t2 root found stays c.place.ensures.places true (tight view) t3 before after c.root-2.ensures.tree served in
    let cleared : OnlyValues bare t3 t4 = clears_bare t3 t4 c.clear_live.ensures.clears in
    let stored : OnlyValues (both widen hs) t3 t5 = values_then (ranged widen hs) bare t3 t4 t5 cleared c.in_ok-store_ranges.ensures.only in
    let bare_done = laid_then s t0 root found true (tight view) t3 t4 before after laid
    (live_turns bare t3 t4 root (tree root laid.value laid.kids none) laid.turns.stands (λ k o. refl) cleared) c.root-3.ensures.tree in
    let done = laid_then s t0 root found true (tight view) t3 t5 before after laid
    (live_turns (both widen hs) t3 t5 root (tree root laid.value laid.kids none) laid.turns.stands (both_alone widen hs) stored) c.root-4.ensures.tree in
    let outers : OuterLaws s = record { lists = c.outer_flushes_lay_out_lists.ensures (parts_of s) law; full = c.full_layout_is_of_render_nodes.ensures s } in
    now_corrected laws c.layouts_see_render_nodes.ensures.laids s law outers view t0 t5 root is_root found before after done

pub returns-clause-others : goal.returns-clause-others
returns-clause-others g c =
    let m = meant_in c.args.table.now (λ v. (g.dyn-1.0.entry v).1) in
    let s = setting_of c.args.r.now.scale m in
    let t0 = c.args.r.now.tree in
    let root = c.in-Some.root in
    let is_root : t0.root ≡ Some root = sym c.in-Some.ensures.value in
    let holds : Holds t0 root = c.in-Some.ensures.holds in
    let laws : SeenLaws = record { renders = c.layouts_see_render_nodes.ensures.renders; stands = c.layouts_see_render_nodes.ensures.stands } in
    let found = found_root laws s t0 root is_root holds (c.requires.good c.in_ok-admit.ensures.ready) in
    let stays = c.in_ok-admit.ensures.stays in
    let scale : c.place.new.r.scale ≡ c.args.r.now.scale = c.place.ensures.scale ∙ c.admit.ensures.scale in
    let law = c.rules_are_lawful.ensures s in
    let view = c.args.view in
    let t2 = c.place.new.r.tree in
    let t3 = c.lay_outer.new.r.tree in
    let t4 = c.clear_live.new.self.tree in
    let t5 = c.store_ranges.new.r.tree in
    let before = c.args.layouts.now in
    let after = c.lay_outer.new.steps in
    let widen = c.clear_live.new.self.scale.widen in
    let hs = lists_in_window (root_tree t4) in
    let served : Serves (parts_of s) true (Lay (AsBox (tight view))) t2 t3 root before after =
    subst (λ (b : Bounds). Serves (parts_of s) true (Lay (AsBox b)) t2 t3 root before after) c.tight.ensures.value
    (subst (λ (x : Scale). Serves (parts_of (setting_of x m)) true (Lay (AsBox c.tight.result)) t2 t3 root before after) scale c.in_ok-lay_outer.ensures.served) in
    let laid = laid_root s t0 c.admit.new.r.tree t2 root found stays c.place.ensures.places true (tight view) t3 before after c.root-2.ensures.tree served in
    let cleared : OnlyValues bare t3 t4 = clears_bare t3 t4 c.clear_live.ensures.clears in
    let stored : OnlyValues (both widen hs) t3 t5 = values_then (ranged widen hs) bare t3 t4 t5 cleared c.in_ok-store_ranges.ensures.only in
    let bare_done = laid_then s t0 root found true (tight view) t3 t4 before after laid
    (live_turns bare t3 t4 root (tree root laid.value laid.kids none) laid.turns.stands (λ k o. refl) cleared) c.root-3.ensures.tree in
    let done = laid_then s t0 root found true (tight view) t3 t5 before after laid
    (live_turns (both widen hs) t3 t5 root (tree root laid.value laid.kids none) laid.turns.stands (both_alone widen hs) stored) c.root-4.ensures.tree in
    elsewhere laws s law view t0 t5 root is_root found true before after done

pub returns-clause-ticks : goal.returns-clause-ticks
returns-clause-ticks g c =
    let m = meant_in c.args.table.now (λ v. (g.dyn-1.0.entry v).1) in
    let s = setting_of c.args.r.now.scale m in
    let t0 = c.args.r.now.tree in
    let root = c.in-Some.root in
    let is_root : t0.root ≡ Some root = sym c.in-Some.ensures.value in
    let holds : Holds t0 root = c.in-Some.ensures.holds in
    let laws : SeenLaws = record { renders = c.layouts_see_render_nodes.ensures.renders; stands = c.layouts_see_render_nodes.ensures.stands } in
    let found = found_root laws s t0 root is_root holds (c.requires.good c.in_ok-admit.ensures.ready) in
    let stays = c.in_ok-admit.ensures.stays in
    let scale : c.place.new.r.scale ≡ c.args.r.now.scale = c.place.ensures.scale ∙ c.admit.ensures.scale in
    let law = c.rules_are_lawful.ensures s in
    let view = c.args.view in
    let t2 = c.place.new.r.tree in
    let t3 = c.lay_outer.new.r.tree in
    let t4 = c.clear_live.new.self.tree in
    let t5 = c.store_ranges.new.r.tree in
    let before = c.args.layouts.now in
    let after = c.lay_outer.new.steps in
    let widen = c.clear_live.new.self.scale.widen in
    let hs = lists_in_window (root_tree t4) in
    let served : Serves (parts_of s) true (Lay (AsBox (tight view))) t2 t3 root before after =
    subst (λ (b : Bounds). Serves (parts_of s) true (Lay (AsBox b)) t2 t3 root before after) c.tight.ensures.value
    (subst (λ (x : Scale). Serves (parts_of (setting_of x m)) true (Lay (AsBox c.tight.result)) t2 t3 root before after) scale c.in_ok-lay_outer.ensures.served) in
    let laid = laid_root s t0 c.admit.new.r.tree t2 root found stays c.place.ensures.places true (tight view) t3 before after c.root-2.ensures.tree served in
    let cleared : OnlyValues bare t3 t4 = clears_bare t3 t4 c.clear_live.ensures.clears in
    let stored : OnlyValues (both widen hs) t3 t5 = values_then (ranged widen hs) bare t3 t4 t5 cleared c.in_ok-store_ranges.ensures.only in
    let bare_done = laid_then s t0 root found true (tight view) t3 t4 before after laid
    (live_turns bare t3 t4 root (tree root laid.value laid.kids none) laid.turns.stands (λ k o. refl) cleared) c.root-3.ensures.tree in
    let done = laid_then s t0 root found true (tight view) t3 t5 before after laid
    (live_turns (both widen hs) t3 t5 root (tree root laid.value laid.kids none) laid.turns.stands (both_alone widen hs) stored) c.root-4.ensures.tree in
    few_ticks laws s law view t0 t5 root is_root found true before after done

pub returns-clause-due : goal.returns-clause-due
returns-clause-due g c =
    let m = meant_in c.args.table.now (λ v. (g.dyn-1.0.entry v).1) in
    let s = setting_of c.args.r.now.scale m in
    let t0 = c.args.r.now.tree in
    let root = c.in-Some.root in
    let is_root : t0.root ≡ Some root = sym c.in-Some.ensures.value in
    let holds : Holds t0 root = c.in-Some.ensures.holds in
    let laws : SeenLaws = record { renders = c.layouts_see_render_nodes.ensures.renders; stands = c.layouts_see_render_nodes.ensures.stands } in
    let found = found_root laws s t0 root is_root holds (c.requires.good c.in_ok-admit.ensures.ready) in
    let stays = c.in_ok-admit.ensures.stays in
    let scale : c.place.new.r.scale ≡ c.args.r.now.scale = c.place.ensures.scale ∙ c.admit.ensures.scale in
    let law = c.rules_are_lawful.ensures s in
    let view = c.args.view in
    let t2 = c.place.new.r.tree in
    let t3 = c.lay_outer.new.r.tree in
    let t4 = c.clear_live.new.self.tree in
    let t5 = c.store_ranges.new.r.tree in
    let before = c.args.layouts.now in
    let after = c.lay_outer.new.steps in
    let widen = c.clear_live.new.self.scale.widen in
    let hs = lists_in_window (root_tree t4) in
    let served : Serves (parts_of s) true (Lay (AsBox (tight view))) t2 t3 root before after =
    subst (λ (b : Bounds). Serves (parts_of s) true (Lay (AsBox b)) t2 t3 root before after) c.tight.ensures.value
    (subst (λ (x : Scale). Serves (parts_of (setting_of x m)) true (Lay (AsBox c.tight.result)) t2 t3 root before after) scale c.in_ok-lay_outer.ensures.served) in
    let laid = laid_root s t0 c.admit.new.r.tree t2 root found stays c.place.ensures.places true (tight view) t3 before after c.root-2.ensures.tree served in
    let cleared : OnlyValues bare t3 t4 = clears_bare t3 t4 c.clear_live.ensures.clears in
    let stored : OnlyValues (both widen hs) t3 t5 = values_then (ranged widen hs) bare t3 t4 t5 cleared c.in_ok-store_ranges.ensures.only in
    let bare_done = laid_then s t0 root found true (tight view) t3 t4 before after laid
    (live_turns bare t3 t4 root (tree root laid.value laid.kids none) laid.turns.stands (λ k o. refl) cleared) c.root-3.ensures.tree in
    let done = laid_then s t0 root found true (tight view) t3 t5 before after laid
    (live_turns (both widen hs) t3 t5 root (tree root laid.value laid.kids none) laid.turns.stands (both_alone widen hs) stored) c.root-4.ensures.tree in
    few_due laws s law view t0 t5 root is_root found true before after done

pub returns-clause-paints : goal.returns-clause-paints
returns-clause-paints g c =
    let t0 = c.args.r.now.tree in
    let t2 = c.place.new.r.tree in
    let t3 = c.lay_outer.new.r.tree in
    let t4 = c.clear_live.new.self.tree in
    let t5 = c.store_ranges.new.r.tree in
    let widen = c.clear_live.new.self.scale.widen in
    let hs = lists_in_window (root_tree t4) in record {
      laid = t3;
      paints = placed_paints t0 t2 t3 c.in-Some.root c.in-Some.ensures.tree (sym c.in-Some.ensures.value)
          (placing t0 c.admit.new.r.tree t2 c.in-Some.root c.in_ok-admit.ensures.stays c.place.ensures.places) c.in_ok-lay_outer.ensures.paints;
      ranges = live_keeps (both widen hs) t3 t5 (both_alone widen hs)
          (values_then (ranged widen hs) bare t3 t4 t5 (clears_bare t3 t4 c.clear_live.ensures.clears) c.in_ok-store_ranges.ensures.only);
    }

pub returns-clause-few : goal.returns-clause-few
returns-clause-few g c =
    let t0 = c.args.r.now.tree in
    let t2 = c.place.new.r.tree in
    let t3 = c.lay_outer.new.r.tree in
    let t4 = c.clear_live.new.self.tree in
    let t5 = c.store_ranges.new.r.tree in
    let widen = c.clear_live.new.self.scale.widen in
    let hs = lists_in_window (root_tree t4) in record {
      laid = t3;
      paints = placed_few t0 t2 t3 c.in-Some.root _ _ c.in-Some.ensures.tree (sym c.in-Some.ensures.value)
          (placing t0 c.admit.new.r.tree t2 c.in-Some.root c.in_ok-admit.ensures.stays c.place.ensures.places) c.in_ok-lay_outer.ensures.few;
      ranges = live_keeps (both widen hs) t3 t5 (both_alone widen hs)
          (values_then (ranged widen hs) bare t3 t4 t5 (clears_bare t3 t4 c.clear_live.ensures.clears) c.in_ok-store_ranges.ensures.only);
    }

pub returns-clause-asked : goal.returns-clause-asked
returns-clause-asked g c =
    let m = meant_in c.args.table.now (λ v. (g.dyn-1.0.entry v).1) in
    let s = setting_of c.args.r.now.scale m in
    let t0 = c.args.r.now.tree in
    let root = c.in-Some.root in
    let is_root : t0.root ≡ Some root = sym c.in-Some.ensures.value in
    let holds : Holds t0 root = c.in-Some.ensures.holds in
    let laws : SeenLaws = record { renders = c.layouts_see_render_nodes.ensures.renders; stands = c.layouts_see_render_nodes.ensures.stands } in
    let found = found_root laws s t0 root is_root holds (c.requires.good c.in_ok-admit.ensures.ready) in
    let stays = c.in_ok-admit.ensures.stays in
    let scale : c.place.new.r.scale ≡ c.args.r.now.scale = c.place.ensures.scale ∙ c.admit.ensures.scale in
    let law = c.rules_are_lawful.ensures s in
    let view = c.args.view in
    let t2 = c.place.new.r.tree in
    let t3 = c.lay_outer.new.r.tree in
    let t4 = c.clear_live.new.self.tree in
    let t5 = c.store_ranges.new.r.tree in
    let before = c.args.layouts.now in
    let after = c.lay_outer.new.steps in
    let widen = c.clear_live.new.self.scale.widen in
    let hs = lists_in_window (root_tree t4) in
    let served : Serves (parts_of s) true (Lay (AsBox (tight view))) t2 t3 root before after =
    subst (λ (b : Bounds). Serves (parts_of s) true (Lay (AsBox b)) t2 t3 root before after) c.tight.ensures.value
    (subst (λ (x : Scale). Serves (parts_of (setting_of x m)) true (Lay (AsBox c.tight.result)) t2 t3 root before after) scale c.in_ok-lay_outer.ensures.served) in
    let laid = laid_root s t0 c.admit.new.r.tree t2 root found stays c.place.ensures.places true (tight view) t3 before after c.root-2.ensures.tree served in
    let cleared : OnlyValues bare t3 t4 = clears_bare t3 t4 c.clear_live.ensures.clears in
    let stored : OnlyValues (both widen hs) t3 t5 = values_then (ranged widen hs) bare t3 t4 t5 cleared c.in_ok-store_ranges.ensures.only in
    let bare_done = laid_then s t0 root found true (tight view) t3 t4 before after laid
    (live_turns bare t3 t4 root (tree root laid.value laid.kids none) laid.turns.stands (λ k o. refl) cleared) c.root-3.ensures.tree in
    let done = laid_then s t0 root found true (tight view) t3 t5 before after laid
    (live_turns (both widen hs) t3 t5 root (tree root laid.value laid.kids none) laid.turns.stands (both_alone widen hs) stored) c.root-4.ensures.tree in
    now_asked laws s law view t0 t5 root is_root found true before after done

pub returns-clause-bounds : goal.returns-clause-bounds
returns-clause-bounds g c =
    let m = meant_in c.args.table.now (λ v. (g.dyn-1.0.entry v).1) in
    let s = setting_of c.args.r.now.scale m in
    let t0 = c.args.r.now.tree in
    let root = c.in-Some.root in
    let is_root : t0.root ≡ Some root = sym c.in-Some.ensures.value in
    let holds : Holds t0 root = c.in-Some.ensures.holds in
    let laws : SeenLaws = record { renders = c.layouts_see_render_nodes.ensures.renders; stands = c.layouts_see_render_nodes.ensures.stands } in
    let found = found_root laws s t0 root is_root holds (c.requires.good c.in_ok-admit.ensures.ready) in
    let stays = c.in_ok-admit.ensures.stays in
    let scale : c.place.new.r.scale ≡ c.args.r.now.scale = c.place.ensures.scale ∙ c.admit.ensures.scale in
    let law = c.rules_are_lawful.ensures s in
    let view = c.args.view in
    let t2 = c.place.new.r.tree in
    let t3 = c.lay_outer.new.r.tree in
    let t4 = c.clear_live.new.self.tree in
    let t5 = c.store_ranges.new.r.tree in
    let before = c.args.layouts.now in
    let after = c.lay_outer.new.steps in
    let widen = c.clear_live.new.self.scale.widen in
    let hs = lists_in_window (root_tree t4) in
    let served : Serves (parts_of s) true (Lay (AsBox (tight view))) t2 t3 root before after =
    subst (λ (b : Bounds). Serves (parts_of s) true (Lay (AsBox b)) t2 t3 root before after) c.tight.ensures.value
    (subst (λ (x : Scale). Serves (parts_of (setting_of x m)) true (Lay (AsBox c.tight.result)) t2 t3 root before after) scale c.in_ok-lay_outer.ensures.served) in
    let laid = laid_root s t0 c.admit.new.r.tree t2 root found stays c.place.ensures.places true (tight view) t3 before after c.root-2.ensures.tree served in
    let cleared : OnlyValues bare t3 t4 = clears_bare t3 t4 c.clear_live.ensures.clears in
    let stored : OnlyValues (both widen hs) t3 t5 = values_then (ranged widen hs) bare t3 t4 t5 cleared c.in_ok-store_ranges.ensures.only in
    let bare_done = laid_then s t0 root found true (tight view) t3 t4 before after laid
    (live_turns bare t3 t4 root (tree root laid.value laid.kids none) laid.turns.stands (λ k o. refl) cleared) c.root-3.ensures.tree in
    let done = laid_then s t0 root found true (tight view) t3 t5 before after laid
    (live_turns (both widen hs) t3 t5 root (tree root laid.value laid.kids none) laid.turns.stands (both_alone widen hs) stored) c.root-4.ensures.tree in
    now_bounds laws s law view t0 t5 root is_root found true before after done

pub returns-clause-undue : goal.returns-clause-undue
returns-clause-undue g c =
    let m = meant_in c.args.table.now (λ v. (g.dyn-1.0.entry v).1) in
    let s = setting_of c.args.r.now.scale m in
    let t0 = c.args.r.now.tree in
    let root = c.in-Some.root in
    let is_root : t0.root ≡ Some root = sym c.in-Some.ensures.value in
    let holds : Holds t0 root = c.in-Some.ensures.holds in
    let laws : SeenLaws = record { renders = c.layouts_see_render_nodes.ensures.renders; stands = c.layouts_see_render_nodes.ensures.stands } in
    let found = found_root laws s t0 root is_root holds (c.requires.good c.in_ok-admit.ensures.ready) in
    let stays = c.in_ok-admit.ensures.stays in
    let scale : c.place.new.r.scale ≡ c.args.r.now.scale = c.place.ensures.scale ∙ c.admit.ensures.scale in
    let law = c.rules_are_lawful.ensures s in
    let view = c.args.view in
    let t2 = c.place.new.r.tree in
    let t3 = c.lay_outer.new.r.tree in
    let t4 = c.clear_live.new.self.tree in
    let t5 = c.store_ranges.new.r.tree in
    let before = c.args.layouts.now in
    let after = c.lay_outer.new.steps in
    let widen = c.clear_live.new.self.scale.widen in
    let hs = lists_in_window (root_tree t4) in
    let served : Serves (parts_of s) true (Lay (AsBox (tight view))) t2 t3 root before after =
    subst (λ (b : Bounds). Serves (parts_of s) true (Lay (AsBox b)) t2 t3 root before after) c.tight.ensures.value
    (subst (λ (x : Scale). Serves (parts_of (setting_of x m)) true (Lay (AsBox c.tight.result)) t2 t3 root before after) scale c.in_ok-lay_outer.ensures.served) in
    let laid = laid_root s t0 c.admit.new.r.tree t2 root found stays c.place.ensures.places true (tight view) t3 before after c.root-2.ensures.tree served in
    let cleared : OnlyValues bare t3 t4 = clears_bare t3 t4 c.clear_live.ensures.clears in
    let stored : OnlyValues (both widen hs) t3 t5 = values_then (ranged widen hs) bare t3 t4 t5 cleared c.in_ok-store_ranges.ensures.only in
    let bare_done = laid_then s t0 root found true (tight view) t3 t4 before after laid
    (live_turns bare t3 t4 root (tree root laid.value laid.kids none) laid.turns.stands (λ k o. refl) cleared) c.root-3.ensures.tree in
    let done = laid_then s t0 root found true (tight view) t3 t5 before after laid
    (live_turns (both widen hs) t3 t5 root (tree root laid.value laid.kids none) laid.turns.stands (both_alone widen hs) stored) c.root-4.ensures.tree in
    let flags : FlagsRun (parts_of s) true (Lay (AsBox (tight view))) t2 t3 root =
    subst (λ (b : Bounds). FlagsRun (parts_of s) true (Lay (AsBox b)) t2 t3 root) c.tight.ensures.value
    (subst (λ (x : Scale). FlagsRun (parts_of (setting_of x m)) true (Lay (AsBox c.tight.result)) t2 t3 root) scale c.in_ok-lay_outer.ensures.flags) in
    now_undue s law view t0 t2 t3 t5 root found before after laid (placed_seen s t0 c.admit.new.r.tree t2 root found stays c.place.ensures.places) flags
    (old_is laws s law view t0 t5 root is_root found true before after done) (new_is laws s law view t0 t5 root is_root found true before after done)

pub returns-clause-root_asked : goal.returns-clause-root_asked
returns-clause-root_asked g c =
    let m = meant_in c.args.table.now (λ v. (g.dyn-1.0.entry v).1) in
    let s = setting_of c.args.r.now.scale m in
    let t0 = c.args.r.now.tree in
    let root = c.in-Some.root in
    let is_root : t0.root ≡ Some root = sym c.in-Some.ensures.value in
    let holds : Holds t0 root = c.in-Some.ensures.holds in
    let laws : SeenLaws = record { renders = c.layouts_see_render_nodes.ensures.renders; stands = c.layouts_see_render_nodes.ensures.stands } in
    let found = found_root laws s t0 root is_root holds (c.requires.good c.in_ok-admit.ensures.ready) in
    let stays = c.in_ok-admit.ensures.stays in
    let scale : c.place.new.r.scale ≡ c.args.r.now.scale = c.place.ensures.scale ∙ c.admit.ensures.scale in
    let law = c.rules_are_lawful.ensures s in
    let view = c.args.view in
    let t2 = c.place.new.r.tree in
    let t3 = c.lay_outer.new.r.tree in
    let t4 = c.clear_live.new.self.tree in
    let t5 = c.store_ranges.new.r.tree in
    let before = c.args.layouts.now in
    let after = c.lay_outer.new.steps in
    let widen = c.clear_live.new.self.scale.widen in
    let hs = lists_in_window (root_tree t4) in
    let served : Serves (parts_of s) true (Lay (AsBox (tight view))) t2 t3 root before after =
    subst (λ (b : Bounds). Serves (parts_of s) true (Lay (AsBox b)) t2 t3 root before after) c.tight.ensures.value
    (subst (λ (x : Scale). Serves (parts_of (setting_of x m)) true (Lay (AsBox c.tight.result)) t2 t3 root before after) scale c.in_ok-lay_outer.ensures.served) in
    let laid = laid_root s t0 c.admit.new.r.tree t2 root found stays c.place.ensures.places true (tight view) t3 before after c.root-2.ensures.tree served in
    let cleared : OnlyValues bare t3 t4 = clears_bare t3 t4 c.clear_live.ensures.clears in
    let stored : OnlyValues (both widen hs) t3 t5 = values_then (ranged widen hs) bare t3 t4 t5 cleared c.in_ok-store_ranges.ensures.only in
    let bare_done = laid_then s t0 root found true (tight view) t3 t4 before after laid
    (live_turns bare t3 t4 root (tree root laid.value laid.kids none) laid.turns.stands (λ k o. refl) cleared) c.root-3.ensures.tree in
    let done = laid_then s t0 root found true (tight view) t3 t5 before after laid
    (live_turns (both widen hs) t3 t5 root (tree root laid.value laid.kids none) laid.turns.stands (both_alone widen hs) stored) c.root-4.ensures.tree in
    now_root_asked view t5 root laid.value laid.kids laid.lays.asked (new_is laws s law view t0 t5 root is_root found true before after done)

pub returns-clause-plugs : goal.returns-clause-plugs
returns-clause-plugs g c =
    let m = meant_in c.args.table.now (λ v. (g.dyn-1.0.entry v).1) in
    let s = setting_of c.args.r.now.scale m in
    let t0 = c.args.r.now.tree in
    let root = c.in-Some.root in
    let is_root : t0.root ≡ Some root = sym c.in-Some.ensures.value in
    let holds : Holds t0 root = c.in-Some.ensures.holds in
    let laws : SeenLaws = record { renders = c.layouts_see_render_nodes.ensures.renders; stands = c.layouts_see_render_nodes.ensures.stands } in
    let found = found_root laws s t0 root is_root holds (c.requires.good c.in_ok-admit.ensures.ready) in
    let stays = c.in_ok-admit.ensures.stays in
    let scale : c.place.new.r.scale ≡ c.args.r.now.scale = c.place.ensures.scale ∙ c.admit.ensures.scale in
    let view = c.args.view in
    let t2 = c.place.new.r.tree in
    let t3 = c.lay_outer.new.r.tree in
    let t4 = c.clear_live.new.self.tree in
    let t5 = c.store_ranges.new.r.tree in
    let before = c.args.layouts.now in
    let after = c.lay_outer.new.steps in
    let widen = c.clear_live.new.self.scale.widen in
    let hs = lists_in_window (root_tree t4) in
    let served : Serves (parts_of s) true (Lay (AsBox (tight view))) t2 t3 root before after =
    subst (λ (b : Bounds). Serves (parts_of s) true (Lay (AsBox b)) t2 t3 root before after) c.tight.ensures.value
    (subst (λ (x : Scale). Serves (parts_of (setting_of x m)) true (Lay (AsBox c.tight.result)) t2 t3 root before after) scale c.in_ok-lay_outer.ensures.served) in
    let laid = laid_root s t0 c.admit.new.r.tree t2 root found stays c.place.ensures.places true (tight view) t3 before after c.root-2.ensures.tree served in
    let cleared : OnlyValues bare t3 t4 = clears_bare t3 t4 c.clear_live.ensures.clears in
    let stored : OnlyValues (both widen hs) t3 t5 = values_then (ranged widen hs) bare t3 t4 t5 cleared c.in_ok-store_ranges.ensures.only in
    let last : ArePlugged m t3 t5 =
    turned_plugs m t3 t5 root laid.value laid.value laid.kids laid.kids laid.turns.stands
    (live_turns (both widen hs) t3 t5 root (tree root laid.value laid.kids none) laid.turns.stands (both_alone widen hs) stored) (refl, inl refl) (parts_self kind_plug stood_plug laid.kids) in
    keeps_plugs m t0 t5 (plugs_again m t0 t2 t5 (placed_plugs s t0 c.admit.new.r.tree t2 root found stays c.place.ensures.places m)
    (plugs_again m t2 t3 t5 c.in_ok-lay_outer.ensures.plugs last))
