use Rattle.std.proofs.Common.{None, ◌⊎◌, inl, inr}
use Rattle.build_walk.proofs.Reporting.{others_stay, others_look, reported_changes, reported_looks}
use Rattle.build_walk.proofs.laws.plans_report_all_changes.Goals as goal

first : {A B C : Type 0} → A ⊎ B → (A → C) → C ⊎ B
first (inl a) f = inl (f a)
first (inr b) f = inr b

pub returns-clause-layout : goal.returns-clause-layout
returns-clause-layout c = λ t root hs d g u anew. others_stay t hs None d g u anew.own anew.told

pub returns-clause-layout_causes : goal.returns-clause-layout_causes
returns-clause-layout_causes c = λ t root hs d g h u anew is. first (anew.caused h is) (λ s. reported_changes t h d g u s)

pub returns-clause-paint : goal.returns-clause-paint
returns-clause-paint c = λ t root hs d g u anew. others_look t hs None d g u anew.own

pub returns-clause-paint_causes : goal.returns-clause-paint_causes
returns-clause-paint_causes c = λ t root hs d g h u anew is. first (anew.caused h is) (λ s. reported_looks t h None d g u s)
