use Rattle.template_build.specs.Program.{declarations_of}
use Rattle.frame_owner.proofs.Drawn.{drawn_is, root_is}
use Rattle.frame_owner.proofs.Windows.{stands_alone}
use Rattle.frame_owner.proofs.laws.what_stands_is_drawn.Goals as goal

pub returns-clause-alone : goal.returns-clause-alone
returns-clause-alone c = λ p ds marks tree x st. stands_alone c.projection_keeps_numbers_apart.ensures p marks tree st.scrolled x.elements x.screen.nodes x.keys st.trees

pub returns-clause-drawn : goal.returns-clause-drawn
returns-clause-drawn c = λ p ds marks tree x st. drawn_is p marks st.scrolled x.elements x.screen.nodes x.keys tree st.trees

pub returns-clause-root : goal.returns-clause-root
returns-clause-root c = λ p ds marks tree x st.
    root_is p marks st.scrolled x.elements x.screen.nodes x.keys (λ n well. c.one_root_is_laid_out.ensures n (c.built_trees_vanish_alone.ensures (declarations_of p) n well)) tree st.trees
