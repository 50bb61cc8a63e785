use Rattle.fx_expr.specs.View.{exp_of}
use Rattle.fx_expr.proofs.NamingLemmas.{one_done}
use Rattle.fx_expr.proofs.naming.+naming.Goals as goal

pub add_names-returns-in-One-clause-added : goal.add_names-returns-in-One-clause-added
add_names-returns-in-One-clause-added t c =
    one_done c.add_names.result (exp_of c.args.e.now) c.in-One.field-0 (exp_of c.in-One.a.now) c.args.places.now.items
    c.add_names.new.places.items c.in-One.ensures.form c.add_names.ensures.added
