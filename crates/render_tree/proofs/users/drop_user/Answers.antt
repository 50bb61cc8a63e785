use Rattle.render_tree.proofs.Used.{room_kept}
use Rattle.render_tree.proofs.users.drop_user.Goals as goal

pub returns-in-Some-clause-room : goal.returns-in-Some-clause-room
returns-in-Some-clause-room c = λ d. room_kept c.args.users.now c.remove.new.self d c.remove.ensures.room
