use Rattle.crn_siphon_text.proofs.Prelude.{◌+◌, ◌-◌, ◌*◌, length}
use Rattle.crn_siphon_text.proofs.tree.+tree.Given as goal

abbrev pub decreases-next_child : goal.decreases-next_child
decreases-next_child g l = 3 * (length l.net.now.names - length l.prefix.now.items)

abbrev pub decreases-next_children : goal.decreases-next_children
decreases-next_children g l = 3 * (length l.net.now.names - length l.prefix.now.items) + 1

abbrev pub decreases-next_tree : goal.decreases-next_tree
decreases-next_tree g l = 3 * (length l.net.now.names - length l.prefix.now.items) + 2
