-- What other crates may cite of this crate's proofs.

-- No statements make the network of nothing; one more statement makes the network grow; what has grown is a network
-- but for having a reaction.
pub use Rattle.crn_net.proofs.Grown.{Grown-none, Grown-more, Grown-network}
-- The names and reactions of a network that statements make are those of the statements; so are those with one more.
pub use Rattle.crn_net.proofs.Grown.{Grown-names, Grown-reactions, Grown-names_with, Grown-reactions_with}
-- Zeros for later names: they are the amounts of these names on the sides, and keep different reactions different.
pub use Rattle.crn_net.proofs.Grown.{said_with_zeros, with_zeros_test}
-- Both sides are the same complex if and only if each name has the same amount on both.
pub use Rattle.crn_net.proofs.Adding.{self_says, says_self}
-- A statement of names and amounts that is not a self reaction and stays within the limits makes a network grow.
pub use Rattle.crn_net.proofs.Species.{IsSaid}
pub use Rattle.crn_net.proofs.Growing.{may_grow}
