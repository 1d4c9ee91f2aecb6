-- For the contracts of private functions alone.
-- Arrows that are remembered because their statements were added before.
use Rattle.std.specs.Prelude.{ℕ, Option, Some, None, List}
use Rattle.std.specs.List.{AllByRecursion}
use Rattle.crn_vec.specs.Lists.{IsIn}
use Rattle.crn_vec.specs.Network.{Net, Statement}
use Rattle.crn_net.specs.Grows.{Grown}
use Rattle.crn_text.specs.Tokens.{tokens}
use Rattle.crn_text.specs.Sides.{terms_of, by_arrow}
use Rattle.crn_text.specs.declared.token.TokenKind.{TokenKind}
use Rattle.crn_text.specs.declared.said.Step.{Step}

-- the statements of an arrow between two sides
abbrev pub says : List ℕ → TokenKind → List ℕ → List Statement
says left kind right = by_arrow kind (terms_of (tokens left)) (terms_of (tokens right))

-- the first statements are among the second ones
abbrev pub AreIn : List Statement → List Statement → Type 0
AreIn ts ss = (s : Statement) → IsIn s ts → IsIn s ss

-- no arrow, or one whose statements are among these
abbrev pub IsSaid : List Statement → Option Step → Type 0
IsSaid ss None = Unit {0}
IsSaid ss (Some step) = AreIn (says step.left.now step.kind step.right.now) ss

-- the statements of these arrows are among those
abbrev pub AreSaid : List Statement → List (Option Step) → Type 0
AreSaid ss steps = AllByRecursion (IsSaid ss) steps

-- the network is made by some statements that have those of the arrows among them
pub record HasSaid (net : Net) (steps : List (Option Step)) : Type 0 where
  pub ss : List Statement
  pub grown : Grown ss net
  pub said : AreSaid ss steps
