-- What `back` gives: all reverses, or a reaction without one.
-- Source: Feinberg, Foundations of Chemical Reaction Network Theory (2019), for reversibility.
-- Shapes: reactions are counted from 1.
use Rattle.std.specs.Prelude.{length}
use Rattle.crn_vec.specs.Network.{Net}
use Rattle.crn_vec.specs.Strong.{IsReversible}
use Rattle.crn_cert.specs.Ranges.{IsFrom, AreFrom}
use Rattle.crn_cert.specs.Says.{HasNoReverse}
use Rattle.crn_cert.specs.ClassTests.{AreReverses}
use Rattle.crn_graph.specs.declared.reverses.Reverses.{Reverses}
use Rattle.crn_graph.specs.declared.reverses.Reverses.TheVariants.{All, Missing}

-- the network is reversible, and these are the reverses of its reactions; or it is not, and this reaction has none
abbrev pub GivesReverses : Net → Reverses → Type 0
GivesReverses net (All back) = IsReversible net.reactions × AreFrom (length net.reactions) 1 (length net.reactions) back.list × AreReverses net back.list
GivesReverses net (Missing r) = (IsReversible net.reactions → ⊥) × IsFrom 1 (length net.reactions) r × HasNoReverse net r
