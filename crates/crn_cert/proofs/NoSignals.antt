-- A regular network whose confluence vectors are multiples of one has no signal if that one has none, nor its negative in a weakly reversible network.
use Rattle.crn_cert.proofs.Prelude.{◌∙◌, List, sym, inl, inr, ℤ, negsuc, Net, IsNetwork, IsWeaklyReversible, IsRegular, HasConfluenceLine, IsConfluenceVector, negative, HasNoSignal, confluence_vectors_are_one, length-scale, multiples_share_signals, HasNoSignals}

pub none_at_all : (net : Net) (g : List ℤ) → IsNetwork net → IsRegular net → HasConfluenceLine net → IsConfluenceVector net g → HasNoSignal net g → (IsWeaklyReversible net.reactions → HasNoSignal net (negative g)) → HasNoSignals net
none_at_all net g n regular line c none second h d shelves mu level weights sg =
    elim ((confluence_vectors_are_one net n regular line).one h g d c) [
      | inl m ↦ none shelves mu level weights (multiples_share_signals net h g (d.space.long ∙ sym c.space.long) m shelves mu level weights sg)
      | inr m ↦ second m.1 shelves mu level weights (multiples_share_signals net h (negative g) (d.space.long ∙ sym (length-scale (negsuc 0) g ∙ c.space.long)) m.0 shelves mu level weights sg)
    ]
