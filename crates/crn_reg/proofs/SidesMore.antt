-- One side more.
use Rattle.crn_reg.proofs.Prelude.{ℕ, List, [], ◌∷◌, ◌++◌, ℤ, AllZip, Net, HasSide}

pub sides_push : (net : Net) (rs : List ℕ) (sides : List (List ℤ)) (r : ℕ) (marks : List ℤ) → AllZip (HasSide net) rs sides → HasSide net r marks → AllZip (HasSide net) (rs ++ r ∷ []) (sides ++ marks ∷ [])
sides_push net [] [] r marks h s = (s, tt)
sides_push net [] (m ∷ sides) r marks h s = absurd h
sides_push net (q ∷ rs) [] r marks h s = absurd h
sides_push net (q ∷ rs) (m ∷ sides) r marks h s = (h.0, sides_push net rs sides r marks h.1 s)
